-- The lines of an answer (docs/RULES.md, "District frames"), each with its line feed. Kinds and values are those that the
-- crate `network` gives to each case of an answer. Definitions only; their laws are in AnswerLaws. Assumes nothing.
use Rattle.std.specs.Prelude.{List, [], ◌∷◌, ◌++◌, ℕ, length, take, replicate}
use Rattle.network.specs.Answer.{kind_of, values_of}
use Rattle.network.specs.declared.Answer.{Answer}
use Rattle.network.specs.declared.Answer.TheVariants.{Route, NoRoute, Refused, Provisional, Undecided}
use Rattle.frames.specs.Digits.{digits_of, spelled}

-- the byte that ends a line
abbrev pub line_feed : ℕ
line_feed = 10

-- a line: its fields, and a line feed
unfoldable pub line_of : List ℕ → List ℕ → List ℕ
line_of widths values = spelled widths values ++ (line_feed ∷ [])

-- 81 route: its kind, then length 8, path nodes 4, turns 4, opened by start side 4, by end side 4, rejected 4
abbrev pub route_widths : List ℕ
route_widths = 2 ∷ 8 ∷ 4 ∷ 4 ∷ 4 ∷ 4 ∷ 4 ∷ []

-- the widths of an answer's fields, its kind's first.
-- 80 no route: turns, opened by start side, by end side, rejected, 4 each. FF refusal: number 2, place 8.
-- 84 provisional: length 8, excess 8. 85 undecided: turns 4
abbrev pub widths_of : Answer → List ℕ
widths_of (Route l n f) = route_widths
widths_of (NoRoute f) = 2 ∷ 4 ∷ 4 ∷ 4 ∷ 4 ∷ []
widths_of (Refused c) = 2 ∷ 2 ∷ 8 ∷ []
widths_of (Provisional l x n f) = 2 ∷ 8 ∷ 8 ∷ []
widths_of (Undecided f) = 2 ∷ 4 ∷ []

-- the line of an answer: its kind and its values
abbrev pub answer_line : Answer → List ℕ
answer_line a = line_of (widths_of a) (kind_of a ∷ values_of a)

-- the nodes of a path, 4 a node, and a line feed
abbrev pub nodes_line : List ℕ → List ℕ
nodes_line nodes = line_of (replicate (length nodes) 4) nodes

-- 82 path: its kind, then 4 a node. (130 is 82 in hexadecimal.)
abbrev pub path_line : List ℕ → List ℕ
path_line nodes = digits_of 2 130 ++ nodes_line nodes

-- the lines of an answer: a route's line and then its path's, which holds the first entries of the path list, as many as
-- the route has nodes, or all where the list has fewer; a provisional's in the same way; the one line of any other answer
abbrev pub answer_lines : Answer → List ℕ → List ℕ
answer_lines (Route l n f) path = answer_line (Route l n f) ++ path_line (take n path)
answer_lines (NoRoute f) path = answer_line (NoRoute f)
answer_lines (Refused c) path = answer_line (Refused c)
answer_lines (Provisional l x n f) path = answer_line (Provisional l x n f) ++ path_line (take n path)
answer_lines (Undecided f) path = answer_line (Undecided f)
