-- A district file by its lines (docs/RULES.md, "Input order"): its bytes are parted at the line feeds, each whole line is
-- judged in turn by its number and by what the lines before it told, and then the end of input. This is the short reading of a
-- file; File reads the same file byte by byte, as the code does, and LinesLaws proves that the two print the same for all bytes.
-- Definitions only. Assumes nothing.
use Rattle.std.specs.Prelude.{Bool, true, false, cond, not, ◌&&◌, ◌||◌, List, [], ◌∷◌, ◌++◌, ℕ, ◌+◌, ◌-◌, eqb, ltb, leb, length, Ok, Err, Option, None, Some}
use Rattle.network.specs.declared.Cause.TheVariants.{NodeCount, ArcLists, MisplacedLine}
use Rattle.network.specs.Verdict.{Verdict}
use Rattle.network.specs.declared.Answer.TheVariants.{Refused as Refusal}
use Rattle.network.specs.Network.{most_nodes, most_arcs}
use Rattle.network.specs.Refusal.{given, first_refusal}
use Rattle.frames.specs.declared.Frame.{Frame}
use Rattle.frames.specs.declared.Frame.TheVariants.{Size, Arc, TwoWay, Potentials, Query as QueryFrame}
use Rattle.frames.specs.Frame.{frame_of, pattern_of}
use Rattle.frames.specs.AnswerLines.{line_feed, answer_lines}
use Rattle.district.specs.File.{Told, nothing_told, last_line, wrong_cause, with_size, added_arcs, with_arcs, with_potentials, query_lines, query_on, with_query, size_owed, arcs_owed, potentials_owed, owing}

-- ---- the lines of a file
pub record Lines : Type 0 where
  -- the lines that end in a line feed, each without it
  pub whole : List (List ℕ)
  -- what stands after the last line feed
  pub rest : List ℕ

-- the first of some lines begins with these bytes too
abbrev pub began_with : List ℕ → List (List ℕ) → List ℕ → Lines
began_with begun [] rest = record { whole = []; rest = begun ++ rest }
began_with begun (line ∷ more) rest = record { whole = (begun ++ line) ∷ more; rest = rest }

-- the bytes of a file parted at its line feeds
unfoldable pub lines_of : List ℕ → Lines
lines_of [] = record { whole = []; rest = [] }
lines_of (b ∷ bytes) =
    let after = lines_of bytes in
    cond (eqb b line_feed) (record { whole = [] ∷ after.whole; rest = after.rest }) (began_with (b ∷ []) after.whole after.rest)

-- lines put together again, each whole one with its line feed
unfoldable pub joined : List (List ℕ) → List ℕ → List ℕ
joined [] rest = rest
joined (line ∷ more) rest = line ++ (line_feed ∷ joined more rest)

-- whether there is no line feed among some bytes
unfoldable pub without_feed : List ℕ → Bool
without_feed [] = true
without_feed (b ∷ bytes) = not (eqb b line_feed) && without_feed bytes

-- ---- which frame may stand where
-- the arcs that are still owed
abbrev pub owed_arcs : Told → ℕ
owed_arcs t = t.arcs - length t.tails

-- the 01 is read; then all arcs are; then all potentials are
abbrev pub size_read : Told → Bool
size_read t = not (size_owed t)

abbrev pub arcs_read_by : Told → Bool
arcs_read_by t = size_read t && not (arcs_owed t)

abbrev pub potentials_read : Told → Bool
potentials_read t = arcs_read_by t && not (potentials_owed t)

-- whether a frame may stand where this is told: a 01 where it is owed; a 02 where an arc is owed, and a 05 where two are; a 03
-- after the arcs, for the next node; a 04 or a 07 after the potentials, in the display's file the first one only
unfoldable pub may_stand : Bool → Told → Option Frame → Bool
may_stand single t (Some (Size n m)) = size_owed t
may_stand single t (Some (Arc a b w)) = size_read t && leb 1 (owed_arcs t)
may_stand single t (Some (TwoWay a b w)) = size_read t && leb 2 (owed_arcs t)
may_stand single t (Some (Potentials v h k)) = arcs_read_by t && (potentials_owed t && eqb v (length t.forward))
may_stand single t (Some (QueryFrame s e c n)) = potentials_read t && not (single && t.asked)
may_stand single t None = false

-- ---- what each line is refused for
-- the counts that a 01 may not state
abbrev pub bad_nodes : ℕ → Bool
bad_nodes n = eqb n 0 || ltb most_nodes n

abbrev pub bad_arcs : ℕ → Bool
bad_arcs m = ltb most_arcs m

-- a 01 with a bad node count is 1, and with a bad arc count 2
abbrev pub size_verdict : Option Frame → Verdict
size_verdict (Some (Size n m)) = first_refusal (given (bad_nodes n) NodeCount ∷ given (bad_arcs m) ArcLists ∷ [])
size_verdict (Some (Arc a b w)) = Ok tt
size_verdict (Some (TwoWay a b w)) = Ok tt
size_verdict (Some (Potentials v h k)) = Ok tt
size_verdict (Some (QueryFrame s e c n)) = Ok tt
size_verdict None = Ok tt

-- the frame of line n, where this is told: line 4,294,967,295 is 11, sound or not; then no sound frame is 10, and one that may
-- not stand there is 11; then come the counts of a 01. Any other line is taken
unfoldable pub frame_verdict : Bool → ℕ → Told → Option Frame → Verdict
frame_verdict single n t g =
    first_refusal (given (eqb n last_line) (MisplacedLine n) ∷ given (not (may_stand single t g)) (wrong_cause g n) ∷ size_verdict g ∷ [])

-- the end of input, line n being next: a last line without its line feed is no sound frame; else a frame that is still owed
-- is missing there
unfoldable pub end_verdict : Bool → ℕ → Told → List ℕ → Verdict
end_verdict single n t [] = given (owing t) (MisplacedLine n)
end_verdict single n t (b ∷ rest) = frame_verdict single n t None

-- ---- what each line adds and prints
-- what is told after a frame that is taken
unfoldable pub told_with : Told → Option Frame → Told
told_with t (Some (Size n m)) = with_size t n m
told_with t (Some (Arc a b w)) = with_arcs t (added_arcs (Some (Arc a b w)))
told_with t (Some (TwoWay a b w)) = with_arcs t (added_arcs (Some (TwoWay a b w)))
told_with t (Some (Potentials v h k)) = with_potentials t h k
told_with t (Some (QueryFrame s e c n)) = with_query t
told_with t None = t

-- what is printed for a frame that is taken: the answer of a query, whose pattern the line spells, and nothing for any other
unfoldable pub printed_for : Told → List ℕ → Option Frame → List ℕ
printed_for t line (Some (QueryFrame s e c n)) = query_lines c (query_on t s e (pattern_of line))
printed_for t line (Some (Size n m)) = []
printed_for t line (Some (Arc a b w)) = []
printed_for t line (Some (TwoWay a b w)) = []
printed_for t line (Some (Potentials v h k)) = []
printed_for t line None = []

-- ---- the whole file
-- what a file comes to: the lines printed for its queries, and the refusal that ended it, if one did
pub record Outcome : Type 0 where
  pub answers : List ℕ
  pub verdict : Verdict

-- a line that is refused ends the file; after one that is taken the next is read
abbrev pub then_on : Verdict → List ℕ → Outcome → Outcome
then_on (Err c) printed later = record { answers = []; verdict = Err c }
then_on (Ok _) printed later = record { answers = printed ++ later.answers; verdict = later.verdict }

-- the lines from line n on, where this is told before them, and the end of input
unfoldable pub read_lines : Bool → ℕ → Told → List (List ℕ) → List ℕ → Outcome
read_lines single n t [] rest = record { answers = []; verdict = end_verdict single n t rest }
read_lines single n t (line ∷ more) rest =
    let later = read_lines single (n + 1) (told_with t (frame_of line)) more rest in
    then_on (frame_verdict single n t (frame_of line)) (printed_for t line (frame_of line)) later

-- a file whose first line has this number
unfoldable pub outcome_of : Bool → ℕ → List ℕ → Outcome
outcome_of single first bytes = read_lines single first nothing_told (lines_of bytes).whole (lines_of bytes).rest

-- the FF line of a refusal, and nothing where there is none
abbrev pub refusal_line : Verdict → List ℕ
refusal_line (Ok _) = []
refusal_line (Err c) = answer_lines (Refusal c) []

-- what a file prints: the answers of its queries, and then the FF line of the refusal that ended it, if one did
abbrev pub printed_of : Outcome → List ℕ
printed_of o = o.answers ++ refusal_line o.verdict
