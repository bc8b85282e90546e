-- "Given exactly when" for the refusals of a file, 1, 2, 10 and 11 (docs/RULES.md, "Input order"),
-- each with its line. Lines are counted by what stands before them: after i line feeds stands the line with number first + i.
-- Definitions only; FileGivenLaws proves them of a file's outcome, both ways, and of what it prints; QueryRefusals tells the
-- refusals of queries from them; and LastPrinted proves them of the last line that a file prints. Assumes nothing.
use Rattle.std.specs.Prelude.{◌≡◌, ◌≢◌, Bool, true, false, List, [], ◌∷◌, ◌++◌, ℕ, ◌+◌, ◌-◌, ◌≤◌, ◌<◌, length, take, get_or, Ok, Option, None, Some}
use Rattle.frames.specs.declared.Frame.{Frame}
use Rattle.frames.specs.declared.Frame.TheVariants.{Size}
use Rattle.frames.specs.Digits.{number_at}
use Rattle.frames.specs.Frame.{frame_of}
use Rattle.district.specs.File.{Told, nothing_told, last_line, owing}
use Rattle.district.specs.Lines.{lines_of, may_stand, bad_nodes, bad_arcs, size_verdict, told_with, printed_for}

-- ---- the lines of a file
-- how many lines end in a line feed
abbrev pub line_count : List ℕ → ℕ
line_count bytes = length (lines_of bytes).whole

-- the frame that the line after i line feeds spells
abbrev pub frame_after : List ℕ → ℕ → Option Frame
frame_after bytes i = frame_of (get_or (lines_of bytes).whole i [])

-- what lines tell, one after the other
unfoldable pub told_by_lines : Told → List (List ℕ) → Told
told_by_lines t [] = t
told_by_lines t (line ∷ more) = told_by_lines (told_with t (frame_of line)) more

-- what the first i lines tell
abbrev pub told_after : List ℕ → ℕ → Told
told_after bytes i = told_by_lines nothing_told (take i (lines_of bytes).whole)

-- what is printed for the queries among lines that are taken, one after the other
unfoldable pub printed_by_lines : Told → List (List ℕ) → List ℕ
printed_by_lines t [] = []
printed_by_lines t (line ∷ more) = printed_for t line (frame_of line) ++ printed_by_lines (told_with t (frame_of line)) more

-- what is printed for the queries among the first i lines
abbrev pub printed_after : List ℕ → ℕ → List ℕ
printed_after bytes i = printed_by_lines nothing_told (take i (lines_of bytes).whole)

-- the last line that is printed, without its line feed
unfoldable pub last_printed : List ℕ → List ℕ
last_printed printed = get_or (lines_of printed).whole (line_count printed - 1) []

-- ---- lines that are taken
-- the line after i line feeds is taken: it is not line 4,294,967,295, its frame may stand there, and if it is the 01 its counts
-- are good
pub record TakenAfter (single : Bool) (first : ℕ) (bytes : List ℕ) (i : ℕ) : Type 0 where
  pub numbered : first + i ≢ last_line
  pub may_stand_lem : may_stand single (told_after bytes i) (frame_after bytes i) ≡ true
  pub good_counts : size_verdict (frame_after bytes i) ≡ Ok tt

-- line n is come to: so many lines stand before it, and each of them is taken
pub record ComesTo (single : Bool) (first : ℕ) (bytes : List ℕ) (n : ℕ) : Type 0 where
  pub before : ℕ
  pub its_number : n ≡ first + before
  pub within : before ≤ line_count bytes
  pub taken : (j : ℕ) → j < before → TakenAfter single first bytes j

-- ---- 1 and 2
-- the first line is a 01, and it is not line 4,294,967,295
pub record FirstSize (first : ℕ) (bytes : List ℕ) : Type 0 where
  pub there : 0 < line_count bytes
  pub numbered : first ≢ last_line
  pub nodes : ℕ
  pub arcs : ℕ
  pub frame : frame_after bytes 0 ≡ Some (Size nodes arcs)

-- 1: the node count of the 01 is 0 or above 2,048
pub record NodesRefused (first : ℕ) (bytes : List ℕ) : Type 0 where
  pub size : FirstSize first bytes
  pub bad : bad_nodes size.nodes ≡ true

-- 2: it is not, and the arc count is above 8,192
pub record ArcsRefused (first : ℕ) (bytes : List ℕ) : Type 0 where
  pub size : FirstSize first bytes
  pub good : bad_nodes size.nodes ≡ false
  pub bad : bad_arcs size.arcs ≡ true

-- ---- 10
-- after i line feeds stands no sound frame: a whole line that spells none, as one with more digits than any input frame can have
-- (`too_long` in frames), or a last line without its line feed
pub data NoFrame (bytes : List ℕ) (i : ℕ) : Type 0 where
  unsound : i < line_count bytes → frame_after bytes i ≡ None → NoFrame bytes i
  cut : i ≡ line_count bytes → (lines_of bytes).rest ≢ [] → NoFrame bytes i

-- 10: line n is come to, it is not line 4,294,967,295, and it is no sound frame
pub record UnsoundAt (single : Bool) (first : ℕ) (bytes : List ℕ) (n : ℕ) : Type 0 where
  pub comes : ComesTo single first bytes n
  pub numbered : n ≢ last_line
  pub no_frame : NoFrame bytes comes.before

-- ---- 11
-- a line stands after i line feeds, whole or in part
pub data Stands (bytes : List ℕ) (i : ℕ) : Type 0 where
  whole : i < line_count bytes → Stands bytes i
  part : i ≡ line_count bytes → (lines_of bytes).rest ≢ [] → Stands bytes i

-- line n, after i line feeds: it is line 4,294,967,295, sound or not; or its sound frame may not stand there; or the file ends
-- before it and a frame is still owed
pub data Misplaced (single : Bool) (bytes : List ℕ) (n i : ℕ) : Type 0 where
  last : n ≡ last_line → Stands bytes i → Misplaced single bytes n i
  not_there : i < line_count bytes → frame_after bytes i ≢ None → may_stand single (told_after bytes i) (frame_after bytes i) ≡ false → Misplaced single bytes n i
  owed_there : i ≡ line_count bytes → (lines_of bytes).rest ≡ [] → owing (told_after bytes i) ≡ true → Misplaced single bytes n i

-- 11: line n is come to, and stands where it may not or is missing
pub record MisplacedAt (single : Bool) (first : ℕ) (bytes : List ℕ) (n : ℕ) : Type 0 where
  pub comes : ComesTo single first bytes n
  pub misplaced : Misplaced single bytes n comes.before

-- ---- no refusal
-- each line is taken, the last one has its line feed, and no frame is owed
pub record TakenWhole (single : Bool) (first : ℕ) (bytes : List ℕ) : Type 0 where
  pub taken : (i : ℕ) → i < line_count bytes → TakenAfter single first bytes i
  pub ended : (lines_of bytes).rest ≡ []
  pub none_owed : owing (told_after bytes (line_count bytes)) ≡ false

-- ---- the table
-- the refusals of a file whose first line has this number, row by row: the condition of this number holds at this place. 3 to 9
-- are refusals of queries and end no file
pub data FileCondition (single : Bool) (first : ℕ) (bytes : List ℕ) : ℕ → ℕ → Type 0 where
  of_bad_nodes : NodesRefused first bytes → FileCondition single first bytes 1 0
  of_bad_arcs : ArcsRefused first bytes → FileCondition single first bytes 2 0
  of_unsound_line : {n : ℕ} → UnsoundAt single first bytes n → FileCondition single first bytes 10 n
  of_misplaced_line : {n : ℕ} → MisplacedAt single first bytes n → FileCondition single first bytes 11 n

-- the numbers of a query's own refusals in a file: 4, 5, 7, 8 or 9
pub record QueryNumber (n : ℕ) : Type 0 where
  pub least : 4 ≤ n
  pub most : n ≤ 9
  pub not_room : n ≢ 6

-- ---- what an answer shows
-- line i of what is printed, counted from 0, without its line feed
abbrev pub printed_line : List ℕ → ℕ → List ℕ
printed_line printed i = get_or (lines_of printed).whole i []

-- the kind of a line, its first field, which is FF, 255, for a refusal; and the number of a refusal, its second
abbrev pub kind_in : List ℕ → ℕ
kind_in line = number_at line 0 2

abbrev pub number_in : List ℕ → ℕ
number_in line = number_at line 2 2

-- the numbers of a file's own refusals
pub data FileNumber : ℕ → Type 0 where
  by_bad_nodes : FileNumber 1
  by_bad_arcs : FileNumber 2
  unsound_line : FileNumber 10
  misplaced_line : FileNumber 11

-- the numbers that a file's answer can show: those, and the numbers of a query's refusals in a file, 4, 5, 7, 8 or 9
pub data PrintedNumber (n : ℕ) : Type 0 where
  of_file : FileNumber n → PrintedNumber n
  of_query : QueryNumber n → PrintedNumber n
