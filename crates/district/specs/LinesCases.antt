-- Files read by lines, each with the refusal that ends it, or with none. One list, and one proof over it by computation. Above
-- each file stand the wrong readings that end it otherwise. Assumes nothing.
use Rattle.std.specs.Prelude.{◌≡◌, refl, Bool, true, false, List, [], ◌∷◌, ◌++◌, map, ℕ, replicate, Ok, Err}
use Prim.Native.Char.{code}
use Prim.Native.String.{String, [] as none, ◌∷◌ as ◌then◌}
use Rattle.network.specs.declared.Cause.TheVariants.{NodeCount, ArcLists, UnsoundLine, MisplacedLine}
use Rattle.network.specs.Verdict.{Verdict}
use Rattle.network.specs.Refusal.{first_refusal}
use Rattle.frames.specs.Digits.{value_of, are_digits, number_from, number_at}
use Rattle.frames.specs.Signed.{signed_of}
use Rattle.frames.specs.Frame.{size_of, arc_of, potentials_of, query_of, capped_of, of_kind, frame_of}
use Rattle.frames.specs.AnswerLines.{line_feed}
use Rattle.district.specs.Lines.{lines_of, may_stand, frame_verdict, end_verdict, told_with, read_lines, outcome_of}

-- a file that may have one query only or not, the number of its first line, its bytes, and what it is refused for
pub record LinesCase : Type 0 where
  pub single : Bool
  pub first : ℕ
  pub given : List ℕ
  pub verdict : Verdict

abbrev bytes : String → List ℕ
bytes none = []
bytes (c then s) = code c ∷ bytes s

abbrev lines : List String → List ℕ
lines [] = []
lines (t ∷ rest) = bytes t ++ (line_feed ∷ lines rest)

-- a file of `routeline`
abbrev file : List ℕ → Verdict → LinesCase
file given verdict = record { single = false; first = 1; given = given; verdict = verdict }

-- one node, no arcs, one query
abbrev small : List String
small = "0100010000" ∷ "0300000000000000000000" ∷ "0400000000010" ∷ []

abbrev cases : List LinesCase
cases =
    -- no byte: the 01 is missing. Who counts lines from 0 answers line 0
    file [] (Err (MisplacedLine 1))
    -- a whole file, and one with a piece of a line behind it: who forgets the piece answers nothing
    ∷ file (lines small) (Ok tt)
    ∷ file (lines small ++ bytes "04") (Err (UnsoundLine 4))
    -- a line of 272 digits, with and without its line feed: who judges whole lines only answers 11
    ∷ file (replicate 272 48 ++ (line_feed ∷ [])) (Err (UnsoundLine 1))
    ∷ file (replicate 272 48) (Err (UnsoundLine 1))
    -- bad counts: who gives the line answers 11 at line 1
    ∷ file (lines ("0108012001" ∷ [])) (Err NodeCount)
    ∷ file (lines ("0108002001" ∷ [])) (Err ArcLists)
    -- a 05 where two arcs are owed, and where one is
    ∷ file (lines ("0100010002" ∷ "050000000000000001" ∷ [])) (Err (MisplacedLine 3))
    ∷ file (lines ("0100010001" ∷ "050000000000000001" ∷ [])) (Err (MisplacedLine 2))
    -- no sound frame where a sound one may not stand either: who tests the order first answers 11
    ∷ file (lines ("0100010001" ∷ "03" ∷ [])) (Err (UnsoundLine 2))
    -- a second query, 04 or 07, for the display and for `routeline`
    ∷ record { single = true; first = 1; given = lines (small ++ ("0400000000010" ∷ [])); verdict = Err (MisplacedLine 4) }
    ∷ record { single = true; first = 1; given = lines (small ++ ("07000000000000010" ∷ [])); verdict = Err (MisplacedLine 4) }
    ∷ file (lines (small ++ ("0400000000010" ∷ "07000000000000010" ∷ []))) (Ok tt)
    -- a 07 where potentials are owed: who lets it stand anywhere answers no refusal
    ∷ file (lines ("0100010000" ∷ "07000000000000010" ∷ [])) (Err (MisplacedLine 2))
    -- line 4,294,967,295 is 11, sound or not, whole or in part
    ∷ record { single = false; first = 4294967295; given = lines ("0100010000" ∷ []); verdict = Err (MisplacedLine 4294967295) }
    ∷ record { single = false; first = 4294967295; given = bytes "0"; verdict = Err (MisplacedLine 4294967295) }
    ∷ record { single = false; first = 4294967292; given = lines small; verdict = (Ok tt) }
    -- district D5 with the query of P1
    ∷ file
    (lines
    ("0100050005"
    ∷ "020000000100000001"
    ∷ "020001000200000001"
    ∷ "020002000300000001"
    ∷ "020000000400000002"
    ∷ "020004000300000002"
    ∷ "0300000000000000000000"
    ∷ "0300010000000000000000"
    ∷ "0300020000000000000000"
    ∷ "0300030000000000000000"
    ∷ "0300040000000000000000"
    ∷ "04000000030201"
    ∷ []))
    (Ok tt)
    ∷ []

unfoldable pub as_read : LinesCase → LinesCase
as_read c = record { single = c.single; first = c.first; given = c.given; verdict = (outcome_of c.single c.first c.given).verdict }

-- every file is refused, or not, as expected
pub files_judged : map as_read cases ≡ cases
unfolding as_read outcome_of read_lines told_with end_verdict frame_verdict may_stand lines_of frame_of of_kind capped_of query_of potentials_of arc_of size_of signed_of number_at number_from are_digits value_of first_refusal
files_judged = refl
