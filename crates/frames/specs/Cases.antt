-- Cases of frames: lines and what they spell, answers and their lines. Each is a list, with one proof over it by computation.
-- Assumes nothing.
use Rattle.std.specs.Prelude.{◌≡◌, refl, List, [], ◌∷◌, ◌++◌, map, ℕ, replicate, pos, neg_ℤ, Option, None, Some}
use Prim.Native.Char.{code}
use Prim.Native.String.{String, [] as none, ◌∷◌ as ◌then◌}
use Rattle.network.specs.declared.Figures.{Figures}
use Rattle.network.specs.declared.Cause.TheVariants.{NodeCount, ArcLists, PotentialLists, StartOrEnd, Pattern, Room, BadArc, BadPotential, Inconsistent, UnsoundLine, MisplacedLine, NoSuchArc, WrongIndex}
use Rattle.network.specs.declared.Answer.{Answer}
use Rattle.network.specs.declared.Answer.TheVariants.{Route, NoRoute, Refused, Provisional, Undecided}
use Rattle.frames.specs.Digits.{digit_of, value_of, are_digits, number_from, number_at, digits_of, spelled}
use Rattle.frames.specs.Signed.{signed_of}
use Rattle.frames.specs.Frame.{size_of, arc_of, potentials_of, query_of, capped_of, of_kind, frame_of, entries_from, pattern_of}
use Rattle.frames.specs.AnswerLines.{line_feed, line_of, answer_lines}
use Rattle.frames.specs.declared.Frame.{Frame}
use Rattle.frames.specs.declared.Frame.TheVariants.{Size, Arc, TwoWay, Potentials, Query}

-- the bytes of a text
abbrev bytes : String → List ℕ
bytes none = []
bytes (c then s) = code c ∷ bytes s

-- ---- lines that are read
-- a line without its line feed, the frame that it spells, and the entries of its pattern
pub record Line : Type 0 where
  pub text : List ℕ
  pub frame : Option Frame
  pub entries : List ℕ

abbrev line : List ℕ → Option Frame → List ℕ → Line
line t f p = record { text = t; frame = f; entries = p }

abbrev spells : String → Frame → List ℕ → Line
spells t f p = line (bytes t) (Some f) p

abbrev is_none : String → Line
is_none t = line (bytes t) None []

-- digits, and then so many times the digit 1
abbrev ones : String → ℕ → List ℕ
ones t n = bytes t ++ replicate n 49

abbrev sound_lines : List Line
sound_lines =
    -- 01: who reads the lowest digit first answers 12,816 nodes, and who takes three digits a field 18
    spells "01012304AB" (Size 291 1195) []
    -- 02: a head and a weight that no network has are another test's: who refuses them here
    ∷ spells "020102FFFF000F4241" (Arc 258 65535 1000001) []
    -- 05: who knows only 01 to 04, or takes it for 02
    ∷ spells "0500000001000F4240" (TwoWay 0 1 1000000) []
    -- 03: the lowest potential and the highest, -1 and 0: who reads no sign, or takes the top bit for a minus before the rest
    ∷ spells "03000085FD42407A02BDC0" (Potentials 0 (neg_ℤ (pos 2047000000)) (pos 2047000000)) []
    ∷ spells "0307FFFFFFFFFF00000000" (Potentials 2047 (neg_ℤ (pos 1)) (pos 0)) []
    -- 04: the query of D5; no entries and entry F, which the refusal table tests: who refuses them here
    ∷ spells "04000000030201" (Query 0 3 None 2) (0 ∷ 1 ∷ [])
    ∷ spells "040000000300" (Query 0 3 None 0) []
    ∷ spells "0400000003020F" (Query 0 3 None 2) (0 ∷ 15 ∷ [])
    -- 07: the query of D5 at cap 2: who has no such kind, or reads it as 04
    ∷ spells "070000000300020201" (Query 0 3 (Some 2) 2) (0 ∷ 1 ∷ [])
    -- fields that all differ: who reads the cap after the pattern's length, or takes the entries from where a 04 has them
    ∷ spells "0701230456789A031F0" (Query 291 1110 (Some 30874) 3) (1 ∷ 15 ∷ 0 ∷ [])
    -- the lowest cap and the highest, and no entries: who takes cap 0 for no cap, or refuses what is more than a search needs
    ∷ spells "0700000003000000" (Query 0 3 (Some 0) 0) []
    ∷ spells "0700000003FFFF00" (Query 0 3 (Some 65535) 0) []
    -- the longest 04, 267 digits, and the longest line of all, 271: who keeps no room for them, or for 64 entries only
    ∷ line (ones "0400000003FF" 255) (Some (Query 0 3 None 255)) (replicate 255 1)
    ∷ line (ones "07000000030002FF" 255) (Some (Query 0 3 (Some 2) 255)) (replicate 255 1)
    ∷ []

abbrev unsound_lines : List Line
unsound_lines =
    -- answers of `routeline` and lines of their kinds that are as long as a size or an arc: who looks at the second digit only
    -- reads 81 as 01 and 82 as 02, and who takes every other kind for a query reads FF
    is_none "810000000300040005000200010002"
    ∷ is_none "8100050005"
    ∷ is_none "820000000100020003"
    ∷ is_none "800001000100000000"
    ∷ is_none "8000050005"
    ∷ is_none "FF0900000000"
    -- the answers to a 07, and lines of their kinds that are as long as a query or a link
    ∷ is_none "840000000400000003"
    ∷ is_none "84000000030201"
    ∷ is_none "850001"
    ∷ is_none "850000000100000001"
    -- the kinds before 01, between 05 and 07 and after 07, as long as a size, an arc and a query
    ∷ is_none "0000050005"
    ∷ is_none "0600050005"
    ∷ is_none "060000000100000001"
    ∷ is_none "06000000030201"
    ∷ is_none "0600000003000201"
    ∷ is_none "080000000300020201"
    -- the digit `a`, and the bytes before and after the digits: who takes them for digits reads a size
    ∷ is_none "010005000a"
    ∷ is_none "010005000/"
    ∷ is_none "010005000:"
    ∷ is_none "010005000@"
    ∷ is_none "010005000G"
    -- a space after the line and one before it: who skips spaces reads a size
    ∷ is_none "0100050005 "
    ∷ is_none " 0100050005"
    -- no line, a kind alone, and each kind one digit short and one digit long: who does not measure the line reads a frame
    ∷ is_none ""
    ∷ is_none "01"
    ∷ is_none "010005000"
    ∷ is_none "01000500050"
    ∷ is_none "02000000010000001"
    ∷ is_none "0200000001000000010"
    ∷ is_none "030000000000000000000"
    ∷ is_none "03000000000000000000000"
    ∷ is_none "0400000003020"
    ∷ is_none "040000000302010"
    ∷ is_none "05000000010000001"
    ∷ is_none "0500000001000000010"
    ∷ is_none "07000000030002020"
    ∷ is_none "0700000003000202010"
    -- a 07 with a digit of its pattern's length and with none, a 07 without its cap, a 04 with one: who takes the one for the other
    ∷ is_none "070000000300020"
    ∷ is_none "07000000030002"
    ∷ is_none "07000000030201"
    ∷ is_none "040000000300020201"
    -- an entry more than the pattern's length can say
    ∷ line (ones "0400000003FF" 256) None []
    ∷ line (ones "07000000030002FF" 256) None []
    ∷ []

abbrev line_cases : List Line
line_cases = sound_lines ++ unsound_lines

unfoldable pub read : Line → Line
read c = record { text = c.text; frame = frame_of c.text; entries = pattern_of c.text }

-- ---- answers that are written
-- an answer with the path list, and the bytes of its lines
pub record Written : Type 0 where
  pub answer : Answer
  pub path : List ℕ
  pub lines : List ℕ

-- lines, each with its line feed
abbrev ended : List String → List ℕ
ended [] = []
ended (t ∷ rest) = bytes t ++ (line_feed ∷ ended rest)

abbrev says : Answer → List ℕ → List String → Written
says a p t = record { answer = a; path = p; lines = ended t }

abbrev refusal : Answer → String → Written
refusal a t = says a [] (t ∷ [])

-- turns, nodes opened by each side, nodes rejected
abbrev figures : ℕ → ℕ → ℕ → ℕ → Figures
figures t s e r = record { turns = t; opened_by_start = s; opened_by_end = e; rejected = r }

abbrev answer_cases : List Written
answer_cases =
    -- 81 and 82: the answer of D5, with an old entry beyond the path: who writes the whole path list adds 004D
    says (Route 3 4 (figures 5 2 1 2)) (0 ∷ 1 ∷ 2 ∷ 3 ∷ 77 ∷ []) ("810000000300040005000200010002" ∷ "820000000100020003" ∷ [])
    -- figures that all differ: who writes them in another order, or with other widths
    ∷ says (Route 2047000000 2 (figures 2048 1029 770 249)) (2047 ∷ 10 ∷ []) ("817A02BDC0000208000405030200F9" ∷ "8207FF000A" ∷ [])
    -- 80: who writes a path line too, or the figures in another order
    ∷ says (NoRoute (figures 2048 1029 770 249)) (0 ∷ []) ("8008000405030200F9" ∷ [])
    -- 84 and 82, D5 at cap 2: who writes a route's figures, or no path
    ∷ says (Provisional 4 3 3 (figures 2 1 1 0)) (0 ∷ 4 ∷ 3 ∷ 77 ∷ []) ("840000000400000003" ∷ "82000000040003" ∷ [])
    -- who writes the excess first, or cuts it to four digits
    ∷ says (Provisional 2047000000 19088743 2 (figures 2048 1029 770 249)) (2047 ∷ 10 ∷ []) ("847A02BDC001234567" ∷ "8207FF000A" ∷ [])
    -- 85, D5 at cap 1, and with figures that all differ: who writes more than the turns, or a path line too
    ∷ says (Undecided (figures 1 1 0 0)) (0 ∷ []) ("850001" ∷ [])
    ∷ says (Undecided (figures 2048 1029 770 249)) (0 ∷ []) ("850800" ∷ [])
    -- FF: each number, with place 0 or with the arc, node or line: who gives another number or place, or another order
    ∷ refusal (Refused NodeCount) "FF0100000000"
    ∷ refusal (Refused ArcLists) "FF0200000000"
    ∷ refusal (Refused PotentialLists) "FF0300000000"
    ∷ refusal (Refused StartOrEnd) "FF0400000000"
    ∷ refusal (Refused Pattern) "FF0500000000"
    ∷ refusal (Refused Room) "FF0600000000"
    ∷ refusal (Refused (BadArc 8191)) "FF0700001FFF"
    ∷ refusal (Refused (BadPotential 2047)) "FF08000007FF"
    -- P6
    ∷ refusal (Refused (Inconsistent 0)) "FF0900000000"
    ∷ refusal (Refused (UnsoundLine 12)) "FF0A0000000C"
    ∷ refusal (Refused (MisplacedLine 4294967295)) "FF0BFFFFFFFF"
    ∷ refusal (Refused (NoSuchArc 8192)) "FF1300002000"
    ∷ refusal (Refused WrongIndex) "FF1400000000"
    ∷ []

unfoldable pub write : Written → Written
write c = record { answer = c.answer; path = c.path; lines = answer_lines c.answer c.path }

-- ---- the proofs, by computation
-- every line spells its frame and its pattern
pub lines_read : map read line_cases ≡ line_cases
unfolding read pattern_of entries_from frame_of of_kind size_of arc_of potentials_of query_of capped_of signed_of number_at number_from are_digits value_of
lines_read = refl

-- and every answer has its lines
pub answers_written : map write answer_cases ≡ answer_cases
unfolding write line_of spelled digits_of digit_of
answers_written = refl
