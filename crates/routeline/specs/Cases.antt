-- Short talks, event by event, with what is asked then and how many bytes are owed and not yet looked at; and what a call did, by
-- what it answered. Two lists, and one proof over each by computation. Beside the cases stand the wrong versions that differ.
-- Assumes nothing.
use Rattle.std.specs.Prelude.{◌≡◌, refl, List, [], ◌∷◌, map, ℕ, pos, negsuc, length}
use Rattle.frames.specs.Digits.{digit_of, value_of, are_digits, digits_of, spelled}
use Rattle.frames.specs.Frame.{frame_of}
use Rattle.frames.specs.AnswerLines.{line_feed, line_of}
use Rattle.district.specs.File.{refused, take_size, take_frame, take_line, broken_line, take_byte, end_of_input}
use Rattle.routeline.specs.declared.Ask.{Ask}
use Rattle.routeline.specs.declared.Ask.TheVariants.{Write, Read, Stop}
use Rattle.routeline.specs.declared.Did.{Did}
use Rattle.routeline.specs.declared.Did.TheVariants.{Came, Ended, Went, Interrupted, WouldWait, Failed}
use Rattle.routeline.specs.Talk.{Talk, silence, asks, Event, came, over, went, again, failed, look_on, told, talk_after}
use Rattle.routeline.specs.Speaker.{unmoved_by, answer_of, reading_of, writing_of}

-- ---- talks
-- what the system did, one after the other; what is asked then; the bytes owed; the bytes not yet looked at
pub record TalkCase : Type 0 where
  pub events : List Event
  pub asked : Ask
  pub owed : ℕ
  pub unlooked : ℕ

abbrev case : List Event → Ask → ℕ → ℕ → TalkCase
case events asked owed unlooked = record { events = events; asked = asked; owed = owed; unlooked = unlooked }

-- a letter that is no digit, a line of it, which is refused by a line of 13 bytes, and that line with a letter after it
abbrev letter : List ℕ
letter = 90 ∷ []

abbrev wrong_line : List ℕ
wrong_line = 90 ∷ line_feed ∷ []

abbrev line_and_more : List ℕ
line_and_more = 90 ∷ line_feed ∷ 90 ∷ []

abbrev pub talk_cases : List TalkCase
talk_cases =
    case [] Read 0 0
    -- the byte after the one that prints is not looked at; who looks at all bytes first has none left
    ∷ case (came letter ∷ []) Read 0 0
    ∷ case (came line_and_more ∷ []) Write 13 1
    -- a part is written: the rest is owed; who takes a part for the whole owes nothing, who begins again owes 13
    ∷ case (came line_and_more ∷ went 5 ∷ []) Write 8 1
    -- a write that was interrupted, or would have to wait, wrote nothing; who takes it for written owes nothing
    ∷ case (came line_and_more ∷ went 5 ∷ again ∷ []) Write 8 1
    -- a refusal has ended the file: nothing is read or looked at any more
    ∷ case (came line_and_more ∷ went 5 ∷ again ∷ went 8 ∷ []) Stop 0 1
    -- the end of the input inside a line prints a refusal; a read that fails there, or is made again, does not
    ∷ case (came letter ∷ over ∷ []) Write 13 0
    ∷ case (came letter ∷ over ∷ went 13 ∷ []) Stop 0 0
    ∷ case (came letter ∷ again ∷ []) Read 0 0
    ∷ case (came letter ∷ failed ∷ []) Stop 0 0
    -- after a write that failed nothing more is written
    ∷ case (came wrong_line ∷ went 5 ∷ failed ∷ []) Stop 0 0
    ∷ []

unfoldable pub all_after : Talk → List Event → Talk
all_after t [] = t
all_after t (e ∷ events) = all_after (talk_after t e) events

unfoldable pub gone : TalkCase → TalkCase
gone c = let t = all_after silence c.events in case c.events (asks t) (length t.owed) (length t.heard)

-- every talk goes as expected
pub talks_gone : map gone talk_cases ≡ talk_cases
unfolding gone all_after asks look_on told end_of_input take_byte broken_line take_line take_frame take_size refused line_of frame_of spelled digits_of are_digits value_of digit_of
talks_gone = refl

-- ---- calls
-- what a read and a write into ten bytes did, by their answer (-1 is `negsuc 0`) and the number of the error
abbrev pub call_cases : List Did
call_cases =
    -- interrupted, would have to wait, a directory; who takes these for the end of the input answers `Ended`
    reading_of (negsuc 0) (pos 4) 10
    ∷ reading_of (negsuc 0) (pos 11) 10
    ∷ reading_of (negsuc 0) (pos 21) 10
    ∷ reading_of (pos 0) (pos 21) 10
    ∷ reading_of (pos 3) (pos 4) 10
    -- interrupted, would have to wait, a full device, nothing taken; who takes these for written answers `Went`
    ∷ writing_of (negsuc 0) (pos 4) 10
    ∷ writing_of (negsuc 0) (pos 11) 10
    ∷ writing_of (negsuc 0) (pos 28) 10
    ∷ writing_of (pos 0) (pos 28) 10
    ∷ writing_of (pos 3) (pos 4) 10
    ∷ []

-- every call did what is expected
pub calls_told : call_cases ≡ Interrupted ∷ WouldWait ∷ Failed ∷ Ended ∷ Came 3 ∷ Interrupted ∷ WouldWait ∷ Failed ∷ WouldWait ∷ Went 3 ∷ []
unfolding answer_of unmoved_by
calls_told = refl
