-- What the display's entry promises (docs/RULES.md, "The display"): lines that fit stand at the front of the room, the count is
-- theirs, and the bytes beyond them are unchanged; lines that do not fit leave the room unchanged, and the count is 0. Nothing else
-- is admitted. And what the header says of the count: 0 means only that the lines do not fit, any other count is at least 7, and
-- there is a room that always suffices. Assumes nothing.
use Rattle.std.specs.Prelude.{◌≡◌, true, List, ◌↔◌, ℕ, ◌+◌, ◌<◌, ◌≤◌, length, take, drop}
use Rattle.std.proofs.Common.{sym, ◌∙◌, arith, le-leb}
use Rattle.std.proofs.Math.Seq.{take_at, drop_at}
use Rattle.std.proofs.lemmas.Bool.{lt-leb}
use Rattle.network.specs.CaseSplit.{by_lt}
use Rattle.frames.specs.Room.{laid, placed, counted, Placed}
use Rattle.district.specs.File.{display_answer}
use Rattle.district.specs.Reader.{most_bytes, refusal_bytes, fewest_bytes}
use Rattle.district.specs.NeverEmpty.{answer_least}
use Rattle.display.specs.GatherLaws.{display_bytes}

-- the contract of `display_answer` admits a single count and a single room at exit
pub display_answer_one_answer : (file room after after' : List ℕ) (count count' : ℕ) → Placed (display_answer file) room after count → Placed (display_answer file) room after' count' → (count ≡ count') × (after ≡ after')
display_answer_one_answer file room after after' count count' p q = (p.count_is ∙ sym q.count_is, p.room_is ∙ sym q.room_is)

module _ (file room after : List ℕ) (count : ℕ) (p : Placed (display_answer file) room after count) where
  -- lines that fit
  module _ (fits : length (display_answer file) ≤ length room) where
    pub display_count : count ≡ length (display_answer file)
    unfolding counted
    display_count = p.count_is ∙ rw (le-leb (length (display_answer file)) (length room) fits)

    room_is : after ≡ laid (display_answer file) room
    unfolding placed
    room_is = p.room_is ∙ rw (le-leb (length (display_answer file)) (length room) fits)

    pub display_lines : take count after ≡ display_answer file
    unfolding laid
    display_lines = rw (room_is, take_at (display_answer file) (drop (length (display_answer file)) room) count (sym display_count))

    pub display_beyond : drop count after ≡ drop count room
    unfolding laid
    display_beyond =
        rw (room_is, drop_at (display_answer file) (drop (length (display_answer file)) room) count (sym display_count), display_count)

  -- lines that do not fit
  module _ (short : length room < length (display_answer file)) where
    pub display_none : count ≡ 0
    unfolding counted
    display_none = p.count_is ∙ rw (lt-leb (length (display_answer file)) (length room) short)

    pub display_unchanged : after ≡ room
    unfolding placed
    display_unchanged = p.room_is ∙ rw (lt-leb (length (display_answer file)) (length room) short)

  -- the header: no answer is empty, so 0 is returned exactly where the lines do not fit
  pub display_zero_exactly : (count ≡ 0) ↔ (length room < length (display_answer file))
  display_zero_exactly = (
    λ none. by_lt (length room) (length (display_answer file)) (λ short. short) (λ fits. absurd (omega (arith, none, display_count fits, answer_least true 1 file))),
    display_none,
  )

  -- and lines that fit are at least an undecided's, 7 bytes
  pub display_at_least : length (display_answer file) ≤ length room → fewest_bytes ≤ count
  display_at_least fits = omega (arith, display_count fits, answer_least true 1 file)

  -- in a room for the longest answer and a refusal's line, the header's DISPLAY_ROOM, every file's lines fit
  pub display_room_suffices : most_bytes + refusal_bytes ≤ length room → count ≡ length (display_answer file)
  display_room_suffices large = display_count (omega (arith, large, display_bytes file))
