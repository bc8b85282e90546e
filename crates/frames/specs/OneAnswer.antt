-- Each public function's contract admits a single answer: whatever two runs on the same input return and leave in the lent
-- list, they are the same. Assumes nothing.
use Rattle.std.specs.Prelude.{◌≡◌, List, ℕ, Option}
use Rattle.std.proofs.Common.{sym, ◌∙◌}
use Rattle.frames.specs.Frame.{frame_of, pattern_of}
use Rattle.frames.specs.Room.{Placed}
use Rattle.frames.specs.RoomLaws.{placed_once}
use Rattle.frames.specs.declared.Frame.{Frame}

-- `decode`
pub decode_one_answer : (line : List ℕ) (f g : Option Frame) → f ≡ frame_of line → g ≡ frame_of line → f ≡ g
decode_one_answer line f g p q = p ∙ sym q

-- `pattern_of`
pub pattern_of_one_answer :
    (line entries after after' : List ℕ) (count count' : ℕ)
    → Placed (pattern_of line) entries after count
    → Placed (pattern_of line) entries after' count'
    → (count ≡ count') × (after ≡ after')
pattern_of_one_answer line = placed_once (pattern_of line)

-- `pattern`
pub pattern_one_answer :
    (line entries after after' : List ℕ) (count count' : ℕ)
    → Placed (pattern_of line) entries after count
    → Placed (pattern_of line) entries after' count'
    → (count ≡ count') × (after ≡ after')
pattern_one_answer = pattern_of_one_answer
