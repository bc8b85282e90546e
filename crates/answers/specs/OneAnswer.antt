-- The public function's contract admits a single answer: whatever two runs on the same input return and leave in the lent
-- room, they are the same. Assumes nothing.
use Rattle.std.specs.Prelude.{◌≡◌, List, ℕ}
use Rattle.network.specs.declared.Answer.{Answer}
use Rattle.frames.specs.Room.{Placed}
use Rattle.frames.specs.RoomLaws.{placed_once}
use Rattle.frames.specs.AnswerLines.{answer_lines}

-- `write_answer`
pub write_answer_one_answer :
    (answer : Answer) (path room after after' : List ℕ) (count count' : ℕ)
    → Placed (answer_lines answer path) room after count
    → Placed (answer_lines answer path) room after' count'
    → (count ≡ count') × (after ≡ after')
write_answer_one_answer answer path = placed_once (answer_lines answer path)
