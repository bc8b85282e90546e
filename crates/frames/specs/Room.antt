-- A text written at the front of a lent list. Definitions only; their laws are in RoomLaws. Assumes nothing.
use Rattle.std.specs.Prelude.{◌≡◌, cond, List, ◌++◌, ℕ, leb, length, drop}

-- the text at the front of the room, and the room's old entries beyond it
unfoldable pub laid : List ℕ → List ℕ → List ℕ
laid text room = text ++ drop (length text) room

-- the room after writing: the text laid at its front where it fits, else the room as it was
unfoldable pub placed : List ℕ → List ℕ → List ℕ
placed text room = cond (leb (length text) (length room)) (laid text room) room

-- how many entries were written: those of the text where it fits, else 0
unfoldable pub counted : List ℕ → List ℕ → ℕ
counted text room = cond (leb (length text) (length room)) (length text) 0

-- a writer that knows that its text fits: the text is laid, and its length returned
pub record Laid (text room after : List ℕ) (count : ℕ) : Type 0 where
  pub count_is : count ≡ length text
  pub room_is : after ≡ laid text room

-- what a public writer promises: the room afterwards and the count returned
pub record Placed (text room after : List ℕ) (count : ℕ) : Type 0 where
  pub count_is : count ≡ counted text room
  pub room_is : after ≡ placed text room
