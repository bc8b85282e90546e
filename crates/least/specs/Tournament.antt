-- A tournament of minima. A list of n + n - 1 entries stands for n numbers, of which there is at least one: its last n entries are
-- the numbers, and entry i before them is the lesser of entries 2 i + 1 and 2 i + 2, which are said to stand below it. So the first
-- entry is the least of all. Nothing asks that n be a power of two. Definitions only. Assumes nothing.
use Rattle.std.specs.Prelude.{◌≡◌, List, [], ◌∷◌, ℕ, ◌+◌, ◌*◌, ◌/◌, ◌<◌, min, length, get_or, drop}

-- no number: the greatest that an entry can hold
abbrev pub no_number : ℕ
no_number = 18446744073709551615

-- the least of some numbers, which are at most `no_number`; of none it is `no_number`
unfoldable pub least_of : List ℕ → ℕ
least_of [] = no_number
least_of (x ∷ numbers) = min x (least_of numbers)

-- the lesser of the two entries below entry i
abbrev pub lesser_below : List ℕ → ℕ → ℕ
lesser_below list i = min (get_or list (2 * i + 1) 0) (get_or list (2 * i + 2) 0)

-- the numbers of a list: its last entries, one more than stand before them
abbrev pub numbers_in : List ℕ → List ℕ
numbers_in list = drop (length list / 2) list

-- the list stands for the numbers
pub record TournamentOf (numbers list : List ℕ) : Type 0 where
  pub long : length list + 1 ≡ length numbers + length numbers
  pub last : numbers_in list ≡ numbers
  pub minima : (i : ℕ) → i < length list / 2 → get_or list i 0 ≡ lesser_below list i

-- the list is a tournament: it stands for its own last entries
abbrev pub Tournament : List ℕ → Type 0
Tournament list = TournamentOf (numbers_in list) list

-- what a put asks: the list is a tournament, and it has a number v
pub record Putting (list : List ℕ) (v : ℕ) : Type 0 where
  pub tournament : Tournament list
  pub there : v < length (numbers_in list)
