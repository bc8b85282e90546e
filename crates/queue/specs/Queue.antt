-- The queue of one side of a search: a tournament with a number for each node, which is the code of the node's key where the
-- node is undecided and has the side's label, and no number where it is not. Definitions only. Assumes nothing.
use Rattle.std.specs.Prelude.{◌≡◌, Bool, cond, ◌&&◌, List, ℕ, ◌+◌, ◌<◌, eqb, ℤ, length, get_or, set, replicate}
use Rattle.nba.specs.State.{missing, present, undecided}
use Rattle.nba.specs.Search.{Chosen, key_of}
use Rattle.least.specs.Tournament.{no_number, least_of, numbers_in, TournamentOf, Tournament}
use Rattle.steps.specs.Steps.{key_for}
use Rattle.queue.specs.Code.{code, meaning}

-- node v waits: it is undecided, and it has a label
abbrev pub waits : List ℕ → List ℕ → ℕ → Bool
waits labels states v = eqb (get_or states v 0) undecided && present (get_or labels v missing)

-- the number of node v: the code of its key, if it waits
unfoldable pub waiting_number : List ℕ → List ℕ → List ℤ → ℕ → ℕ
waiting_number labels states p v = cond (waits labels states v) (code (key_of labels p v) v) no_number

-- the list is the queue of a side with these labels and potentials p, where the nodes have these states
pub record QueueOf (labels states : List ℕ) (p : List ℤ) (list : List ℕ) : Type 0 where
  pub tournament : Tournament list
  pub long : length (numbers_in list) ≡ length states
  pub numbers : (v : ℕ) → v < length states → get_or (numbers_in list) v 0 ≡ waiting_number labels states p v

-- ---- what the code does to a queue
-- node v waits with this label, and no other node's number changes
abbrev pub Entered : ℕ → ℕ → ℤ → List ℕ → List ℕ → Type 0
Entered v label potential list list' = TournamentOf (set (numbers_in list) v (code (key_for label potential) v)) list'

-- node v does not wait any more, and no other node's number changes
abbrev pub LeftQueue : ℕ → List ℕ → List ℕ → Type 0
LeftQueue v list list' = TournamentOf (set (numbers_in list) v no_number) list'

-- node v waits with label 0, and no other node waits
abbrev pub BegunQueue : ℕ → ℤ → List ℕ → List ℕ → Type 0
BegunQueue v potential list list' = TournamentOf (set (replicate (length (numbers_in list)) no_number) v (code (key_for 0 potential) v)) list'

-- the node that the least number stands for
abbrev pub next_in : List ℕ → Chosen
next_in list = meaning (least_of (numbers_in list))

-- a side's labels at the beginning: its source has label 0, and no other node has one
abbrev pub first_labels : ℕ → ℕ → List ℕ
first_labels n source = set (replicate n missing) source 0

-- what the beginning of a queue asks: as many entries as a tournament has, with one for node v
pub record Spacious (list : List ℕ) (v : ℕ) : Type 0 where
  pub long : length list + 1 ≡ length (numbers_in list) + length (numbers_in list)
  pub there : v < length (numbers_in list)
