-- The turns of a search (docs/RULES.md, "The search, turn by turn"), one after the other, as the code sees them: the lent lists
-- and the progress stand for a state of the search by marks, which `nba` proves to be the search. Assumes nothing.
use Rattle.std.specs.Prelude.{◌≡◌, false, List, ℕ, ◌+◌, ◌<◌, ◌≤◌, ◌^◌, ℤ, length, replicate, Option}
use Rattle.std.specs.Int.Signed.{mag}
use Rattle.network.specs.Given.{Sound}
use Rattle.network.specs.Network.{Side, start, end, other, most_nodes}
use Rattle.network.specs.Potential.{potential_at}
use Rattle.network.specs.Query.{Query, side_of_turn}
use Rattle.nba.specs.State.{missing, no_node, undecided, State, state}
use Rattle.nba.specs.Search.{node, least_below, candidate, state_at}
use Rattle.nba.specs.Result.{over}
use Rattle.nba.specs.Why.ByMark.{turn_by_mark, after_turns_by_mark}
use Rattle.index.specs.Index.{Index, wrong_index}
use Rattle.steps.specs.declared.Candidate.{Candidate}
use Rattle.steps.specs.Steps.{meant}
use Rattle.queue.specs.Queue.{QueueOf, first_labels}
use Rattle.turn.specs.declared.Progress.{Progress}
use Rattle.run.specs.declared.Stop.{Stop}

-- the state that a side's own lists, the other side's, the states and the side's progress stand for
abbrev pub standing_of : Side → List ℕ → List ℕ → List ℕ → List ℕ → List ℕ → Progress → State
standing_of s labels neighbours theirs beyond states p =
    state s (record { labels = labels; neighbours = neighbours; floor = p.floor })
    (record { labels = theirs; neighbours = beyond; floor = p.beyond }) states p.best.length p.best.node

-- the same seen from the start side, as the search holds it
abbrev pub standing : List ℕ → List ℕ → List ℕ → List ℕ → List ℕ → Progress → State
standing = standing_of start

-- the progress, seen from side s, knows what each side takes next
pub record KnowsNext (q : Query) (s : Side) (st : State) (p : Progress) : Type 0 where
  pub mine : meant p.own ≡ candidate q s st
  pub yours : meant p.other ≡ candidate q (other s) st

-- the floors are sums of a label and a potential, far within 64 bits
pub record Floors (p : Progress) : Type 0 where
  pub floor : mag p.floor < 2 ^ 40
  pub beyond : mag p.beyond < 2 ^ 40

-- the progress seen from the other side
abbrev pub swapped_of : Progress → Progress
swapped_of p = record { best = p.best; floor = p.beyond; beyond = p.floor; own = p.other; other = p.own }

-- turn number i, of the side that the repeated pattern names
abbrev pub turn_of : Query → ℕ → State → State
turn_of q i st = turn_by_mark q (side_of_turn q.pattern i) st

-- the progress of a search knows what each side takes next
abbrev pub Foreseen : Query → State → Progress → Type 0
Foreseen q st p = KnowsNext q start st p

-- what a search asks of a query and its index: the query is sound, and the index is what its arcs build
pub record Searchable (q : Query) (ix : Index) : Type 0 where
  pub sound : Sound q
  pub right : wrong_index q.network ix ≡ false

-- what a turn asks: both sides have a node to take, the start side a and the end side b
pub record Taking (q : Query) (st : State) (a b : ℕ) (p : Progress) : Type 0 where
  pub start_key : ℤ
  pub start_takes : candidate q start st ≡ node a start_key
  pub end_key : ℤ
  pub end_takes : candidate q end st ≡ node b end_key
  pub floors : Floors p

-- the list has as many entries as a queue of n nodes
pub record QueueRoom (n : ℕ) (list : List ℕ) : Type 0 where
  pub long : length list + 1 ≡ n + n

-- what the beginning of a side asks: a potential of 32 bits for each of n nodes, its source v among them, and a list for its queue
pub record Beginning (n : ℕ) (p : List ℤ) (v : ℕ) (list : List ℕ) : Type 0 where
  pub few : n ≤ most_nodes
  pub potentials_long : length p ≡ n
  pub potentials_small : (u : ℕ) → mag (potential_at p u) < 2 ^ 31
  pub source_in : v < n
  pub room : QueueRoom n list

-- a side at the beginning of a search over n nodes: the list is its queue, its floor is its source's potential, and what it takes
-- first is known
pub record Begun (n : ℕ) (p : List ℤ) (v : ℕ) (list : List ℕ) (floor : ℤ) (first : Option Candidate) : Type 0 where
  pub queue_is : QueueOf (first_labels n v) (replicate n undecided) p list
  pub floor_is : floor ≡ potential_at p v
  pub first_is : meant first ≡ least_below (first_labels n v) (replicate n undecided) p n

-- both sides at the beginning, when there is no best length
pub record FirstProgress (n : ℕ) (forward backward : List ℤ) (s e : ℕ) (start_queue end_queue : List ℕ) (p : Progress) : Type 0 where
  pub no_length : p.best.length ≡ missing
  pub no_meeting : p.best.node ≡ no_node
  pub start_begun : Begun n forward s start_queue p.floor p.own
  pub end_begun : Begun n backward e end_queue p.beyond p.other

-- a search is under way: it is in its state after i turns, and the progress knows what is next
pub record TurnsMade (q : Query) (i : ℕ) (st : State) (p : Progress) : Type 0 where
  pub here : st ≡ after_turns_by_mark q i
  pub foreseen : Foreseen q st p

-- a search has stopped at a cap: it is in its state there, which says whether it is over, and the progress knows what is next
pub record StoppedAt (q : Query) (cap : ℕ) (st : State) (r : Stop) : Type 0 where
  pub here : st ≡ state_at q cap
  pub foreseen : Foreseen q st r.progress
  pub whether_over : r.over ≡ over q (state_at q cap)
  pub floors : Floors r.progress
