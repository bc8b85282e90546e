-- The lists that the code goes over, as what a side sees and keeps. Assumes nothing.
use Rattle.std.specs.Prelude.{List, ℕ, ℤ, length}
use Rattle.network.specs.Network.{Network, network}
use Rattle.nba.specs.Search.{Reach}
use Rattle.tables.specs.declared.SideLists.{SideLists}
use Rattle.turn.specs.declared.Best.{Best}
use Rattle.turn.specs.declared.View.{View}
use Rattle.turn.specs.Turn.{reach, Took, took, node_taken, Matched, Openable, Queues}

-- the network of so many nodes that a side sees
abbrev pub network_seen : ℕ → View → Network
network_seen n view = network n view.near.now view.far.now view.weights.now

-- what looking at arcs changes
abbrev pub reach_in : SideLists → Best → Reach
reach_in lists best = reach lists.labels.now lists.neighbours.now best

-- what taking a node changes
abbrev pub took_in : SideLists → List ℕ → Best → Took
took_in lists states best = took lists.labels.now lists.neighbours.now states best

-- node u is taken by the side that has this view
abbrev pub taken_in : View → List ℕ → ℕ → ℤ → Took → Took
taken_in view theirs u floor t =
    node_taken (network_seen (length t.reached.labels) view) view.own.now view.other.now theirs u view.target floor view.opened t

-- what opening node u asks of a side and its lists
abbrev pub OpenableIn : View → SideLists → List ℕ → List ℕ → ℕ → Type 0
OpenableIn view lists theirs states u =
    Openable view.near.now view.far.now view.weights.now view.arcs.now view.begins.now lists.labels.now lists.neighbours.now theirs states u

-- what taking a node asks of the two sides
abbrev pub MatchedIn : View → SideLists → List ℕ → List ℕ → Type 0
MatchedIn view lists theirs states = Matched (length states) lists.labels.now view.own.now theirs view.other.now

-- each side has its queue
abbrev pub QueuesIn : View → SideLists → List ℕ → List ℕ → List ℕ → List ℕ → Type 0
QueuesIn view lists theirs states own_queue other_queue =
    Queues lists.labels.now view.own.now theirs view.other.now states own_queue other_queue
