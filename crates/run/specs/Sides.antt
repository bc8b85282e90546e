-- The lists of the two sides, as what they stand for. Assumes nothing.
use Rattle.std.specs.Prelude.{List, ℕ}
use Rattle.network.specs.Query.{Query}
use Rattle.nba.specs.State.{State}
use Rattle.tables.specs.declared.SideLists.{SideLists}
use Rattle.tables.specs.Tables.{Long}
use Rattle.turn.specs.declared.Progress.{Progress}
use Rattle.turn.specs.Turn.{Queues}
use Rattle.run.specs.Run.{standing}

-- the state that the lists of both sides, the states and the progress stand for
abbrev pub standing_in : SideLists → SideLists → List ℕ → Progress → State
standing_in start_side end_side states p =
    standing start_side.labels.now start_side.neighbours.now end_side.labels.now end_side.neighbours.now states p

-- every list has one entry a node
abbrev pub LongIn : ℕ → SideLists → SideLists → List ℕ → Type 0
LongIn n start_side end_side states =
    Long n start_side.labels.now start_side.neighbours.now end_side.labels.now end_side.neighbours.now states

-- each side of the query's search has its queue
abbrev pub QueuesAt : Query → SideLists → SideLists → List ℕ → List ℕ → List ℕ → Type 0
QueuesAt q start_side end_side states start_queue end_queue =
    Queues start_side.labels.now q.forward end_side.labels.now q.backward states start_queue end_queue
