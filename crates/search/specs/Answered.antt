-- What is answered where a search stopped (docs/RULES.md, "The end of a search" and "Capped queries"), as the code reads it off the
-- tables, and what a search leaves in work lists with exactly one entry a node. Assumes nothing.
use Rattle.std.specs.Prelude.{◌≡◌, cond, List, [], ℕ, ◌<◌, ◌≤◌, ◌-ℤ◌, length}
use Rattle.network.specs.declared.Answer.{Answer}
use Rattle.network.specs.Network.{most_nodes}
use Rattle.network.specs.Potential.{potential_at}
use Rattle.network.specs.Query.{Query}
use Rattle.nba.specs.State.{missing, present, State}
use Rattle.nba.specs.Search.{state_at}
use Rattle.nba.specs.Result.{path_through, figures_in, excess_over, found_at}
use Rattle.network.specs.Front.{at_front}
use Rattle.tables.specs.Tables.{PathRoom}
use Rattle.cap.specs.Stop.{with_length, without_length}
use Rattle.run.specs.declared.Stop.{Stop}
use Rattle.run.specs.Run.{Floors}
use Rattle.search.specs.Promise.{LentLists, shown_path}

-- what is answered to a query whose search stopped so, read off its tables, and the path that is shown
unfoldable pub answer_read : Query → List ℕ → List ℕ → List ℕ → Stop → Answer
answer_read q sn en states r =
    let p = r.progress in
    cond (present p.best.length)
    (with_length r.over p.best.length
    (excess_over p.best.length (p.floor -ℤ potential_at q.forward q.end) (p.beyond -ℤ potential_at q.backward q.start))
    (length (path_through sn en q.start q.end p.best.node))
    (figures_in states))
    (without_length r.over (figures_in states))

unfoldable pub path_read : Query → List ℕ → List ℕ → Stop → List ℕ
path_read q sn en r = cond (present r.progress.best.length) (path_through sn en q.start q.end r.progress.best.node) []

-- what reading it off asks: start and end have potentials, the floors are far within 64 bits, and a path has room
pub record ToBeAnswered (q : Query) (sn en states path : List ℕ) (r : Stop) : Type 0 where
  pub few : length states ≤ most_nodes
  pub end_in : q.end < length q.forward
  pub start_in : q.start < length q.backward
  pub floors : Floors r.progress
  pub room : r.progress.best.length < missing → PathRoom path sn en q.start q.end r.progress.best.node

-- the lists are the tables of a state
pub record Filled (st : State) (sl sn el en marks : List ℕ) : Type 0 where
  pub start_labels_there : sl ≡ st.start_half.labels
  pub start_neighbours_there : sn ≡ st.start_half.neighbours
  pub end_labels_there : el ≡ st.end_half.labels
  pub end_neighbours_there : en ≡ st.end_half.neighbours
  pub states : marks ≡ st.states

-- a search at a cap is done on work lists with exactly one entry a node: its answer, the tables of the state there, and the path
-- before what stood in the path list beyond it
pub record SearchedInPlace (q : Query) (cap : ℕ) (path : List ℕ) (r : Answer) (after : LentLists) : Type 0 where
  pub answer : r ≡ found_at q cap
  pub tables : Filled (state_at q cap) after.start_labels_there after.start_neighbours_there after.end_labels_there after.end_neighbours_there after.states
  pub path_shown_lem : after.path ≡ at_front (shown_path q (state_at q cap)) path
