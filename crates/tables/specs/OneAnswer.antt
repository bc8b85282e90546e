-- Each public function's contract admits a single answer: whatever two runs on the same input return and leave in the lent
-- lists, they are the same. Assumes nothing.
use Rattle.std.specs.Prelude.{◌≡◌, List, ℕ, length, set, replicate}
use Rattle.std.proofs.Common.{sym, ◌∙◌}
use Rattle.network.specs.declared.Figures.{Figures}
use Rattle.nba.specs.State.{missing, no_node}
use Rattle.nba.specs.Result.{figures_in, path_through}
use Rattle.network.specs.Front.{at_front}
use Rattle.tables.specs.Tables.{FirstTables}

-- `SideLists::begin_at`
pub begin_at_one_answer : (labels neighbours labels_after labels_after' neighbours_after neighbours_after' : List ℕ) (home : ℕ)
    → labels_after ≡ set (replicate (length labels) missing) home 0
    → neighbours_after ≡ replicate (length neighbours) no_node
    → labels_after' ≡ set (replicate (length labels) missing) home 0
    → neighbours_after' ≡ replicate (length neighbours) no_node
    → (labels_after ≡ labels_after') × (neighbours_after ≡ neighbours_after')
begin_at_one_answer labels neighbours labels_after labels_after' neighbours_after neighbours_after' home p q p' q' = (p ∙ sym p', q ∙ sym q')

-- `begin`
pub begin_one_answer : (n s e : ℕ) (sl sl' sn sn' el el' en en' states states' : List ℕ)
    → FirstTables n s e sl sn el en states
    → FirstTables n s e sl' sn' el' en' states'
    → (sl ≡ sl') × (sn ≡ sn') × (el ≡ el') × (en ≡ en') × (states ≡ states')
begin_one_answer n s e sl sl' sn sn' el el' en en' states states' t u = (
  t.start_labels_are ∙ sym u.start_labels_are,
  t.start_neighbours_are ∙ sym u.start_neighbours_are,
  t.end_labels_are ∙ sym u.end_labels_are,
  t.end_neighbours_are ∙ sym u.end_neighbours_are,
  t.states_are ∙ sym u.states_are,
)

-- `count_states`
pub count_states_one_answer : (states : List ℕ) (r r' : Figures) → r ≡ figures_in states → r' ≡ figures_in states → r ≡ r'
count_states_one_answer states r r' p q = p ∙ sym q

-- `write_path`
pub write_path_one_answer : (startward endward path after after' : List ℕ) (s e meeting r r' : ℕ)
    → r ≡ length (path_through startward endward s e meeting)
    → after ≡ at_front (path_through startward endward s e meeting) path
    → r' ≡ length (path_through startward endward s e meeting)
    → after' ≡ at_front (path_through startward endward s e meeting) path
    → (r ≡ r') × (after ≡ after')
write_path_one_answer startward endward path after after' s e meeting r r' p q p' q' = (p ∙ sym p', q ∙ sym q')
