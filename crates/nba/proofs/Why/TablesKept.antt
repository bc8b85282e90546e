-- The tables keep their lengths in the search as its steps are worded (docs/RULES.md, "The search, turn by turn"), as they do in
-- the search by marks (specs/Why/CodeLaws). Assumes nothing.
use Rattle.std.specs.Prelude.{ℕ, zero, suc, eqb, set}
use Rattle.network.specs.Network.{Side, other}
use Rattle.network.specs.Query.{Query, side_of_turn}
use Rattle.network.specs.CaseSplit.{cases, by_bool}
use Rattle.nba.specs.State.{State, half, opened_by}
use Rattle.nba.specs.Search.{Chosen, none, node, candidate, ended, arcs_of, opening, takes, turn, turn_unless_ended, after_turns, state_at}
use Rattle.nba.specs.Why.Tabled.{Tabled}
use Rattle.nba.specs.Why.CodeLaws.{reach_long, taken_tabled, look_each_long, beginning_tabled, at_once_tabled, unsearched_at, searched_at}

takes_tabled : {q : Query} {st : State} (s : Side) → Tabled q st → (c : Chosen) → Tabled q (takes q s c st)
unfolding opening
takes_tabled s t none = t
takes_tabled {q} {st} s t (node u k) =
    taken_tabled s t u
    (look_each_long s q.network (half (other s) st).labels (set st.states u (opened_by s)) u (arcs_of s q.network u) (reach_long s t u))

after_turns_tabled : (q : Query) (i : ℕ) → Tabled q (after_turns q i)
unfolding after_turns turn_unless_ended turn
after_turns_tabled q zero = beginning_tabled q
after_turns_tabled q (suc i) =
    let s = side_of_turn q.pattern i in
    let st = after_turns q i in
    cases (Tabled q) (ended q st) (λ h. after_turns_tabled q i) (λ h. takes_tabled s (after_turns_tabled q i) (candidate q s st))

pub state_at_tabled : (q : Query) (cap : ℕ) → Tabled q (state_at q cap)
state_at_tabled q cap =
    by_bool (eqb q.start q.end)
    (λ h. rw (unsearched_at q cap h) (at_once_tabled q))
    (λ h. rw (searched_at q cap h) (after_turns_tabled q cap))
