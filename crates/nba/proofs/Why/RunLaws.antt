-- The run: what is true before every turn, and that the search ends. In each turn one node leaves, so there are at most as
-- many turns as nodes. Assumes nothing.
use Rattle.std.specs.Prelude.{◌≡◌, ◌≢◌, true, false, eqb, length}
use Rattle.std.proofs.Common.{sym, ap, ◌∙◌, arith, ℕ, zero, suc, ◌+◌, ◌≤◌, ◌<◌}
use Rattle.network.specs.Network.{Side, start, end, other}
use Rattle.network.specs.WalkLaws.{walk_turned}
use Rattle.network.specs.Query.{Query, side_of_turn}
use Rattle.network.specs.Given.{Sound}
use Rattle.network.specs.CaseSplit.{by_eq, by_bool, neither_true}
use Rattle.nba.specs.State.{missing, State, state_of, undecided}
use Rattle.nba.specs.Search.{is_none, candidate, ended}
use Rattle.nba.specs.Why.ByMark.{turn_by_mark, after_turns_by_mark}
use Rattle.nba.specs.Result.{in_state, figures_in}
use Rattle.nba.specs.Demands.{Leaves, WalkOfLength}
use Rattle.nba.specs.Why.Tabled.{Tabled}
use Rattle.nba.specs.Why.StateLaws.{both_sides}
use Rattle.nba.specs.Why.CodeLaws.{turn_by_mark_tabled, beginning_tabled, goes_on_by_mark, rests_by_mark}
use Rattle.nba.specs.Why.Measures.{LeastCandidate}
use Rattle.nba.specs.Why.CountLaws.{count_opposite}
use Rattle.nba.specs.Why.Moved.{Turned, turned_by}
use Rattle.nba.specs.Why.MovedLaws.{has_left}
use Rattle.nba.proofs.Why.TurnLaws.{Turn, turn_turns, none_left, some_candidate}
use Rattle.nba.specs.Why.BeginningLaws.{Fresh, beginning_begun, beginning_best, begun_lifted, begun_undecided, begun_count}
use Rattle.nba.specs.Why.Ways.{best_least, beginning_worth, worth_later}
use Rattle.nba.specs.Why.Trails.{trails_later, states_later, begun_trails}
use Rattle.nba.specs.Why.Settled.{settled_later, begun_settled}
use Rattle.nba.specs.Why.Exact.{exact_later, begun_exact}
use Rattle.nba.specs.Why.Invariant.{Orderly, Invariant}

-- ---- a turn
-- before the search has ended, each side has a candidate
pub each_has_candidate : (q : Query) (st : State) → ended q st ≡ false → (s : Side) → is_none (candidate q s st) ≡ false
unfolding ended
each_has_candidate q st h = neither_true (is_none (candidate q start st)) (is_none (candidate q end st)) h (λ a b. both_sides (λ s. is_none (candidate q s st) ≡ false) start a b)

module _ {q : Query} (sound : Sound q) where
  turned_orderly : {s : Side} {st : State} → Orderly q st → Turn q s st (turn_by_mark q s st) → Orderly q (turn_by_mark q s st)
  turned_orderly {s} {st} inv t = by t.turned
    where
      by : Turned q s st (turn_by_mark q s st) → Orderly q (turn_by_mark q s st)
      by (turned_by mv) = record {
        tabled = turn_by_mark_tabled s inv.tabled;
        lifted = t.lifted;
        trails = trails_later sound mv inv.trails;
        few = states_later sound mv inv.few;
        top = omega (arith, mv.shorter, inv.top);
      }

  turned_invariant : {s : Side} {st : State} {c : ℕ} → Invariant q st → LeastCandidate q (other s) st c → Turn q s st (turn_by_mark q s st) → Invariant q (turn_by_mark q s st)
  turned_invariant {s} {st} inv theirs t = by t.turned
    where
      by : Turned q s st (turn_by_mark q s st) → Invariant q (turn_by_mark q s st)
      by (turned_by mv) =
          let o = inv.orderly in
          record {
            orderly = turned_orderly o t;
            worth = worth_later sound mv (inv.worth s) (inv.worth (other s));
            settled = settled_later sound mv o.few (inv.worth s) inv.settled;
            exact = exact_later sound mv o.tabled o.few inv.worth o.trails inv.settled theirs inv.exact;
          }

  turn_of_lem : {st : State} (s : Side) → Orderly q st → ended q st ≡ false → Turn q s st (turn_by_mark q s st)
  turn_of_lem {st} s inv h = turn_turns sound s inv.tabled inv.lifted (each_has_candidate q st h s)

  -- ---- before every turn
  pub begun_orderly : {st : State} → Fresh q st → Tabled q st → st.best ≤ missing → Orderly q st
  begun_orderly b t h = record {
    tabled = t;
    lifted = begun_lifted b sound;
    trails = begun_trails b sound;
    few = λ v. omega (arith, begun_undecided b v);
    top = h;
  }

  pub orderly : (i : ℕ) → Orderly q (after_turns_by_mark q i)
  unfolding after_turns_by_mark
  orderly zero = begun_orderly (beginning_begun q) (beginning_tabled q) (omega (arith, beginning_best q))
  orderly (suc i) =
      let s = side_of_turn q.pattern i in
      by_bool (ended q (after_turns_by_mark q i))
      (λ h. rw (rests_by_mark q i h) (orderly i))
      (λ h. rw (goes_on_by_mark q i h) (turned_orderly (orderly i) (turn_of_lem s (orderly i) h)))

  pub invariant : q.start ≢ q.end → (i : ℕ) → Invariant q (after_turns_by_mark q i)
  unfolding after_turns_by_mark
  invariant d zero = record {
    orderly = orderly zero;
    worth = both_sides _ start (beginning_worth sound start d) (beginning_worth sound end (λ e. d (sym e)));
    settled = begun_settled (beginning_begun q);
    exact = begun_exact (beginning_begun q);
  }
  invariant d (suc i) =
      let s = side_of_turn q.pattern i in
      let inv = invariant d i in
      let st = after_turns_by_mark q i in
      by_bool (ended q st)
      (λ h. rw (rests_by_mark q i h) inv)
      (λ h. rw (goes_on_by_mark q i h) (some_candidate sound (other s) inv.orderly.tabled inv.orderly.lifted (each_has_candidate q st h (other s)) (Invariant q (turn_by_mark q s st))
      (λ c theirs. turned_invariant inv theirs (turn_of_lem s inv.orderly h))))

  -- ---- in each turn one node leaves
  -- one node leaves, and one fewer is undecided
  record OneFewer (st st' : State) : Type 0 where
    leaves : Leaves st st'
    fewer : suc (in_state undecided st'.states) ≡ in_state undecided st.states

  turned_leaves : {s : Side} {st st' : State} → Turned q s st st' → OneFewer st st'
  turned_leaves (turned_by {u} mv) = record {
    leaves = record { node = u; undecided_before = mv.chosen.free; left_after = has_left mv; others = mv.others };
    fewer = mv.fewer;
  }

  -- turn i, as one relation
  pub turned_after : (i : ℕ) → ended q (after_turns_by_mark q i) ≡ false → Turned q (side_of_turn q.pattern i) (after_turns_by_mark q i) (after_turns_by_mark q (suc i))
  turned_after i h = rw (goes_on_by_mark q i h) (turn_of_lem (side_of_turn q.pattern i) (orderly i) h).turned

  one_fewer : (i : ℕ) → ended q (after_turns_by_mark q i) ≡ false → OneFewer (after_turns_by_mark q i) (after_turns_by_mark q (suc i))
  one_fewer i h = turned_leaves (turned_after i h)

  pub turn_leaves : (i : ℕ) → ended q (after_turns_by_mark q i) ≡ false → Leaves (after_turns_by_mark q i) (after_turns_by_mark q (suc i))
  turn_leaves i h = (one_fewer i h).leaves

  -- the state of a node that left is the same after every later turn
  pub left_once : (v i j : ℕ) → state_of (after_turns_by_mark q i) v ≢ undecided → i ≤ j → state_of (after_turns_by_mark q j) v ≡ state_of (after_turns_by_mark q i) v
  left_once v i zero d l = let e : i ≡ 0 = omega arith in rw e
  left_once v i (suc j) d l =
      by_eq i (suc j) (λ e. rw e)
      (λ f. let e = left_once v i j d (omega arith) in
      by_bool (ended q (after_turns_by_mark q j))
      (λ h. ap (λ st. state_of st v) (rests_by_mark q j h) ∙ e)
      (λ h. let a = turn_leaves j h in a.others v (λ p. d (sym e ∙ ap (state_of (after_turns_by_mark q j)) p ∙ a.undecided_before)) ∙ e))

  -- ---- the end
  -- turns i, the search not having ended before any of them
  record Far (i : ℕ) : Type 0 where
    going : (j : ℕ) → j < i → ended q (after_turns_by_mark q j) ≡ false

  count_after : (i : ℕ) → Far i → i + in_state undecided (after_turns_by_mark q i).states ≡ q.network.nodes
  unfolding after_turns_by_mark
  count_after zero f = omega (arith, begun_count (beginning_begun q))
  count_after (suc i) f = omega (arith, count_after i (record { going = λ j l. f.going j (omega arith) }), (one_fewer i (f.going i (omega arith))).fewer)

  -- how the run stands after i turns: going, or ended after t
  data Stand (i : ℕ) : Type 0 where
    goes : Far i → Stand i
    ended_after : (t : ℕ) → t < i → Far t → ended q (after_turns_by_mark q t) ≡ true → Stand i

  stand : (i : ℕ) → Stand i
  stand zero = goes (record { going = λ j l. absurd (omega arith) })
  stand (suc i) = by (stand i)
    where
      by : Stand i → Stand (suc i)
      by (goes f) = by_bool (ended q (after_turns_by_mark q i))
          (λ h. ended_after i (omega arith) f h)
          (λ h. goes (record { going = λ j l. by_eq j i (λ e. rw e h) (λ d. f.going j (omega arith)) }))
      by (ended_after t l f h) = ended_after t (omega arith) f h

  -- the turns made at a cap: in each of them a node has left, and after fewer than the cap allows the search has ended
  pub record Made (cap : ℕ) : Type 0 where
    pub turns : ℕ
    pub within_cap : turns ≤ cap
    pub going : (i : ℕ) → i < turns → ended q (after_turns_by_mark q i) ≡ false
    pub fewer : turns < cap → ended q (after_turns_by_mark q turns) ≡ true
    pub left_are_turns : turns + in_state undecided (after_turns_by_mark q turns).states ≡ q.network.nodes

  pub made : (cap : ℕ) → Made cap
  made cap = by (stand cap)
    where
      by : Stand cap → Made cap
      by (goes f) = record { turns = cap; within_cap = omega arith; going = f.going; fewer = λ l. absurd (omega arith); left_are_turns = count_after cap f }
      by (ended_after t l f h) = record { turns = t; within_cap = omega arith; going = f.going; fewer = λ l. h; left_are_turns = count_after t f }

  -- the search ends, after no more turns than there are nodes
  pub record Ends : Type 0 where
    pub turns : ℕ
    pub few : turns ≤ q.network.nodes
    pub over : ended q (after_turns_by_mark q turns) ≡ true

  -- one turn more than there are nodes cannot be made
  pub ends : Ends
  ends =
      let m = made (suc q.network.nodes) in
      let few : m.turns ≤ q.network.nodes = omega (arith, m.left_are_turns) in
      record { turns = m.turns; few = few; over = m.fewer (omega arith) }

  -- the figure of turns is the number of nodes that left
  pub turns_figure : (st : State) → length st.states ≡ q.network.nodes → (figures_in st.states).turns + in_state undecided st.states ≡ q.network.nodes
  unfolding figures_in
  turns_figure st e = omega (arith, count_opposite (eqb undecided) st.states)

-- at the end no walk is shorter than the best length
pub ended_least : {q : Query} {st : State} → Sound q → Invariant q st → ended q st ≡ true → (l : ℕ) → l < missing → WalkOfLength q l → st.best ≤ l
unfolding ended
ended_least {q} {st} sound inv h l b p =
    let o = inv.orderly in
    by_bool (is_none (candidate q start st))
    (λ a. best_least sound (inv.worth start) (none_left sound start o.tabled o.lifted a) l b p)
    (λ a. best_least sound (inv.worth end) (none_left sound end o.tabled o.lifted (rw a at h)) l b (walk_turned p))
