-- Demands 2 and 3, of every sound query and every turn pattern. Each is read off the invariant and the state at a cap, the end
-- among them. Assumes nothing.
use Rattle.std.specs.Prelude.{◌≡◌, refl, ◌≢◌, true, false, List, ℕ, zero, suc, ◌+◌, ◌≤◌, ◌<◌, pos, length, get_or}
use Rattle.std.proofs.Common.{sym, ap, ◌∙◌, arith, le_refl, ltb-true, le-leb}
use Rattle.std.proofs.Math.ListN.{get_or-eq_default}
use Rattle.std.specs.Int.Signed.{le_z}
use Rattle.network.specs.declared.Figures.{Figures}
use Rattle.network.specs.declared.Answer.TheVariants.{Route}
use Rattle.network.specs.Network.{Side, start, end}
use Rattle.network.specs.Walk.{Walk}
use Rattle.network.specs.WalkLaws.{walk_is, walk_turned}
use Rattle.network.specs.Potential.{potential_at}
use Rattle.network.specs.Query.{Query, potentials, source}
use Rattle.network.specs.Given.{Sound}
use Rattle.network.specs.CaseSplit.{by_eq, by_lt}
use Rattle.network.specs.Shift.{up, low_mag, up_within}
use Rattle.network.specs.PotentialLaws.{shift, shifted}
use Rattle.nba.specs.State.{missing, present, State, half, label_of, neighbour_of, state_of, opened_by}
use Rattle.nba.specs.Search.{key_of, target, ended, bound_by_target, rejected, after_turns, at_once, state_at, end_state}
use Rattle.nba.specs.Why.ByMark.{after_turns_by_mark}
use Rattle.nba.specs.Result.{figures_in, found}
use Rattle.nba.specs.Demands.{WalkOfLength, Demand2Found, Demand3Turns, Demand3Opened, Demand3Bound, with_pattern, SameLengthAndVerdict, both_routes, both_none, BelowTheMark, path_at, Demand3TurnsAt}
use Rattle.nba.specs.Why.Fits.{EntriesFit, FiguresFit, PathFits}
use Rattle.nba.specs.Why.Measures.{potential}
use Rattle.nba.specs.Why.MeasureLaws.{opened_some, taken_opened, shiftable}
use Rattle.nba.proofs.Why.LeastLaws.{key_lifted, key_shifted}
use Rattle.nba.specs.Why.CodeLaws.{stays_ended_by_mark}
use Rattle.nba.specs.Why.CountLaws.{count_left}
use Rattle.nba.specs.Why.BeginningLaws.{at_once_begun, begun_undecided}
use Rattle.nba.specs.Why.Trails.{label_small}
use Rattle.nba.specs.Why.TrailLaws.{follows_inside}
use Rattle.nba.specs.Why.PathLaws.{Every, of_none, of_more, joined_is, joined_walk}
use Rattle.nba.specs.Why.ShortWalk.{walk_beside, none_twice_short, joined_inside, joined_some}
use Rattle.nba.specs.Why.Invariant.{Orderly, Invariant}
use Rattle.nba.proofs.Why.RunLaws.{made, turns_figure, orderly, invariant, turn_leaves, left_once}
use Rattle.nba.proofs.Why.ByMarkLaws.{same_search, same_at}
use Rattle.nba.proofs.Why.EndLaws.{over_searched, over_at_end, RouteRead, route_read, no_route_read, route_answered, no_route_answered, by_start, at_cap, least_at_end, path_real, path_once}

-- ---- demand 2
module _ {q : Query} (sound : Sound q) where
  -- the best length at the end, where it is present, is the length of a walk
  walk_of_answer : (end_state q).best < missing → WalkOfLength q (end_state q).best
  walk_of_answer h = joined_walk (path_real ((at_cap sound q.network.nodes).meeting h))

  read : {l n : ℕ} {f : Figures} → found q ≡ Route l n f → RouteRead q (end_state q) l n
  unfolding found
  read {l} {n} {f} e = route_read q (end_state q) l n f e

  pub demand_2 : Demand2Found q
  unfolding found
  demand_2 =
      let a = at_cap sound q.network.nodes in
      let least = least_at_end sound in
      record {
        real = λ {l} {n} {f} e. let r = read e in joined_is r.length_is (path_real (a.meeting r.here));
        none_twice = λ {l} {n} {f} e. path_once (a.meeting (read e).here);
        shortest = λ {l} {n} {f} e m p. omega (arith, least m p, (read e).length_is);
        no_walk = λ {f} e m p.
            let r = walk_beside sound (sound.source_in start) p in
            omega (arith, no_route_read q (end_state q) f e, least r.total r.walk, r.small);
        no_route = λ none. no_route_answered q (end_state q)
            (by_lt (end_state q).best missing (λ h. absurd (none (end_state q).best (walk_of_answer h))) (λ h. h));
        largest = λ {l} {n} {f} e.
            let r = read e in
            let b = walk_beside sound (sound.source_in start) (walk_of_answer r.here) in
            omega (arith, least b.total b.walk, b.small, r.length_is);
      }

-- ---- demand 3
-- at every cap: the turns made are at most the cap and at most the nodes, and each node leaves once
module _ {q : Query} (sound : Sound q) (d : q.start ≢ q.end) where
  pub demand_3_turns_at : (cap : ℕ) → Demand3TurnsAt q cap (figures_in (state_at q cap).states).turns
  demand_3_turns_at cap =
      let m = made sound cap in
      let same = same_search sound d in
      let t = m.turns in
      let there : after_turns_by_mark q cap ≡ after_turns_by_mark q t = by_lt t cap (λ l. stays_ended_by_mark q t cap (m.fewer l) (omega arith)) (λ l. let e : cap ≡ t = omega (arith, m.within_cap) in ap (after_turns_by_mark q) e) in
      let at = same_at sound d cap ∙ there in
      let turns : (figures_in (state_at q cap).states).turns ≡ t = ap (λ (st : State). (figures_in st.states).turns) at ∙ omega (arith, turns_figure sound (after_turns_by_mark q t) (orderly sound t).tabled.states_long, m.left_are_turns) in
      rw turns (record {
        within_cap = m.within_cap;
        few = omega (arith, m.left_are_turns);
        going = λ i l. rw (same i) (m.going i l);
        one_leaves = λ i l. rw (same i, same (suc i)) (turn_leaves sound i (m.going i l));
        at_cap = at ∙ sym (same t);
        fewer = λ l. rw (same t) (m.fewer l);
        once = λ v i j. rw (same i, same j) (left_once sound v i j);
      })

  -- at as many turns as there are nodes the search has ended
  pub demand_3_turns : Demand3Turns q (figures_in (end_state q).states).turns
  demand_3_turns =
      let a = demand_3_turns_at q.network.nodes in
      record {
        few = a.few;
        going = a.going;
        one_leaves = a.one_leaves;
        over = ap (ended q) (sym a.at_cap) ∙ sym (over_searched sound d (end_state q)) ∙ over_at_end sound;
        at_end = a.at_cap;
        once = a.once;
      }

-- a walk from start to end, as a walk of a side from its source to its target
walk_of_side : (q : Query) {l : ℕ} (s : Side) → WalkOfLength q l → Walk s q.network (source s q) (target q s) l
walk_of_side q start p = p
walk_of_side q end p = walk_turned p

-- the bound in signed numbers
signed_bound : {q : Query} → Sound q → (s : Side) (st : State) (v l : ℕ) → label_of s st v + potential q s v ≤ l + potential q s (target q s)
    → le_z (bound_by_target q s st v) (pos l) ≡ true
unfolding shifted
signed_bound {q} sound s st v l h =
    let labels = (half s st).labels in
    let p = potentials s q in
    let t = potential_at p (target q s) in
    let k = key_of labels p v in
    up_within shift l k t (key_lifted (shiftable sound s) labels v) (low_mag shift t ((shiftable sound s).fits (target q s)))
    ∙ le-leb (up shift k) (l + up shift t) (omega (arith, key_shifted (shiftable sound s) labels v))

opened_right : {q : Query} {st : State} → Sound q → Invariant q st → Demand3Opened q st
opened_right {q} {st} sound inv = record {
  reached = λ s v o. (inv.worth s).walk v ((inv.settled s).known v (taken_opened s o));
  nearest = λ s v o. (inv.exact s).nearest v o;
  bound = λ s v o l p.
      let r = walk_beside sound (sound.source_in s) (walk_of_side q s p) in
      signed_bound sound s st v l (omega (arith, r.no_longer, (inv.exact s).bound v o r.total (omega (arith, r.small)) r.walk));
}

-- a node opened from a side carries its exact distance and keeps the bound: before every turn, and at every cap
pub demand_3_opened : {q : Query} → Sound q → q.start ≢ q.end → (i : ℕ) → Demand3Opened q (after_turns q i)
demand_3_opened sound d i = rw (same_search sound d i) (opened_right sound (invariant sound d i))

pub demand_3_opened_at : {q : Query} → Sound q → (cap : ℕ) → Demand3Opened q (state_at q cap)
demand_3_opened_at {q} sound cap =
    by_start sound (Demand3Opened q) cap
    (λ e. let none : (s : Side) (v : ℕ) → state_of (at_once q) v ≡ opened_by s → ⊥ = λ s v o. omega (arith, begun_undecided (at_once_begun q) v, opened_some s) in
    record { reached = λ s v o. absurd (none s v o); nearest = λ s v o. absurd (none s v o); bound = λ s v o. absurd (none s v o) })
    (λ d. opened_right sound (invariant sound d cap))

-- the bound against the length answered
pub demand_3_bound : {q : Query} → Sound q → Demand3Bound q
demand_3_bound {q} sound = record {
  bound = λ {l} {n} {f} e s v o.
      let r = read sound e in
      (demand_3_opened_at sound q.network.nodes).bound s v o l (walk_is r.length_is (walk_of_answer sound r.here));
}

-- length and verdict are the same for every pattern
pub demand_3_same : {q : Query} (p : List ℕ) → Sound q → Sound (with_pattern p q) → SameLengthAndVerdict (found q) (found (with_pattern p q))
unfolding found
demand_3_same {q} p sound sound' =
    let q' = with_pattern p q in
    let b = (end_state q).best in
    let b' = (end_state q').best in
    by_lt b missing
    (λ h. let i = least_at_end sound' b (walk_of_answer sound h) in
    let h' : b' < missing = omega arith in
    let j = least_at_end sound b' (walk_of_answer sound' h') in
    let e : b ≡ b' = omega arith in
    rw (route_answered q (end_state q) h, route_answered q' (end_state q') h', e) both_routes)
    (λ h. let h' : missing ≤ b' = by_lt b' missing (λ h'. omega (arith, least_at_end sound b' (walk_of_answer sound' h'))) (λ k. k) in
    rw (no_route_answered q (end_state q) h, no_route_answered q' (end_state q') h') both_none)

-- ---- with no best length, nothing is rejected
-- whatever labels, potentials and floor are: no number stands for a missing best length in the tests of step 4
pub without_best_none_rejected : (q : Query) (s : Side) (st : State) (u : ℕ) → present st.best ≡ false → rejected q s st u ≡ false
unfolding rejected
without_best_none_rejected q s st u h = rw h

-- ---- entries, figures and path
-- a node with a label is a node of the network
labelled_inside : {q : Query} {st : State} → Orderly q st → (s : Side) (v : ℕ) → label_of s st v < missing → v < q.network.nodes
labelled_inside {q} {st} o s v h =
    by_lt v q.network.nodes (λ i. i)
    (λ i. absurd (omega (arith, get_or-eq_default (half s st).labels missing {n = v} (omega (arith, o.tabled.labels_long s)))))

labels_below : {q : Query} {st : State} → Sound q → Orderly q st → BelowTheMark q st
labels_below sound o = record {
  label_small = λ s v h. let i = ltb-true _ missing h in label_small sound o.tabled (o.trails s) v (labelled_inside o s v i) i;
  sums_small = omega arith;
}

entries_fit : {q : Query} {st : State} → Sound q → Orderly q st → EntriesFit q st
entries_fit {q} {st} sound o = record {
  labels_fit = λ s v. (o.trails s).most v;
  best_fits = o.top;
  neighbours_fit = λ s v d. by_lt (label_of s st v) missing
      (λ h. let a = (o.trails s).trails v h in by_eq v (source s q)
      (λ e. absurd (d (ap (neighbour_of s st) e ∙ (o.trails s).home_blank)))
      (λ f. follows_inside sound (record { arcs = a.arcs; enough = le_refl a.arcs; has = a.trail }) f))
      (λ h. absurd (d ((o.trails s).blank v h)));
  states_fit = o.few;
}

-- labels stay below the missing mark, and every entry fits: before every turn, and at every cap
pub below_the_mark : {q : Query} → Sound q → q.start ≢ q.end → (i : ℕ) → BelowTheMark q (after_turns q i)
below_the_mark sound d i = rw (same_search sound d i) (labels_below sound (orderly sound i))

pub below_the_mark_at : {q : Query} → Sound q → (cap : ℕ) → BelowTheMark q (state_at q cap)
below_the_mark_at sound cap = labels_below sound (at_cap sound cap).orderly

pub entries_small : {q : Query} → Sound q → q.start ≢ q.end → (i : ℕ) → EntriesFit q (after_turns q i)
entries_small sound d i = rw (same_search sound d i) (entries_fit sound (orderly sound i))

pub entries_small_at : {q : Query} → Sound q → (cap : ℕ) → EntriesFit q (state_at q cap)
entries_small_at sound cap = entries_fit sound (at_cap sound cap).orderly

figures_fit : {q : Query} {st : State} → Sound q → Orderly q st → FiguresFit q (figures_in st.states)
unfolding figures_in
figures_fit {q} {st} sound o = record {
  adds_up = count_left st.states o.few;
  few_turns = omega (arith, turns_figure sound st o.tabled.states_long);
}

pub figures : {q : Query} → Sound q → q.start ≢ q.end → (i : ℕ) → FiguresFit q (figures_in (after_turns q i).states)
figures sound d i = rw (same_search sound d i) (figures_fit sound (orderly sound i))

pub figures_at : {q : Query} → Sound q → (cap : ℕ) → FiguresFit q (figures_in (state_at q cap).states)
figures_at sound cap = figures_fit sound (at_cap sound cap).orderly

every_at : {P : ℕ → Type 0} {l : List ℕ} → Every P l → (i : ℕ) → i < length l → P (get_or l i 0)
every_at of_none i h = absurd (omega arith)
every_at (of_more p e) zero h = p
every_at (of_more p e) (suc i) h = every_at e i (omega arith)

-- the path through the meeting node has at least one node and no more than there are, all of them nodes: at every cap
pub path_fits_at : {q : Query} → Sound q → (cap : ℕ) → (state_at q cap).best < missing → PathFits q cap (length (path_at q cap))
path_fits_at {q} sound cap h =
    let m = (at_cap sound cap).meeting h in
    let j = path_real m in
    let i = joined_inside sound j (sound.source_in start) in
    record {
      long = refl;
      some = joined_some j;
      few = none_twice_short (path_once m) i;
      inside = λ k l. every_at i k l;
    }
