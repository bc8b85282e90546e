-- A turn of the definitions is a turn of the relation: the node is the choice, its arcs are looked at, the floor is the choice
-- after it, and the tests of step 4 are bars. Assumes nothing.
use Rattle.std.specs.Prelude.{◌≡◌, ◌≢◌, List, ℕ, ◌+◌, ◌≤◌, ◌<◌, eqb, ltb, ℤ, length}
use Rattle.std.proofs.Math.Path.{refl, ap}
use Rattle.std.proofs.Common.{sym, ◌∙◌, arith, eq-eqb, ne_eqb, ltb-true}
use Rattle.std.proofs.Math.Bool.{true, false}
use Rattle.std.proofs.Math.ListN.{get_or, set}
use Rattle.std.proofs.Math.Seq.{get_or-set_same, get_or-set_other}
use Rattle.network.specs.Network.{Side, other, arc_count, is_arc}
use Rattle.network.specs.Walk.{Step}
use Rattle.network.specs.Query.{Query, potentials}
use Rattle.network.specs.Given.{Sound}
use Rattle.network.specs.CaseSplit.{tests, cases, by_eq, by_bool, true≢false}
use Rattle.network.specs.Shift.{up, low}
use Rattle.network.specs.PotentialLaws.{shift}
use Rattle.nba.specs.State.{missing, no_node, State, half, label_of, state_of, undecided, opened_by, rejected_by}
use Rattle.nba.specs.Search.{Chosen, none, node, is_none, least_below, candidate, rejected, arcs_of, Reach, floor_after, half_after, after_reach, reach_of, rejecting}
use Rattle.nba.specs.Why.ByMark.{label_by_mark, opening_by_mark, takes_by_mark, turn_by_mark}
use Rattle.nba.specs.Why.Tabled.{Tabled}
use Rattle.nba.specs.Why.StateLaws.{both_sides, half_own, half_theirs, states_of, best_of, meeting_of}
use Rattle.nba.specs.Why.CodeLaws.{ReachLong}
use Rattle.nba.specs.Why.Measures.{potential, floor_of, FloorsLifted, LeastCandidate, TakenBy, Bar}
use Rattle.nba.specs.Why.MeasureLaws.{opened_some, taken_opened, taken_rejected, shiftable, over_step, rejected_bar, opened_no_bar}
use Rattle.nba.proofs.Why.LeastLaws.{Labelled, LeastAt, Choice, no_node_lem, least_node, choice_is, key_shifted, key_lifted}
use Rattle.nba.specs.Why.LookLaws.{From, old_label, new_label, Looked, label_elim, best_shorter, best_sum, look_below, looked_none, looked_keeping}
use Rattle.nba.specs.Why.CountLaws.{count_set}
use Rattle.nba.specs.Why.Moved.{Origin, was_there, came_from, Moved, Turned, turned_by}

-- ---- the best length and the meeting node, while arcs are looked at
-- the best length is at most the sum of the two labels of any node
pub record Meets (theirs : List ℕ) (r : Reach) : Type 0 where
  pub law : (y : ℕ) → r.best ≤ get_or r.labels y missing + get_or theirs y missing

-- where it is present it is their sum at the meeting node
pub record MeetsAt (theirs : List ℕ) (r : Reach) : Type 0 where
  pub law : r.best < missing → get_or r.labels r.meeting missing + get_or theirs r.meeting missing ≡ r.best

module _ (theirs : List ℕ) (u v l : ℕ) (r : Reach) (i : v < length r.labels) (j : v < length r.neighbours) where
  pub label_meets : Meets theirs r → Meets theirs (label_by_mark theirs u v l r)
  label_meets m =
      let b = (label_by_mark theirs u v l r).best in
      record {
        law = label_elim theirs u v l r i j (λ y x. b ≤ x + get_or theirs y missing) (best_sum theirs u v l r i j)
            (λ y d. omega (arith, best_shorter theirs u v l r i j, m.law y));
      }

  -- a label falls, so the best length too if it was the sum there
  label_meets_at : l < get_or r.labels v missing → Meets theirs r → MeetsAt theirs r → MeetsAt theirs (label_by_mark theirs u v l r)
  unfolding label_by_mark
  label_meets_at h m a =
      let o = label_by_mark theirs u v l r in
      let at_v : get_or o.labels v missing ≡ l = get_or-set_same r.labels v l missing i in
      let else : (y : ℕ) → y ≢ v → get_or o.labels y missing ≡ get_or r.labels y missing = λ y d. get_or-set_other r.labels v y l missing d in
      record {
        law = by_bool (ltb (l + get_or theirs v missing) r.best)
            (λ t c. rw t (omega (arith, at_v)))
            (λ t. rw t (λ c. let z = a.law c in by_eq r.meeting v
            (λ e. absurd (omega (arith, tests, ap (λ y. get_or r.labels y missing) e, ap (λ y. get_or theirs y missing) e)))
            (λ d. omega (arith, else r.meeting d))));
      }

-- ---- the floor after a turn
-- what holds of the old floor where there is no candidate, and of the least key where there is one, holds of the floor
floor_elim : {labels states : List ℕ} {p : List ℤ} {n : ℕ} {c : Chosen} (P : ℤ → Type 0) (old : ℤ)
    → (((v : ℕ) → v < n → Labelled labels states v → ⊥) → P old)
    → ((u : ℕ) (k : ℤ) → LeastAt labels states p n u k → P k)
    → Choice labels states p n c → P (floor_after old c)
floor_elim P old f g (no_node_lem h) = f h
floor_elim P old f g (least_node {u} {k} a) = g u k a

module _ {q : Query} {s : Side} {st : State} {u : ℕ} (sound : Sound q) (tab : Tabled q st) (lifted : FloorsLifted st) (ch : LeastCandidate q s st u) where
  -- u is left in state m, and looking at the arcs below k leaves r
  module _ (m : ℕ) (mine : TakenBy s m) (k : ℕ) (r : Reach) (look : Looked s q.network (set st.states u m) u (reach_of s st) k r)
      (full : m ≡ opened_by s → k ≡ arc_count q.network) (bare : m ≢ opened_by s → k ≡ 0) where
    u_in : u < length st.states
    u_in = omega (arith, tab.states_long, ch.inside)

    here : get_or (set st.states u m) u 0 ≡ m
    here = get_or-set_same st.states u m 0 u_in

    else : (y : ℕ) → y ≢ u → get_or (set st.states u m) y 0 ≡ state_of st y
    else y d = get_or-set_other st.states u y m 0 d

    was_free : (y : ℕ) → get_or (set st.states u m) y 0 ≡ undecided → state_of st y ≡ undecided
    was_free y z = by_eq y u (λ e. absurd (omega (arith, here, opened_some s, mine, ap (λ y. get_or (set st.states u m) y 0) e))) (λ d. sym (else y d) ∙ z)

    -- no candidate after the turn has a key below that of u
    above : (y : ℕ) → y < q.network.nodes → Labelled r.labels (set st.states u m) y
        → label_of s st u + potential q s u ≤ get_or r.labels y missing + potential q s y
    above y i h = go (look.origin y)
      where
        go : From s q.network (set st.states u m) u (reach_of s st) k y (get_or r.labels y missing) (get_or r.neighbours y no_node)
            → label_of s st u + potential q s u ≤ get_or r.labels y missing + potential q s y
        go (old_label e f) = omega (arith, ch.least y i (was_free y h.free) (omega (arith, h.labelled)))
        go (new_label a b z e l f) = omega (arith, over_step sound s a)

    choice_after : Choice r.labels (set st.states u m) (potentials s q) q.network.nodes (least_below r.labels (set st.states u m) (potentials s q) q.network.nodes)
    choice_after = choice_is (shiftable sound s) r.labels (set st.states u m) q.network.nodes

    new_floor : ℤ
    new_floor = floor_after (half s st).floor (least_below r.labels (set st.states u m) (potentials s q) q.network.nodes)

    key_of : {v : ℕ} {c : ℤ} → LeastAt r.labels (set st.states u m) (potentials s q) q.network.nodes v c → up shift c ≡ get_or r.labels v missing + potential q s v
    key_of {v} a = ap (up shift) a.is_key ∙ key_shifted (shiftable sound s) r.labels v

    new_floor_low : (v : ℕ) → v < q.network.nodes → Labelled r.labels (set st.states u m) v → up shift new_floor ≤ get_or r.labels v missing + potential q s v
    unfolding new_floor
    new_floor_low v i h =
        floor_elim (λ z. up shift z ≤ get_or r.labels v missing + potential q s v) (half s st).floor
        (λ no. absurd (no v i h)) (λ x c a. omega (arith, key_of a, a.least v i h)) choice_after

    new_floor_high : (v : ℕ) → v < q.network.nodes → Labelled r.labels (set st.states u m) v → label_of s st u + potential q s u ≤ up shift new_floor
    unfolding new_floor
    new_floor_high v i h =
        floor_elim (λ z. label_of s st u + potential q s u ≤ up shift z) (half s st).floor
        (λ no. absurd (no v i h)) (λ v c a. omega (arith, key_of a, above v a.inside a.here)) choice_after

    new_floor_rises : floor_of s st ≤ label_of s st u + potential q s u → floor_of s st ≤ up shift new_floor
    unfolding new_floor
    new_floor_rises h =
        floor_elim (λ z. floor_of s st ≤ up shift z) (half s st).floor
        (λ no. omega arith) (λ v c a. omega (arith, key_of a, above v a.inside a.here)) choice_after

    new_floor_lifted : low new_floor ≤ shift
    unfolding new_floor
    new_floor_lifted =
        floor_elim (λ z. low z ≤ shift) (half s st).floor
        (λ no. lifted.lifted s) (λ v c a. rw a.is_key (key_lifted (shiftable sound s) r.labels v)) choice_after

    pub after_lifted : FloorsLifted (after_reach q s st (set st.states u m) r)
    unfolding after_reach half_after new_floor
    after_lifted = record { lifted = both_sides _ s (rw half_own new_floor_lifted) (rw half_theirs (lifted.lifted (other s))) }

    -- the far node of every arc of u, if u is opened
    reached_all : m ≡ opened_by s → {y w : ℕ} → Step s q.network u y w → get_or (set st.states u m) y 0 ≡ undecided → get_or r.labels y missing ≤ label_of s st u + w
    unfolding is_arc
    reached_all o {y} {w} e z =
        let i : e.arc < k = omega (arith, full o, ltb-true e.arc (arc_count q.network) e.is_arc_lem) in
        let h = look.done e.arc i e.is_arc_lem e.from (rw (sym e.to) at z) in
        rw (e.to, e.weighs) at h

    origin_of : (y l x : ℕ) → get_or r.labels y missing ≡ l → From s q.network (set st.states u m) u (reach_of s st) k y l x
        → Origin q s st u m (after_reach q s st (set st.states u m) r) y l x
    unfolding after_reach
    origin_of y l x c (old_label e f) = was_there e f
    origin_of y l x c (new_label {w} a b z e h f) =
        let o : m ≡ opened_by s = by_eq m (opened_by s) (λ o. o) (λ d. absurd (omega (arith, bare d))) in
        came_from a (λ x b. omega (arith, reached_all o b z)) o (rw states_of z) e h f

    settled : (m ≢ opened_by s → Bar q s st u (label_of s st u)) → (m ≡ opened_by s → Bar q s st u (label_of s st u) → ⊥)
        → (Meets (half (other s) st).labels (reach_of s st) → Meets (half (other s) st).labels r)
        → (Meets (half (other s) st).labels (reach_of s st) → MeetsAt (half (other s) st).labels (reach_of s st) → MeetsAt (half (other s) st).labels r)
        → Moved q s st u m (after_reach q s st (set st.states u m) r)
    unfolding after_reach half_after new_floor
    settled why why_not meets met = record {
      chosen = ch;
      taken = mine;
      now = rw states_of here;
      others = λ y d. rw states_of (else y d);
      fewer = rw states_of (count_set (eqb undecided) st.states u m 0 u_in (eq-eqb undecided (state_of st u) (sym ch.free)) (ne_eqb undecided m (λ e. omega (arith, opened_some s, mine))));
      theirs = rw half_theirs;
      lower = λ y. rw half_own (look.lower y);
      fixed = λ y d. rw half_own (look.fixed y (rw states_of at d));
      origin = λ y. rw half_own (origin_of y (get_or r.labels y missing) (get_or r.neighbours y no_node) refl (look.origin y));
      reached = λ o {y} {w} e z. rw half_own (reached_all o e (rw states_of at z));
      shorter = rw best_of look.shorter;
      meets = λ f y. rw (best_of, half_own, half_theirs) ((meets (record { law = f })).law y);
      met = λ f g h. record { sum = rw (best_of, half_own, half_theirs, meeting_of) ((met (record { law = f }) (record { law = λ b. (g b).sum })).law (rw best_of at h)) };
      floor_low = λ v i z h. rw half_own (new_floor_low v i (record { free = rw states_of at z; labelled = rw half_own at h }));
      floor_high = λ v i z h. rw half_own (new_floor_high v i (record { free = rw states_of at z; labelled = rw half_own at h }));
      floor_rises = λ h. rw half_own (new_floor_rises h);
      why = why;
      why_not = why_not;
    }

-- ---- the turn
-- a turn of the relation, after which the floors are lifted too
pub record Turn (q : Query) (s : Side) (st st' : State) : Type 0 where
  pub turned : Turned q s st st'
  pub lifted : FloorsLifted st'

module _ {q : Query} {st : State} (sound : Sound q) (s : Side) (tab : Tabled q st) (lifted : FloorsLifted st) where
  least_candidate : {u : ℕ} {k : ℤ} → LeastAt (half s st).labels st.states (potentials s q) q.network.nodes u k → LeastCandidate q s st u
  least_candidate a = record {
    inside = a.inside;
    free = a.here.free;
    labelled = a.here.labelled;
    least = λ v i z h. a.least v i (record { free = z; labelled = h });
  }

  rejecting_turns : {u : ℕ} → LeastCandidate q s st u → rejected q s st u ≡ true → Turn q s st (rejecting q s u st)
  unfolding rejecting
  rejecting_turns {u} ch h =
      let m = rejected_by s in
      let mine = taken_rejected s {m = m} refl in
      let look : Looked s q.network (set st.states u m) u (reach_of s st) 0 (reach_of s st) = looked_none in
      let d : m ≢ opened_by s = λ e. omega arith in
      record {
        turned = turned_by (settled sound tab lifted ch m mine 0 (reach_of s st) look (λ e. absurd (d e)) (λ e. refl)
            (λ e. rejected_bar sound s lifted u h) (λ e. absurd (d e)) (λ f. f) (λ f g. g));
        lifted = after_lifted sound tab lifted ch m mine 0 (reach_of s st) look (λ e. absurd (d e)) (λ e. refl);
      }

  opening_turns : {u : ℕ} → LeastCandidate q s st u → rejected q s st u ≡ false → Turn q s st (opening_by_mark q s u st)
  unfolding opening_by_mark look_below arcs_of is_arc
  opening_turns {u} ch h =
      let m = opened_by s in
      let g = q.network in
      let k = arc_count g in
      let theirs = (half (other s) st).labels in
      let states = set st.states u m in
      let mine = taken_opened s {m = m} refl in
      let gone : get_or states u 0 ≢ undecided = λ z. omega (arith, get_or-set_same st.states u m 0 (omega (arith, tab.states_long, ch.inside)), opened_some s) in
      let long : ReachLong g.nodes (reach_of s st) = record { labels_long = tab.labels_long s; neighbours_long = tab.neighbours_long s } in
      let a = looked_keeping s g theirs states u g.nodes (reach_of s st) gone long (λ e t. sound.ends_in (other s) e (ltb-true e k t))
      (λ o. Meets theirs (reach_of s st) → Meets theirs o × (MeetsAt theirs (reach_of s st) → MeetsAt theirs o)) (λ f. (f, λ z. z))
      (λ v l o i j b p f. (label_meets theirs u v l o i j (p f).0, λ z. label_meets_at theirs u v l o i j b (p f).0 ((p f).1 z))) k in
      let r = look_below s g theirs states u k (reach_of s st) in
      record {
        turned = turned_by (settled sound tab lifted ch m mine k r a.0 (λ e. refl) (λ d. absurd (d refl))
            (λ d. absurd (d refl)) (λ e. opened_no_bar sound s lifted u h) (λ f. (a.1.1 f).0) (λ f. (a.1.1 f).1));
        lifted = after_lifted sound tab lifted ch m mine k r a.0 (λ e. refl) (λ d. absurd (d refl));
      }

  takes_turns : (c : Chosen) → Choice (half s st).labels st.states (potentials s q) q.network.nodes c → is_none c ≡ false → Turn q s st (takes_by_mark q s c st)
  takes_turns none a h = absurd (true≢false refl h)
  takes_turns (node u k) (least_node a) h =
      let ch = least_candidate a in
      cases (Turn q s st) (rejected q s st u) (λ t. rejecting_turns ch t) (λ t. opening_turns ch t)

  -- a side that has a candidate turns
  pub turn_turns : is_none (candidate q s st) ≡ false → Turn q s st (turn_by_mark q s st)
  unfolding turn_by_mark candidate
  turn_turns h = takes_turns (candidate q s st) (choice_is (shiftable sound s) (half s st).labels st.states q.network.nodes) h

  -- a side that has none has no labelled undecided node
  pub none_left : is_none (candidate q s st) ≡ true → (v : ℕ) → v < q.network.nodes → state_of st v ≡ undecided → label_of s st v < missing → ⊥
  unfolding candidate
  none_left h v i z l = go (candidate q s st) (choice_is (shiftable sound s) (half s st).labels st.states q.network.nodes) h
    where
      go : (c : Chosen) → Choice (half s st).labels st.states (potentials s q) q.network.nodes c → is_none c ≡ true → ⊥
      go none (no_node_lem f) h = f v i (record { free = z; labelled = l })
      go (node u k) (least_node a) h = true≢false h refl

  -- a side that has one has the least
  pub some_candidate : is_none (candidate q s st) ≡ false → (P : Type 0) → ((u : ℕ) → LeastCandidate q s st u → P) → P
  unfolding candidate
  some_candidate h P f = go (candidate q s st) (choice_is (shiftable sound s) (half s st).labels st.states q.network.nodes) h
    where
      go : (c : Chosen) → Choice (half s st).labels st.states (potentials s q) q.network.nodes c → is_none c ≡ false → P
      go none a h = absurd (true≢false refl h)
      go (node u k) (least_node a) h = f u (least_candidate a)
