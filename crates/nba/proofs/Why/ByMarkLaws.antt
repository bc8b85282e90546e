-- The search by marks is the search. Labels stay below the missing mark, and the best length is at most the sum of any node's
-- labels; so comparing with a mark, and only where a label falls, decides what step 5 asks in words. Assumes nothing.
use Rattle.std.specs.Prelude.{◌≡◌, ◌≢◌, Bool, true, false, cond, not, ◌&&◌, ◌||◌, List, ◌++◌, eqb, ltb}
use Rattle.std.proofs.Math.Path.{refl, ap}
use Rattle.std.proofs.Common.{sym, ◌∙◌, arith, ℕ, zero, suc, ◌+◌, ◌≤◌, ◌<◌, lt-ltb, le-ltb, ltb-true, eqb-true, ne_eqb}
use Rattle.std.proofs.Math.ListN.{length, get_or, set}
use Rattle.std.proofs.Math.Seq.{get_or-set_same}
use Rattle.network.specs.Network.{Side, other, Network, most_weight, arc_count, near, far, weight, is_arc}
use Rattle.network.specs.Query.{Query, side_of_turn}
use Rattle.network.specs.Given.{Sound}
use Rattle.network.specs.CaseSplit.{cases2, by_bool, by_lt}
use Rattle.nba.specs.State.{missing, present, State, half, label_of, state_of, undecided, opened_by}
use Rattle.nba.specs.Search.{Chosen, none, node, candidate, ended, rejected, arcs_below, arcs_of, Reach, with_label, with_meeting, look_at, look_at_each, after_reach, rejecting, opening, takes, turn, turn_unless_ended, after_turns, state_at}
use Rattle.nba.specs.Why.ByMark.{label_by_mark, look_by_mark, look_each_by_mark, opening_by_mark, takes_by_mark, turn_by_mark, after_turns_by_mark}
use Rattle.nba.specs.Demands.{most_length}
use Rattle.nba.specs.Why.CodeLaws.{ReachLong, label_long, searched_at}
use Rattle.nba.specs.Why.MeasureLaws.{opened_some, shiftable}
use Rattle.nba.proofs.Why.LeastLaws.{least_at}
use Rattle.nba.specs.Why.LookLaws.{label_elim, best_shorter}
use Rattle.nba.proofs.Why.TurnLaws.{Meets, label_meets}
use Rattle.nba.specs.Why.PathLaws.{Every, of_none, of_more}
use Rattle.nba.specs.Why.Trails.{label_small}
use Rattle.nba.specs.Why.Ways.{walk_inside}
use Rattle.nba.specs.Why.Invariant.{Invariant}
use Rattle.nba.proofs.Why.RunLaws.{invariant}

-- ---- the tests
-- a best length that is missing, or more than l: l is less than it, or than its mark
missing_or_more : (l b : ℕ) → l < missing → (not (present b) || ltb l b) ≡ ltb l b
missing_or_more l b h = by_lt b missing (λ i. rw (lt-ltb b missing i)) (λ i. rw (le-ltb b missing i) (sym (lt-ltb l b (omega arith))))

-- less than the label, or no label: less than the mark too
less_or_none : (l a : ℕ) → l < missing → (ltb l a || not (present a)) ≡ ltb l a
less_or_none l a h =
    by_lt a missing
    (λ i. rw (lt-ltb a missing i) (by_bool (ltb l a) (λ t. rw t) (λ t. rw t)))
    (λ i. rw (le-ltb a missing i, lt-ltb l a (omega arith)))

-- both labels, and the best length missing or more than the sum: the sum is less than the best length, or than its mark
meeting_test : (l o b : ℕ) → l < missing → b ≤ missing → (o < missing → l + o < missing)
    → ((present l && present o) && (not (present b) || ltb (l + o) b)) ≡ ltb (l + o) b
meeting_test l o b h t f = rw (lt-ltb l missing h) (by_lt o missing
    (λ i. rw (lt-ltb o missing i) (missing_or_more (l + o) b (f i)))
    (λ i. rw (le-ltb o missing i) (sym (le-ltb (l + o) b (omega arith)))))

-- where no sum is shorter, nothing meets
meeting_idle : (a o b : ℕ) → b ≤ a + o → b ≤ missing → (a < missing → o < missing → a + o < missing)
    → ((present a && present o) && (not (present b) || ltb (a + o) b)) ≡ false
meeting_idle a o b h t f = by_lt a missing
    (λ i. by_lt o missing (λ j. meeting_test a o b i t (f i) ∙ le-ltb (a + o) b h) (λ j. rw (lt-ltb a missing i, le-ltb o missing j)))
    (λ i. rw (le-ltb a missing i))

-- ---- one arc
-- what makes the two alike at far node v with new label l
record Alike (theirs : List ℕ) (v l : ℕ) (r : Reach) : Type 0 where
  inside : v < length r.labels
  below : l < missing
  top : r.best ≤ missing
  sum : get_or theirs v missing < missing → l + get_or theirs v missing < missing
  old_sum : get_or r.labels v missing < missing → get_or theirs v missing < missing → get_or r.labels v missing + get_or theirs v missing < missing
  meets : r.best ≤ get_or r.labels v missing + get_or theirs v missing

-- a label that falls
same_falling : {theirs : List ℕ} {v l : ℕ} {r : Reach} (u : ℕ) → Alike theirs v l r → ltb l (get_or r.labels v missing) ≡ true
    → with_meeting theirs v (with_label u v l r) ≡ label_by_mark theirs u v l r
unfolding with_meeting with_label label_by_mark
same_falling {theirs} {v} {l} {r} u z t =
    let o = get_or theirs v missing in
    rw (less_or_none l (get_or r.labels v missing) z.below, t, get_or-set_same r.labels v l missing z.inside, meeting_test l o r.best z.below z.top z.sum)
    (by_bool (ltb (l + o) r.best) (λ h. rw h) (λ h. rw h))

-- a label that stays
same_kept : {theirs : List ℕ} {v l : ℕ} {r : Reach} (u : ℕ) → Alike theirs v l r → ltb l (get_or r.labels v missing) ≡ false
    → with_meeting theirs v (with_label u v l r) ≡ r
unfolding with_meeting with_label
same_kept {theirs} {v} {l} {r} u z t =
    rw (less_or_none l (get_or r.labels v missing) z.below, t, meeting_idle (get_or r.labels v missing) (get_or theirs v missing) r.best z.meets z.top z.old_sum)

one_test : {A : Type 0} (a b : Bool) {x y z : A} → (b ≡ true → x ≡ y) → (b ≡ false → x ≡ z) → cond a x z ≡ cond (a && b) y z
one_test true true f g = f refl
one_test true false f g = g refl
one_test false b f g = refl

same_look : (s : Side) (g : Network) (theirs states : List ℕ) (u a : ℕ) (r : Reach) → Alike theirs (far s g a) (get_or r.labels u missing + weight g a) r
    → look_at s g theirs states u a r ≡ look_by_mark s g theirs states u a r
unfolding look_at look_by_mark
same_look s g theirs states u a r z =
    one_test (eqb (get_or states (far s g a) 0) undecided) (ltb (get_or r.labels u missing + weight g a) (get_or r.labels (far s g a) missing))
    (same_falling u z) (same_kept u z)

-- ---- all arcs of a node
every_append : {P : ℕ → Type 0} {a b : List ℕ} → Every P a → Every P b → Every P (a ++ b)
every_append of_none f = f
every_append (of_more p e) f = of_more p (every_append e f)

-- the arcs of a node are arcs
arcs_below_lem : (s : Side) (g : Network) (u k : ℕ) → Every (λ a. is_arc g a ≡ true) (arcs_below s g u k)
unfolding arcs_below
arcs_below_lem s g u zero = of_none
arcs_below_lem s g u (suc k) =
    every_append (arcs_below_lem s g u k)
    (cases2 (Every (λ a. is_arc g a ≡ true)) (is_arc g k) (eqb (near s g k) u) (λ a b. of_more a of_none) (λ h. of_none))

module _ (s : Side) (g : Network) (theirs states : List ℕ) (u n x : ℕ) (gone : get_or states u 0 ≢ undecided) (x_small : x ≤ most_length)
    (light : (a : ℕ) → weight g a ≤ most_weight) (ends : (a : ℕ) → is_arc g a ≡ true → far s g a < n)
    (theirs_small : (y : ℕ) → get_or theirs y missing < missing → get_or theirs y missing ≤ most_length) where
  -- what holds while the arcs of u, whose label is x, are looked at
  record Steady (r : Reach) : Type 0 where
    long : ReachLong n r
    meets : Meets theirs r
    top : r.best ≤ missing
    label : get_or r.labels u missing ≡ x
    small : (y : ℕ) → get_or r.labels y missing < missing → get_or r.labels y missing ≤ most_length + most_weight

  steady_alike : (a : ℕ) {r : Reach} → is_arc g a ≡ true → Steady r → Alike theirs (far s g a) (get_or r.labels u missing + weight g a) r
  steady_alike a {r} t z =
      let v = far s g a in
      let w = light a in
      let e = z.label in
      record {
        inside = omega (arith, ends a t, z.long.labels_long);
        below = omega arith;
        top = z.top;
        sum = λ h. omega (arith, theirs_small v h);
        old_sum = λ h k. omega (arith, z.small v h, theirs_small v k);
        meets = z.meets.law v;
      }

  steady_look : (a : ℕ) {r : Reach} → is_arc g a ≡ true → Steady r → Steady (look_by_mark s g theirs states u a r)
  unfolding look_by_mark
  steady_look a {r} t z =
      let v = far s g a in
      let l = get_or r.labels u missing + weight g a in
      let w = light a in
      let e = z.label in
      let i : v < length r.labels = omega (arith, ends a t, z.long.labels_long) in
      let j : v < length r.neighbours = omega (arith, ends a t, z.long.neighbours_long) in
      cases2 Steady (eqb (get_or states v 0) undecided) (ltb l (get_or r.labels v missing))
      (λ f h. record {
        long = label_long theirs u v l r z.long;
        meets = label_meets theirs u v l r i j z.meets;
        top = omega (arith, best_shorter theirs u v l r i j, z.top);
        label = label_elim theirs u v l r i j (λ y k. y ≡ u → k ≡ x) (λ p. absurd (gone (ap (λ y. get_or states y 0) (sym p) ∙ eqb-true (get_or states v 0) undecided f)))
            (λ y d p. ap (λ y. get_or r.labels y missing) p ∙ e) u refl;
        small = label_elim theirs u v l r i j (λ y k. k < missing → k ≤ most_length + most_weight) (λ h. omega arith) (λ y d. z.small y);
      })
      (λ h. z)

  same_each : {arcs : List ℕ} {r : Reach} → Every (λ a. is_arc g a ≡ true) arcs → Steady r
      → look_at_each s g theirs states u arcs r ≡ look_each_by_mark s g theirs states u arcs r
  unfolding look_at_each look_each_by_mark
  same_each of_none z = refl
  same_each {r = r} (of_more {x = a} {l} t e) z =
      ap (look_at_each s g theirs states u l) (same_look s g theirs states u a r (steady_alike a t z)) ∙ same_each e (steady_look a t z)

-- ---- a turn, and the search
module _ {q : Query} (sound : Sound q) where
  same_opening : (s : Side) {st : State} (u : ℕ) → Invariant q st → state_of st u ≡ undecided → u < q.network.nodes → label_of s st u < missing
      → opening q s u st ≡ opening_by_mark q s u st
  unfolding opening opening_by_mark is_arc arcs_of
  same_opening s {st} u inv f i h =
      let g = q.network in
      let o = inv.orderly in
      let theirs = (half (other s) st).labels in
      let states = set st.states u (opened_by s) in
      let gone : get_or states u 0 ≢ undecided = λ z. omega (arith, get_or-set_same st.states u (opened_by s) 0 (omega (arith, o.tabled.states_long)), opened_some s) in
      let small : (t : Side) (v : ℕ) → label_of t st v < missing → label_of t st v ≤ most_length = λ t v k. label_small sound o.tabled (o.trails t) v (walk_inside sound ((inv.worth t).walk v k) (sound.source_in t)) k in
      ap (after_reach q s st states)
      (same_each s g theirs states u g.nodes (label_of s st u) gone (small s u h) sound.light (λ a t. sound.ends_in (other s) a (ltb-true a (arc_count g) t)) (small (other s))
      (arcs_below_lem s g u (arc_count g))
      (record {
        long = record { labels_long = o.tabled.labels_long s; neighbours_long = o.tabled.neighbours_long s };
        meets = record { law = (inv.worth s).meets };
        top = o.top;
        label = refl;
        small = λ y k. omega (arith, small s y k);
      }))

  same_turn : (s : Side) {st : State} → Invariant q st → turn q s st ≡ turn_by_mark q s st
  unfolding turn turn_by_mark candidate
  same_turn s {st} inv = by (candidate q s st) refl
    where
      by : (c : Chosen) → candidate q s st ≡ c → takes q s c st ≡ takes_by_mark q s c st
      by none e = refl
      by (node u k) e =
          let a = least_at (shiftable sound s) (half s st).labels st.states q.network.nodes e in
          ap (cond (rejected q s st u) (rejecting q s u st)) (same_opening s u inv a.here.free a.inside a.here.labelled)

  -- before every turn the two are the same
  pub same_search : q.start ≢ q.end → (i : ℕ) → after_turns q i ≡ after_turns_by_mark q i
  unfolding after_turns after_turns_by_mark turn_unless_ended
  same_search d zero = refl
  same_search d (suc i) =
      let s = side_of_turn q.pattern i in
      rw (same_search d i) (ap (cond (ended q (after_turns_by_mark q i)) (after_turns_by_mark q i)) (same_turn s (invariant sound d i)))

  -- and so is the state at every cap
  pub same_at : q.start ≢ q.end → (cap : ℕ) → state_at q cap ≡ after_turns_by_mark q cap
  same_at d cap = searched_at q cap (ne_eqb q.start q.end d) ∙ same_search d cap
