-- What is demanded at a cap follows from what a query with a cap leaves, by the theorems of `nba`: a search that ended is one
-- without a cap, and the others are honest and never taken back. What such a query leaves is one thing only, and without a cap it
-- is what a query leaves at as many turns as there are nodes. Assumes nothing.
use Rattle.std.specs.Prelude.{◌≡◌, refl, false, ℕ, ◌≤◌, take, Ok, Err}
use Rattle.std.proofs.Common.{sym, ap, ◌∙◌, arith}
use Rattle.network.specs.declared.Answer.{Answer}
use Rattle.network.specs.declared.Answer.TheVariants.{Route, NoRoute, Refused, Provisional}
use Rattle.network.specs.declared.Cause.{Cause}
use Rattle.network.specs.declared.Figures.{Figures}
use Rattle.network.specs.Verdict.{Verdict}
use Rattle.network.specs.Given.{Sound}
use Rattle.network.specs.Query.{Query}
use Rattle.nba.specs.Search.{state_at}
use Rattle.nba.specs.Result.{figures_in, refused_or, found_at, answer_to_at}
use Rattle.nba.specs.Demands.{path_at, IsUndecided, undecided_yet}
use Rattle.nba.proofs.Why.Capped.{honest, decided_stays, never_taken_back, capped_at_nodes, over_is_end}
use Rattle.nba.specs.Why.ReadLaws.{by_found, provisional_read, Decided, route_decided, none_decided, decided_over}
use Rattle.nba.proofs.Why.Theorems.{demand_3_turns_at, demand_3_opened_at}
use Rattle.index.specs.Index.{Index, short_index, wrong_index}
use Rattle.index.specs.Table.{indexed_verdict}
use Rattle.index.specs.IndexedLaws.{indexed_same}
use Rattle.search.specs.Promise.{LentLists, lengths, lists_at, Left, left, search_leaves_at, verdict_leaves, queried, queried_at}
use Rattle.search.specs.Demands.{Demand2, Demand3, HasFigures, of_a_route, of_no_route, QueryKept, ShowsFigures, of_ended, of_provisional, of_undecided, HonestAnswer, NotTakenBack, Demand3AtCap, CappedKept}
use Rattle.search.specs.DemandLaws.{same_left, indexed_sound, by_verdict, accepted_leaves, accepted_if, demand_1_kept, path_shown_lem, state_shown, label_shown, query_kept}

-- what is promised of a query with a cap admits one answer and one set of lists
pub capped_query_one_answer : (q : Query) (ix : Index) (cap : ℕ) (before : LentLists) (r r' : Answer) (after after' : LentLists)
    → CappedKept q ix cap before after r → CappedKept q ix cap before after' r' → (r ≡ r') × (after ≡ after')
capped_query_one_answer q ix cap before r r' after after' k k' = same_left (k.leaves ∙ sym k'.leaves)

-- and so does what is promised of the search of an accepted query at a cap
pub search_accepted_one_answer : (q : Query) (cap : ℕ) (before : LentLists) (r r' : Answer) (after after' : LentLists)
    → left r after ≡ search_leaves_at q cap before → left r' after' ≡ search_leaves_at q cap before → (r ≡ r') × (after ≡ after')
search_accepted_one_answer q cap before r r' after after' e f = same_left (e ∙ sym f)

-- over the index that its arcs build, the answer is `answer_to_at`, of which the cases are proved
pub capped_query_answers : (q : Query) (ix : Index) (cap : ℕ) (l : LentLists) → short_index q.network ix ≡ false → wrong_index q.network ix ≡ false
    → (queried_at q ix cap l).answer ≡ answer_to_at q cap (lengths l)
unfolding queried_at answer_to_at
capped_query_answers q ix cap l long right = by (indexed_verdict q ix (lengths l)) ∙ ap (λ v. refused_or v (found_at q cap)) (indexed_same q ix (lengths l) long right)
  where
    by : (v : Verdict) → (verdict_leaves v l (search_leaves_at q cap l)).answer ≡ refused_or v (found_at q cap)
    by (Ok _) = refl
    by (Err c) = refl

-- ---- the two cases of a verdict
pub refused_left : (q : Query) (ix : Index) (cap : ℕ) (l : LentLists) {c : Cause} → indexed_verdict q ix (lengths l) ≡ Err c → queried_at q ix cap l ≡ left (Refused c) l
unfolding queried_at
refused_left q ix cap l e = rw e

pub accepted_left : (q : Query) (ix : Index) (cap : ℕ) (l : LentLists) → indexed_verdict q ix (lengths l) ≡ Ok tt → queried_at q ix cap l ≡ search_leaves_at q cap l
unfolding queried_at
accepted_left q ix cap l e = rw e

-- without a cap: as at as many turns as there are nodes
pub uncapped_left : (q : Query) (ix : Index) (l : LentLists) → queried q ix l ≡ queried_at q ix q.network.nodes l
unfolding queried queried_at
uncapped_left q ix l = by_verdict (indexed_verdict q ix (lengths l))
    (λ v. rw v (ap (λ (a : Answer). left a (lists_at q q.network.nodes l)) (sym (capped_at_nodes (indexed_sound q ix (lengths l) v)))))
    (λ c v. rw v)

-- two caps with one state leave the same
same_at_caps : (q : Query) (c d : ℕ) (l : LentLists) → state_at q d ≡ state_at q c → search_leaves_at q d l ≡ search_leaves_at q c l
unfolding found_at lists_at
same_at_caps q c d l e = rw e

-- the search's answer at a cap shows the figures of its state there, so it is no refusal
shows_at : (q : Query) (cap : ℕ) → ShowsFigures (found_at q cap) (figures_in (state_at q cap).states)
shows_at q cap =
    by_found q cap (λ a. ShowsFigures a (figures_in (state_at q cap).states))
    (λ t h. of_ended of_a_route)
    (λ t h. of_provisional)
    (λ t h. of_ended of_no_route)
    (λ t h. of_undecided)

-- an answer with figures is no refusal, and it has no others
no_refusal : {a : Answer} {f : Figures} {c : Cause} → ShowsFigures a f → a ≡ Refused c → ⊥
no_refusal (of_ended of_a_route) e = let z : ◌≡◌ {A = ℕ} 0 1 = cc in omega arith
no_refusal (of_ended of_no_route) e = let z : ◌≡◌ {A = ℕ} 0 1 = cc in omega arith
no_refusal of_provisional e = let z : ◌≡◌ {A = ℕ} 0 1 = cc in omega arith
no_refusal of_undecided e = let z : ◌≡◌ {A = ℕ} 0 1 = cc in omega arith

figures_shown : {a : Answer} {f g : Figures} → ShowsFigures a f → ShowsFigures a g → f ≡ g
figures_shown (of_ended of_a_route) (of_ended of_a_route) = refl
figures_shown (of_ended of_no_route) (of_ended of_no_route) = refl
figures_shown of_provisional of_provisional = refl
figures_shown of_undecided of_undecided = refl
figures_shown of_provisional (of_ended h) = elim h [ ]
figures_shown of_undecided (of_ended h) = elim h [ ]

undecided_no_refusal : {a : Answer} {c : Cause} → IsUndecided a → a ≡ Refused c → ⊥
undecided_no_refusal undecided_yet e = let z : ◌≡◌ {A = ℕ} 0 1 = cc in omega arith

decided_by : {a : Answer} {f : Figures} → HasFigures a f → Decided a
decided_by of_a_route = route_decided
decided_by of_no_route = none_decided

module _ (q : Query) (ix : Index) (cap : ℕ) (before after : LentLists) (r : Answer) (e : left r after ≡ queried_at q ix cap before) where
  never : (c : Cause) → found_at q cap ≡ Refused c → ⊥
  never c = no_refusal (shows_at q cap)

  by_the_verdict : left r after ≡ verdict_leaves (indexed_verdict q ix (lengths before)) before (search_leaves_at q cap before)
  unfolding queried_at
  by_the_verdict = e

  -- ---- an answer of the search
  accepted : {f : Figures} → ShowsFigures r f → indexed_verdict q ix (lengths before) ≡ Ok tt
  accepted h = accepted_if q ix before after r (search_leaves_at q cap before) never by_the_verdict (λ c. no_refusal h)

  sound : {f : Figures} → ShowsFigures r f → Sound q
  sound h = indexed_sound q ix (lengths before) (accepted h)

  leaves : {f : Figures} → ShowsFigures r f → left r after ≡ search_leaves_at q cap before
  leaves h = accepted_leaves q ix before after r (search_leaves_at q cap before) never by_the_verdict (accepted h)

  found_here : {f : Figures} → ShowsFigures r f → found_at q cap ≡ r
  found_here h = sym (same_left (leaves h)).0

  lists_here : {f : Figures} → ShowsFigures r f → after ≡ lists_at q cap before
  lists_here h = (same_left (leaves h)).1

  figures_here : {f : Figures} → ShowsFigures r f → f ≡ figures_in (state_at q cap).states
  figures_here h = figures_shown h (rw (sym (found_here h)) (shows_at q cap))

  -- ---- a search that ended
  -- another cap with the same state is answered the same
  left_at : (d : ℕ) {f : Figures} → ShowsFigures r f → state_at q d ≡ state_at q cap → queried_at q ix d before ≡ left r after
  left_at d h s = accepted_left q ix d before (accepted h) ∙ same_at_caps q cap d before s ∙ sym (leaves h)

  decided_kept : {f : Figures} → HasFigures r f → (d : ℕ) → cap ≤ d → queried_at q ix d before ≡ left r after
  decided_kept h d l = left_at d (of_ended h) (decided_stays (sound (of_ended h)) cap d l (decided_by h) (found_here (of_ended h)))

  as_uncapped_kept : {f : Figures} → HasFigures r f → queried q ix before ≡ left r after
  as_uncapped_kept h =
      let o = decided_over q cap (decided_by h) (found_here (of_ended h)) in
      uncapped_left q ix before ∙ left_at q.network.nodes (of_ended h) (sym (over_is_end (sound (of_ended h)) cap o))

  -- so what is kept without a cap is kept
  kept_as_uncapped : {f : Figures} → HasFigures r f → QueryKept q ix before after r
  kept_as_uncapped h = query_kept q ix before after r (sym (as_uncapped_kept h))

  a_route_here : {l n : ℕ} {f : Figures} → r ≡ Route l n f → QueryKept q ix before after r
  a_route_here {f = f} h = kept_as_uncapped {f = f} (rw h of_a_route)

  no_route_here : {f : Figures} → r ≡ NoRoute f → QueryKept q ix before after r
  no_route_here {f = f} h = kept_as_uncapped {f = f} (rw h of_no_route)

  demand_2_here : Demand2 q after r
  demand_2_here = record {
    real = λ h. (a_route_here h).demand2.real h;
    none_twice = λ h. (a_route_here h).demand2.none_twice h;
    shortest = λ h. (a_route_here h).demand2.shortest h;
    no_walk = λ h. (no_route_here h).demand2.no_walk h;
    a_walk = λ h. (a_route_here h).demand2.a_walk h;
  }

  demand_3_here : Demand3 q ix before after r
  demand_3_here = record {
    turns = λ h. (kept_as_uncapped h).demand3.turns h;
    reached = λ h. (kept_as_uncapped h).demand3.reached h;
    nearest = λ h. (kept_as_uncapped h).demand3.nearest h;
    bound = λ h. (a_route_here h).demand3.bound h;
    every_pattern = λ h. (kept_as_uncapped h).demand3.every_pattern h;
  }

  -- ---- a provisional answer
  shown : {l x n : ℕ} {f : Figures} → r ≡ Provisional l x n f → ShowsFigures r f
  shown h = rw h of_provisional

  -- the first n entries of the path list are the path
  path_here : {l x n : ℕ} {f : Figures} → r ≡ Provisional l x n f → take n after.path ≡ path_at q cap
  path_here h =
      let read = provisional_read q cap (found_here (shown h) ∙ h) in
      path_shown_lem q cap before (lists_here (shown h)) read.here read.nodes_are

  honest_kept : HonestAnswer q after r
  honest_kept = record {
    real = λ h. rw (path_here h) ((honest (sound (shown h)) cap).real (found_here (shown h) ∙ h));
    none_twice = λ h. rw (path_here h) ((honest (sound (shown h)) cap).none_twice (found_here (shown h) ∙ h));
    every_walk = λ h. (honest (sound (shown h)) cap).every_walk (found_here (shown h) ∙ h);
    shortest = λ h. (honest (sound (shown h)) cap).shortest (found_here (shown h) ∙ h);
  }

  -- what is undecided at a larger cap was not refused, so it is the search's answer
  undone : (d : ℕ) → cap ≤ d → IsUndecided (queried_at q ix d before).answer → IsUndecided r
  undone d l u = by_verdict (indexed_verdict q ix (lengths before))
      (λ v.
      let there : found_at q d ≡ (queried_at q ix d before).answer = sym (ap (λ (x : Left). x.answer) (accepted_left q ix d before v)) in
      let here : r ≡ found_at q cap = ap (λ (x : Left). x.answer) (accepted_leaves q ix before after r (search_leaves_at q cap before) never by_the_verdict v) in
      rw here ((never_taken_back (indexed_sound q ix (lengths before) v) cap d l).not_undone (rw there u)))
      (λ c v. absurd (undecided_no_refusal u (ap (λ (x : Left). x.answer) (refused_left q ix d before v))))

  not_taken_back : NotTakenBack q ix cap before after r
  not_taken_back = record {
    decided = decided_kept;
    as_uncapped = as_uncapped_kept;
    no_worse = λ h d l. rw (accepted_left q ix d before (accepted (shown h))) ((never_taken_back (sound (shown h)) cap d l).no_worse (found_here (shown h) ∙ h));
    not_undone = undone;
  }

  before_the_end : Demand3AtCap q cap after r
  before_the_end = record {
    turns = λ h d. rw (figures_here h) (demand_3_turns_at (sound h) d cap);
    reached = λ h s u i o. rw (label_shown q cap before (lists_here h) s u i) ((demand_3_opened_at (sound h) cap).reached s u (sym (state_shown q cap before (lists_here h) u i) ∙ o));
    nearest = λ h s u i o. rw (label_shown q cap before (lists_here h) s u i) ((demand_3_opened_at (sound h) cap).nearest s u (sym (state_shown q cap before (lists_here h) u i) ∙ o));
    bound = λ h s u i o. rw (label_shown q cap before (lists_here h) s u i) ((demand_3_opened_at (sound h) cap).bound s u (sym (state_shown q cap before (lists_here h) u i) ∙ o));
  }

  -- what a query with a cap leaves keeps all that is demanded
  pub capped_kept : CappedKept q ix cap before after r
  capped_kept = record {
    leaves = e;
    demand1 = demand_1_kept q ix before after r (search_leaves_at q cap before) never by_the_verdict;
    demand2 = demand_2_here;
    demand3 = demand_3_here;
    honest = honest_kept;
    never_taken_back = not_taken_back;
    demand3_before_the_end = before_the_end;
  }

-- and at as many turns as there are nodes, all that is demanded without a cap
pub capped_query_kept : (q : Query) (ix : Index) (before after : LentLists) (r : Answer) → CappedKept q ix q.network.nodes before after r → QueryKept q ix before after r
capped_query_kept q ix before after r k = query_kept q ix before after r (k.leaves ∙ sym (uncapped_left q ix before))
