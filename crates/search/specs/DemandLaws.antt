-- The demands follow from what a query leaves, by the theorems of `nba` and the laws of the refusal table; what a query leaves
-- is one thing only; and over the index that its arcs build its answer is the one of which the cases (docs/RULES.md, "Cases") are
-- proved. Assumes nothing.
use Rattle.std.specs.Prelude.{◌≡◌, refl, Bool, true, false, cond, List, ℕ, ◌<◌, length, Ok, Err}
use Rattle.std.proofs.Common.{sym, ◌∙◌, arith, take_at, lt-ltb}
use Rattle.std.proofs.Math.Path.{ap}
use Rattle.std.proofs.Math.ListN.{get_or, take, get_or-append}
use Rattle.network.specs.declared.Answer.{Answer}
use Rattle.network.specs.declared.Answer.TheVariants.{Route, NoRoute, Refused}
use Rattle.network.specs.declared.Cause.{Cause}
use Rattle.network.specs.declared.Figures.{Figures}
use Rattle.network.specs.Verdict.{Verdict}
use Rattle.network.specs.declared.Lent.{Lent}
use Rattle.network.specs.CaseSplit.{cases, true≢false}
use Rattle.network.specs.Given.{Refuses, by_cause, Sound}
use Rattle.network.specs.SoundLaws.{accepted_sound}
use Rattle.network.specs.Network.{Side, start, end}
use Rattle.network.specs.Query.{Query}
use Rattle.network.specs.Refusal.{bad_pattern}
use Rattle.nba.specs.State.{missing, present, label_of, state_of}
use Rattle.nba.specs.Search.{state_at, end_state}
use Rattle.nba.specs.Result.{figures_in, answer_at, found, refused_or, answer_to}
use Rattle.nba.specs.Demands.{path, path_at, with_pattern, SameLengthAndVerdict}
use Rattle.nba.proofs.Why.TablesKept.{state_at_tabled}
use Rattle.nba.proofs.Why.EndLaws.{route_read}
use Rattle.nba.specs.Why.PathLaws.{joined_walk}
use Rattle.nba.specs.Why.ReadLaws.{Decided, route_decided, none_decided}
use Rattle.nba.proofs.Why.Theorems.{demand_2, demand_3_turns, demand_3_opened_at, demand_3_bound, demand_3_same}
use Rattle.network.specs.Front.{at_front}
use Rattle.index.specs.Index.{Index, short_index, wrong_index}
use Rattle.index.specs.Table.{indexed_verdict, QueryCondition, of_node_count, of_arc_lists, of_potential_lists, of_start_or_end, of_pattern, of_room, of_arc, of_index, of_potential, of_rule}
use Rattle.index.specs.IndexedLaws.{indexed_same, accepted_plain}
use Rattle.index.specs.TableLaws.{query_given, query_accepted}
use Rattle.search.specs.Promise.{LentLists, lengths, shown_path, lists_at, lists_after, Left, left, search_leaves, verdict_leaves, queried}
use Rattle.search.specs.Demands.{IsRefusal, of_cause, Demand1, Demand2, Demand3, HasFigures, of_a_route, of_no_route, labels_in, QueryKept}

pub same_left : {r r' : Answer} {l l' : LentLists} → left r l ≡ left r' l' → (r ≡ r') × (l ≡ l')
same_left e = (ap (λ (x : Left). x.answer) e, ap (λ (x : Left). x.lists) e)

-- what is promised of a query admits one answer and one set of lists
pub query_one_answer : (q : Query) (ix : Index) (before : LentLists) (r r' : Answer) (after after' : LentLists)
    → QueryKept q ix before after r → QueryKept q ix before after' r' → (r ≡ r') × (after ≡ after')
query_one_answer q ix before r r' after after' k k' = same_left (k.leaves ∙ sym k'.leaves)

-- over the index that its arcs build, a query's answer is `answer_to`, of which the cases are proved
pub query_answers : (q : Query) (ix : Index) (l : LentLists) → short_index q.network ix ≡ false → wrong_index q.network ix ≡ false
    → (queried q ix l).answer ≡ answer_to q (lengths l)
unfolding queried answer_to
query_answers q ix l long right = by (indexed_verdict q ix (lengths l)) ∙ ap (λ v. refused_or v (found q)) (indexed_same q ix (lengths l) long right)
  where
    by : (v : Verdict) → (verdict_leaves v l (search_leaves q l)).answer ≡ refused_or v (found q)
    by (Ok _) = refl
    by (Err c) = refl

-- and where it is accepted, the search's
accepted_answer : (q : Query) (ix : Index) (l : LentLists) → indexed_verdict q ix (lengths l) ≡ Ok tt → (queried q ix l).answer ≡ found q
unfolding queried
accepted_answer q ix l v = rw v

-- what is accepted is sound
pub indexed_sound : (q : Query) (ix : Index) (l : Lent) → indexed_verdict q ix l ≡ Ok tt → Sound q
indexed_sound q ix l v = accepted_sound q l (accepted_plain q ix l v)

-- a query that is accepted is accepted with any pattern that number 5 does not refuse: no other row looks at the pattern
pub pattern_accepted : (q : Query) (ix : Index) (l : Lent) (p : List ℕ) → indexed_verdict q ix l ≡ Ok tt → bad_pattern p ≡ false
    → indexed_verdict (with_pattern p q) ix l ≡ Ok tt
pattern_accepted q ix l p v fine = (query_accepted (with_pattern p q) ix l).1 (λ r n place. by)
  where
    none : {r n place : ℕ} → QueryCondition q ix l r n place → ⊥
    none {r} {n} {place} = (query_accepted q ix l).0 v r n place

    by : {r n place : ℕ} → QueryCondition (with_pattern p q) ix l r n place → ⊥
    by (of_node_count h) = none (of_node_count h)
    by (of_arc_lists h) = none (of_arc_lists h)
    by (of_potential_lists h) = none (of_potential_lists h)
    by (of_start_or_end h) = none (of_start_or_end h)
    by (of_pattern h) = true≢false h fine
    by (of_room h) = none (of_room h)
    by (of_arc h) = none (of_arc h)
    by (of_index h) = none (of_index h)
    by (of_potential h) = none (of_potential h)
    by (of_rule h) = none (of_rule h)

-- the search itself answers a route or no route
found_is : (q : Query) → Decided (found q)
unfolding found answer_at
found_is q = cases Decided (present (end_state q).best) (λ h. route_decided) (λ h. none_decided)

never_refused : {a : Answer} {c : Cause} → Decided a → a ≡ Refused c → ⊥
never_refused route_decided e = let z : ◌≡◌ {A = ℕ} 0 1 = cc in omega arith
never_refused none_decided e = let z : ◌≡◌ {A = ℕ} 0 1 = cc in omega arith

-- the figures of the search's answer are those of its state at the end
figures_found : (q : Query) {f : Figures} → HasFigures (found q) f → f ≡ figures_in (end_state q).states
unfolding found answer_at
figures_found q = by (present (end_state q).best)
  where
    by : (b : Bool) {f : Figures} → HasFigures (cond b (Route (end_state q).best (length (path q)) (figures_in (end_state q).states)) (NoRoute (figures_in (end_state q).states))) f → f ≡ figures_in (end_state q).states
    by true of_a_route = refl
    by false of_no_route = refl

pub by_verdict : {P : Type 0} (v : Verdict) → (v ≡ Ok tt → P) → ((c : Cause) → v ≡ Err c → P) → P
by_verdict (Ok _) f g = f refl
by_verdict (Err c) f g = g c refl

-- ---- by the verdict, whatever the search leaves that is no refusal
module _ (q : Query) (ix : Index) (before after : LentLists) (r : Answer) (searched : Left) (never : (c : Cause) → searched.answer ≡ Refused c → ⊥)
    (e : left r after ≡ verdict_leaves (indexed_verdict q ix (lengths before)) before searched) where
  refused_leaves : {c : Cause} → indexed_verdict q ix (lengths before) ≡ Err c → left r after ≡ left (Refused c) before
  refused_leaves v = e ∙ rw v

  pub accepted_leaves : indexed_verdict q ix (lengths before) ≡ Ok tt → left r after ≡ searched
  accepted_leaves v = e ∙ rw v

  answer_refused : {c : Cause} → indexed_verdict q ix (lengths before) ≡ Err c → r ≡ Refused c
  answer_refused v = (same_left (refused_leaves v)).0

  -- an answer that is a refusal is the verdict's
  refusal_given : {c : Cause} → r ≡ Refused c → indexed_verdict q ix (lengths before) ≡ Err c
  refusal_given {c} h = by_verdict (indexed_verdict q ix (lengths before))
      (λ v. absurd (never c (sym (ap (λ (x : Left). x.answer) (accepted_leaves v)) ∙ h)))
      (λ d v. let same : d ≡ c = let x = answer_refused v in (cc) in rw same at v)

  -- an answer that is none was accepted
  pub accepted_if : ((c : Cause) → r ≡ Refused c → ⊥) → indexed_verdict q ix (lengths before) ≡ Ok tt
  accepted_if f = by_verdict (indexed_verdict q ix (lengths before)) (λ v. v) (λ c v. absurd (f c (answer_refused v)))

  -- the number and the place of the answer are those of the verdict
  refusal_refuses : {a : Answer} {n p : ℕ} → IsRefusal a n p → r ≡ a → Refuses (indexed_verdict q ix (lengths before)) n p
  refusal_refuses (of_cause c) h = rw (refusal_given h) (by_cause c)

  refuses_refusal : {v : Verdict} {n p : ℕ} → Refuses v n p → indexed_verdict q ix (lengths before) ≡ v → IsRefusal r n p
  refuses_refusal (by_cause c) v = rw (answer_refused v) (of_cause c)

  refusal_untouched : {a : Answer} {n p : ℕ} → IsRefusal a n p → r ≡ a → after ≡ before
  refusal_untouched (of_cause c) h = (same_left (refused_leaves (refusal_given h))).1

  pub demand_1_kept : Demand1 q ix before after r
  demand_1_kept = record {
    refused_as_given = λ n p h. (query_given q ix (lengths before) n p).0 (refusal_refuses h refl);
    given_is_refused = λ n p g. refuses_refusal ((query_given q ix (lengths before) n p).1 g) refl;
    untouched = λ n p h. refusal_untouched h refl;
  }

-- ---- what the lists show after a search at a cap
module _ (q : Query) (cap : ℕ) (before : LentLists) {after : LentLists} (lists : after ≡ lists_at q cap before) where
  -- where there is a best length, the first n entries of the path list are the path
  pub path_shown_lem : {n : ℕ} → (state_at q cap).best < missing → length (path_at q cap) ≡ n → take n after.path ≡ path_at q cap
  unfolding lists_at shown_path at_front
  path_shown_lem {n} here long =
      ap (λ (x : LentLists). take n x.path) lists ∙ rw (lt-ltb (state_at q cap).best missing here) (take_at (path_at q cap) _ n long)

  -- an entry of a work list, for a node, is that of the state
  pub state_shown : (u : ℕ) → u < q.network.nodes → get_or after.states u 0 ≡ state_of (state_at q cap) u
  unfolding lists_at at_front
  state_shown u h = ap (λ (x : LentLists). get_or x.states u 0) lists ∙ get_or-append (state_at q cap).states _ 0 u (omega (arith, (state_at_tabled q cap).states_long))

  pub label_shown : (s : Side) (u : ℕ) → u < q.network.nodes → get_or (labels_in s after) u missing ≡ label_of s (state_at q cap) u
  unfolding lists_at at_front
  label_shown start u h = ap (λ (x : LentLists). get_or x.start_labels_there u missing) lists ∙ get_or-append (state_at q cap).start_half.labels _ missing u (omega (arith, (state_at_tabled q cap).labels_long start))
  label_shown end u h = ap (λ (x : LentLists). get_or x.end_labels_there u missing) lists ∙ get_or-append (state_at q cap).end_half.labels _ missing u (omega (arith, (state_at_tabled q cap).labels_long end))

-- ---- without a cap
module _ (q : Query) (ix : Index) (before after : LentLists) (r : Answer) (e : left r after ≡ queried q ix before) where
  never : (c : Cause) → found q ≡ Refused c → ⊥
  never c = never_refused (found_is q)

  by_the_verdict : left r after ≡ verdict_leaves (indexed_verdict q ix (lengths before)) before (search_leaves q before)
  unfolding queried
  by_the_verdict = e

  searched_leaves : indexed_verdict q ix (lengths before) ≡ Ok tt → (r ≡ found q) × (after ≡ lists_after q before)
  searched_leaves v = same_left (accepted_leaves q ix before after r (search_leaves q before) never by_the_verdict v)

  accepted_unless : ((c : Cause) → r ≡ Refused c → ⊥) → indexed_verdict q ix (lengths before) ≡ Ok tt
  accepted_unless = accepted_if q ix before after r (search_leaves q before) never by_the_verdict

  -- ---- an answer of the search
  route_accepted : {l n : ℕ} {f : Figures} → r ≡ Route l n f → indexed_verdict q ix (lengths before) ≡ Ok tt
  route_accepted h = accepted_unless (λ c i. let z : ◌≡◌ {A = ℕ} 0 1 = cc in omega arith)

  none_accepted : {f : Figures} → r ≡ NoRoute f → indexed_verdict q ix (lengths before) ≡ Ok tt
  none_accepted h = accepted_unless (λ c i. let z : ◌≡◌ {A = ℕ} 0 1 = cc in omega arith)

  found_route : {l n : ℕ} {f : Figures} → r ≡ Route l n f → found q ≡ Route l n f
  found_route h = sym (searched_leaves (route_accepted h)).0 ∙ h

  found_none : {f : Figures} → r ≡ NoRoute f → found q ≡ NoRoute f
  found_none h = sym (searched_leaves (none_accepted h)).0 ∙ h

  -- the first n entries of the path list are the path
  route_shown : {l n : ℕ} {f : Figures} → r ≡ Route l n f → take n after.path ≡ path q
  unfolding found
  route_shown {l} {n} {f} h =
      let read = route_read q (end_state q) l n f (found_route h) in
      path_shown_lem q q.network.nodes before (searched_leaves (route_accepted h)).1 read.here read.nodes_are

  demand_2_kept : Demand2 q after r
  demand_2_kept =
      record {
        real = λ h. rw (route_shown h) ((demand_2 (indexed_sound q ix (lengths before) (route_accepted h))).real (found_route h));
        none_twice = λ h. rw (route_shown h) ((demand_2 (indexed_sound q ix (lengths before) (route_accepted h))).none_twice (found_route h));
        shortest = λ h. (demand_2 (indexed_sound q ix (lengths before) (route_accepted h))).shortest (found_route h);
        no_walk = λ h. (demand_2 (indexed_sound q ix (lengths before) (none_accepted h))).no_walk (found_none h);
        a_walk = λ h. joined_walk ((demand_2 (indexed_sound q ix (lengths before) (route_accepted h))).real (found_route h));
      }

  figures_accepted : {f : Figures} → HasFigures r f → indexed_verdict q ix (lengths before) ≡ Ok tt
  figures_accepted {f} h = by h refl
    where
      by : {a : Answer} → HasFigures a f → r ≡ a → indexed_verdict q ix (lengths before) ≡ Ok tt
      by of_a_route i = route_accepted i
      by of_no_route i = none_accepted i

  sound : indexed_verdict q ix (lengths before) ≡ Ok tt → Sound q
  sound v = indexed_sound q ix (lengths before) v

  -- the tables are those of the state at the end
  at_end : indexed_verdict q ix (lengths before) ≡ Ok tt → after ≡ lists_after q before
  at_end v = (searched_leaves v).1

  -- the same query on the same lists with another pattern
  same_with_pattern : indexed_verdict q ix (lengths before) ≡ Ok tt → (p : List ℕ) → bad_pattern p ≡ false
      → SameLengthAndVerdict r (queried (with_pattern p q) ix before).answer
  same_with_pattern v p fine =
      let v' = pattern_accepted q ix (lengths before) p v fine in
      let there : (queried (with_pattern p q) ix before).answer ≡ found (with_pattern p q) = accepted_answer (with_pattern p q) ix before v' in
      rw ((searched_leaves v).0, there) (demand_3_same p (sound v) (indexed_sound (with_pattern p q) ix (lengths before) v'))

  demand_3_kept : Demand3 q ix before after r
  demand_3_kept = record {
    turns = λ h d. let v = figures_accepted h in rw (figures_found q (rw (searched_leaves v).0 at h)) (demand_3_turns (sound v) d);
    reached = λ h s u i o. let v = figures_accepted h in rw (label_shown q q.network.nodes before (at_end v) s u i) ((demand_3_opened_at (sound v) q.network.nodes).reached s u (sym (state_shown q q.network.nodes before (at_end v) u i) ∙ o));
    nearest = λ h s u i o. let v = figures_accepted h in rw (label_shown q q.network.nodes before (at_end v) s u i) ((demand_3_opened_at (sound v) q.network.nodes).nearest s u (sym (state_shown q q.network.nodes before (at_end v) u i) ∙ o));
    bound = λ h s u i o. let v = route_accepted h in rw (label_shown q q.network.nodes before (at_end v) s u i) ((demand_3_bound (sound v)).bound (found_route h) s u (sym (state_shown q q.network.nodes before (at_end v) u i) ∙ o));
    every_pattern = λ h. same_with_pattern (figures_accepted h);
  }

  -- what a query leaves keeps all three demands
  pub query_kept : QueryKept q ix before after r
  query_kept = record { leaves = e; demand1 = demand_1_kept q ix before after r (search_leaves q before) never by_the_verdict; demand2 = demand_2_kept; demand3 = demand_3_kept }
