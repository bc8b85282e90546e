-- What is demanded of an answer at a cap (docs/RULES.md, "Capped queries"), of every sound query and every turn pattern: honest,
-- and never taken back. And there is one search: without a cap it is the one at as many turns as there are nodes. Assumes nothing.
use Rattle.std.specs.Prelude.{◌≡◌, refl, ◌≢◌, true, false, ℕ, zero, suc, ◌+◌, ◌-◌, ◌≤◌, ◌<◌, max, Ok, Err, None, Some}
use Rattle.std.proofs.Common.{sym, ◌∙◌, arith}
use Rattle.std.proofs.Math.Path.{ap}
use Rattle.std.proofs.Math.ListN.{length}
use Rattle.network.specs.declared.Answer.{Answer}
use Rattle.network.specs.Cap.{Cap}
use Rattle.network.specs.declared.Lent.{Lent}
use Rattle.network.specs.Verdict.{Verdict}
use Rattle.network.specs.Network.{Side, start, end, other}
use Rattle.network.specs.WalkLaws.{walk_append, walk_turned}
use Rattle.network.specs.Query.{Query}
use Rattle.network.specs.Refusal.{query_verdict}
use Rattle.network.specs.Given.{Sound}
use Rattle.network.specs.SoundLaws.{accepted_sound}
use Rattle.network.specs.CaseSplit.{by_eq, by_lt, by_bool, true≢false}
use Rattle.nba.specs.State.{missing, State}
use Rattle.nba.specs.Search.{target, ended, state_at, end_state}
use Rattle.nba.specs.Result.{path_of, figures_in, answer_at, found, answer_to, excess, over, found_at, answer_to_at, answer_under, turns_given}
use Rattle.nba.specs.Demands.{WalkOfLength, TrueLength, Honest, NoWorse, a_route, provisional, IsUndecided, undecided_yet, NeverTakenBack}
use Rattle.nba.specs.Why.ByMark.{after_turns_by_mark}
use Rattle.nba.specs.Why.StateLaws.{both_sides}
use Rattle.nba.specs.Why.CodeLaws.{rests_by_mark}
use Rattle.nba.specs.Why.Measures.{potential, floor_of}
use Rattle.nba.specs.Why.MeasureLaws.{along_walk}
use Rattle.nba.specs.Why.Moved.{Turned, turned_by}
use Rattle.nba.specs.Why.MovedLaws.{their_floor}
use Rattle.nba.specs.Why.UndecidedWalk.{undecided_walk, first_undecided}
use Rattle.nba.specs.Why.Ways.{walk_back, Way, short, way}
use Rattle.nba.specs.Why.Invariant.{Invariant}
use Rattle.nba.proofs.Why.RunLaws.{orderly, invariant, turned_after}
use Rattle.nba.specs.Why.PathLaws.{joined_is, joined_walk}
use Rattle.nba.specs.Why.ShortWalk.{walk_beside}
use Rattle.nba.proofs.Why.ByMarkLaws.{same_at}
use Rattle.nba.proofs.Why.EndLaws.{route_answered, at_cap, ended_stays, over_at_end, least_at_end, path_real, path_once}
use Rattle.nba.specs.Why.ExcessLaws.{floor_above, excess_natural}
use Rattle.nba.specs.Why.ReadLaws.{ReadAt, ended_with, ended_without, going_with, going_without, over_found, read_at, provisional_read, Decided, route_decided, none_decided, decided_over, going_apart}

-- ---- honest
-- a walk is no shorter than the best length, or the side's floor less its potential of its target is no more than it
data Under (q : Query) (st : State) (s : Side) (l : ℕ) : Type 0 where
  best_under : st.best ≤ l → Under q st s l
  floor_under : floor_above q s st ≤ l → Under q st s l

under : {q : Query} {st : State} {l : ℕ} {s : Side} → Sound q → Invariant q st → l < missing → Way s q.network st l → Under q st s l
under sound inv b (short h) = best_under h
under {q} {s = s} sound inv b (way {x} {y} p h) =
    floor_under (omega (
      arith,
      (inv.worth s).floor x (first_undecided p) (omega arith),
      along_walk sound s (walk_append (undecided_walk p) (walk_back ((inv.worth (other s)).walk y (omega arith)))),
    ))

within_excess : {q : Query} {st : State} → Sound q → Invariant q st → (l : ℕ) → l < missing → WalkOfLength q l → st.best ≤ l + excess q st
within_excess {q} {st} sound inv l b p =
    rw (excess_natural sound inv.orderly.lifted)
    (by (under sound inv b ((inv.worth start).ways l b p)) (under sound inv b ((inv.worth end).ways l b (walk_turned p))))
  where
    by : Under q st start l → Under q st end l → st.best ≤ l + (st.best - max (floor_above q start st) (floor_above q end st))
    by (best_under h) r = omega arith
    by (floor_under h) (best_under k) = omega arith
    by (floor_under h) (floor_under k) = omega arith

module _ {q : Query} (sound : Sound q) where
  -- before the end no walk is shorter than the best length by more than the excess
  going_least : (cap : ℕ) → over q (state_at q cap) ≡ false → (m : ℕ) → WalkOfLength q m → (state_at q cap).best ≤ m + excess q (state_at q cap)
  going_least cap h m p =
      let d = going_apart q cap h in
      let r = walk_beside sound (sound.source_in start) p in
      rw (same_at sound d cap) (omega (arith, r.no_longer, within_excess sound (invariant sound d cap) r.total (omega (arith, r.small)) r.walk))

  -- where there is a walk the search ends with a route, and its length is the true one
  true_length : {l : ℕ} → WalkOfLength q l → TrueLength q (end_state q).best
  unfolding found
  true_length p =
      let r = walk_beside sound (sound.source_in start) p in
      let h : (end_state q).best < missing = omega (arith, least_at_end sound r.total r.walk, r.small) in
      record {
        nodes = length (path_of q (end_state q));
        figures = figures_in (end_state q).states;
        answered = route_answered q (end_state q) h;
        a_walk = joined_walk (path_real ((at_cap sound q.network.nodes).meeting h));
        none_shorter = least_at_end sound;
      }

  pub honest : (cap : ℕ) → Honest q cap
  honest cap =
      let meets = (at_cap sound cap).meeting in
      record {
        real = λ {l} {x} {n} {f} e. let r = provisional_read q cap e in joined_is r.length_is (path_real (meets r.here));
        none_twice = λ {l} {x} {n} {f} e. path_once (meets (provisional_read q cap e).here);
        every_walk = λ {l} {x} {n} {f} e m p. let r = provisional_read q cap e in omega (arith, r.length_is, r.excess_is, going_least cap r.going m p);
        shortest = λ {l} {x} {n} {f} e.
            let r = provisional_read q cap e in
            let t = true_length (joined_walk (path_real (meets r.here))) in
            record {
              true_length = (end_state q).best;
              is_true = t;
              within = omega (arith, r.length_is, r.excess_is, going_least cap r.going (end_state q).best t.a_walk);
            };
      }

-- ---- never taken back
-- a turn more: the best length falls or stays, and each floor rises or stays
record Better (st st' : State) : Type 0 where
  best : st'.best ≤ st.best
  floor : (s : Side) → floor_of s st ≤ floor_of s st'

-- a smaller length less larger bounds is no more
smaller_less : {a b c d : ℕ} → a ≤ b → d ≤ c → a - c ≤ b - d
smaller_less h k = omega arith

larger_less : {a b : ℕ} (p : ℕ) → a ≤ b → a - p ≤ b - p
larger_less p h = omega arith

larger_max : {a b c d : ℕ} → a ≤ b → c ≤ d → max a c ≤ max b d
larger_max h k = omega arith

module _ {q : Query} (sound : Sound q) (apart : q.start ≢ q.end) where
  turned_better : {s : Side} {st st' : State} → Invariant q st → Turned q s st st' → Better st st'
  turned_better {s} {st} {st'} inv (turned_by {u} mv) = record {
    best = mv.shorter;
    floor = both_sides (λ t. floor_of t st ≤ floor_of t st') s
        (mv.floor_rises ((inv.worth s).floor u mv.chosen.free mv.chosen.labelled)) (omega (arith, their_floor mv));
  }

  better : (i j : ℕ) → i ≤ j → Better (after_turns_by_mark q i) (after_turns_by_mark q j)
  better i zero l = let e : i ≡ 0 = omega arith in rw e (record { best = omega arith; floor = λ s. omega arith })
  better i (suc j) l =
      by_eq i (suc j) (λ e. rw e (record { best = omega arith; floor = λ s. omega arith }))
      (λ d. let a = better i j (omega arith) in
      by_bool (ended q (after_turns_by_mark q j))
      (λ h. rw (rests_by_mark q j h) a)
      (λ h. let b = turned_better (invariant sound apart j) (turned_after sound j h) in
      record { best = omega (arith, a.best, b.best); floor = λ s. omega (arith, a.floor s, b.floor s) }))

  -- so the excess does not grow
  better_excess : (i j : ℕ) → i ≤ j → excess q (after_turns_by_mark q j) ≤ excess q (after_turns_by_mark q i)
  better_excess i j l =
      let b = better i j l in
      rw (excess_natural sound (orderly sound i).lifted, excess_natural sound (orderly sound j).lifted) (smaller_less b.best (larger_max (larger_less (potential q start (target q start)) (b.floor start)) (larger_less (potential q end (target q end)) (b.floor end))))

module _ {q : Query} (sound : Sound q) where
  -- at a larger cap a search that is not over has come no less far
  record Further (c d : ℕ) : Type 0 where
    best : (state_at q d).best ≤ (state_at q c).best
    excess_less : excess q (state_at q d) ≤ excess q (state_at q c)

  further : (c d : ℕ) → c ≤ d → over q (state_at q c) ≡ false → Further c d
  further c d l h =
      let f = going_apart q c h in
      rw_further (same_at sound f c) (same_at sound f d) (better sound f c d l).best (better_excess sound f c d l)
    where
      rw_further : {a b : State} → state_at q c ≡ a → state_at q d ≡ b → b.best ≤ a.best → excess q b ≤ excess q a → Further c d
      rw_further e i x y = record { best = rw (e, i) x; excess_less = rw (e, i) y }

  -- what is decided at a cap stays
  pub decided_stays : (c d : ℕ) → c ≤ d → {a : Answer} → Decided a → found_at q c ≡ a → state_at q d ≡ state_at q c
  decided_stays c d l k e = ended_stays sound c d l (decided_over q c k e)

  same_found : (c d : ℕ) → over q (state_at q c) ≡ true → state_at q d ≡ state_at q c → found_at q d ≡ found_at q c
  same_found c d h e = over_found q d (ap (over q) e ∙ h) ∙ ap (answer_at q) e ∙ sym (over_found q c h)

  worse_not : (c d : ℕ) {l x : ℕ} → c ≤ d → (state_at q c).best ≡ l → excess q (state_at q c) ≡ x → (state_at q c).best < missing → over q (state_at q c) ≡ false → NoWorse l x (found_at q d)
  worse_not c d {l} {x} i bl ex here going = by (read_at q d)
    where
      far : Further c d
      far = further c d i going

      by : ReadAt q (state_at q d) (found_at q d) → NoWorse l x (found_at q d)
      by (ended_with t h r) = let i : (state_at q d).best ≤ l = omega (arith, far.best) in rw r (a_route i)
      by (ended_without t h r) = absurd (omega (arith, far.best))
      by (going_with t h r) = let i : (state_at q d).best ≤ l = omega (arith, far.best) in let j : excess q (state_at q d) ≤ x = omega (arith, far.excess_less) in rw r (provisional i j)
      by (going_without t h r) = absurd (omega (arith, far.best))

  -- what is undecided at d is not over there and has no best length
  undecided_read : (d : ℕ) {a : Answer} → IsUndecided a → found_at q d ≡ a → (over q (state_at q d) ≡ false) × (missing ≤ (state_at q d).best)
  undecided_read d (undecided_yet {f}) e = by (read_at q d)
    where
      by : ReadAt q (state_at q d) (found_at q d) → (over q (state_at q d) ≡ false) × (missing ≤ (state_at q d).best)
      by (ended_with t h r) = absurd (let z : ◌≡◌ {A = ℕ} 0 1 = cc in omega arith)
      by (ended_without t h r) = absurd (let z : ◌≡◌ {A = ℕ} 0 1 = cc in omega arith)
      by (going_with t h r) = absurd (let z : ◌≡◌ {A = ℕ} 0 1 = cc in omega arith)
      by (going_without t h r) = (t, h)

  undecided_here : (c : ℕ) → missing ≤ (state_at q c).best → over q (state_at q c) ≡ false → IsUndecided (found_at q c)
  undecided_here c b going = by (read_at q c)
    where
      by : ReadAt q (state_at q c) (found_at q c) → IsUndecided (found_at q c)
      by (ended_with t h r) = absurd (true≢false t going)
      by (ended_without t h r) = absurd (true≢false t going)
      by (going_with t h r) = absurd (omega arith)
      by (going_without t h r) = rw r undecided_yet

  pub never_taken_back : (c d : ℕ) → c ≤ d → NeverTakenBack q c d
  never_taken_back c d i = record {
    route = λ {l} {n} {f} e. same_found c d (decided_over q c route_decided e) (decided_stays c d i route_decided e) ∙ e;
    same_path = λ {l} {n} {f} e. ap (path_of q) (decided_stays c d i route_decided e);
    no_route = λ {f} e. same_found c d (decided_over q c none_decided e) (decided_stays c d i none_decided e) ∙ e;
    no_worse = λ {l} {x} {n} {f} e. let r = provisional_read q c e in worse_not c d i r.length_is r.excess_is r.here r.going;
    not_undone = λ u. let r = undecided_read d u refl in by_bool (over q (state_at q c))
        (λ t. absurd (true≢false (ap (over q) (ended_stays sound c d i t) ∙ t) r.0))
        (λ t. undecided_here c (omega (arith, (further c d i t).best, r.1)) t);
  }

  -- ---- one search, one answer
  -- the uncapped answer is the capped one at a cap of as many turns as there are nodes
  pub capped_at_nodes : found_at q q.network.nodes ≡ found q
  unfolding found
  capped_at_nodes = over_found q q.network.nodes (over_at_end sound)

  -- where the search is over at a cap, answer and state are those without a cap
  pub over_is_end : (c : ℕ) → over q (state_at q c) ≡ true → state_at q c ≡ end_state q
  over_is_end c h =
      let n = q.network.nodes in
      by_lt c n (λ l. sym (ended_stays sound c n (omega arith) h)) (λ l. ended_stays sound n c l (over_at_end sound))

  pub ended_as_uncapped : (c : ℕ) → over q (state_at q c) ≡ true → found_at q c ≡ found q
  unfolding found
  ended_as_uncapped c h = over_found q c h ∙ ap (answer_at q) (over_is_end c h)

-- the answer with or without a cap is the one at as many turns as the query gives
pub answer_under_lem : (c : Cap) (q : Query) (l : Lent) → answer_under c q l ≡ answer_to_at q (turns_given c q) l
unfolding answer_to answer_to_at
answer_under_lem (Some cap) q l = refl
answer_under_lem None q l = by (query_verdict q l) refl
  where
    by : (v : Verdict) → query_verdict q l ≡ v → answer_to q l ≡ answer_to_at q q.network.nodes l
    by (Err c) e = rw e
    by (Ok _) e = rw e (sym (capped_at_nodes (accepted_sound q l e)))
