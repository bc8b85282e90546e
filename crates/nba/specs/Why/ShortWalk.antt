-- Beside every walk there is one that is no longer and has no node twice; it has no more nodes than there are, so its length
-- is at most 2,047,000,000. Assumes nothing.
use Rattle.std.specs.Prelude.{◌≡◌, refl, ◌≢◌, List, [], ◌∷◌, ℕ, ◌+◌, ◌*◌, ◌≤◌, ◌<◌, eqb, length, get_or, set, replicate}
use Rattle.std.proofs.Common.{sym, ◌∙◌, mul-le-mul_right, arith, length-set, get_or-set_other, eq-eqb, ltb-true}
use Rattle.std.proofs.lemmas.List.{length-replicate}
use Rattle.network.specs.Network.{Side, start, other, Network, most_nodes, most_weight, arc_count, is_arc}
use Rattle.network.specs.Walk.{Step, Walk, here, step}
use Rattle.network.specs.Query.{Query}
use Rattle.network.specs.Given.{Sound}
use Rattle.network.specs.CaseSplit.{by_eq}
use Rattle.nba.specs.Result.{count_of}
use Rattle.nba.specs.Demands.{Absent, from_none, from_more, NoneTwice, no_nodes, one_more, Joined, alone, next, most_length}
use Rattle.nba.specs.Why.BeginningLaws.{all_alike}
use Rattle.nba.specs.Why.CountLaws.{count_all, count_set}
use Rattle.nba.specs.Why.PathLaws.{Every, of_none, of_more}

-- ---- no more different nodes than there are
-- n places, with a mark at each node of a list
marked : ℕ → List ℕ → List ℕ
marked n [] = replicate n 0
marked n (x ∷ l) = set (marked n l) x 1

marked_long : (n : ℕ) (l : List ℕ) → length (marked n l) ≡ n
unfolding marked
marked_long n [] = length-replicate n 0
marked_long n (x ∷ l) = simp length-set (marked_long n l)

absent_unmarked : {x : ℕ} {l : List ℕ} (n : ℕ) → Absent x l → get_or (marked n l) x 0 ≡ 0
unfolding marked
absent_unmarked {x} n from_none = all_alike n x 0
absent_unmarked {x} n (from_more {y} {nodes} d a) = get_or-set_other (marked n nodes) y x 1 0 d ∙ absent_unmarked n a

places_left : {n : ℕ} {l : List ℕ} → NoneTwice l → Every (λ v. v < n) l → length l + count_of (eqb 0) (marked n l) ≡ n
unfolding marked
places_left {n} no_nodes of_none = omega (arith, count_all (eqb 0) n 0 refl)
places_left {n} (one_more {v} {nodes} a d) (of_more i e) =
    omega (arith, places_left d e, count_set (eqb 0) (marked n nodes) v 1 0 (omega (arith, marked_long n nodes)) (eq-eqb 0 (get_or (marked n nodes) v 0) (sym (absent_unmarked n a))) refl)

pub none_twice_short : {n : ℕ} {l : List ℕ} → NoneTwice l → Every (λ v. v < n) l → length l ≤ n
none_twice_short d e = omega (arith, places_left d e)

-- ---- a walk as a list of nodes
data Over (s : Side) (g : Network) : List ℕ → ℕ → ℕ → ℕ → Type 0 where
  only : {v : ℕ} → Over s g (v ∷ []) v v 0
  then : {u v x w l : ℕ} {p : List ℕ} → Step s g u v w → Over s g p v x l → Over s g (u ∷ p) u x (w + l)

over_walk : {s : Side} {g : Network} {p : List ℕ} {u v l : ℕ} → Over s g p u v l → Walk s g u v l
over_walk only = here
over_walk (then e p) = step e (over_walk p)

over_inside : {q : Query} {s : Side} {p : List ℕ} {u v l : ℕ} → Sound q → Over s q.network p u v l → u < q.network.nodes → Every (λ v. v < q.network.nodes) p
unfolding is_arc
over_inside sound only h = of_more h of_none
over_inside {q} {s} sound (then e p) h =
    of_more h (over_inside sound p (rw e.to at (sound.ends_in (other s) e.arc (ltb-true e.arc (arc_count q.network) e.is_arc_lem))))

over_bound : {q : Query} {s : Side} {p : List ℕ} {u v l : ℕ} → Sound q → Over s q.network p u v l → l + most_weight ≤ length p * most_weight
over_bound sound only = omega arith
over_bound sound (then e p) = omega (arith, over_bound sound p, sound.light e.arc, e.weighs)

-- a walk that goes on from u, or the walk so far misses u
data Cut (s : Side) (g : Network) (q : List ℕ) (u x l : ℕ) : Type 0 where
  misses : Absent u q → Cut s g q u x l
  hits : {p : List ℕ} {a : ℕ} → Over s g p u x a → NoneTwice p → a ≤ l → Cut s g q u x l

cut : {s : Side} {g : Network} {q : List ℕ} {v x l : ℕ} (u : ℕ) → Over s g q v x l → NoneTwice q → Cut s g q u x l
cut u (only {v}) d = by_eq u v (λ e. hits {p = v ∷ []} {a = 0} (rw e only) (one_more from_none no_nodes) (omega arith)) (λ f. misses (from_more f from_none))
cut {s} {g} u (then {u = z} {x} {w} {l} {p} e q) (one_more a d) =
    by_eq u z (λ i. hits {p = z ∷ p} {a = w + l} (rw i (then e q)) (one_more a d) (omega arith)) (λ f. by f (cut u q d))
  where
    by : u ≢ z → Cut s g p u x l → Cut s g (z ∷ p) u x (w + l)
    by f (misses k) = misses (from_more f k)
    by f (hits k c i) = hits k c (omega arith)

record Simple (s : Side) (g : Network) (u v l : ℕ) : Type 0 where
  nodes : List ℕ
  total : ℕ
  over : Over s g nodes u v total
  none_twice : NoneTwice nodes
  no_longer : total ≤ l

simple : {s : Side} {g : Network} {u v l : ℕ} → Walk s g u v l → Simple s g u v l
simple {u} here = record { nodes = u ∷ []; total = 0; over = only; none_twice = one_more from_none no_nodes; no_longer = omega arith }
simple {s} {g} {u} {v} (step {v = z} {w} {l} e p) = let r = simple p in by r (cut u r.over r.none_twice)
  where
    by : (r : Simple s g z v l) → Cut s g r.nodes u v r.total → Simple s g u v (w + l)
    by r (misses a) = record { nodes = u ∷ r.nodes; total = w + r.total; over = then e r.over; none_twice = one_more a r.none_twice; no_longer = omega (arith, r.no_longer) }
    by r (hits {p} {a} k c i) = record { nodes = p; total = a; over = k; none_twice = c; no_longer = omega (arith, r.no_longer) }

-- a walk beside a walk of length l: no longer, and at most 2,047,000,000
pub record Beside (s : Side) (g : Network) (u v l : ℕ) : Type 0 where
  pub total : ℕ
  pub walk : Walk s g u v total
  pub no_longer : total ≤ l
  pub small : total ≤ most_length

pub walk_beside : {q : Query} {s : Side} {u v l : ℕ} → Sound q → u < q.network.nodes → Walk s q.network u v l → Beside s q.network u v l
walk_beside {q} sound h p =
    let r = simple p in
    let i = none_twice_short r.none_twice (over_inside sound r.over h) in
    record {
      total = r.total;
      walk = over_walk r.over;
      no_longer = r.no_longer;
      small = omega (arith, over_bound sound r.over, mul-le-mul_right {m = length r.nodes} {n = most_nodes} most_weight (omega (arith, sound.sized.few_nodes)));
    }

-- ---- the nodes of a joined list
joined_over : {g : Network} {p : List ℕ} {u v l : ℕ} → Joined g p u v l → Over start g p u v l
joined_over alone = only
joined_over (next e p) = then e.arc (joined_over p)

pub joined_inside : {q : Query} {p : List ℕ} {u v l : ℕ} → Sound q → Joined q.network p u v l → u < q.network.nodes → Every (λ v. v < q.network.nodes) p
joined_inside sound p h = over_inside sound (joined_over p) h

pub joined_some : {g : Network} {p : List ℕ} {u v l : ℕ} → Joined g p u v l → 1 ≤ length p
joined_some alone = omega arith
joined_some (next e p) = omega arith
