-- The buyer's three demands (docs/RULES.md, "The three demands"), and what is demanded at a cap (docs/RULES.md, "Capped queries"),
-- of the answer of a query over an index and of the lent lists before and after it: what stands in the query's own contract.
-- Assumes nothing.
use Rattle.std.specs.Prelude.{◌≡◌, ◌≢◌, true, false, List, ℕ, ◌+◌, ◌≤◌, ◌<◌, pos, ◌+ℤ◌, ◌-ℤ◌, get_or, take}
use Rattle.std.specs.Int.Signed.{le_z}
use Rattle.network.specs.declared.Answer.{Answer}
use Rattle.network.specs.declared.Answer.TheVariants.{Route, NoRoute, Refused, Provisional, Undecided}
use Rattle.network.specs.declared.Cause.{Cause}
use Rattle.network.specs.declared.Figures.{Figures}
use Rattle.network.specs.Answer.{number_of, place_of}
use Rattle.network.specs.Given.{Given}
use Rattle.network.specs.Network.{Side, start, end, other}
use Rattle.network.specs.Walk.{Walk}
use Rattle.network.specs.Potential.{potential_at}
use Rattle.network.specs.Query.{Query, potentials, source}
use Rattle.network.specs.Refusal.{bad_pattern}
use Rattle.nba.specs.State.{missing, opened_by}
use Rattle.nba.specs.Demands.{WalkOfLength, Joined, NoneTwice, Demand3Turns, with_pattern, SameLengthAndVerdict, WithinExcess, NoWorse, IsUndecided, Demand3TurnsAt}
use Rattle.index.specs.Index.{Index}
use Rattle.index.specs.Table.{QueryCondition}
use Rattle.search.specs.Promise.{LentLists, lengths, left, queried, queried_at}

-- an answer is a refusal with this number and place: those of its cause
pub data IsRefusal : Answer → ℕ → ℕ → Type 0 where
  of_cause : (c : Cause) → IsRefusal (Refused c) (number_of c) (place_of c)

-- Demand 1: refused exactly when the table says, with its number and place, and with nothing changed
pub record Demand1 (q : Query) (ix : Index) (before after : LentLists) (r : Answer) : Type 0 where
  -- what is refused is refused with a number and at a place that the table gives
  pub refused_as_given : (number place : ℕ) → IsRefusal r number place → Given (QueryCondition q ix (lengths before)) number place
  -- what the table gives is refused, with that number and at that place
  pub given_is_refused : (number place : ℕ) → Given (QueryCondition q ix (lengths before)) number place → IsRefusal r number place
  -- a refusal changes nothing in the lists
  pub untouched : (number place : ℕ) → IsRefusal r number place → after ≡ before

-- Demand 2: the route is real, without repetition and shortest, or there is none
pub record Demand2 (q : Query) (after : LentLists) (r : Answer) : Type 0 where
  -- the first n entries of the path list are joined by arcs from start to end, whose weights sum to the length answered
  pub real : {l n : ℕ} {f : Figures} → r ≡ Route l n f → Joined q.network (take n after.path) q.start q.end l
  -- no node stands twice among them
  pub none_twice : {l n : ℕ} {f : Figures} → r ≡ Route l n f → NoneTwice (take n after.path)
  -- no walk from start to end is shorter
  pub shortest : {l n : ℕ} {f : Figures} → r ≡ Route l n f → (m : ℕ) → WalkOfLength q m → l ≤ m
  -- where the answer is "no route" there is no walk; and a route is a walk, so without a walk there is no route
  pub no_walk : {f : Figures} → r ≡ NoRoute f → (m : ℕ) → WalkOfLength q m → ⊥
  pub a_walk : {l n : ℕ} {f : Figures} → r ≡ Route l n f → WalkOfLength q l

-- the figures of an answer of a search that ended
pub data HasFigures : Answer → Figures → Type 0 where
  of_a_route : {l n : ℕ} {f : Figures} → HasFigures (Route l n f) f
  of_no_route : {f : Figures} → HasFigures (NoRoute f) f

-- a side's labels among the lent lists
abbrev pub labels_in : Side → LentLists → List ℕ
labels_in start l = l.start_labels_there
labels_in end l = l.end_labels_there

-- Demand 3: turns at most nodes, and a node leaves once; opened nodes exact and within the bound; the same for every pattern
pub record Demand3 (q : Query) (ix : Index) (before after : LentLists) (r : Answer) : Type 0 where
  -- for start and end different: the search ended after the turns answered, at most as many as there are nodes, and in each of
  -- them one node left the undecided set, for good
  pub turns : {f : Figures} → HasFigures r f → q.start ≢ q.end → Demand3Turns q f.turns
  -- a node opened from a side carries its exact distance: a walk of that length exists and none is shorter
  pub reached : {f : Figures} → HasFigures r f → (s : Side) (v : ℕ) → v < q.network.nodes → get_or after.states v 0 ≡ opened_by s
      → Walk s q.network (source s q) v (get_or (labels_in s after) v missing)
  pub nearest : {f : Figures} → HasFigures r f → (s : Side) (v : ℕ) → v < q.network.nodes → get_or after.states v 0 ≡ opened_by s
      → (l : ℕ) → Walk s q.network (source s q) v l → get_or (labels_in s after) v missing ≤ l
  -- that distance, plus the node's potential, less the target's, is at most the length answered
  pub bound : {l n : ℕ} {f : Figures} → r ≡ Route l n f → (s : Side) (v : ℕ) → v < q.network.nodes → get_or after.states v 0 ≡ opened_by s
      → le_z ((pos (get_or (labels_in s after) v missing) +ℤ potential_at (potentials s q) v) -ℤ potential_at (potentials s q) (source (other s) q)) (pos l) ≡ true
  -- with any pattern that number 5 does not refuse, the same query on the same lists is answered with the same verdict and
  -- length: it is not refused either
  pub every_pattern : {f : Figures} → HasFigures r f → (p : List ℕ) → bad_pattern p ≡ false
      → SameLengthAndVerdict r (queried (with_pattern p q) ix before).answer

-- What a query keeps to: it leaves what the rules fix, entry for entry, and so the three demands are met.
pub record QueryKept (q : Query) (ix : Index) (before after : LentLists) (r : Answer) : Type 0 where
  pub leaves : left r after ≡ queried q ix before
  pub demand1 : Demand1 q ix before after r
  pub demand2 : Demand2 q after r
  pub demand3 : Demand3 q ix before after r

-- ---- at a cap
-- the figures of an answer that is no refusal
pub data ShowsFigures : Answer → Figures → Type 0 where
  of_ended : {r : Answer} {f : Figures} → HasFigures r f → ShowsFigures r f
  of_provisional : {l x n : ℕ} {f : Figures} → ShowsFigures (Provisional l x n f) f
  of_undecided : {f : Figures} → ShowsFigures (Undecided f) f

-- Honest: a provisional answer shows a real route, and says by how much at most it is longer than the shortest
pub record HonestAnswer (q : Query) (after : LentLists) (r : Answer) : Type 0 where
  -- the first n entries of the path list are joined by arcs from start to end, whose weights sum to the length shown
  pub real : {l x n : ℕ} {f : Figures} → r ≡ Provisional l x n f → Joined q.network (take n after.path) q.start q.end l
  -- no node stands twice among them
  pub none_twice : {l x n : ℕ} {f : Figures} → r ≡ Provisional l x n f → NoneTwice (take n after.path)
  -- the length shown is at most the length of every walk plus the excess
  pub every_walk : {l x n : ℕ} {f : Figures} → r ≡ Provisional l x n f → (m : ℕ) → WalkOfLength q m → l ≤ m + x
  -- there is a walk, so a true shortest length; and the length shown is at most that plus the excess
  pub shortest : {l x n : ℕ} {f : Figures} → r ≡ Provisional l x n f → WithinExcess q l x

-- Never taken back: what is answered holds at every larger cap
pub record NotTakenBack (q : Query) (ix : Index) (cap : ℕ) (before after : LentLists) (r : Answer) : Type 0 where
  -- a route or a "no route" is the same answer at every larger cap and without a cap, with the same path and the same tables
  pub decided : {f : Figures} → HasFigures r f → (d : ℕ) → cap ≤ d → queried_at q ix d before ≡ left r after
  pub as_uncapped : {f : Figures} → HasFigures r f → queried q ix before ≡ left r after
  -- a provisional becomes a route no longer than it, or a provisional with neither length nor excess larger
  pub no_worse : {l x n : ℕ} {f : Figures} → r ≡ Provisional l x n f → (d : ℕ) → cap ≤ d → NoWorse l x (queried_at q ix d before).answer
  -- nothing goes back to undecided: what is undecided at a larger cap is undecided here
  pub not_undone : (d : ℕ) → cap ≤ d → IsUndecided (queried_at q ix d before).answer → IsUndecided r

-- Demand 3 before the end: whatever is answered that is no refusal
pub record Demand3AtCap (q : Query) (cap : ℕ) (after : LentLists) (r : Answer) : Type 0 where
  -- for start and end different: the turns made are at most the cap and at most the nodes, and in each of them one node left
  pub turns : {f : Figures} → ShowsFigures r f → q.start ≢ q.end → Demand3TurnsAt q cap f.turns
  -- a node opened from a side carries its exact distance: a walk of that length exists and none is shorter
  pub reached : {f : Figures} → ShowsFigures r f → (s : Side) (v : ℕ) → v < q.network.nodes → get_or after.states v 0 ≡ opened_by s
      → Walk s q.network (source s q) v (get_or (labels_in s after) v missing)
  pub nearest : {f : Figures} → ShowsFigures r f → (s : Side) (v : ℕ) → v < q.network.nodes → get_or after.states v 0 ≡ opened_by s
      → (l : ℕ) → Walk s q.network (source s q) v l → get_or (labels_in s after) v missing ≤ l
  -- that distance, plus the node's potential, less the target's, is at most the length of every walk, so of the shortest
  pub bound : {f : Figures} → ShowsFigures r f → (s : Side) (v : ℕ) → v < q.network.nodes → get_or after.states v 0 ≡ opened_by s
      → (l : ℕ) → WalkOfLength q l
      → le_z ((pos (get_or (labels_in s after) v missing) +ℤ potential_at (potentials s q) v) -ℤ potential_at (potentials s q) (source (other s) q)) (pos l) ≡ true

-- What a query with a cap keeps to: it leaves what the rules fix, entry for entry; so it is honest and never taken back, demand 3
-- holds before the end, and where the search ended all three demands are met as without a cap.
pub record CappedKept (q : Query) (ix : Index) (cap : ℕ) (before after : LentLists) (r : Answer) : Type 0 where
  pub leaves : left r after ≡ queried_at q ix cap before
  pub demand1 : Demand1 q ix before after r
  pub demand2 : Demand2 q after r
  pub demand3 : Demand3 q ix before after r
  pub honest : HonestAnswer q after r
  pub never_taken_back : NotTakenBack q ix cap before after r
  pub demand3_before_the_end : Demand3AtCap q cap after r
