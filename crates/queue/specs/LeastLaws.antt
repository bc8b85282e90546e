-- The least number of a queue stands for the node that the side takes: the one with the least key, the lowest number among equals.
-- Assumes nothing.
use Rattle.std.specs.Prelude.{◌≡◌, refl, true, false, List, ℕ, zero, suc, ◌^◌, ◌<◌, ◌≤◌, min, eqb, ltb, ℤ, pos, length, get_or}
use Rattle.std.proofs.Common.{sym, ap, ◌∙◌, arith, ne_eqb, ltb-true}
use Rattle.std.specs.Int.Signed.{mag, lt_z}
use Rattle.network.specs.CaseSplit.{cases, by_bool, by_lt, both_true}
use Rattle.network.specs.Network.{most_nodes}
use Rattle.network.specs.Potential.{potential_at}
use Rattle.network.specs.Shift.{mag_add}
use Rattle.nba.specs.State.{missing, undecided}
use Rattle.nba.specs.Search.{Chosen, none, node, lower, key_of, least_below}
use Rattle.least.specs.Tournament.{no_number, least_of, numbers_in}
use Rattle.least.specs.TournamentLaws.{least_within, least_at_most, least_of_all}
use Rattle.queue.specs.Code.{raise, code, meaning}
use Rattle.queue.specs.Queue.{waits, waiting_number, QueueOf, next_in}
use Rattle.queue.specs.CodeLaws.{code_small, node_back, key_back, key_first, then_node}

-- ---- a candidate's number
abbrev number_for : Chosen → ℕ
number_for none = no_number
number_for (node v k) = code k v

-- no node, or a node below n whose key has at most 40 bits
data Proper (n : ℕ) : Chosen → Type 0 where
  nobody : Proper n none
  somebody : (v : ℕ) (k : ℤ) → v < n → mag k < raise → Proper n (node v k)

proper_wider : {n m : ℕ} {c : Chosen} → n ≤ m → Proper n c → Proper m c
proper_wider l nobody = nobody
proper_wider l (somebody v k h g) = somebody v k (omega arith) g

proper_lower : (v : ℕ) (k : ℤ) {c : Chosen} → mag k < raise → Proper v c → Proper (suc v) (lower v k c)
unfolding lower
proper_lower v k h nobody = somebody v k (omega arith) h
proper_lower v k h (somebody u j i g) =
    cases (Proper (suc v)) (lt_z k j) (λ e. somebody v k (omega arith) h) (λ e. somebody u j (omega arith) g)

-- the lower of two candidates has the lesser number
number_lower : (v : ℕ) (k : ℤ) {c : Chosen} → v < most_nodes → mag k < raise → Proper v c → number_for (lower v k c) ≡ min (number_for c) (code k v)
unfolding lower
number_lower v k w h nobody = omega (arith, code_small k v h w)
number_lower v k w h (somebody u j i g) =
    cases (λ c. number_for c ≡ min (code j u) (code k v)) (lt_z k j)
    (λ e. omega (arith, key_first k j v u h g w (omega arith) e))
    (λ e. omega (arith, then_node k j v u h g w (omega arith) e i))

-- a number stands for its candidate
number_means : {c : Chosen} → Proper most_nodes c → meaning (number_for c) ≡ c
unfolding meaning
number_means nobody = refl
number_means (somebody v k w h) =
    rw (ne_eqb (code k v) no_number (omega (arith, code_small k v h w)), node_back k v h w, key_back k v h w)

-- ---- the numbers of the nodes
pub number_waits : (labels states : List ℕ) (p : List ℤ) (v : ℕ) → waits labels states v ≡ true → waiting_number labels states p v ≡ code (key_of labels p v) v
unfolding waiting_number
number_waits labels states p v e = rw e

pub number_absent : (labels states : List ℕ) (p : List ℤ) (v : ℕ) → waits labels states v ≡ false → waiting_number labels states p v ≡ no_number
unfolding waiting_number
number_absent labels states p v e = rw e

-- the keys of waiting nodes have at most 40 bits, where potentials fit 32
module _ (labels states : List ℕ) (p : List ℤ) (small : (v : ℕ) → mag (potential_at p v) < 2 ^ 31) where
  key_small : (v : ℕ) → waits labels states v ≡ true → mag (key_of labels p v) < raise
  key_small v e =
      both_true (eqb (get_or states v 0) undecided) (ltb (get_or labels v missing) missing) e
      (λ a b. omega (arith, mag_add missing (2 ^ 31) (pos (get_or labels v missing)) (potential_at p v) (ltb-true (get_or labels v missing) missing b) (small v)))

  least_waits : (v : ℕ) → waits labels states v ≡ true → least_below labels states p (suc v) ≡ lower v (key_of labels p v) (least_below labels states p v)
  unfolding least_below
  least_waits v e = rw e

  least_absent : (v : ℕ) → waits labels states v ≡ false → least_below labels states p (suc v) ≡ least_below labels states p v
  unfolding least_below
  least_absent v e = rw e

  proper : (m : ℕ) → Proper m (least_below labels states p m)
  unfolding least_below
  proper zero = nobody
  proper (suc v) =
      cases (Proper (suc v)) (waits labels states v) (λ e. proper_lower v (key_of labels p v) (key_small v e) (proper v))
      (λ e. proper_wider (omega arith) (proper v))

  -- the number of the node that is taken: it is there, or it is no number
  taken_most : (m : ℕ) → m ≤ most_nodes → number_for (least_below labels states p m) ≤ no_number
  taken_most m few = by (proper_wider few (proper m))
    where
      by : {c : Chosen} → Proper most_nodes c → number_for c ≤ no_number
      by nobody = omega arith
      by (somebody v k w h) = omega (arith, code_small k v h w)

  -- with one node more it is the lesser of the two
  taken_next : (v : ℕ) → v < most_nodes
      → number_for (least_below labels states p (suc v)) ≡ min (number_for (least_below labels states p v)) (waiting_number labels states p v)
  taken_next v h =
      by_bool (waits labels states v)
      (λ e. ap number_for (least_waits v e) ∙ number_lower v (key_of labels p v) h (key_small v e) (proper v) ∙ ap (min (number_for (least_below labels states p v))) (sym (number_waits labels states p v e)))
      (λ e. ap number_for (least_absent v e) ∙ omega (arith, number_absent labels states p v e, taken_most v (omega arith)))

  -- so it is at most each of the nodes' numbers, and what is at most each of them is at most it
  taken_within : (m : ℕ) → m ≤ most_nodes → (v : ℕ) → v < m → number_for (least_below labels states p m) ≤ waiting_number labels states p v
  taken_within zero few v h = absurd (omega arith)
  taken_within (suc m) few v h =
      by_lt v m (λ l. omega (arith, taken_next m few, taken_within m (omega arith) v l))
      (λ l. let e : v ≡ m = omega arith in omega (arith, taken_next m few, ap (waiting_number labels states p) e))

  taken_of_all : (m : ℕ) → m ≤ most_nodes → (x : ℕ) → x ≤ no_number → ((v : ℕ) → v < m → x ≤ waiting_number labels states p v)
      → x ≤ number_for (least_below labels states p m)
  unfolding least_below
  taken_of_all zero few x h all = h
  taken_of_all (suc m) few x h all =
      omega (arith, taken_next m few, taken_of_all m (omega arith) x h (λ v l. all v (omega arith)), all m (omega arith))

  -- so the least number of a queue stands for the node that the side takes
  pub next_is_least : {list : List ℕ} → length states ≤ most_nodes → QueueOf labels states p list → next_in list ≡ least_below labels states p (length states)
  next_is_least {list} few q = ap meaning e ∙ number_means (proper_wider few (proper (length states)))
    where
      up_to : least_of (numbers_in list) ≤ number_for (least_below labels states p (length states))
      up_to =
          taken_of_all (length states) few (least_of (numbers_in list)) (least_at_most (numbers_in list))
          (λ v h. omega (arith, least_within (numbers_in list) v (omega (arith, q.long)), q.numbers v h))

      down_to : number_for (least_below labels states p (length states)) ≤ least_of (numbers_in list)
      down_to =
          least_of_all (numbers_in list) (number_for (least_below labels states p (length states))) (taken_most (length states) few)
          (λ v h. omega (arith, taken_within (length states) few v (omega (arith, q.long)), q.numbers v (omega (arith, q.long))))

      e : least_of (numbers_in list) ≡ number_for (least_below labels states p (length states))
      e = omega (arith, up_to, down_to)
