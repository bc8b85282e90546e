-- Why a list of no numbers is a tournament, why a put keeps it one, and why the first entry is the least of its numbers.
-- Assumes nothing.
use Rattle.std.specs.Prelude.{◌≡◌, ◌≢◌, List, [], ◌∷◌, ℕ, zero, suc, ◌+◌, ◌*◌, ◌-◌, ◌/◌, ◌<◌, ◌≤◌, min, length, get_or, set, drop, replicate}
use Rattle.std.proofs.Common.{sym, ap, subst, ◌∙◌, arith, length-set, get_or-set_same, get_or-set_other, get_or-drop, drop-set-lt, ext_get_or}
use Rattle.std.proofs.lemmas.List.{length-replicate, drop-replicate, get_or-replicate, drop-set-add, set-get_or}
use Rattle.network.specs.CaseSplit.{by_eq, by_lt}
use Rattle.least.specs.Tournament.{TournamentOf, Tournament, Putting, least_of, lesser_below, no_number, numbers_in}

-- ---- the least of some numbers
-- it is at most `no_number`
pub least_at_most : (numbers : List ℕ) → least_of numbers ≤ no_number
unfolding least_of
least_at_most [] = omega arith
least_at_most (x ∷ numbers) = omega (arith, least_at_most numbers)

-- it is at most each of them
pub least_within : (numbers : List ℕ) (v : ℕ) → v < length numbers → least_of numbers ≤ get_or numbers v 0
unfolding least_of
least_within [] v h = absurd (omega arith)
least_within (x ∷ numbers) zero h = omega arith
least_within (x ∷ numbers) (suc v) h = omega (arith, least_within numbers v (omega arith))

-- what is at most each of them is at most the least
pub least_of_all : (numbers : List ℕ) (m : ℕ) → m ≤ no_number → ((v : ℕ) → v < length numbers → m ≤ get_or numbers v 0) → m ≤ least_of numbers
unfolding least_of
least_of_all [] m h all = h
least_of_all (x ∷ numbers) m h all =
    omega (arith, all 0 (omega arith), least_of_all numbers m h (λ v w. all (suc v) (omega arith)))

-- ---- a list and its numbers
-- a list that stands for some numbers stands for its own last entries
pub own_last : {numbers list : List ℕ} → TournamentOf numbers list → Tournament list
own_last s = rw s.last s

-- what holds of the last entries, and of an entry where it holds of the two below it, holds of all
from_last : (half : ℕ) (P : ℕ → Type 0)
    → ((v : ℕ) → P (half + v))
    → ((i : ℕ) → i < half → P (2 * i + 1) → P (2 * i + 2) → P i)
    → (fuel i : ℕ) → half ≤ i + fuel → P i
from_last half P last above zero i f = let e : half + (i - half) ≡ i = omega arith in subst P e (last (i - half))
from_last half P last above (suc fuel) i f =
    by_lt i half
    (λ h. above i h (from_last half P last above fuel (2 * i + 1) (omega arith)) (from_last half P last above fuel (2 * i + 2) (omega arith)))
    (λ h. let e : half + (i - half) ≡ i = omega arith in subst P e (last (i - half)))

module _ {numbers list : List ℕ} (s : TournamentOf numbers list) where
  -- number v is the entry so far behind those before the numbers
  number_at : (v : ℕ) → get_or list (length list / 2 + v) 0 ≡ get_or numbers v 0
  number_at v = sym (get_or-drop (length list / 2) list v 0) ∙ ap (λ l. get_or l v 0) s.last

  -- the first entry is at most every entry
  first_below : (fuel i : ℕ) → i ≤ fuel → i < length list → get_or list 0 0 ≤ get_or list i 0
  first_below zero i f h = let e : 0 ≡ i = omega arith in omega (arith, ap (λ k. get_or list k 0) e)
  first_below (suc fuel) i f h =
      by_eq i 0
      (λ e. omega (arith, ap (λ k. get_or list k 0) e))
      (λ d.
      let a : get_or list 0 0 ≤ get_or list ((i - 1) / 2) 0 = first_below fuel ((i - 1) / 2) (omega arith) (omega arith) in
      let m : get_or list ((i - 1) / 2) 0 ≡ lesser_below list ((i - 1) / 2) = s.minima ((i - 1) / 2) (omega arith) in
      by_eq i (2 * ((i - 1) / 2) + 1)
      (λ e. omega (arith, ap (λ k. get_or list k 0) e))
      (λ b. let e : i ≡ 2 * ((i - 1) / 2) + 2 = omega arith in omega (arith, ap (λ k. get_or list k 0) e)))

  -- the least of the numbers is at most every entry
  least_below_lem : (i : ℕ) → i < length list → least_of numbers ≤ get_or list i 0
  least_below_lem i =
      from_last (length list / 2) (λ k. k < length list → least_of numbers ≤ get_or list k 0)
      (λ v h. omega (arith, least_within numbers v (omega arith), number_at v))
      (λ k h a b p. omega (arith, s.minima k h, a (omega arith), b (omega arith)))
      (length list) i (omega arith)

  -- the first entry is the least of the numbers
  pub first_is_least : get_or list 0 0 ≤ no_number → get_or list 0 0 ≡ least_of numbers
  first_is_least h =
      let a : least_of numbers ≤ get_or list 0 0 = least_below_lem 0 (omega arith) in
      omega (arith, least_of_all numbers (get_or list 0 0) h (λ v w. omega (arith, number_at v, first_below (length list) (length list / 2 + v) (omega arith) (omega arith))))

-- a list is settled by the numbers that it stands for
pub one_list : {numbers list list' : List ℕ} → TournamentOf numbers list → TournamentOf numbers list' → list ≡ list'
one_list {numbers} {list} {list'} s t =
    let same : length list ≡ length list' = omega arith in
    let half : length list / 2 ≡ length list' / 2 = ap (λ n. n / 2) same in
    ext_get_or 0 list list' same
    (λ i _.
    from_last (length list / 2) (λ k. get_or list k 0 ≡ get_or list' k 0)
    (λ v. number_at s v ∙ sym (number_at t v) ∙ ap (λ n. get_or list' (n + v) 0) (sym half))
    (λ k h a b. omega (arith, s.minima k h, t.minima k (omega arith)))
    (length list) i (omega arith))

-- ---- a cleared list
-- a list of one number all over, without its first entries
drop_replicate : (k n x : ℕ) → drop k (replicate (k + n) x) ≡ replicate n x
drop_replicate k n x =
    let behind : k + n - k ≡ n = omega arith in
    simp (drop-replicate, behind)

-- a list whose entries hold no number stands for as many places that hold none
pub cleared : (n long : ℕ) {list : List ℕ} → long + 1 ≡ n + n → list ≡ replicate long no_number → TournamentOf (replicate n no_number) list
cleared n long h e =
    let size : length (replicate long no_number) ≡ long = length-replicate long no_number in
    let behind : long - long / 2 ≡ n = omega arith in
    rw e (record {
      long = simp length-replicate h;
      last = rw size (simp (drop-replicate, behind));
      minima = λ i p.
          omega (
            arith,
            get_or-replicate long i no_number 0 (omega arith),
            get_or-replicate long (2 * i + 1) no_number 0 (omega arith),
            get_or-replicate long (2 * i + 2) no_number 0 (omega arith),
          );
    })

-- ---- a put
-- the list stands for the numbers, but the entry above entry i may be left to mend, and entry i is `least`; the first entry has
-- none above it
pub record TournamentBut (numbers list : List ℕ) (i least : ℕ) : Type 0 where
  pub long : length list + 1 ≡ length numbers + length numbers
  pub last : numbers_in list ≡ numbers
  pub minima : (k : ℕ) → k < length list / 2 → i ≢ 2 * k + 1 → i ≢ 2 * k + 2 → get_or list k 0 ≡ lesser_below list k
  pub inside : i < length list
  pub carried : get_or list i 0 ≡ least

-- a number that is put where it is already changes nothing
pub unchanged : {list : List ℕ} {v x : ℕ} → Putting list v → get_or list (length list / 2 + v) 0 ≡ x → TournamentOf (set (numbers_in list) v x) list
unchanged {list} {v} {x} p e =
    let there : get_or (numbers_in list) v 0 ≡ x = sym (number_at p.tournament v) ∙ e in
    let same : set (numbers_in list) v x ≡ numbers_in list = ap (set (numbers_in list) v) (sym there) ∙ set-get_or (numbers_in list) v 0 in
    rw same p.tournament

-- one number changes, and the entry above it is left to mend
pub stored : {list : List ℕ} {v : ℕ} (x : ℕ) → Putting list v
    → TournamentBut (set (numbers_in list) v x) (set list (length list / 2 + v) x) (length list / 2 + v) x
stored {list} {v} x p =
    let same : length (set list (length list / 2 + v) x) ≡ length list = length-set list (length list / 2 + v) x in
    record {
      long = simp length-set p.tournament.long;
      last = rw same (drop-set-add (length list / 2) list v x);
      minima = λ k h a b.
          omega (
            arith,
            p.tournament.minima k (omega arith),
            get_or-set_other list (length list / 2 + v) k x 0 (omega arith),
            get_or-set_other list (length list / 2 + v) (2 * k + 1) x 0 (omega arith),
            get_or-set_other list (length list / 2 + v) (2 * k + 2) x 0 (omega arith),
          );
      inside = omega arith;
      carried = get_or-set_same list (length list / 2 + v) x 0 (omega arith);
    }

-- the two entries below the one above entry i are entry i and the one beside it
beside : (list : List ℕ) (i above : ℕ) {least : ℕ} → 0 < i → above ≡ (i - 1) / 2 → get_or list i 0 ≡ least
    → min least (get_or list (4 * above + 3 - i) 0) ≡ lesser_below list above
beside list i above h w e =
    by_eq i (2 * above + 1)
    (λ a. let b : 4 * above + 3 - i ≡ 2 * above + 2 = omega arith in
    omega (arith, ap (λ k. get_or list k 0) a, ap (λ k. get_or list k 0) b))
    (λ d. let a : i ≡ 2 * above + 2 = omega arith in
    let b : 4 * above + 3 - i ≡ 2 * above + 1 = omega arith in
    omega (arith, ap (λ k. get_or list k 0) a, ap (λ k. get_or list k 0) b))

-- the entry above entry i is mended, by what is carried and the entry beside entry i, and the one above that is left
pub mended : {numbers list : List ℕ} {i least above m : ℕ} → 0 < i → above ≡ (i - 1) / 2 → m ≡ min least (get_or list (4 * above + 3 - i) 0)
    → TournamentBut numbers list i least
    → TournamentBut numbers (set list above m) above m
mended {numbers} {list} {i} {least} {above} {m} h w e s =
    let same : length (set list above m) ≡ length list = length-set list above m in
    let there : get_or (set list above m) above 0 ≡ m = get_or-set_same list above m 0 (omega arith) in
    record {
      long = simp length-set s.long;
      last = rw same (drop-set-lt (length list / 2) list above m (omega arith) ∙ s.last);
      minima = λ k p a b.
          let c : get_or (set list above m) (2 * k + 1) 0 ≡ get_or list (2 * k + 1) 0 = get_or-set_other list above (2 * k + 1) m 0 (omega arith) in
          let d : get_or (set list above m) (2 * k + 2) 0 ≡ get_or list (2 * k + 2) 0 = get_or-set_other list above (2 * k + 2) m 0 (omega arith) in
          by_eq k above
          (λ q. ap (λ j. get_or (set list above m) j 0) q ∙ there ∙ e ∙ beside list i above h w s.carried ∙ sym (ap (lesser_below list) q) ∙ omega arith)
          (λ q. omega (arith, get_or-set_other list above k m 0 q, s.minima k (omega arith) (omega arith) (omega arith)));
      inside = omega arith;
      carried = there;
    }

-- nothing is left above the first entry
pub whole : {numbers list : List ℕ} {least : ℕ} → TournamentBut numbers list 0 least → TournamentOf numbers list
whole s = record { long = s.long; last = s.last; minima = λ k h. s.minima k h (omega arith) (omega arith) }
