-- The digits of a line, one after another: what reading them leans on. Assumes nothing.
use Rattle.std.specs.Prelude.{◌≡◌, refl, Bool, cond, true, false, ◌&&◌, List, [], ◌∷◌, ℕ, zero, suc, ◌+◌, ◌-◌, ◌*◌, ◌<◌, ◌≤◌, ltb, length, get_or, take, drop}
use Rattle.std.specs.List.{list_all}
use Rattle.std.proofs.Common.{arith, add-one, drop-cons, drop_of_length-le, ltb-true, lt-ltb, le-ltb}
use Rattle.frames.specs.Digits.{value_of, are_digits, number_from}

-- the test of the first byte and of the others, taken apart
pub first_is : (a b : Bool) → cond a b false ≡ true → a ≡ true
first_is true b e = refl
first_is false b e = e

pub others_are : (a b : Bool) → cond a b false ≡ true → b ≡ true
others_are true b e = e
others_are false b e = let z : ◌≡◌ {A = ℕ} 0 1 = cc in absurd (omega arith)

-- each byte of a line of digits has a value
pub digit_value : (s : List ℕ) (i : ℕ) → are_digits s ≡ true → i < length s → value_of (get_or s i 0) < 16
unfolding are_digits
digit_value [] i e h = absurd (omega arith)
digit_value (b ∷ s) zero e h = ltb-true (value_of b) 16 (first_is (ltb (value_of b) 16) (are_digits s) e)
digit_value (b ∷ s) (suc i) e h = digit_value s i (others_are (ltb (value_of b) 16) (are_digits s) e) (omega arith)

-- a byte is looked at
module _ (s : List ℕ) (i : ℕ) (within : i < length s) where
  pub digits_more : value_of (get_or s i 0) < 16 → are_digits (drop (i + 1) s) ≡ are_digits (drop i s)
  unfolding are_digits
  digits_more good = rw (add-one, drop-cons s i 0, lt-ltb _ _ good)

  pub digits_end : 16 ≤ value_of (get_or s i 0) → false ≡ are_digits (drop i s)
  unfolding are_digits
  digits_end bad = rw (drop-cons s i 0, le-ltb _ _ bad)

pub digits_none : (s : List ℕ) (i : ℕ) → length s ≤ i → true ≡ are_digits (drop i s)
unfolding are_digits
digits_none s i h = rw (drop_of_length-le s h)

-- a line is digits where each of its bytes has a value
pub digits_all : (s : List ℕ) → list_all (λ b. ltb (value_of b) 16) s ≡ are_digits s
unfolding are_digits
digits_all [] = refl
digits_all (b ∷ s) = by_first (ltb (value_of b) 16) (digits_all s)
  where
    by_first : (t : Bool) → list_all (λ x. ltb (value_of x) 16) s ≡ are_digits s → (t && list_all (λ x. ltb (value_of x) 16) s) ≡ cond t (are_digits s) false
    by_first true e = e
    by_first false e = refl

-- one digit more is read, of a line's end
pub number_on : (s : List ℕ) (i n : ℕ) → i < length s → number_from (n * 16 + value_of (get_or s i 0)) (drop (i + 1) s) ≡ number_from n (drop i s)
unfolding number_from
number_on s i n within = rw (add-one, drop-cons s i 0)

-- one digit more is read, of a piece of a line
pub number_more :
    (s : List ℕ) (at d i n : ℕ) → i < d → at + i < length s
    → number_from (n * 16 + value_of (get_or s (at + i) 0)) (take (d - (i + 1)) (drop (at + (i + 1)) s)) ≡ number_from n (take (d - i) (drop (at + i) s))
unfolding number_from
number_more s at d i n more within =
    let one : d - i ≡ suc (d - (i + 1)) = omega arith in
    let next : at + (i + 1) ≡ suc (at + i) = omega arith in
    rw (one, next, drop-cons s (at + i) 0)
