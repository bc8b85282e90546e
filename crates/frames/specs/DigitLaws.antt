-- The sixteen digits and the reader's table are inverse to each other: one computed test over the sixteen numbers, and one
-- over the 256 bytes. Assumes nothing.
use Rattle.std.specs.Prelude.{◌≡◌, Bool, cond, true, false, ℕ, zero, suc, ◌+◌, ◌<◌, T, ltb, eqb, get_or}
use Rattle.std.proofs.Common.{◌∙◌, subst, sym, ap, add-zero, zero-add, add-suc, suc-add, le_of_suc-le-suc, not-suc-le-zero, eqb→eq, lt-ltb}
use Rattle.frames.specs.Digits.{digit_of, value_of, table_from}

-- a table holds at each entry what it was made of
table_from_lem : (g : ℕ → ℕ) (n i k : ℕ) → k < n → get_or (table_from g n i) k 0 ≡ g (i + k)
table_from_lem g zero i k h = absurd (not-suc-le-zero h)
table_from_lem g (suc n) i zero h = ap g (sym (add-zero i))
table_from_lem g (suc n) i (suc k) h = table_from_lem g n (suc i) k (le_of_suc-le-suc h) ∙ ap g (suc-add i k ∙ sym (add-suc i k))

pub table_at : (g : ℕ → ℕ) (n k : ℕ) → k < n → get_or (table_from g n 0) k 0 ≡ g k
table_at g n k h = table_from_lem g n 0 k h ∙ ap g (zero-add k)

-- a test that passes at each of n numbers, from i on
abbrev all_pass : (ℕ → Bool) → ℕ → ℕ → Bool
all_pass f zero i = true
all_pass f (suc n) i = cond (f i) (all_pass f n (suc i)) false

first_passes : (a b : Bool) → T (cond a b false) → T a
first_passes true b t = tt
first_passes false b t = t

others_pass : (a b : Bool) → T (cond a b false) → T b
others_pass true b t = t
others_pass false b t = absurd t

pass_from : (f : ℕ → Bool) (n i : ℕ) → T (all_pass f n i) → (k : ℕ) → k < n → T (f (i + k))
pass_from f zero i t k h = absurd (not-suc-le-zero h)
pass_from f (suc n) i t zero h = subst (λ (m : ℕ). T (f m)) (sym (add-zero i)) (first_passes (f i) (all_pass f n (suc i)) t)
pass_from f (suc n) i t (suc k) h =
    subst (λ (m : ℕ). T (f m)) (suc-add i k ∙ sym (add-suc i k))
    (pass_from f n (suc i) (others_pass (f i) (all_pass f n (suc i)) t) k (le_of_suc-le-suc h))

pass_at : (f : ℕ → Bool) (n : ℕ) → T (all_pass f n 0) → (k : ℕ) → k < n → T (f k)
pass_at f n t k h = subst (λ (m : ℕ). T (f m)) (zero-add k) (pass_from f n 0 t k h)

-- the value of a number's digit is the number
pub value_of_digit : (n : ℕ) → n < 16 → value_of (digit_of n) ≡ n
unfolding digit_of value_of
value_of_digit n h = eqb→eq _ _ (pass_at (λ (k : ℕ). eqb (value_of (digit_of k)) k) 16 tt n h)

-- the digit of a byte's value is the byte, where it has a value
pub digit_of_value : (b : ℕ) → b < 256 → value_of b < 16 → digit_of (value_of b) ≡ b
unfolding digit_of value_of
digit_of_value b h v =
    eqb→eq _ _
    (subst (λ (t : Bool). T (cond t (eqb (digit_of (value_of b)) b) true)) (lt-ltb (value_of b) 16 v)
    (pass_at (λ (k : ℕ). cond (ltb (value_of k) 16) (eqb (digit_of (value_of k)) k) true) 256 tt b h))
