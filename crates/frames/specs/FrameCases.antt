-- The ways in which a line can be read: as one of the six kinds, with what that kind asks of the line, or as no sound frame.
-- Every law of decoded lines goes through these cases. Assumes nothing.
use Rattle.std.specs.Prelude.{◌≡◌, refl, Bool, cond, true, false, List, eqb, length, Option, None, Some}
use Rattle.std.proofs.Common.{arith, eqb-true, ℕ, ◌+◌, ◌<◌}
use Rattle.network.specs.Cap.{Cap}
use Rattle.frames.specs.Digits.{are_digits, number_at}
use Rattle.frames.specs.Signed.{signed_of}
use Rattle.frames.specs.FieldLaws.{number_below}
use Rattle.frames.specs.Frame.{size_of, arc_of, potentials_of, query_of, capped_of, of_kind, most_digits, frame_of, digits_before}
use Rattle.frames.specs.declared.Frame.{Frame}
use Rattle.frames.specs.declared.Frame.TheVariants.{Size, Arc, TwoWay, Potentials, Query}

-- what holds of both results of a test holds of the result
by_test : (P : Option Frame → Type 0) (t : Bool) {x y : Option Frame} → (t ≡ true → P x) → (t ≡ false → P y) → P (cond t x y)
by_test P true f g = f refl
by_test P false f g = g refl

module _ (s : List ℕ) (P : Option Frame → Type 0) (unsound : P None) where
  by_length : (n : ℕ) {f : Option Frame} → (length s ≡ n → P f) → P (cond (eqb (length s) n) f None)
  by_length n f = by_test P (eqb (length s) n) (λ e. f (eqb-true (length s) n e)) (λ _. unsound)

  pub frame_cases :
      (are_digits s ≡ true → number_at s 0 2 ≡ 1 → length s ≡ 10 → P (Some (Size (number_at s 2 4) (number_at s 6 4))))
      → (are_digits s ≡ true → number_at s 0 2 ≡ 2 → length s ≡ 18 → P (Some (Arc (number_at s 2 4) (number_at s 6 4) (number_at s 10 8))))
      → (are_digits s ≡ true → number_at s 0 2 ≡ 5 → length s ≡ 18 → P (Some (TwoWay (number_at s 2 4) (number_at s 6 4) (number_at s 10 8))))
      → (are_digits s ≡ true → number_at s 0 2 ≡ 3 → length s ≡ 22 → P (Some (Potentials (number_at s 2 4) (signed_of (number_at s 6 8)) (signed_of (number_at s 14 8)))))
      → (are_digits s ≡ true → number_at s 0 2 ≡ 4 → length s ≡ 12 + number_at s 10 2 → P (Some (Query (number_at s 2 4) (number_at s 6 4) None (number_at s 10 2))))
      → (are_digits s ≡ true → number_at s 0 2 ≡ 7 → length s ≡ 16 + number_at s 14 2 → P (Some (Query (number_at s 2 4) (number_at s 6 4) (Some (number_at s 10 4)) (number_at s 14 2))))
      → P (frame_of s)
  unfolding frame_of of_kind size_of arc_of potentials_of query_of capped_of
  frame_cases size arc two-way potentials query capped =
      let kind : ℕ = number_at s 0 2 in
      by_test P (are_digits s)
      (λ d. by_test P (eqb kind 1) (λ k. by_length 10 (size d (eqb-true kind 1 k)))
      (λ _. by_test P (eqb kind 2) (λ k. by_length 18 (arc d (eqb-true kind 2 k)))
      (λ _. by_test P (eqb kind 3) (λ k. by_length 22 (potentials d (eqb-true kind 3 k)))
      (λ _. by_test P (eqb kind 4) (λ k. by_length (12 + number_at s 10 2) (query d (eqb-true kind 4 k)))
      (λ _. by_test P (eqb kind 5) (λ k. by_length 18 (two-way d (eqb-true kind 5 k)))
      (λ _. by_test P (eqb kind 7) (λ k. by_length (16 + number_at s 14 2) (capped d (eqb-true kind 7 k))) (λ _. unsound)))))))
      (λ _. unsound)

-- a line of digits is a frame of its kind
pub by_kind : (s : List ℕ) (k : ℕ) → are_digits s ≡ true → number_at s 0 2 ≡ k → of_kind k s ≡ frame_of s
unfolding frame_of
by_kind s k d e = rw (d, e)

-- no frame has fewer digits than a size, or more than the most
pub too_short : (s : List ℕ) → length s < 2 + 4 + 4 → None ≡ frame_of s
too_short s h =
    frame_cases s (λ (f : Option Frame). None ≡ f) refl
    (λ d k l. absurd (omega arith))
    (λ d k l. absurd (omega arith))
    (λ d k l. absurd (omega arith))
    (λ d k l. absurd (omega arith))
    (λ d k l. absurd (omega arith))
    (λ d k l. absurd (omega arith))

pub too_long : (s : List ℕ) → most_digits < length s → None ≡ frame_of s
too_long s h =
    frame_cases s (λ (f : Option Frame). None ≡ f) refl
    (λ d k l. absurd (omega arith))
    (λ d k l. absurd (omega arith))
    (λ d k l. absurd (omega arith))
    (λ d k l. absurd (omega arith))
    (λ d k l. absurd (omega (arith, number_below s 10 2 d (omega arith))))
    (λ d k l. absurd (omega (arith, number_below s 14 2 d (omega arith))))

-- a query's line has the digits before its entries and one for each entry
pub query_length : (s : List ℕ) {a b n : ℕ} {cap : Cap} → frame_of s ≡ Some (Query a b cap n) → length s ≡ digits_before cap + n
query_length s {a} {b} {n} {cap} =
    frame_cases s (λ (f : Option Frame). f ≡ Some (Query a b cap n) → length s ≡ digits_before cap + n)
    (λ e. cc)
    (λ d k l e. cc)
    (λ d k l e. cc)
    (λ d k l e. cc)
    (λ d k l e. cc)
    (λ d k l e. cc)
    (λ d k l e. cc)
