-- The excess, said by the library's larger of two numbers. Assumes nothing.
use Rattle.std.proofs.Common.{◌≡◌, arith, ℕ, ℤ, pos, ◌-ℤ◌}
use Rattle.std.specs.Int.{int_max}
use Rattle.std.proofs.lemmas.Int.{ints, clamps}
use Rattle.nba.specs.Result.{excess_over, larger, or_zero}

larger_is : (a b : ℤ) → larger a b ≡ int_max a b
larger_is a b = grind (arith, ints)

pub excess_is : (l : ℕ) (a b m : ℤ) → m ≡ int_max (int_max a b) (pos 0) → or_zero (pos l -ℤ m) ≡ excess_over l a b
unfolding excess_over
excess_is l a b m h =
    let e : larger (larger (pos 0) a) b ≡ m = simp larger_is (omega (arith, ints, clamps)) in rw e
