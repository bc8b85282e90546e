-- The number that a number's bits spell is the number, and the bits of what bits spell are those bits. Assumes nothing.
use Rattle.std.specs.Prelude.{◌≡◌, refl, Bool, cond, true, false, ℕ, zero, suc, ◌-◌, ◌<◌, ◌≤◌, ltb, ℤ, pos, negsuc, ◌-ℤ◌}
use Rattle.std.proofs.Common.{ap, arith, zero-add, to_z, w32, lt-ltb, le-ltb}
use Rattle.std.specs.Int.Signed.{mag}
use Rattle.frames.specs.Signed.{signed_of, bits_of}

-- -1 - y
pub minus_one_less : (y : ℕ) → negsuc 0 -ℤ pos y ≡ negsuc y
minus_one_less zero = refl
minus_one_less (suc n) = ap (λ (m : ℕ). negsuc (suc m)) (zero-add n)

-- what a cast to a signed number gives is the number that its bits spell
pub signed_of_cast : (n : ℕ) → n < 4294967296 → to_z w32 n ≡ signed_of n
unfolding signed_of
signed_of_cast n h = let same : 4294967296 - suc n ≡ 4294967295 - n = omega arith in rw same

pub signed_of_bits : (z : ℤ) → mag z < 2147483648 → signed_of (bits_of z) ≡ z
unfolding signed_of bits_of
signed_of_bits (pos n) h = rw (lt-ltb n 2147483648 h)
signed_of_bits (negsuc n) h =
    let high : 2147483648 ≤ 4294967295 - n = omega arith in
    let same : 4294967295 - (4294967295 - n) ≡ n = omega arith in
    rw (le-ltb (4294967295 - n) 2147483648 high, same)

pub bits_of_signed : (n : ℕ) → n < 4294967296 → bits_of (signed_of n) ≡ n
unfolding signed_of bits_of
bits_of_signed n h = go (ltb n 2147483648)
  where
    go : (t : Bool) → bits_of (cond t (pos n) (negsuc (4294967295 - n))) ≡ n
    go true = refl
    go false = let same : 4294967295 - (4294967295 - n) ≡ n = omega arith in same
