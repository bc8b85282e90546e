-- Two's complement in 32 bits, both ways, for the signed fields of docs/RULES.md, "District frames".
-- Definitions only; their law is in SignedLaws. Assumes nothing.
use Rattle.std.specs.Prelude.{cond, ℕ, ◌-◌, ltb, ℤ, pos, negsuc}

-- the number that 32 bits spell: from 2,147,483,648 on they spell the negative ones, all bits set being -1. (`negsuc n` is -1 - n.)
unfoldable pub signed_of : ℕ → ℤ
signed_of n = cond (ltb n 2147483648) (pos n) (negsuc (4294967295 - n))

-- the 32 bits that spell a number
unfoldable pub bits_of : ℤ → ℕ
bits_of (pos n) = n
bits_of (negsuc n) = 4294967295 - n
