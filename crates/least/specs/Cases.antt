-- Cases of tournaments, made by hand and computed by the definitions: who asks for a power of two, has the numbers in another
-- order, takes the greater, or leaves an entry above a changed number as it was, has another list. Assumes nothing.
use Rattle.std.specs.Prelude.{◌≡◌, refl, List, [], ◌∷◌, ℕ, zero, suc, ◌<◌, set}
use Rattle.std.proofs.Common.{arith}
use Rattle.least.specs.Tournament.{TournamentOf, Tournament, least_of, no_number, numbers_in}

-- what holds of 0, 1, 2 and 3 holds below 4
below_four : (P : ℕ → Type 0) → P 0 → P 1 → P 2 → P 3 → (i : ℕ) → i < 4 → P i
below_four P a b c d zero h = a
below_four P a b c d (suc zero) h = b
below_four P a b c d (suc (suc zero)) h = c
below_four P a b c d (suc (suc (suc zero))) h = d
below_four P a b c d (suc (suc (suc (suc i)))) h = absurd (omega arith)

-- ---- the least of no number, of one and of five
pub least_computed : least_of [] ∷ least_of (7 ∷ []) ∷ least_of (5 ∷ 3 ∷ 8 ∷ 5 ∷ 9 ∷ []) ∷ [] ≡ no_number ∷ 7 ∷ 3 ∷ []
unfolding least_of
least_computed = refl

-- ---- what is a tournament
-- one number is one entry, with none before it
pub one_number : TournamentOf (7 ∷ []) (7 ∷ [])
one_number = record { long = refl; last = refl; minima = λ i h. absurd (omega arith) }

-- five numbers, two of them alike: entry 1 has a number and an inner entry below it, both 5
abbrev five : List ℕ
five = 3 ∷ 5 ∷ 3 ∷ 5 ∷ 5 ∷ 3 ∷ 8 ∷ 5 ∷ 9 ∷ []

pub five_numbers : TournamentOf (5 ∷ 3 ∷ 8 ∷ 5 ∷ 9 ∷ []) five
five_numbers = record { long = refl; last = refl; minima = below_four _ refl refl refl refl }

-- number 1, the least of them, becomes 7: entries 2 and 0 above it are others
pub five_put : TournamentOf (set (numbers_in five) 1 7) (5 ∷ 5 ∷ 7 ∷ 5 ∷ 5 ∷ 7 ∷ 8 ∷ 5 ∷ 9 ∷ [])
five_put = record { long = refl; last = refl; minima = below_four _ refl refl refl refl }

-- ---- what is none
-- entry 1 is less than both below it
pub wrong_inside : Tournament (3 ∷ 4 ∷ 3 ∷ 5 ∷ 5 ∷ 3 ∷ 8 ∷ 5 ∷ 9 ∷ []) → ⊥
wrong_inside s = omega (arith, s.minima 1 (omega arith))

-- after the put above, the first entry is left as it was
pub wrong_first : Tournament (3 ∷ 5 ∷ 7 ∷ 5 ∷ 5 ∷ 7 ∷ 8 ∷ 5 ∷ 9 ∷ []) → ⊥
wrong_first s = omega (arith, s.minima 0 (omega arith))

-- an even count of entries: of the two below the first one is missing, and does not pass for 0
pub even_length : Tournament (0 ∷ 3 ∷ []) → ⊥
even_length s = omega (arith, s.long)

-- no entry at all: there is at least one number
pub no_entry : Tournament [] → ⊥
no_entry s = omega (arith, s.long)
