-- The excess in natural numbers: the best length less the larger of the two floors, each less its side's potential of its target,
-- where a difference below 0 counts as 0. Assumes nothing.
use Rattle.std.specs.Prelude.{◌≡◌, refl, ℕ, zero, suc, ◌+◌, ◌-◌, ◌≤◌, max, leb, ℤ, pos, negsuc, neg_ℤ, ◌-ℤ◌, ◌+ℤ◌}
use Rattle.std.proofs.Common.{ap, ◌∙◌, arith, le-leb, leb-true, leb-false}
use Rattle.network.specs.CaseSplit.{by_bool}
use Rattle.network.specs.Given.{Sound}
use Rattle.network.specs.Network.{Side, start, end}
use Rattle.network.specs.Potential.{potential_at}
use Rattle.network.specs.PotentialLaws.{shift, shifted}
use Rattle.network.specs.Query.{Query, potentials}
use Rattle.network.specs.Shift.{up, low, low_mag, low_add, sub_cases, up_add, up_neg}
use Rattle.nba.specs.State.{State, half}
use Rattle.nba.specs.Search.{target}
use Rattle.nba.specs.Result.{floor_less, larger, or_zero, excess_over, excess}
use Rattle.nba.specs.Why.Measures.{potential, floor_of, FloorsLifted}
use Rattle.nba.specs.Why.MeasureLaws.{shiftable}

-- a number at or above -B, and 0 if it is negative
or_zero_lem : (B : ℕ) (z : ℤ) → low z ≤ B → or_zero z ≡ up B z - B
unfolding up low
or_zero_lem B (pos n) h = omega arith
or_zero_lem B (negsuc n) h = omega arith

-- a difference, and 0 if it is negative
or_zero_less : (B : ℕ) (a b : ℤ) → low a ≤ B → low b ≤ B → or_zero (a -ℤ b) ≡ up B a - up B b
or_zero_less B a b h k =
    let n = neg_ℤ b in
    let C = low n in
    omega (arith, or_zero_lem (B + C) (a +ℤ n) (omega (arith, low_add a n)), up_add B C a n h (omega arith), up_neg B C b k (omega arith))

-- a length less a natural number
less : (l k : ℕ) → or_zero (pos l -ℤ pos k) ≡ l - k
less l zero = omega arith
less l (suc k) = sub_cases (λ z. or_zero z ≡ l - suc k) l (suc k) (λ h. omega arith) (λ h. omega arith)

-- the larger of 0 and a number
above_zero : (a : ℤ) → larger (pos 0) a ≡ pos (or_zero a)
above_zero (pos n) = rw (le-leb 0 n (omega arith))
above_zero (negsuc n) = refl

larger_pos : (m : ℕ) (b : ℤ) → larger (pos m) b ≡ pos (max m (or_zero b))
larger_pos m (pos n) =
    by_bool (leb m n)
    (λ t. rw t (ap pos (let h = leb-true m n t in omega arith)))
    (λ t. rw t (ap pos (let h = leb-false m n t in omega arith)))
larger_pos m (negsuc n) = ap pos (omega arith)

excess_over_lem : (l : ℕ) (a b : ℤ) → excess_over l a b ≡ l - max (or_zero a) (or_zero b)
unfolding excess_over
excess_over_lem l a b = rw (above_zero a, larger_pos (or_zero a) b) (less l (max (or_zero a) (or_zero b)))

-- a side's floor less its potential of its target, and 0 if that is negative
abbrev pub floor_above : Query → Side → State → ℕ
floor_above q s st = floor_of s st - potential q s (target q s)

floor_above_lem : {q : Query} {st : State} → Sound q → FloorsLifted st → (s : Side) → or_zero (floor_less q s st) ≡ floor_above q s st
unfolding shifted
floor_above_lem {q} {st} sound lifted s =
    or_zero_less shift (half s st).floor (potential_at (potentials s q) (target q s)) (lifted.lifted s) (low_mag shift (potential_at (potentials s q) (target q s)) ((shiftable sound s).fits (target q s)))

pub excess_natural : {q : Query} {st : State} → Sound q → FloorsLifted st → excess q st ≡ st.best - max (floor_above q start st) (floor_above q end st)
unfolding excess
excess_natural {q} {st} sound lifted =
    excess_over_lem st.best (floor_less q start st) (floor_less q end st)
    ∙ rw (floor_above_lem sound lifted start, floor_above_lem sound lifted end)
