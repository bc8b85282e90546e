-- Digits and the numbers that they spell (docs/RULES.md, "District frames"): upper-case hexadecimal, highest digit first.
-- Definitions only; their laws are in DigitLaws and FieldLaws. Assumes nothing.
use Rattle.std.specs.Prelude.{◌≡◌, Bool, cond, true, false, List, [], ◌∷◌, ◌++◌, ℕ, zero, suc, ◌+◌, ◌-◌, ◌*◌, ◌/◌, ◌%◌, ltb, take, drop}

-- the upper-case digit of a number below 16: 48 is `0` and 65 is `A`
unfoldable pub digit_of : ℕ → ℕ
digit_of n = cond (ltb n 10) (48 + n) (55 + n)

-- the value of a byte as an upper-case digit, 255 where it is none
unfoldable pub value_of : ℕ → ℕ
value_of b = cond (ltb b 48) 255 (cond (ltb b 58) (b - 48) (cond (ltb b 65) 255 (cond (ltb b 71) (b - 55) 255)))

-- the table of what g says of n numbers, from i on
abbrev pub table_from : (ℕ → ℕ) → ℕ → ℕ → List ℕ
table_from g zero i = []
table_from g (suc n) i = g i ∷ table_from g n (suc i)

-- the reader's table: the value of each of the 256 bytes
unfoldable pub value_table : List ℕ
value_table = table_from value_of 256 0

-- whether a line has upper-case digits and nothing else
unfoldable pub are_digits : List ℕ → Bool
are_digits [] = true
are_digits (b ∷ s) = cond (ltb (value_of b) 16) (are_digits s) false

-- the number that digits spell, highest first, after digits that spelled n
unfoldable pub number_from : ℕ → List ℕ → ℕ
number_from n [] = n
number_from n (b ∷ s) = number_from (n * 16 + value_of b) s

-- the number that the d digits at a place of a line spell
unfoldable pub number_at : List ℕ → ℕ → ℕ → ℕ
number_at s at d = number_from 0 (take d (drop at s))

-- the lowest d digits of a number, highest first
unfoldable pub digits_of : ℕ → ℕ → List ℕ
digits_of zero n = []
digits_of (suc d) n = digits_of d (n / 16) ++ (digit_of (n % 16) ∷ [])

-- values spelled in fields of these widths, one after the other
unfoldable pub spelled : List ℕ → List ℕ → List ℕ
spelled [] vs = []
spelled (w ∷ ws) [] = []
spelled (w ∷ ws) (v ∷ vs) = digits_of w v ++ spelled ws vs

-- what a reader of fields may take for granted: it was lent the reader's table, and the line is digits
pub record Readable (t s : List ℕ) : Type 0 where
  pub table : t ≡ value_table
  pub digits : are_digits s ≡ true
