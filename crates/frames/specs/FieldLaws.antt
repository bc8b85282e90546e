-- Fields, both ways and at every width: the number that a number's digits spell is the number, and the digits of the number
-- that digits spell are those digits. The same for fields one after the other. Assumes nothing.
use Rattle.std.specs.Prelude.{◌≡◌, refl, Bool, true, false, List, [], ◌∷◌, ◌++◌, ℕ, zero, suc, ◌+◌, ◌*◌, ◌/◌, ◌%◌, ◌^◌, ◌<◌, ◌≤◌, ltb, length, take, drop}
use Rattle.std.proofs.Common.{◌∙◌, append_assoc, append-nil, pow-suc, arith, length-append, length-drop, take_at, drop_at, take-add, drop-drop, length-take-le, ltb-true, ltb-false, lt-ltb, le-ltb}
use Rattle.frames.specs.Digits.{digit_of, value_of, are_digits, number_from, number_at, digits_of, spelled}
use Rattle.frames.specs.DigitLaws.{value_of_digit, digit_of_value}
use Rattle.frames.specs.FieldSteps.{first_is, others_are}

pub length_digits : (d n : ℕ) → length (digits_of d n) ≡ d
unfolding digits_of
length_digits zero n = refl
length_digits (suc d) n = length-append (digits_of d (n / 16)) _ ∙ omega (arith, length_digits d (n / 16))

-- digits after digits, and parts of digits, are digits
pub digits-++ : (a b : List ℕ) → are_digits a ≡ true → are_digits b ≡ true → are_digits (a ++ b) ≡ true
unfolding are_digits
digits-++ [] b p q = q
digits-++ (x ∷ a) b p q = rw (first_is (ltb (value_of x) 16) (are_digits a) p) (digits-++ a b (others_are (ltb (value_of x) 16) (are_digits a) p) q)

pub digits_drop : (n : ℕ) (s : List ℕ) → are_digits s ≡ true → are_digits (drop n s) ≡ true
unfolding are_digits
digits_drop zero s p = p
digits_drop (suc n) [] p = p
digits_drop (suc n) (x ∷ s) p = digits_drop n s (others_are (ltb (value_of x) 16) (are_digits s) p)

pub digits_take : (n : ℕ) (s : List ℕ) → are_digits s ≡ true → are_digits (take n s) ≡ true
unfolding are_digits
digits_take zero s p = refl
digits_take (suc n) [] p = p
digits_take (suc n) (x ∷ s) p = rw (first_is (ltb (value_of x) 16) (are_digits s) p) (digits_take n s (others_are (ltb (value_of x) 16) (are_digits s) p))

-- the digit of a number below 16 is a digit
pub digit_is_digit : (n : ℕ) → n < 16 → are_digits (digit_of n ∷ []) ≡ true
unfolding are_digits
digit_is_digit n h = rw (value_of_digit n h, lt-ltb n 16 h)

digits_are_digits : (d n : ℕ) → are_digits (digits_of d n) ≡ true
unfolding digits_of are_digits
digits_are_digits zero n = refl
digits_are_digits (suc d) n = digits-++ (digits_of d (n / 16)) _ (digits_are_digits d (n / 16)) (digit_is_digit (n % 16) (omega arith))

-- one digit more at the end
number_end : (a : ℕ) (s : List ℕ) (b : ℕ) → number_from a (s ++ (b ∷ [])) ≡ number_from a s * 16 + value_of b
unfolding number_from
number_end a [] b = refl
number_end a (x ∷ s) b = number_end (a * 16 + value_of x) s b

number_of_digits : (d n : ℕ) → n < 16 ^ d → number_from 0 (digits_of d n) ≡ n
unfolding digits_of number_from
number_of_digits zero n h = omega arith
number_of_digits (suc d) n h =
    let h' : n < 16 ^ d * 16 = rw pow-suc at h in
    let small : n % 16 < 16 = omega arith in
    number_end 0 (digits_of d (n / 16)) (digit_of (n % 16)) ∙ rw (number_of_digits d (n / 16) (omega arith), value_of_digit (n % 16) small) (omega arith)

-- a number written as a field of a line, and read there
pub field_roundtrip : (p : List ℕ) (d n : ℕ) (t : List ℕ) (at : ℕ) → length p ≡ at → n < 16 ^ d → number_at (p ++ (digits_of d n ++ t)) at d ≡ n
unfolding number_at
field_roundtrip p d n t at e h = rw (drop_at p (digits_of d n ++ t) at e, take_at (digits_of d n) t d (length_digits d n)) (number_of_digits d n h)

-- a byte that has a value is its digit
pub byte_of_value : (b : ℕ) → value_of b < 16 → b < 256
unfolding value_of
byte_of_value b h = go (ltb b 256) refl
  where
    go : (t : Bool) → ltb b 256 ≡ t → b < 256
    go true e = ltb-true b 256 e
    go false e =
        let l : 256 ≤ b = ltb-false b 256 e in
        let a1 : 48 ≤ b = omega arith in
        let a2 : 58 ≤ b = omega arith in
        let a3 : 65 ≤ b = omega arith in
        let a4 : 71 ≤ b = omega arith in
        let v : value_of b ≡ 255 = rw (le-ltb b 48 a1, le-ltb b 58 a2, le-ltb b 65 a3, le-ltb b 71 a4) in
        absurd (omega arith)

digits_after : (k n : ℕ) (s : List ℕ) → are_digits s ≡ true → digits_of (k + length s) (number_from n s) ≡ digits_of k n ++ s
unfolding are_digits number_from digits_of
digits_after k n [] p =
    let z : k + 0 ≡ k = omega arith in
    rw (z, append-nil)
digits_after k n (b ∷ s) p =
    let v : value_of b < 16 = ltb-true (value_of b) 16 (first_is (ltb (value_of b) 16) (are_digits s) p) in
    let m : k + suc (length s) ≡ suc k + length s = omega arith in
    let q : (n * 16 + value_of b) / 16 ≡ n = omega arith in
    let r : (n * 16 + value_of b) % 16 ≡ value_of b = omega arith in
    rw m (digits_after (suc k) (n * 16 + value_of b) s (others_are (ltb (value_of b) 16) (are_digits s) p) ∙ rw (q, r, digit_of_value b (byte_of_value b v) v, append_assoc))

-- digits read as a field of a line, and written again
pub field_rewritten : (s : List ℕ) (at d : ℕ) → are_digits s ≡ true → at + d ≤ length s → digits_of d (number_at s at d) ≡ take d (drop at s)
unfolding number_at digits_of
field_rewritten s at d p h =
    let room : d ≤ length (drop at s) = rw length-drop (omega arith) in
    let l : length (take d (drop at s)) ≡ d = length-take-le d (drop at s) room in
    let e : 0 + length (take d (drop at s)) ≡ d = omega arith in
    rw e at (digits_after 0 0 (take d (drop at s)) (digits_take d (drop at s) (digits_drop at s p)))

number_bound : (k n : ℕ) (s : List ℕ) → are_digits s ≡ true → n < 16 ^ k → number_from n s < 16 ^ (k + length s)
unfolding are_digits number_from
number_bound k n [] p h =
    let z : k + 0 ≡ k = omega arith in
    rw z h
number_bound k n (b ∷ s) p h =
    let v : value_of b < 16 = ltb-true (value_of b) 16 (first_is (ltb (value_of b) 16) (are_digits s) p) in
    let m : k + suc (length s) ≡ suc k + length s = omega arith in
    let h' : n * 16 + value_of b < 16 ^ suc k = rw pow-suc (omega arith) in
    rw m (number_bound (suc k) (n * 16 + value_of b) s (others_are (ltb (value_of b) 16) (are_digits s) p) h')

-- d digits spell a number below 16 to the d
pub number_below : (s : List ℕ) (at d : ℕ) → are_digits s ≡ true → at + d ≤ length s → number_at s at d < 16 ^ d
unfolding number_at
number_below s at d p h =
    let room : d ≤ length (drop at s) = rw length-drop (omega arith) in
    let l : length (take d (drop at s)) ≡ d = length-take-le d (drop at s) room in
    let e : 0 + length (take d (drop at s)) ≡ d = omega arith in
    rw e at (number_bound 0 0 (take d (drop at s)) (digits_take d (drop at s) (digits_drop at s p)) (omega arith))

-- the numbers that fields of these widths spell, from a place of a line on
abbrev pub fields_at : ℕ → List ℕ → List ℕ → List ℕ
fields_at at [] s = []
fields_at at (w ∷ ws) s = number_at s at w ∷ fields_at (at + w) ws s

-- the digits of fields of these widths
abbrev pub total : List ℕ → ℕ
total [] = 0
total (w ∷ ws) = w + total ws

-- as many values as widths, and each fits its field
pub data InFields : List ℕ → List ℕ → Type 0 where
  none : InFields [] []
  one : (w v : ℕ) {ws vs : List ℕ} → v < 16 ^ w → InFields ws vs → InFields (w ∷ ws) (v ∷ vs)

pub length_spelled : {ws vs : List ℕ} → InFields ws vs → length (spelled ws vs) ≡ total ws
unfolding spelled
length_spelled none = refl
length_spelled (one w v {ws} {vs} h r) = length-append (digits_of w v) (spelled ws vs) ∙ omega (arith, length_digits w v, length_spelled r)

pub spelled_digits : {ws vs : List ℕ} → InFields ws vs → are_digits (spelled ws vs) ≡ true
unfolding spelled are_digits
spelled_digits none = refl
spelled_digits (one w v {ws} {vs} h r) = digits-++ (digits_of w v) (spelled ws vs) (digits_are_digits w v) (spelled_digits r)

-- values written as fields of a line, and read there
pub fields_roundtrip : (p : List ℕ) (at : ℕ) {ws vs : List ℕ} (t : List ℕ) → length p ≡ at → InFields ws vs → fields_at at ws (p ++ (spelled ws vs ++ t)) ≡ vs
unfolding spelled
fields_roundtrip p at t e none = refl
fields_roundtrip p at t e (one w v {ws} {vs} h r) =
    let here : number_at (p ++ (digits_of w v ++ (spelled ws vs ++ t))) at w ≡ v = field_roundtrip p w v (spelled ws vs ++ t) at e h in
    let on : length (p ++ digits_of w v) ≡ at + w = length-append p (digits_of w v) ∙ omega (arith, length_digits w v) in
    let more : fields_at (at + w) ws ((p ++ digits_of w v) ++ (spelled ws vs ++ t)) ≡ vs = fields_roundtrip (p ++ digits_of w v) (at + w) t on r in
    let next : fields_at (at + w) ws (p ++ (digits_of w v ++ (spelled ws vs ++ t))) ≡ vs = rw append_assoc at more in
    rw (append_assoc (digits_of w v) (spelled ws vs) t, here, next)

-- digits read as fields of a line, and written again
pub fields_rewritten : (s : List ℕ) (at : ℕ) (ws : List ℕ) → are_digits s ≡ true → at + total ws ≤ length s → spelled ws (fields_at at ws s) ≡ take (total ws) (drop at s)
unfolding spelled
fields_rewritten s at [] p h = refl
fields_rewritten s at (w ∷ ws) p h =
    let here : digits_of w (number_at s at w) ≡ take w (drop at s) = field_rewritten s at w p (omega arith) in
    let more : spelled ws (fields_at (at + w) ws s) ≡ take (total ws) (drop (at + w) s) = fields_rewritten s (at + w) ws p (omega arith) in
    rw (here, more, take-add w (total ws) (drop at s), drop-drop)
