-- `frames::DigitLine::number` meets its contract: the digits not yet read, after the number that those before them spell, spell
-- the field's number, which stays below a power of 16. Assumes nothing.
use Rattle.std.proofs.Common.{◌≡◌, true, List, ℕ, ◌+◌, ◌-◌, ◌*◌, ◌^◌, ◌<◌, ◌≤◌, length, get_or, take, drop, add-one, lit<, arith, length-drop, length-take-le, drop_of_length-le, ◌∙◌}
use Rattle.std.proofs.Math.Nat.{pow-suc, pow-le-pow_right}
use Rattle.frames.specs.Digits.{are_digits, number_from, number_at, value_of}
use Rattle.frames.specs.FieldLaws.{digits_drop, digits_take}
use Rattle.frames.specs.FieldSteps.{digit_value, number_on}
use Rattle.frames.proofs.DigitLine.number.Goals as goal

-- a field of a line of digits: how long it is, and that its bytes have values
module _ (s : List ℕ) (at d : ℕ) (inside : at + d ≤ length s) where
  abbrev field : List ℕ
  field = take (at + d - at) (drop at s)

  field_is : field ≡ take d (drop at s)
  field_is = let same : at + d - at ≡ d = omega arith in rw same

  length_field : length field ≡ d
  length_field =
      let room : d ≤ length (drop at s) = rw length-drop (omega arith) in
      rw field_is (length-take-le d (drop at s) room)

  field_value : are_digits s ≡ true → (i : ℕ) → i < length field → value_of (get_or field i 0) < 16
  field_value digits i h = digit_value field i (digits_take (at + d - at) (drop at s) (digits_drop at s digits)) h

-- at most seven digits are read, so there is room for one more
room_for_one : (i n v : ℕ) → i < 8 → n < 16 ^ i → v < 16 → n * 16 + v < 4294967296
room_for_one i n v h k l =
    let few : i ≤ 7 = omega arith in
    let seven : 16 ^ i ≤ 16 ^ 7 = pow-le-pow_right {n = 16} (lit< tt) few in
    omega arith

pub overflow_mul-n : goal.overflow_mul-n
overflow_mul-n c =
    omega (arith, room_for_one c.loop-byte.byte-index c.loop-byte.n 0 (omega (arith, length_field c.args.self.line.now c.args.at c.args.digits c.requires.1)) c.loop-byte.invariant.0 (lit< tt))

pub overflow_add-n : goal.overflow_add-n
overflow_add-n c =
    let a = c.args in
    let value : c.from.result < 16 = rw (c.from.ensures, c.value.ensures) (field_value a.self.line.now a.at a.digits c.requires.1 a.self.readable.digits c.loop-byte.byte-index c.loop-byte-test.true) in
    omega (arith, room_for_one c.loop-byte.byte-index c.loop-byte.n c.from.result (omega (arith, length_field a.self.line.now a.at a.digits c.requires.1)) c.loop-byte.invariant.0 value)

pub loop-byte-preserved : goal.loop-byte-preserved
loop-byte-preserved c =
    let a = c.args in
    let value : c.from.result < 16 = rw (c.from.ensures, c.value.ensures) (field_value a.self.line.now a.at a.digits c.requires.1 a.self.readable.digits c.loop-byte.byte-index c.loop-byte-test.true) in
    (rw (add-one, pow-suc) (omega arith), rw (c.from.ensures, c.value.ensures) (number_on _ c.loop-byte.byte-index c.loop-byte.n c.loop-byte-test.true ∙ c.loop-byte.invariant.1))

pub returns-clause-is : goal.returns-clause-is
unfolding number_at number_from
returns-clause-is c =
    let a = c.args in
    (rw (drop_of_length-le _ c.loop-byte-test.false) at c.loop-byte.invariant.1) ∙ rw (field_is a.self.line.now a.at a.digits c.requires.1)

pub returns-clause-below : goal.returns-clause-below
returns-clause-below c =
    let a = c.args in
    let all : c.loop-byte.byte-index ≡ a.digits = omega (arith, length_field a.self.line.now a.at a.digits c.requires.1) in
    rw all at c.loop-byte.invariant.0
