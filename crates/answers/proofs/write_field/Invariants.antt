-- `answers::write_field` meets its contract: the digits of what is left of the number, before what is written, are the number's
-- digits, which are written from the last to the first. Assumes nothing.
use Rattle.std.proofs.Common.{◌≡◌, ◌++◌, ◌≤◌, drop}
use Rattle.frames.specs.Digits.{digits_of}
use Rattle.answers.specs.Fields.{width_of, number_held}
use Rattle.answers.proofs.write_field.Given as goal

abbrev pub invariant-loop-i : goal.invariant-loop-i
invariant-loop-i l =
    (l.i ≤ width_of l.fn.field) × (digits_of l.i l.rest ++ drop l.i l.room ≡ digits_of (width_of l.fn.field) (number_held l.fn.field) ++ drop (width_of l.fn.field) l.initial.room)
