-- `answers::write_field` meets its contract: the digits of what is left of the number, before what is written, are the number's
-- digits, which are written from the last to the first. Assumes nothing.
use Rattle.std.proofs.Common.{◌≡◌, refl, suc, ◌-◌, arith, ◌∙◌}
use Rattle.frames.specs.Digits.{digits_of}
use Rattle.frames.specs.FieldLaws.{length_digits}
use Rattle.answers.specs.Fields.{width_of, number_held}
use Rattle.answers.proofs.LaidLaws.{laid_before}
use Rattle.answers.proofs.LineSteps.{digits_written}
use Rattle.answers.proofs.write_field.Goals as goal

pub loop-i-init : goal.loop-i-init
loop-i-init c = rw (c.number-rest.ensures, c.digits-i.ensures) (omega arith, refl)

pub loop-i-preserved : goal.loop-i-preserved
loop-i-preserved c =
    let one : c.loop-i.i ≡ suc (c.loop-i.i - 1) = omega arith in (
      omega arith,
      rw c.digit.ensures
          (digits_written c.loop-i.room (c.loop-i.i - 1) c.loop-i.rest (omega arith) ∙ rw (← one) c.loop-i.invariant.1),
    )

pub returns : goal.returns
unfolding digits_of
returns c =
    let none : c.loop-i.i ≡ 0 = omega arith in
    let f = c.args.field in
    (rw none at c.loop-i.invariant.1) ∙ laid_before (digits_of (width_of f) (number_held f)) c.args.room.now (width_of f) (length_digits (width_of f) (number_held f))
