-- `hold_byte` meets its contract: each of its ways is a case of the definition. Assumes nothing.
use Rattle.std.specs.Prelude.{refl}
use Rattle.std.proofs.Common.{arith}
use Rattle.std.proofs.lemmas.Bool.{not-true, not-false}
use Rattle.district.specs.ReaderLaws.{stepped_as, over_line, stepped_nothing, ended_byte, held_byte}
use Rattle.district.specs.TakenLaws.{grown_one, byte_held}
use Rattle.district.proofs.hold_byte.Goals as goal

pub returns-then-not-reader : goal.returns-then-not-reader
returns-then-not-reader c =
    over_line _ (record { law = λ l k. stepped_as (ended_byte _ l _ (not-true _ c.if-not-reader.true)) (stepped_nothing _ l _ k) })

pub returns : goal.returns
returns c =
    record {
      law = λ tails heads weights ix h k kept.
          stepped_as (held_byte _ _ c.args.byte kept (not-false _ c.if-not-reader.false) c.if-byte-eq-LINE_FEED.false c.if-at-ge-MOST_DIGITS.false)
          (byte_held c.args.reader c.args.byte c.args.line.now _ _ _ _ _ _ _ _ kept c.if-at-ge-MOST_DIGITS.false (grown_one c.args.line.now _ c.args.byte refl (omega (arith, kept.roomy))));
    }
