-- `frames::value` meets its contract: the table that it was lent holds the value of each byte. Assumes nothing.
use Rattle.std.proofs.Common.{◌<◌, arith}
use Rattle.frames.specs.Digits.{value_of, value_table}
use Rattle.frames.specs.DigitLaws.{table_at}
use Rattle.frames.proofs.value.Goals as goal

pub returns : goal.returns
unfolding value_table
returns c =
    let within : c.args.byte < 256 = omega arith in
    rw (c.requires, c.from.ensures) (table_at value_of 256 c.args.byte within)
