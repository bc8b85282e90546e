-- `answers::digit` meets its contract: the constant is the table of `digit_of`, by computation. Assumes nothing.
use Rattle.std.proofs.Common.{rules}
use Rattle.frames.specs.Digits.{digit_of}
use Rattle.frames.specs.DigitLaws.{table_at}
use Rattle.answers.proofs.digit.Goals as goal

pub returns : goal.returns
unfolding digit_of
returns c = rw c.from.ensures (table_at digit_of 16 c.args.n (search rules))
