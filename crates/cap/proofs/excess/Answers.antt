-- `excess` meets its contract: the number handed over is the largest of the three. Assumes nothing.
use Rattle.std.proofs.Common.{◌∙◌, arith, ◌-ℤ◌}
use Rattle.std.proofs.lemmas.Int.{ints, clamps}
use Rattle.cap.proofs.ExcessLaws.{excess_is}
use Rattle.cap.proofs.excess.Goals as goal

pub returns : goal.returns
returns c =
    let a = c.args in
    c.above.ensures ∙ excess_is a.length (a.floor -ℤ a.h) (a.beyond -ℤ a.k) _ (omega (arith, ints, clamps))
