-- `move_begins` meets its contract: the first of the begins between the two nodes are as after the move, the others as before.
-- Assumes nothing.
use Rattle.std.specs.Prelude.{◌≡◌, ◌+◌, ◌-◌, length, drop, min}
use Rattle.std.proofs.Common.{arith, length-drop}
use Rattle.std.proofs.lemmas.List.{length-take-le}
use Rattle.relist.proofs.MoveLaws.{moving_earlier, moving_later, moving_all}
use Rattle.relist.proofs.move_begins.Goals.{then-u-v, else-u-v}
use Rattle.relist.proofs.move_begins.Goals as goal

pub loop-begin-preserved : goal.loop-begin-preserved
loop-begin-preserved c =
    elim c.if-u-v.branch [
      | then-u-v w ↦ rw w.begin-items-is (moving_earlier c.loop-begin.invariant (omega arith) (omega arith) (omega arith) (omega arith))
      | else-u-v w ↦ rw w.begin-items-is (moving_later c.loop-begin.invariant (omega arith) (omega arith) (omega arith))
    ]

pub returns : goal.returns
returns c =
    let n = c.max.result + 1 - (c.min.result + 1) in
    let long : length c.loop-begin.begin-items ≡ n = omega (arith, length-take-le n (drop (c.min.result + 1) c.args.begins.now) (omega (arith, length-drop (c.min.result + 1) c.args.begins.now))) in
    let all : c.loop-begin.begin-index ≡ n = omega arith in
    let first : min c.args.u c.args.v ≡ c.min.result = omega (arith, c.min.ensures) in
    moving_all (omega arith) (omega arith) (omega arith) long (rw (first, all) at c.loop-begin.invariant)
