-- `shift` meets its contract: entry p is taken out and put in at place q where the entries between are turned by one place.
-- Assumes nothing.
use Rattle.std.specs.Prelude.{◌+◌, ◌-◌}
use Rattle.std.proofs.Common.{ap, ◌∙◌, arith}
use borrow.Rule.Slice.PartMut.{put_mid}
use Rattle.relist.specs.InnerLaws.{turned_left, turned_right}
use Rattle.relist.proofs.shift.Goals as goal

pub returns-then-p-q : goal.returns-then-p-q
returns-then-p-q c =
    let p = c.args.p in
    let q = c.args.q in
    ap (put_mid p (q + 1 - p) c.args.arcs.now) c.rotate_left.ensures.after ∙ turned_left p q c.args.arcs.now (omega arith) c.requires.1

pub returns-else-p-q : goal.returns-else-p-q
returns-else-p-q c =
    let p = c.args.p in
    let q = c.args.q in
    ap (put_mid q (p + 1 - q) c.args.arcs.now) c.rotate_right.ensures.after ∙ turned_right p q c.args.arcs.now c.if-p-q.false c.requires.0
