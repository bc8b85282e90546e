-- `frame::take_arcs` meets its contract: a 02 puts its arc after those counted, and any other frame goes on to `take_link`.
-- Assumes nothing.
use Rattle.std.specs.Prelude.{refl}
use Rattle.std.proofs.Common.{arith}
use Rattle.district.specs.TakenLaws.{grown_one, arcs_taken}
use Rattle.district.proofs.frame.take_arcs.Goals as goal

pub returns-clause-stepped : goal.returns-clause-stepped
returns-clause-stepped c =
    let a = c.args in
    let p = c.put_arc.ensures.put in
    rw c.in-Arc.is
    (arcs_taken a.reader _ _ 1 _ c.next_line.ensures refl (omega arith) (omega (arith, c.requires.owed))
    (grown_one a.lists.now.tails.now _ c.in-Arc.tail p.tails (omega (arith, c.requires)))
    (grown_one a.lists.now.heads.now _ c.in-Arc.head p.heads (omega (arith, c.requires)))
    (grown_one a.lists.now.weights.now _ c.in-Arc.weight p.weights (omega (arith, c.requires)))
    p.line p.forward p.backward)
