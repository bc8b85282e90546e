-- `move_begins` meets its contract: the first of the begins between the two nodes are as after the move, the others as before.
-- Assumes nothing.
use Rattle.std.specs.Prelude.{◌+◌, min}
use Rattle.relist.proofs.MoveLaws.{Moving}
use Rattle.relist.proofs.move_begins.Given as goal

abbrev pub invariant-loop-begin : goal.invariant-loop-begin
invariant-loop-begin l = Moving l.u l.v (min l.u l.v + 1) l.begin-index l.fn.begins l.begin-items
