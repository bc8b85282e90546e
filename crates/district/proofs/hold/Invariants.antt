-- `hold` meets its contract. The loop's invariant is `Holding`: what is held so far, and how many are still to come; it is left
-- where none is. Assumes nothing.
use Rattle.district.specs.HoldLaws.{Holding}
use Rattle.district.proofs.hold.Given as goal

abbrev pub invariant-loop-n : goal.invariant-loop-n
invariant-loop-n l = Holding l.at l.bytes l.initial.line l.line l.n
