-- `gather` meets its contract: what is written and what is still to come make up the answer, byte for byte. The loop is left
-- where the file is read whole, or where a refusal has ended it and nothing is still to come. Assumes nothing.
use Rattle.std.specs.Prelude.{length}
use Rattle.district.specs.Lists.{lists_held}
use Rattle.display.specs.GatherLaws.{Gathering}
use Rattle.display.proofs.gather.Given as goal

abbrev pub invariant-loop-reader : goal.invariant-loop-reader
invariant-loop-reader l =
    Gathering l.file l.initial.text (lists_held l.initial.lists l.initial.index) l.reader (lists_held l.lists l.index) l.text l.at l.rest

abbrev pub decreases-loop-reader : goal.decreases-loop-reader
decreases-loop-reader l =
    length l.rest
