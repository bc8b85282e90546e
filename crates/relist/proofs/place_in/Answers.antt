-- `place_in` meets its contract: the entries below a come first in the part, so the partition's point is the first that is not.
-- Assumes nothing.
use Rattle.std.specs.Prelude.{◌+◌, ltb, get_or}
use Rattle.std.specs.List.{between}
use Rattle.std.proofs.Common.{rules}
use Rattle.std.proofs.lemmas.List.Sorted.{IsPartitionPoint-from_clause}
use Rattle.relist.proofs.PlaceLaws.{partitioned, found_first}
use Rattle.relist.proofs.place_in.Goals as goal

pub returns : goal.returns
returns c =
    let from = get_or c.args.begins.now c.args.w 0 in
    let to = get_or c.args.begins.now (c.args.w + 1) 0 in
    let part = c.requires.part in
    found_first c.args.arcs.now from to c.args.a part.within c.partition_point.result part.ordered c.partition_point.ensures.bound
    (IsPartitionPoint-from_clause (λ b. ltb b c.args.a) (between from to c.args.arcs.now) c.partition_point.result c.partition_point.ensures.partitioned
    (partitioned c.args.arcs.now from to c.args.a part.within c.requires.below_first) (λ x r f h. search rules))
