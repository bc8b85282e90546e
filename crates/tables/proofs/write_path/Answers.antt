-- `write_path` meets its contract: the start side's trail is written to the front and turned round, the meeting node after it
-- and the end side's trail after that, which is the path. Assumes nothing.
use Rattle.tables.specs.TablesLaws.{start_trail_below, end_trail_below, half_written, whole_written}
use Rattle.tables.proofs.write_path.Goals as goal

pub write_trail-before-requires-clause-nodes_below : goal.write_trail-before-requires-clause-nodes_below
write_trail-before-requires-clause-nodes_below c = start_trail_below c.requires

pub write_trail-after-requires-clause-nodes_below : goal.write_trail-after-requires-clause-nodes_below
write_trail-after-requires-clause-nodes_below c = end_trail_below c.requires

pub returns-clause-path_after : goal.returns-clause-path_after
returns-clause-path_after c =
    let first = c.write_trail-before.ensures in
    let half = half_written c.requires _ _ _ first.value first.path_after c.reverse.ensures.after in
    whole_written c.requires _ _ _ first.value half c.write_trail-after.ensures.path_after
