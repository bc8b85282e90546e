-- `make_turns` meets its contract: what `begin` and `begin_queues` leave is the state of step 1, which is the end if start is end;
-- otherwise, before each turn, the lists stand for the state after as many turns as were made, which the cap allows, and a search
-- that goes on has made fewer turns than there are nodes. Assumes nothing.
use Rattle.std.proofs.Common.{◌-◌}
use Rattle.network.specs.Lists.{query_asked}
use Rattle.index.specs.Lists.{index_of}
use Rattle.tables.specs.Sides.{SameLists}
use Rattle.run.proofs.RunLaws.{Going}
use Rattle.run.proofs.make_turns.Given as goal

abbrev pub invariant-turns : goal.invariant-turns
invariant-turns l = record {
  start_lists : SameLists l.fn.start_side l.start_side;
  end_lists : SameLists l.fn.end_side l.end_side;
  going : Going (query_asked l.query) (index_of l.held) l.cap l.turns l.start_side.labels.now l.start_side.neighbours.now l.end_side.labels.now l.end_side.neighbours.now l.states l.start_queue l.end_queue l.p;
}

abbrev pub decreases-turns : goal.decreases-turns
decreases-turns l = l.query.network.nodes - l.turns
