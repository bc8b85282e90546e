-- `make_turns` meets its contract: what `begin` and `begin_queues` leave is the state of step 1, which is the end if start is end;
-- otherwise, before each turn, the lists stand for the state after as many turns as were made, which the cap allows, and a search
-- that goes on has made fewer turns than there are nodes. Assumes nothing.
use Rattle.std.proofs.Common.{refl, arith}
use Rattle.network.specs.Network.{start, end}
use Rattle.network.specs.ListsLaws.{same_still}
use Rattle.run.proofs.RunLaws.{side_beginning, begun_going, over_at_once, both_take, turns_left, going_on, stops_ended, stops_used_up}
use Rattle.run.proofs.make_turns.Goals as goal

pub begin-requires-clause-start_in_bounds : goal.begin-requires-clause-start_in_bounds
begin-requires-clause-start_in_bounds c =
    let sound = c.requires.searchable.sound in
    (omega (arith, sound.source_in start, c.requires.long.states_long), omega (arith, sound.source_in end, c.requires.long.states_long))

pub begin_queues-p-requires-clause-start_beginning : goal.begin_queues-p-requires-clause-start_beginning
begin_queues-p-requires-clause-start_beginning c = side_beginning c.requires.searchable.sound start c.requires.start_room

pub begin_queues-p-requires-clause-end_beginning : goal.begin_queues-p-requires-clause-end_beginning
begin_queues-p-requires-clause-end_beginning c = side_beginning c.requires.searchable.sound end c.requires.end_room

pub returns-then-query-clause-stopped : goal.returns-then-query-clause-stopped
returns-then-query-clause-stopped c =
    over_at_once c.requires.searchable.sound (rw c.requires.long.states_long at c.begin.ensures.tables) c.begin_queues-p.ensures c.args.cap refl c.if-query.true refl refl refl refl refl refl

pub turns-init : goal.turns-init
turns-init c = record {
  start_lists = c.begin.ensures.start_lists;
  end_lists = c.begin.ensures.end_lists;
  going = begun_going c.args.cap c.requires.searchable (rw c.requires.long.states_long at c.begin.ensures.tables) c.begin_queues-p.ensures;
}

pub next_turn-p-requires-clause-taking : goal.next_turn-p-requires-clause-taking
next_turn-p-requires-clause-taking c =
    let g = c.turns.invariant.going in
    both_take g.asked.sound g.way c.args.cap c.next.ensures c.in-Turn.is refl refl

pub overflow_add-turns : goal.overflow_add-turns
overflow_add-turns c =
    let g = c.turns.invariant.going in
    omega (arith, g.asked.sound.sized.few_nodes, turns_left g.asked.sound g.way c.args.cap c.next.ensures c.in-Turn.is)

pub turns-smaller : goal.turns-smaller
turns-smaller c =
    let g = c.turns.invariant.going in
    omega (arith, turns_left g.asked.sound g.way c.args.cap c.next.ensures c.in-Turn.is)

pub turns-preserved : goal.turns-preserved
turns-preserved c =
    let inv = c.turns.invariant in
    let turn = c.next_turn-p.ensures in record {
      start_lists = (same_still inv.start_lists.0 turn.start_lists.0, same_still inv.start_lists.1 turn.start_lists.1);
      end_lists = (same_still inv.end_lists.0 turn.end_lists.0, same_still inv.end_lists.1 turn.end_lists.1);
      going = going_on inv.going c.next.ensures c.in-Turn.is turn.turned turn.known turn.queued;
    }

pub returns-in-Ended-clause-stopped : goal.returns-in-Ended-clause-stopped
returns-in-Ended-clause-stopped c = stops_ended c.turns.invariant.going c.next.ensures c.if-query.false c.in-Ended.is

pub returns-in-UsedUp-clause-stopped : goal.returns-in-UsedUp-clause-stopped
returns-in-UsedUp-clause-stopped c = stops_used_up c.turns.invariant.going c.next.ensures c.if-query.false c.in-UsedUp.is
