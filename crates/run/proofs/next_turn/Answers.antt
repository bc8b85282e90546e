-- `next_turn` meets its contract: in each branch the pattern names the side, and `side_turn` makes its turn on its own lists.
-- Assumes nothing.
use Rattle.std.proofs.Common.{rules, refl, arith}
use Rattle.network.specs.Network.{start, end}
use Rattle.run.specs.Run.{swapped_of}
use Rattle.run.proofs.RunLaws.{side_turn_is, side_openable, side_matched, taken_least, start_named, end_named, turn_named, known_swapped, long_swapped, queues_swapped}
use Rattle.run.proofs.next_turn.Goals as goal

pub side_turn-requires-clause-openable : goal.side_turn-requires-clause-openable
side_turn-requires-clause-openable c =
    rw c.labels_of.ensures (side_openable c.requires.searchable c.requires.long start c.args.a (taken_least c.requires.searchable.sound start _ c.requires.taking.start_takes).inside)

pub side_turn-requires-clause-matched : goal.side_turn-requires-clause-matched
side_turn-requires-clause-matched c = rw c.labels_of.ensures (side_matched c.requires.searchable c.requires.long start)

pub side_turn-requires-clause-in_range : goal.side_turn-requires-clause-in_range
side_turn-requires-clause-in_range c =
    let sound = c.requires.searchable.sound in
    (omega (arith, sound.source_in end, sound.sized.forward_long), c.requires.taking.floors.beyond, omega arith, omega arith, c.requires.taking.floors.floor)

pub returns-then-query-at-eq0-clause-turned : goal.returns-then-query-at-eq0-clause-turned
returns-then-query-at-eq0-clause-turned c =
    let m = side_turn_is _ start _ _ _ _ _ _ _ _ _ _ _ _ _ c.requires.searchable.sound refl c.requires.long.labels_long (search rules) c.requires.taking.start_takes (rw c.labels_of.ensures at c.side_turn.ensures.tables) (rw c.labels_of.ensures at c.side_turn.ensures.ahead) in
    turn_named _ (start_named _ _ c.if-query-at-eq0.true) m

pub returns-then-query-at-eq0-clause-known : goal.returns-then-query-at-eq0-clause-known
returns-then-query-at-eq0-clause-known c =
    (side_turn_is _ start _ _ _ _ _ _ _ _ _ _ _ _ _ c.requires.searchable.sound refl c.requires.long.labels_long (search rules) c.requires.taking.start_takes (rw c.labels_of.ensures at c.side_turn.ensures.tables) (rw c.labels_of.ensures at c.side_turn.ensures.ahead)).known

pub side_turn-requires-2-clause-openable : goal.side_turn-requires-2-clause-openable
side_turn-requires-2-clause-openable c =
    rw c.labels_of-2.ensures (side_openable c.requires.searchable (long_swapped c.requires.long) end c.args.b (taken_least c.requires.searchable.sound end _ c.requires.taking.end_takes).inside)

pub side_turn-requires-2-clause-matched : goal.side_turn-requires-2-clause-matched
side_turn-requires-2-clause-matched c = rw c.labels_of-2.ensures (side_matched c.requires.searchable (long_swapped c.requires.long) end)

pub side_turn-requires-2-clause-in_range : goal.side_turn-requires-2-clause-in_range
side_turn-requires-2-clause-in_range c =
    let sound = c.requires.searchable.sound in
    rw c.swapped.ensures ((omega (arith, sound.source_in start, sound.sized.backward_long), c.requires.taking.floors.floor, omega arith, omega arith, c.requires.taking.floors.beyond))

pub returns-clause-turned : goal.returns-clause-turned
returns-clause-turned c =
    let m = side_turn_is _ end _ _ _ _ _ _ _ _ _ (swapped_of c.args.p) _ _ _ c.requires.searchable.sound c.swapped.ensures c.requires.long.theirs_long (search rules) c.requires.taking.end_takes (rw c.labels_of-2.ensures at c.side_turn-2.ensures.tables) (rw c.labels_of-2.ensures at c.side_turn-2.ensures.ahead) in
    rw c.swapped-2.ensures (turn_named _ (end_named _ _ c.if-query-at-eq0.false) m)

pub returns-clause-known : goal.returns-clause-known
returns-clause-known c =
    let m = side_turn_is _ end _ _ _ _ _ _ _ _ _ (swapped_of c.args.p) _ _ _ c.requires.searchable.sound c.swapped.ensures c.requires.long.theirs_long (search rules) c.requires.taking.end_takes (rw c.labels_of-2.ensures at c.side_turn-2.ensures.tables) (rw c.labels_of-2.ensures at c.side_turn-2.ensures.ahead) in
    rw c.swapped-2.ensures (known_swapped m.known)

pub returns-clause-queued : goal.returns-clause-queued
returns-clause-queued c = queues_swapped (rw c.labels_of-2.ensures at c.side_turn-2.ensures.queued)
