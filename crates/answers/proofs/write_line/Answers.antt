-- `answers::write_line` meets its contract: the line is underway with the items that are left, and the line feed ends it.
-- Assumes nothing.
use Rattle.std.proofs.Common.{[], arith}
use Rattle.frames.specs.AnswerLines.{line_feed}
use Rattle.frames.specs.RoomLaws.{lent_room, underway_entry, underway_end}
use Rattle.answers.proofs.LineSteps.{line_feed_left, field_fits, field_more}
use Rattle.answers.proofs.write_line.Goals as goal

pub write_field-requires : goal.write_field-requires
write_field-requires g c =
    lent_room c.loop-item.room c.loop-item.at _
    (field_fits g.T.Spelled.spells c.args.items.now c.args.room.now c.loop-item.room c.loop-item.at c.loop-item.item-index c.loop-item.invariant.1 _ c.field-field.result c.loop-item-test.true c.item-item.is c.field-field.ensures)

pub loop-item-preserved : goal.loop-item-preserved
loop-item-preserved g c =
    let more = field_more g.T.Spelled.spells c.args.items.now c.args.room.now c.loop-item.room c.loop-item.at c.loop-item.item-index c.loop-item.invariant.1 _ c.field-field.result c.loop-item-test.true c.item-item.is c.field-field.ensures c.write_field.new.room c.write_field.ensures in
    (omega arith, rw c.digits-at.ensures more)

pub bounds-room-at : goal.bounds-room-at
bounds-room-at g c =
    let last = line_feed_left g.T.Spelled.spells c.args.items.now c.args.room.now c.loop-item.room c.loop-item.at c.loop-item.item-index c.loop-item.invariant.1 c.loop-item-test.false in
    omega (arith, last.fits)

pub returns : goal.returns
returns g c =
    let last = line_feed_left g.T.Spelled.spells c.args.items.now c.args.room.now c.loop-item.room c.loop-item.at c.loop-item.item-index c.loop-item.invariant.1 c.loop-item-test.false in
    underway_end _ _ _ _ (underway_entry _ c.args.room.now c.loop-item.room c.loop-item.at line_feed [] last)
