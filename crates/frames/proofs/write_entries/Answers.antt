-- `frames::write_entries` meets its contract: the entries underway are the values of the bytes. Assumes nothing.
use Rattle.std.proofs.Common.{drop_of_length-le}
use Rattle.frames.specs.RoomLaws.{underway_end}
use Rattle.frames.proofs.write_entries.Goals as goal

pub returns : goal.returns
returns c =
    (underway_end _ c.args.entries.now c.loop-i.entries c.loop-i.i (rw (drop_of_length-le c.args.digits.now c.loop-i-test.false) at c.loop-i.invariant)).room_is
