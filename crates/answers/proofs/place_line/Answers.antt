-- `answers::place_line` meets its contract: a line that fits is laid, and for one that does not nothing is written. Assumes
-- nothing.
use Rattle.std.proofs.Common.{arith}
use Rattle.frames.specs.RoomLaws.{laid_placed, too_little_room}
use Rattle.answers.proofs.place_line.Goals as goal

pub returns-then-room-line_bytes : goal.returns-then-room-line_bytes
returns-then-room-line_bytes c = too_little_room _ c.args.room.now (omega (arith, c.line_bytes.ensures))

pub returns : goal.returns
returns c = laid_placed _ c.args.room.now _ _ (omega (arith, c.line_bytes.ensures)) c.write_line.ensures
