-- `answers::write_line` meets its contract: the line is underway with the items that are left, and the line feed ends it.
-- Assumes nothing.
use Rattle.std.proofs.Common.{◌≤◌, length, drop}
use Rattle.frames.specs.RoomLaws.{Underway}
use Rattle.answers.specs.Fields.{line_by}
use Rattle.answers.proofs.write_line.Given as goal

abbrev pub invariant-loop-item : goal.invariant-loop-item
invariant-loop-item g l = (l.item-index ≤ length l.items) × Underway (line_by g.T.Spelled.spells l.items) l.initial.room l.room l.at (line_by g.T.Spelled.spells (drop l.item-index l.items))
