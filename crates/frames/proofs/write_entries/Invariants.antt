-- `frames::write_entries` meets its contract: the entries underway are the values of the bytes. Assumes nothing.
use Rattle.std.proofs.Common.{map, drop}
use Rattle.frames.specs.Digits.{value_of}
use Rattle.frames.specs.RoomLaws.{Underway}
use Rattle.frames.proofs.write_entries.Given as goal

abbrev pub invariant-loop-i : goal.invariant-loop-i
invariant-loop-i l = Underway (map value_of l.digits) l.initial.entries l.entries l.i (map value_of (drop l.i l.digits))
