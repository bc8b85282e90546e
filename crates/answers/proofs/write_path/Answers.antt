-- `answers::write_path` meets its contract: the kind is laid first, and the nodes after it. Assumes nothing.
use Rattle.std.proofs.Common.{sym, ◌+◌, ◌≤◌, length, length-append, arith}
use Rattle.frames.specs.Digits.{digits_of}
use Rattle.frames.specs.FieldLaws.{length_digits}
use Rattle.frames.specs.AnswerLines.{nodes_line}
use Rattle.frames.specs.Room.{Laid}
use Rattle.frames.specs.RoomLaws.{lent_room}
use Rattle.answers.proofs.LaidLaws.{laid_leaves, laid_after}
use Rattle.answers.proofs.LineSteps.{nodes_spelled}
use Rattle.answers.proofs.write_path.Goals as goal
use Rattle.answers.proofs.write_path.Goals.{After-write_field, Start}

-- the kind and the nodes fit
fits : (c : Start) → length (digits_of 2 130) + length (nodes_line c.args.path.now) ≤ length c.args.room.now
fits c = omega (arith, c.requires, length-append (digits_of 2 130) (nodes_line c.args.path.now))

kind : (c : After-write_field) → Laid (digits_of 2 130) c.args.room.now c.write_field.new.room 2
kind c = record { count_is = sym (length_digits 2 130); room_is = c.write_field.ensures }

-- the kind leaves room for the nodes
leaves : (c : After-write_field) → 2 + length (nodes_line c.args.path.now) ≤ length c.write_field.new.room
leaves c =
    laid_leaves (digits_of 2 130) (nodes_line c.args.path.now) c.args.room.now c.write_field.new.room 2 (fits (goal.at.After-write_field c).Start) (kind c)

pub write_field-requires : goal.write_field-requires
write_field-requires c =
    let two : 2 ≤ length c.args.room.now = omega (arith, fits (goal.at.write_field-requires c).Start, length_digits 2 130) in
    two

pub slice_bounds-write_line-count : goal.slice_bounds-write_line-count
slice_bounds-write_line-count c = omega (arith, leaves (goal.at.slice_bounds-write_line-count c).After-write_field)

pub slice_bounds-write_line-start : goal.slice_bounds-write_line-start
slice_bounds-write_line-start c = omega (arith, leaves (goal.at.slice_bounds-write_line-start c).After-write_field)

pub write_line-more-requires : goal.write_line-more-requires
write_line-more-requires c =
    rw (nodes_spelled c.args.path.now) (lent_room c.write_field.new.room 2 _ (leaves (goal.at.write_line-more-requires c).After-write_field))

pub overflow_add-result : goal.overflow_add-result
overflow_add-result c =
    let count = rw (nodes_spelled c.args.path.now) at c.write_line-more.ensures.count_is in
    omega (arith, leaves (goal.at.overflow_add-result c).After-write_field, count, c.well_formed)

pub returns : goal.returns
returns c =
    let nodes = rw (nodes_spelled c.args.path.now) at c.write_line-more.ensures in
    laid_after _ _ c.args.room.now c.write_field.new.room c.write_line-more.new.room 2 c.write_line-more.result (fits (goal.at.returns c).Start) (kind (goal.at.returns c).After-write_field) nodes
