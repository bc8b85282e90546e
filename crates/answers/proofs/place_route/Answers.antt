-- `answers::place_route` meets its contract: where both lines fit, the first is laid and the path's after it. Assumes nothing.
use Rattle.std.proofs.Common.{◌≡◌, ap, List, ◌++◌, ℕ, ◌+◌, ◌*◌, ◌≤◌, length, take, length-append, arith, ◌∙◌}
use Rattle.std.proofs.lemmas.List.{length-take, take_min}
use Rattle.frames.specs.AnswerLines.{path_line}
use Rattle.frames.specs.AnswerLaws.{length_path}
use Rattle.frames.specs.RoomLaws.{length_rest, laid_placed, too_little_room}
use Rattle.answers.specs.Fields.{line_with}
use Rattle.answers.proofs.LaidLaws.{laid_leaves, laid_after}
use Rattle.answers.proofs.LineSteps.{digits_fit, length_fields}
use Rattle.answers.proofs.place_route.Goals as goal
use Rattle.answers.proofs.place_route.Goals.{After-line_bytes, After-write_line-at, Else-room-line_bytes}

-- the path that is shown
abbrev shown : After-line_bytes → List ℕ
shown c = take c.min.result c.args.path.now

shown_is : (c : After-line_bytes) → shown c ≡ take c.args.nodes c.args.path.now
shown_is c = rw (c.min.ensures, c.from.ensures) (take_min c.args.nodes c.args.path.now)

-- how long both lines are
both_lengths : (c : After-line_bytes) → length (line_with c.args.fields.now ++ path_line (shown c)) ≡ c.line_bytes.result + 3 + 4 * length (shown c)
both_lengths c = length-append (line_with c.args.fields.now) (path_line (shown c)) ∙ omega (arith, c.line_bytes.ensures, length_path (shown c))

-- both fit
fits : (c : Else-room-line_bytes) → length (line_with c.args.fields.now) + length (path_line (shown (goal.at.Else-room-line_bytes c).After-line_bytes)) ≤ length c.args.room.now
fits c = omega (arith, c.line_bytes.ensures, length_path (shown (goal.at.Else-room-line_bytes c).After-line_bytes))

-- the first line leaves room for the path's
leaves : (c : After-write_line-at) → c.write_line-at.result + length (path_line (shown (goal.at.After-write_line-at c).After-line_bytes)) ≤ length c.write_line-at.new.room
leaves c =
    laid_leaves (line_with c.args.fields.now) _ c.args.room.now c.write_line-at.new.room c.write_line-at.result (fits (goal.at.After-write_line-at c).Else-room-line_bytes) c.write_line-at.ensures

pub overflow_add-line_bytes : goal.overflow_add-line_bytes
overflow_add-line_bytes c = omega (arith, c.line_bytes.ensures, length_fields c.args.fields.now, digits_fit c.args.fields.now)

pub overflow_add-line_bytes-2 : goal.overflow_add-line_bytes-2
overflow_add-line_bytes-2 c =
    omega (arith, c.line_bytes.ensures, length_fields c.args.fields.now, digits_fit c.args.fields.now, length-take c.min.result c.args.path.now, c.min.ensures, c.from.ensures)

pub returns-then-room-line_bytes : goal.returns-then-room-line_bytes
returns-then-room-line_bytes c =
    let at = (goal.at.returns-then-room-line_bytes c).After-line_bytes in
    rw (← shown_is at) (too_little_room _ c.args.room.now (omega (arith, both_lengths at)))

pub write_path-more-requires : goal.write_path-more-requires
write_path-more-requires c =
    rw length_rest (omega (arith, leaves (goal.at.write_path-more-requires c).After-write_line-at, c.write_line-at.ensures.count_is))

pub overflow_add-result : goal.overflow_add-result
overflow_add-result c =
    omega (arith, leaves (goal.at.overflow_add-result c).After-write_line-at, c.write_path-more.ensures.count_is, ap length c.write_line-at.ensures.room_is, c.well_formed)

pub returns : goal.returns
returns c =
    let at = (goal.at.returns c).After-line_bytes in
    let f = fits (goal.at.returns c).Else-room-line_bytes in
    rw (← shown_is at)
    (laid_placed _ c.args.room.now _ _ (omega (arith, both_lengths at))
    (laid_after _ _ c.args.room.now c.write_line-at.new.room c.write_path-more.new.room c.write_line-at.result c.write_path-more.result f c.write_line-at.ensures c.write_path-more.ensures))
