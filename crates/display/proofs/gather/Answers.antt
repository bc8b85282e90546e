-- `gather` meets its contract: what is written and what is still to come make up the answer, byte for byte. The loop is left
-- where the file is read whole, or where a refusal has ended it and nothing is still to come. Assumes nothing.
use Rattle.std.specs.Prelude.{◌≡◌, ◌∷◌, ◌-◌, length, take, drop}
use Rattle.std.proofs.Common.{arith}
use Rattle.std.proofs.lemmas.List.{nil_from_length}
use Rattle.district.specs.Lists.{lists_held}
use Rattle.display.specs.GatherLaws.{Gathered, gather_start, part_within, gather_held, gather_byte, gather_ended, gathered_within, gathered_whole}
use Rattle.display.proofs.gather.Goals as goal
use Rattle.display.proofs.gather.Goals.{else-loop-reader-test, then-loop-reader-test+in_default}

pub loop-reader-init : goal.loop-reader-init
loop-reader-init c =
    gather_start _ _ _ _ c.start-reader.ensures c.requires.0 c.requires.1

pub overflow_add-at : goal.overflow_add-at
overflow_add-at c =
    let gathering = c.loop-reader.invariant in
    omega (arith, part_within _ _ _ _ _ _ _ _ gathering c.take_byte-taken.ensures.stepped.room_is, gathering.underway.size, c.well_formed)

pub loop-reader-preserved : goal.loop-reader-preserved
loop-reader-preserved c =
    let bytes = c.loop-reader.rest.now in
    let next : take (length bytes - c.hold-n.result) (drop c.hold-n.result bytes) ≡ c.in-Some.field-0-0.now ∷ c.in-Some.left.now = c.in-Some.ensures.cases.0 in
    let long : length c.hold-n.new.line ≡ length c.loop-reader.lists.line.now = cc in
    let gathering = gather_held _ _ _ _ _ _ _ _ c.loop-reader.invariant c.hold-n.ensures long next in
    let taken = c.take_byte-taken.ensures in
    let lists = taken.same_lists in
    let index = taken.same_index in
    gather_byte _ _ _ _ _ _ _ _ _ gathering taken.stepped
    (record {
      line = lists.0.1;
      tails = lists.1.1;
      heads = lists.2.1;
      weights = lists.3.1;
      index = record { out_arcs = index.0.1; out_begins = index.1.1; in_arcs = index.2.1; in_begins = index.3.1 };
      forward = lists.4.1;
      backward = lists.5.1;
    })

pub overflow_add-result : goal.overflow_add-result
overflow_add-result c =
    let gathered : Gathered c.args.file.now c.args.text.now (lists_held c.args.lists c.args.index) c.loop-reader-test.reader c.loop-reader.text c.loop-reader.at = elim c.loop-reader-test.branch [
      | else-loop-reader-test w ↦ rw w.reader-is (gather_ended _ _ _ _ _ _ _ _ c.loop-reader.invariant w.loop-reader-test.false)
      | then-loop-reader-test+in_default w ↦
          let long : length w.hold-n.new.line ≡ length c.loop-reader.lists.line.now = cc in
          rw w.reader-is (record { over = _; gathering = gather_held _ _ _ _ _ _ _ _ c.loop-reader.invariant w.hold-n.ensures long (nil_from_length _ w.in_default.ensures.cases) })
    ] in
    omega (arith, gathered_within _ _ _ _ _ _ gathered _ _ c.end_of_input-last.ensures, c.loop-reader.invariant.underway.size, c.well_formed)

pub returns : goal.returns
returns c =
    let gathered : Gathered c.args.file.now c.args.text.now (lists_held c.args.lists c.args.index) c.loop-reader-test.reader c.loop-reader.text c.loop-reader.at = elim c.loop-reader-test.branch [
      | else-loop-reader-test w ↦ rw w.reader-is (gather_ended _ _ _ _ _ _ _ _ c.loop-reader.invariant w.loop-reader-test.false)
      | then-loop-reader-test+in_default w ↦
          let long : length w.hold-n.new.line ≡ length c.loop-reader.lists.line.now = cc in
          rw w.reader-is (record { over = _; gathering = gather_held _ _ _ _ _ _ _ _ c.loop-reader.invariant w.hold-n.ensures long (nil_from_length _ w.in_default.ensures.cases) })
    ] in
    gathered_whole _ _ _ _ _ _ gathered _ _ c.end_of_input-last.ensures
