-- `routeline::look` meets its contract. The loop's invariant is `LookUnderway`: looking on from here leads where looking on from
-- the beginning does; and the lists stay the same. The bytes of a line keep it, and so does each byte that ends one; and where no
-- byte is looked at, looking on has ended. Assumes nothing.
use Rattle.std.proofs.Common.{◌≡◌, sym, ◌∙◌, arith, length}
use Rattle.network.specs.ListsLaws.{same_still}
use Rattle.routeline.specs.SpeakerLaws.{held_fit, held_on, look_held, look_more, look_end}
use Rattle.routeline.proofs.look.Goals as goal

pub bounds-chunk-speaker : goal.bounds-chunk-speaker
bounds-chunk-speaker c =
    let on = sym c.looks_on.ensures ∙ c.loop-bytes-test.true in
    omega (arith, held_fit _ _ _ _ _ c.loop-bytes.invariant.0 on _ _ c.hold-held.ensures, c.if-speaker.false, c.loop-bytes.invariant.0.sits.heard_within)

pub loop-bytes-preserved-then-speaker : goal.loop-bytes-preserved-then-speaker
loop-bytes-preserved-then-speaker c =
    let on = sym c.looks_on.ensures ∙ c.loop-bytes-test.true in
    let same = c.loop-bytes.invariant.1 in
    let line : length c.hold-held.new.line ≡ length c.args.lists.now.line.now = cc in (
      look_held _ _ _ _ _ c.loop-bytes.invariant.0 on _ _ c.hold-held.ensures,
      ((same.0.0, line), same.1, same.2, same.3, same.4, same.5),
      c.loop-bytes.invariant.2,
    )

pub loop-bytes-preserved : goal.loop-bytes-preserved
loop-bytes-preserved c =
    let on = sym c.looks_on.ensures ∙ c.loop-bytes-test.true in
    let on_next = held_on _ _ _ _ _ c.loop-bytes.invariant.0 on _ _ c.hold-held.ensures c.if-speaker.false in
    let underway = look_held _ _ _ _ _ c.loop-bytes.invariant.0 on _ _ c.hold-held.ensures in
    let same = c.loop-bytes.invariant.1 in
    let line : length c.hold-held.new.line ≡ length c.args.lists.now.line.now = cc in
    let index = c.loop-bytes.invariant.2 in
    let taken = c.take_byte-taken.ensures in (
      look_more _ _ _ _ _ underway on_next _ _ _ taken.stepped,
      (
        same_still (same.0.0, line) taken.same_lists.0,
        same_still same.1 taken.same_lists.1,
        same_still same.2 taken.same_lists.2,
        same_still same.3 taken.same_lists.3,
        same_still same.4 taken.same_lists.4,
        same_still same.5 taken.same_lists.5,
      ),
      (
        same_still index.0 taken.same_index.0,
        same_still index.1 taken.same_index.1,
        same_still index.2 taken.same_index.2,
        same_still index.3 taken.same_index.3,
      ),
    )

pub returns-clause-stands : goal.returns-clause-stands
returns-clause-stands c = look_end _ _ _ _ _ c.loop-bytes.invariant.0 (sym c.looks_on.ensures ∙ c.loop-bytes-test.false)
