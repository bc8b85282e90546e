-- `frame::take_link` meets its contract: a 05 puts its arc and the reverse after those counted, where two are owed.
-- Assumes nothing.
use Rattle.std.specs.Prelude.{refl}
use Rattle.std.proofs.Common.{arith, ◌∙◌}
use Rattle.district.specs.Reader.{file_of}
use Rattle.district.specs.ReaderLaws.{over_as, over_arcs}
use Rattle.district.specs.TakenLaws.{grown_two, arcs_taken, too_many_arcs}
use Rattle.district.proofs.OtherFrames.{no_arcs}
use Rattle.district.proofs.frame.take_link.Goals as goal

pub returns-in_default : goal.returns-in_default
returns-in_default c =
    record {
      stepped = over_arcs _ (over_as (λ l h. no_arcs (file_of _ l) c.args.frame c.requires.no_arc c.in_default.not-TwoWay) c.refuse_frame.ensures);
      same = ((refl, refl), (refl, refl), (refl, refl), (refl, refl), (refl, refl), (refl, refl));
    }

pub returns-then-reader-at-lt2-clause-stepped : goal.returns-then-reader-at-lt2-clause-stepped
returns-then-reader-at-lt2-clause-stepped c =
    over_arcs _
    (over_as (λ l h. rw c.in-TwoWay.is (too_many_arcs _ l h _ (omega (arith, c.if-reader-at-lt2.true)))) c.refuse_frame-then-reader-at-lt2.ensures)

pub returns-clause-stepped : goal.returns-clause-stepped
returns-clause-stepped c =
    let a = c.args in
    let p = c.put_arc.ensures.put in
    let q = c.put_arc-2.ensures.put in
    rw c.in-TwoWay.is
    (arcs_taken a.reader _ _ 2 _ c.next_line.ensures refl (omega arith) (omega (arith, c.if-reader-at-lt2.false))
    (grown_two a.lists.now.tails.now _ c.in-TwoWay.tail c.in-TwoWay.head p.tails q.tails (omega (arith, c.requires.arcs_open, c.if-reader-at-lt2.false)))
    (grown_two a.lists.now.heads.now _ c.in-TwoWay.head c.in-TwoWay.tail p.heads q.heads (omega (arith, c.requires.arcs_open, c.if-reader-at-lt2.false)))
    (grown_two a.lists.now.weights.now _ c.in-TwoWay.weight c.in-TwoWay.weight p.weights q.weights (omega (arith, c.requires.arcs_open, c.if-reader-at-lt2.false)))
    (q.line ∙ p.line) (q.forward ∙ p.forward) (q.backward ∙ p.backward))
