-- `answer::take_query` meets its contract: the query is on as many entries of each list as the reader counts. Assumes nothing.
use Rattle.std.specs.Prelude.{◌≡◌, refl, false, ◌&&◌, take}
use Rattle.std.proofs.Common.{sym, arith, length-take-le}
use Rattle.district.specs.Reader.{told_by}
use Rattle.district.specs.ReaderLaws.{stepped_as}
use Rattle.district.specs.TakenLaws.{query_taken}
use Rattle.district.specs.QueryLaws.{known_by, placed_as, given_lines, may_be_asked, pattern_whole, laid_front}
use Rattle.frames.specs.PatternLaws.{pattern_short}
use Rattle.district.proofs.answer.take_query.Goals as goal
use Rattle.district.proofs.answer.take_query.Goals.{else-reader-via-then-reader+else-reader-2, else-reader-via-else-reader}

pub slice_bounds-entries-end : goal.slice_bounds-entries-end
slice_bounds-entries-end c =
    omega (arith, (pattern_whole (take c.args.reader.held c.args.lists.now.line.now) _ _ _ refl c.pattern_of-n.ensures).count_is, pattern_short (take c.args.reader.held c.args.lists.now.line.now))

pub slice_bounds-asked-end : goal.slice_bounds-asked-end
slice_bounds-asked-end c =
    sym (length-take-le _ _ (omega (arith, (pattern_whole (take c.args.reader.held c.args.lists.now.line.now) _ _ _ refl c.pattern_of-n.ensures).count_is, pattern_short (take c.args.reader.held c.args.lists.now.line.now))))

pub write_lines-written-requires : goal.write_lines-written-requires
write_lines-written-requires c =
    rw (c.network.ensures, c.potentials.ensures.forward, c.potentials.ensures.backward) (known_by c.args.reader _ c.requires.kept c.requires.all_read)

pub returns : goal.returns
unfolding told_by
returns c =
    let r = c.args.reader in
    let may : (r.single && r.asked) ≡ false =
    elim c.else-reader.branch [
      | else-reader-via-then-reader+else-reader-2 w ↦ rw (w.if-reader.true, w.if-reader-2.false)
      | else-reader-via-else-reader w ↦ rw w.if-reader.false
    ] in
    let pattern = laid_front _ _ _ _ (pattern_whole (take r.held c.args.lists.now.line.now) _ _ _ refl c.pattern_of-n.ensures) in
    stepped_as (rw c.in-Query.is (may_be_asked r _ _ _ _ _ may))
    (query_taken r _ _ _ _ _ _ c.next_line.ensures c.requires.kept
    (placed_as (given_lines c.in-Query.cap _)
    (rw (c.unwrap_or-turns.ensures, c.network.ensures, c.potentials.ensures.forward, c.potentials.ensures.backward, pattern) at c.write_lines-written.ensures)))
