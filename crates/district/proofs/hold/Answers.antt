-- `hold` meets its contract. The loop's invariant is `Holding`: what is held so far, and how many are still to come; it is left
-- where none is. Assumes nothing.
use Rattle.std.specs.Prelude.{◌≡◌, length}
use Rattle.std.proofs.Common.{arith}
use Rattle.std.proofs.lemmas.Bool.{not-true, not-false}
use Rattle.district.specs.HoldLaws.{hold_more, hold_all, hold_to_feed, hold_full, hold_ended}
use Rattle.district.proofs.hold.Goals as goal
use Rattle.district.proofs.hold.Goals.{then-byte-eq-LINE_FEED-via-then-byte-eq-LINE_FEED, then-byte-eq-LINE_FEED-via-else-byte-eq-LINE_FEED+then-at-n-ge-MOST_DIGITS}

pub returns-then-not-reader : goal.returns-then-not-reader
returns-then-not-reader c = hold_ended _ _ _ (not-true _ c.if-not-reader.true)

pub returns-then-byte-eq-LINE_FEED : goal.returns-then-byte-eq-LINE_FEED
returns-then-byte-eq-LINE_FEED c =
    let goes = not-false _ c.if-not-reader.false in
    elim c.then-byte-eq-LINE_FEED.branch [
      | then-byte-eq-LINE_FEED-via-then-byte-eq-LINE_FEED w ↦ hold_to_feed _ _ _ _ _ c.loop-n.invariant c.loop-n-test.true w.if-byte-eq-LINE_FEED.true goes
      | then-byte-eq-LINE_FEED-via-else-byte-eq-LINE_FEED+then-at-n-ge-MOST_DIGITS w ↦ hold_full _ _ _ _ _ c.loop-n.invariant w.if-at-n-ge-MOST_DIGITS.true goes
    ]

pub loop-n-preserved : goal.loop-n-preserved
loop-n-preserved c =
    hold_more _ _ _ _ _ c.loop-n.invariant c.loop-n-test.true c.if-byte-eq-LINE_FEED.false c.if-at-n-ge-MOST_DIGITS.false c.requires.line_long

pub returns : goal.returns
returns c =
    let all : length c.args.bytes.now ≡ c.loop-n.n = omega (arith, c.loop-n-test.false, c.loop-n.auto.n-end) in
    rw all (hold_all _ _ _ _ _ c.loop-n.invariant c.loop-n-test.false (not-false _ c.if-not-reader.false))
