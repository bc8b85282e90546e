-- `end_of_input` meets its contract: each of its ways is a case of the definition. Assumes nothing.
use Rattle.std.proofs.Common.{sym, ◌∙◌}
use Rattle.std.proofs.lemmas.Bool.{not-true, not-false}
use Rattle.frames.specs.RoomLaws.{nothing_placed}
use Rattle.district.specs.ReaderLaws.{end_of_ended, end_of_whole}
use Rattle.district.proofs.end_of_input.Goals as goal

pub returns-then-not-reader : goal.returns-then-not-reader
returns-then-not-reader c =
    record { law = λ l k. rw (← end_of_ended c.args.reader l (not-true _ c.if-not-reader.true)) (nothing_placed _) }

pub returns : goal.returns
returns c =
    record { law = λ l k. rw (← end_of_whole _ l k (not-false _ c.if-not-reader.false) c.if-reader-ne0.false (sym c.owes.ensures ∙ c.if-owes.false)) (nothing_placed _) }
