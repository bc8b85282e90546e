-- `index::edit` meets its contract: where what is there is refused, nothing is written; otherwise it is known to be right. Assumes
-- nothing.
use Rattle.std.proofs.Common.{refl}
use Rattle.std.proofs.lemmas.Result.{err_from_is_err_and}
use Rattle.index.specs.Lists.{network_in, index_in}
use Rattle.index.specs.KeptLaws.{held_decides, edit_refused}
use Rattle.index.proofs.edit.Goals as goal

pub returns-in_err-check_held-clause-kept : goal.returns-in_err-check_held-clause-kept
returns-in_err-check_held-clause-kept c =
    let p = err_from_is_err_and c.from_residual.result c.from_residual.ensures.1 in
    let g = network_in c.args.nodes c.args.arcs.now in
    let ix = index_in c.args.held.now in
    rw (p.1, p.2) (edit_refused g ix c.args.change (held_decides g ix c.args.change (rw (c.network.ensures.nodes, c.network.ensures.tails, c.network.ensures.heads, c.network.ensures.weights, c.shown.ensures) at c.in_err-check_held.ensures) refl) refl)
