-- `index::edit_known` meets its contract: with arcs and index that pass, the change's own numbers decide; each way is relisted by
-- itself, and then the arc's entries are written. Assumes nothing.
use Rattle.std.proofs.Common.{◌≡◌, Ok, refl, sym}
use Rattle.std.proofs.lemmas.Result.{err_from_is_err_and}
use Rattle.network.specs.Network.{start, end}
use Rattle.index.specs.Lists.{network_in, index_in}
use Rattle.index.specs.Table.{changed, edit_verdict}
use Rattle.index.specs.KeptLaws.{change_decides, held_listable, held_listed, number_near, number_of_weight, new_in, edit_refused, edit_kept}
use Rattle.index.proofs.edit_known.Goals as goal
use Rattle.index.proofs.edit_known.Goals.{In_ok-check_change}

-- past the test the edit is accepted
accepted : (c : In_ok-check_change) → edit_verdict (network_in c.args.nodes c.args.arcs.now) (index_in c.args.held.now) c.args.change ≡ Ok tt
accepted c = sym (change_decides _ _ c.args.change c.requires c.in_ok-check_change.ensures)

pub returns-in_err-check_change-clause-kept : goal.returns-in_err-check_change-clause-kept
returns-in_err-check_change-clause-kept c =
    let p = err_from_is_err_and c.from_residual.result c.from_residual.ensures.1 in
    rw (p.1, p.2) (edit_refused _ _ c.args.change (change_decides _ _ c.args.change c.requires c.in_err-check_change.ensures) refl)

pub relist-requires-clause-listable : goal.relist-requires-clause-listable
relist-requires-clause-listable c = rw c.network-known.ensures.tails (held_listable _ _ c.args.change c.requires start)

pub relist-requires-clause-listed : goal.relist-requires-clause-listed
relist-requires-clause-listed c = rw c.network-known.ensures.tails (held_listed _ _ c.args.change c.requires start)

pub relist-requires-clause-a_in_bounds : goal.relist-requires-clause-a_in_bounds
relist-requires-clause-a_in_bounds c =
    let fits = accepted (goal.at.relist-requires-clause-a_in_bounds c).In_ok-check_change in
    rw c.network-known.ensures.tails (number_near _ _ _ c.requires fits start, new_in _ _ _ c.requires fits start)

pub relist-requires-2-clause-listable : goal.relist-requires-2-clause-listable
relist-requires-2-clause-listable c = rw c.network-known.ensures.heads (held_listable _ _ c.args.change c.requires end)

pub relist-requires-2-clause-listed : goal.relist-requires-2-clause-listed
relist-requires-2-clause-listed c = rw c.network-known.ensures.heads (held_listed _ _ c.args.change c.requires end)

pub relist-requires-2-clause-a_in_bounds : goal.relist-requires-2-clause-a_in_bounds
relist-requires-2-clause-a_in_bounds c =
    let fits = accepted (goal.at.relist-requires-2-clause-a_in_bounds c).In_ok-check_change in
    rw c.network-known.ensures.heads (number_near _ _ _ c.requires fits end, new_in _ _ _ c.requires fits end)

pub bounds-arcs-a : goal.bounds-arcs-a
bounds-arcs-a c = number_near _ _ _ c.requires (accepted (goal.at.bounds-arcs-a c).In_ok-check_change) start

pub bounds-arcs-a-2 : goal.bounds-arcs-a-2
bounds-arcs-a-2 c = number_near _ _ _ c.requires (accepted (goal.at.bounds-arcs-a-2 c).In_ok-check_change) end

pub bounds-arcs-a-3 : goal.bounds-arcs-a-3
bounds-arcs-a-3 c = number_of_weight _ _ _ c.requires (accepted (goal.at.bounds-arcs-a-3 c).In_ok-check_change)

pub returns-clause-kept : goal.returns-clause-kept
unfolding changed
returns-clause-kept c =
    edit_kept _ _ _ c.requires (accepted (goal.at.returns-clause-kept c).In_ok-check_change) _ (rw c.network-known.ensures.tails at c.relist.ensures) (rw c.network-known.ensures.heads at c.relist-2.ensures) refl
