-- `index::build` meets its contract: the verdict on the arcs and the room, and where it accepts each way is listed by itself.
-- Assumes nothing.
use Rattle.std.proofs.Common.{◌≡◌, Ok, refl, sym}
use Rattle.std.proofs.lemmas.Result.{err_from_is_err_and}
use Rattle.network.specs.Lists.{network_of}
use Rattle.network.specs.Network.{start, end}
use Rattle.index.specs.Lists.{index_in}
use Rattle.index.specs.Table.{build_verdict}
use Rattle.index.specs.JudgedLaws.{listable, room}
use Rattle.index.specs.KeptLaws.{build_refused, build_kept}
use Rattle.index.proofs.build.Goals as goal
use Rattle.index.proofs.build.Goals.{In_ok-check_listable}

-- past the test the arcs and the room are accepted
accepted : (c : In_ok-check_listable) → build_verdict (network_of c.args.network) (index_in c.args.built.now) ≡ Ok tt
accepted c = rw c.shown.ensures at (sym c.in_ok-check_listable.ensures)

pub returns-in_err-check_listable-clause-kept : goal.returns-in_err-check_listable-clause-kept
returns-in_err-check_listable-clause-kept c =
    let p = err_from_is_err_and c.from_residual.result c.from_residual.ensures.1 in
    rw (p.1, p.2) (build_refused _ (index_in c.args.built.now) (rw c.shown.ensures at c.in_err-check_listable.ensures) refl)

pub list_arcs-requires-clause-listable : goal.list_arcs-requires-clause-listable
list_arcs-requires-clause-listable c = listable _ (index_in c.args.built.now) (accepted (goal.at.list_arcs-requires-clause-listable c).In_ok-check_listable) start

pub list_arcs-requires-clause-list_room : goal.list_arcs-requires-clause-list_room
list_arcs-requires-clause-list_room c = room _ (index_in c.args.built.now) (accepted (goal.at.list_arcs-requires-clause-list_room c).In_ok-check_listable) start

pub list_arcs-requires-2-clause-listable : goal.list_arcs-requires-2-clause-listable
list_arcs-requires-2-clause-listable c = listable _ (index_in c.args.built.now) (accepted (goal.at.list_arcs-requires-2-clause-listable c).In_ok-check_listable) end

pub list_arcs-requires-2-clause-list_room : goal.list_arcs-requires-2-clause-list_room
list_arcs-requires-2-clause-list_room c = room _ (index_in c.args.built.now) (accepted (goal.at.list_arcs-requires-2-clause-list_room c).In_ok-check_listable) end

pub returns-clause-kept : goal.returns-clause-kept
returns-clause-kept c =
    build_kept _ (index_in c.args.built.now) (accepted (goal.at.returns-clause-kept c).In_ok-check_listable) _ c.list_arcs.ensures c.list_arcs-2.ensures
