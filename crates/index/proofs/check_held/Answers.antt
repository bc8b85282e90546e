-- `index::check_held` meets its contract: the verdict on the arcs and the room, and then whether each way is the listing of its
-- near nodes, which arcs that are accepted can be tested for. Assumes nothing.
use Rattle.std.proofs.Common.{◌≡◌, true, false, Ok, refl, sym, ◌∙◌}
use Rattle.std.proofs.lemmas.Result.{err_from_is_err_and}
use Rattle.network.specs.Lists.{network_of}
use Rattle.network.specs.Network.{start, end}
use Rattle.network.specs.RefusalLaws.{row_decides}
use Rattle.index.specs.Lists.{index_of}
use Rattle.index.specs.Table.{build_verdict}
use Rattle.index.specs.JudgedLaws.{held_parts, listable, room, ways_decide}
use Rattle.index.proofs.check_held.Goals as goal
use Rattle.index.proofs.check_held.Goals.{In_ok-check_listable}

-- past the first test the arcs and the room are accepted
accepted : (c : In_ok-check_listable) → build_verdict (network_of c.args.network) (index_of c.args.held) ≡ Ok tt
accepted c = sym c.in_ok-check_listable.ensures

pub returns-in_err-check_listable : goal.returns-in_err-check_listable
returns-in_err-check_listable c =
    let p = err_from_is_err_and c.from_residual.result c.from_residual.ensures.1 in
    rw (p.1, p.2) (row_decides c.in_err-check_listable.ensures refl _ ∙ sym (held_parts _ _))

pub is_listed-requires-clause-listable : goal.is_listed-requires-clause-listable
is_listed-requires-clause-listable c = listable _ (index_of c.args.held) (accepted (goal.at.is_listed-requires-clause-listable c).In_ok-check_listable) start

pub is_listed-requires-clause-list_room : goal.is_listed-requires-clause-list_room
is_listed-requires-clause-list_room c = room _ (index_of c.args.held) (accepted (goal.at.is_listed-requires-clause-list_room c).In_ok-check_listable) start

pub returns-then-not-is_listed : goal.returns-then-not-is_listed
returns-then-not-is_listed c =
    ways_decide _ (index_of c.args.held) (accepted (goal.at.returns-then-not-is_listed c).In_ok-check_listable) false _ (sym c.if-not-is_listed.true ∙ c.is_listed.ensures) refl

pub is_listed-requires-2-clause-listable : goal.is_listed-requires-2-clause-listable
is_listed-requires-2-clause-listable c = listable _ (index_of c.args.held) (accepted (goal.at.is_listed-requires-2-clause-listable c).In_ok-check_listable) end

pub is_listed-requires-2-clause-list_room : goal.is_listed-requires-2-clause-list_room
is_listed-requires-2-clause-list_room c = room _ (index_of c.args.held) (accepted (goal.at.is_listed-requires-2-clause-list_room c).In_ok-check_listable) end

pub returns-then-not-is_listed-2 : goal.returns-then-not-is_listed-2
returns-then-not-is_listed-2 c =
    ways_decide _ (index_of c.args.held) (accepted (goal.at.returns-then-not-is_listed-2 c).In_ok-check_listable) true false (sym c.if-not-is_listed.false ∙ c.is_listed.ensures) (sym c.if-not-is_listed-2.true ∙ c.is_listed-2.ensures)

pub returns : goal.returns
returns c =
    ways_decide _ (index_of c.args.held) (accepted (goal.at.returns c).In_ok-check_listable) true true (sym c.if-not-is_listed.false ∙ c.is_listed.ensures) (sym c.if-not-is_listed-2.false ∙ c.is_listed-2.ensures)
