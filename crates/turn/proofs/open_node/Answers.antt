-- `open_node` meets its contract: looking at what is left of the node's arcs leads to what looking at all of them does. Assumes
-- nothing.
use Rattle.std.proofs.Common.{◌<◌, refl, sym, ◌∙◌, arith, length, get_or}
use Rattle.network.specs.ListsLaws.{same_still}
use Rattle.turn.proofs.TurnLaws.{part, part_begins, part_order, part_inside, part_is, part_arc, part_far, label_waits, look_none, look_left, look_higher, look_labels}
use Rattle.turn.proofs.open_node.Goals as goal
use Rattle.turn.proofs.open_node.Goals.{In-arcs}

pub bounds-view-from : goal.bounds-view-from
bounds-view-from c = omega (arith, part_begins c.requires.openable)

pub bounds-view-from-2 : goal.bounds-view-from-2
bounds-view-from-2 c = omega (arith, part_begins c.requires.openable)

pub slice_bounds-arc-items-count : goal.slice_bounds-arc-items-count
slice_bounds-arc-items-count c = part_order c.requires.openable

pub slice_bounds-arc-items-start : goal.slice_bounds-arc-items-start
slice_bounds-arc-items-start c = omega (arith, part_order c.requires.openable, part_inside c.requires.openable)

pub slice_bounds-arc-items-end : goal.slice_bounds-arc-items-end
slice_bounds-arc-items-end c = omega (arith, part_order c.requires.openable, part_inside c.requires.openable)

pub arcs-init : goal.arcs-init
arcs-init c = record {
  same = ((refl, refl), (refl, refl));
  queued = c.requires.queue_of;
  looked = rw (part_is c.requires.openable);
}

-- the arc that is looked at is one of the network's and leads to a node
there : (c : In-arcs) →
    let arc = get_or (part c.requires.openable) c.arcs.arc-index 0 in
    (arc < length c.args.view.near.now) × (get_or c.args.view.far.now arc 0 < length c.args.lists.now.labels.now)
there c = (part_arc c.requires.openable c.arcs.arc-index c.arcs-test.true, part_far c.requires.openable c.arcs.arc-index c.arcs-test.true)

pub bounds-view-a : goal.bounds-view-a
bounds-view-a c = omega (arith, (there (goal.at.bounds-view-a c).In-arcs).0, c.requires.openable.far_long)

pub arcs-preserved-then-states-i-ne-UNDECIDED : goal.arcs-preserved-then-states-i-ne-UNDECIDED
arcs-preserved-then-states-i-ne-UNDECIDED c =
    let inv = c.arcs.invariant in record {
      same = inv.same;
      queued = inv.queued;
      looked = look_left _ _ _ _ _ _ _ c.arcs-test.true c.if-states-i-ne-UNDECIDED.true ∙ inv.looked;
    }

pub bounds-view-a-in-arcs : goal.bounds-view-a-in-arcs
bounds-view-a-in-arcs c = omega (arith, (there (goal.at.bounds-view-a-in-arcs c).In-arcs).0, c.requires.openable.weights_long)

pub arcs-preserved-then-lists-i : goal.arcs-preserved-then-lists-i
arcs-preserved-then-lists-i c =
    let inv = c.arcs.invariant in record {
      same = inv.same;
      queued = inv.queued;
      looked = look_higher _ _ _ _ _ _ _ c.arcs-test.true c.if-states-i-ne-UNDECIDED.false (omega arith) (omega (arith, (there (goal.at.arcs-preserved-then-lists-i c).In-arcs).1)) c.if-lists-i.true ∙ inv.looked;
    }

pub arcs-preserved : goal.arcs-preserved
arcs-preserved c =
    let inv = c.arcs.invariant in
    let label = c.label_node-best.ensures in
    let far = (there (goal.at.arcs-preserved c).In-arcs).1 in
    let lower = c.if-lists-i.false in record {
      same = (same_still inv.same.0 label.same.0, same_still inv.same.1 label.same.1);
      queued = label_waits _ _ _ _ _ _ label.labelled c.enter.ensures (c.requires.matched.own_small _) (omega (arith, far)) (omega (arith, far)) c.if-states-i-ne-UNDECIDED.false (omega (arith, lower)) inv.queued;
      looked = look_labels _ _ _ _ _ _ _ c.arcs-test.true c.if-states-i-ne-UNDECIDED.false (omega arith) (omega (arith, far)) label.labelled lower ∙ inv.looked;
    }

pub returns-clause-looked : goal.returns-clause-looked
returns-clause-looked c = sym (look_none _ _ _ _ _ _ _ c.arcs-test.false) ∙ c.arcs.invariant.looked
