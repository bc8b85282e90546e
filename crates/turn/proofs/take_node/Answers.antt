-- `take_node` meets its contract: the test of step 4 picks the case of the definition. Assumes nothing.
use Rattle.std.proofs.Common.{◌≡◌, ◌∙◌, arith, get_or}
use Rattle.network.specs.Potential.{potential_at}
use Rattle.steps.specs.Steps.{rejects}
use Rattle.turn.proofs.TurnLaws.{rejects_read, taken_rejects, taken_opens, neither_waits}
use Rattle.turn.proofs.take_node.Goals as goal
use Rattle.turn.proofs.take_node.Goals.{After-reject}

-- the test that was made is the definition's
tested : (c : After-reject) →
    let a = c.args in
    rejects a.best.length (get_or a.lists.now.labels.now a.u 0) (potential_at a.view.own.now a.u) (potential_at a.view.own.now a.view.target) a.floor (potential_at a.view.other.now a.u) ≡ c.reject.result
tested c =
    let m = c.requires.matched in
    rejects_read _ _ _ _ c.args.floor _ (m.own_small c.args.u) (m.own_small c.args.view.target) (omega arith) (m.other_small c.args.u) c.reject.ensures

pub returns-then-reject-clause-taken : goal.returns-then-reject-clause-taken
returns-then-reject-clause-taken c =
    taken_rejects _ _ _ _ _ _ _ _ _ _ _ _ c.requires.openable.node_in (tested (goal.at.returns-then-reject-clause-taken c).After-reject ∙ c.if-reject.true)

pub returns-then-reject-clause-queued : goal.returns-then-reject-clause-queued
returns-then-reject-clause-queued c =
    neither_waits _ _ (omega arith) (omega arith) c.leave.ensures c.leave-2.ensures c.requires.queues

pub open_node-requires-clause-queue_of : goal.open_node-requires-clause-queue_of
open_node-requires-clause-queue_of c =
    (neither_waits _ _ (omega arith) c.requires.in_range.2 c.leave.ensures c.leave-2.ensures c.requires.queues).mine

pub returns-clause-taken : goal.returns-clause-taken
returns-clause-taken c =
    taken_opens _ _ _ _ _ _ _ _ _ _ _ _ c.requires.openable.node_in (tested (goal.at.returns-clause-taken c).After-reject ∙ c.if-reject.false) c.open_node.ensures.looked

pub returns-clause-queued : goal.returns-clause-queued
returns-clause-queued c = record {
  mine = c.open_node.ensures.queued;
  yours = (neither_waits _ _ (omega arith) c.requires.in_range.2 c.leave.ensures c.leave-2.ensures c.requires.queues).yours;
}
