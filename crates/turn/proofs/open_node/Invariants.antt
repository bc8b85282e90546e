-- `open_node` meets its contract: looking at what is left of the node's arcs leads to what looking at all of them does. Assumes
-- nothing.
use Rattle.std.proofs.Common.{◌≡◌, length}
use Rattle.network.specs.Network.{start}
use Rattle.nba.specs.Search.{arcs_of}
use Rattle.nba.specs.Why.ByMark.{look_each_by_mark}
use Rattle.queue.specs.Queue.{QueueOf}
use Rattle.tables.specs.Sides.{SameLists}
use Rattle.turn.specs.Views.{network_seen, reach_in}
use Rattle.turn.proofs.TurnLaws.{look_from}
use Rattle.turn.proofs.open_node.Given as goal

abbrev pub invariant-arcs : goal.invariant-arcs
invariant-arcs l =
    let g = network_seen (length l.initial.lists.labels.now) l.view in record {
      same : SameLists l.initial.lists l.lists;
      queued : QueueOf l.lists.labels.now l.states l.view.own.now l.own_queue;
      looked : look_from g l.theirs l.states l.arc-items l.u l.arc-index (reach_in l.lists l.best) ≡ look_each_by_mark start g l.theirs l.states l.u (arcs_of start g l.u) (reach_in l.initial.lists l.initial.best);
    }
