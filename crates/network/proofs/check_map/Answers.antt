-- `network::check_map` meets its contract: arcs that are not bad have nodes at both ends, which the test of consistency asks.
-- Assumes nothing.
use Rattle.std.proofs.Common.{sym}
use Rattle.network.specs.Network.{start, end}
use Rattle.network.specs.SoundLaws.{arcs_in}
use Rattle.network.proofs.check_map.Goals as goal

pub check_consistency-requires-clause-tails_in : goal.check_consistency-requires-clause-tails_in
check_consistency-requires-clause-tails_in c = λ a h. rw c.requires.forward_long (arcs_in _ (sym c.in_ok-check_each_arc.ensures) start a h)

pub check_consistency-requires-clause-heads_in : goal.check_consistency-requires-clause-heads_in
check_consistency-requires-clause-heads_in c = λ a h. rw c.requires.forward_long (arcs_in _ (sym c.in_ok-check_each_arc.ensures) end a h)
