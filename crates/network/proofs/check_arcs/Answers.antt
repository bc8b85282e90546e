-- `network::check_arcs` meets its contract: lists that are accepted have the lengths that the test of each arc asks. Assumes nothing.
use Rattle.std.proofs.Common.{sym}
use Rattle.network.specs.SoundLaws.{arcs_sized}
use Rattle.network.proofs.check_arcs.Goals as goal

pub check_each_arc-requires-clause-heads_len : goal.check_each_arc-requires-clause-heads_len
check_each_arc-requires-clause-heads_len c = (arcs_sized _ (sym c.in_ok-check_sizes.ensures)).heads_long

pub check_each_arc-requires-clause-weights_len : goal.check_each_arc-requires-clause-weights_len
check_each_arc-requires-clause-weights_len c = (arcs_sized _ (sym c.in_ok-check_sizes.ensures)).weights_long

pub check_each_arc-requires-clause-tails_len_bound : goal.check_each_arc-requires-clause-tails_len_bound
check_each_arc-requires-clause-tails_len_bound c = (arcs_sized _ (sym c.in_ok-check_sizes.ensures)).few_arcs
