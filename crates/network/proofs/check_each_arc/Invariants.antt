-- `network::check_each_arc` meets its contract. The loop's invariant: no arc passed is bad. Assumes nothing.
use Rattle.std.proofs.Common.{◌≡◌}
use Rattle.network.specs.Lists.{network_of}
use Rattle.network.specs.Refusal.{nowhere, lowest, bad_arc}
use Rattle.network.proofs.check_each_arc.Given as goal

abbrev pub invariant-loop-a : goal.invariant-loop-a
invariant-loop-a l = lowest (bad_arc (network_of l.network)) l.a ≡ nowhere
