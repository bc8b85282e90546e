-- `network::check_consistency` meets its contract. The loop's invariant: no arc passed breaks the rule, of h or of k.
-- Assumes nothing.
use Rattle.std.proofs.Common.{◌≡◌}
use Rattle.network.specs.Lists.{network_of}
use Rattle.network.specs.Refusal.{nowhere, lowest, breaks_rule}
use Rattle.network.proofs.check_consistency.Given as goal

abbrev pub invariant-loop-a : goal.invariant-loop-a
invariant-loop-a l = lowest (breaks_rule (network_of l.network) l.potentials.forward.now l.potentials.backward.now) l.a ≡ nowhere
