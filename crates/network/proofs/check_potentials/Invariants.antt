-- `network::check_potentials` meets its contract. The loop's invariant: no node passed has a potential out of range.
-- Assumes nothing.
use Rattle.std.proofs.Common.{◌≡◌}
use Rattle.network.specs.Refusal.{nowhere, lowest, bad_potential}
use Rattle.network.proofs.check_potentials.Given as goal

abbrev pub invariant-loop-v : goal.invariant-loop-v
invariant-loop-v l = lowest (bad_potential l.potentials.forward.now l.potentials.backward.now) l.v ≡ nowhere
