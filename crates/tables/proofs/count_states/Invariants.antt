-- `count_states` meets its contract: before each turn of the loop the figures are those of the states so far. Assumes nothing.
use Rattle.std.proofs.Common.{◌≡◌, take}
use Rattle.nba.specs.Result.{figures_in}
use Rattle.tables.proofs.count_states.Given as goal

abbrev pub invariant-loop-state : goal.invariant-loop-state
invariant-loop-state l = l.figures ≡ figures_in (take l.state-index l.states)
