-- `count_states` meets its contract: before each turn of the loop the figures are those of the states so far. Assumes nothing.
use Rattle.std.proofs.Common.{refl, arith, length-take-le}
use Rattle.nba.specs.Result.{figures_in, count_of}
use Rattle.tables.specs.TablesLaws.{figures_more, figures_countable}
use Rattle.tables.proofs.count_states.Goals as goal

pub loop-state-init : goal.loop-state-init
unfolding figures_in count_of
loop-state-init c = refl

pub counted-figures-requires : goal.counted-figures-requires
counted-figures-requires c =
    let states = c.args.states.now in
    rw c.loop-state.invariant (figures_countable _ (omega (arith, length-take-le c.loop-state.state-index states (omega arith))))

pub loop-state-preserved : goal.loop-state-preserved
loop-state-preserved c =
    let more = figures_more c.args.states.now c.loop-state.state-index (omega arith) in cc
