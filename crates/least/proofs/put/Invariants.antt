-- `put` meets its contract: a number that is there already changes nothing; before each turn the list stands for the numbers,
-- number v changed, but for the entry above entry i, and what is carried is entry i. Assumes nothing.
use Rattle.least.specs.Tournament.{numbers_in}
use Rattle.least.specs.TournamentLaws.{TournamentBut}
use Rattle.least.proofs.put.Given as goal

abbrev pub invariant-loop-i : goal.invariant-loop-i
invariant-loop-i l = TournamentBut (numbers_in l.initial.list) l.list l.i l.least

abbrev pub decreases-loop-i : goal.decreases-loop-i
decreases-loop-i l = l.i
