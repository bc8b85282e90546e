-- `routeline::after` meets its contract: what is told and then looked at is what follows. Assumes nothing.
use Rattle.routeline.specs.SpeakerLaws.{follows}
use Rattle.routeline.proofs.after.Goals as goal

pub look-requires : goal.look-requires
look-requires c =
    (c.told-next.ensures.law _ _ c.requires.sits c.requires.came_within).sits

pub returns-clause-stands : goal.returns-clause-stands
returns-clause-stands c =
    follows _ _ _ _ _ _ _ c.requires.sits c.requires.came_within c.told-next.ensures _ _ _ c.look.ensures.stands
