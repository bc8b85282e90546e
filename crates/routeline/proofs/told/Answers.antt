-- `routeline::told` meets its contract: of what is owed, no more went than there was. Assumes nothing.
use Rattle.routeline.specs.SpeakerLaws.{tells_went}
use Rattle.routeline.proofs.told.Goals as goal

pub returns-in-Went : goal.returns-in-Went
returns-in-Went c =
    rw c.in-Went.is (tells_went _ _ _ (c.requires.went_within.few _ c.in-Went.is))
