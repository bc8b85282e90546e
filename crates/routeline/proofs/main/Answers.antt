-- `routeline::main` ends and stays within its lists. Its loop keeps `Holds`: the talk that the program holds is one that can come
-- to pass, from its beginning on, by what was read and written. What the system does is an event that can come of what was asked,
-- and each event keeps it. Assumes nothing.
use Rattle.routeline.specs.SpeakerLaws.{ready, holds_on}
use Rattle.routeline.proofs.main.Goals as goal

pub after-speaker-requires : goal.after-speaker-requires
after-speaker-requires c =
    let next = ready _ _ _ _ c.loop.invariant _ _ _ c.asks-ask.ensures c.in_default.not-Stop c.ask_system-did.ensures in
    record {
      sits = next.holds.sits;
      came_within = next.came_within;
      went_within = next.went_within;
    }

pub loop-preserved : goal.loop-preserved
loop-preserved c =
    let next = ready _ _ _ _ c.loop.invariant _ _ _ c.asks-ask.ensures c.in_default.not-Stop c.ask_system-did.ensures in
    holds_on _ _ _ _ _ next _ _ _ c.after-speaker.ensures.stands
