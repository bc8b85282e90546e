-- `routeline::main` ends and stays within its lists. Its loop keeps `Holds`: the talk that the program holds is one that can come
-- to pass, from its beginning on, by what was read and written. What the system does is an event that can come of what was asked,
-- and each event keeps it. Assumes nothing.
use Rattle.district.specs.Lists.{lists_held}
use Rattle.routeline.specs.SpeakerLaws.{Holds}
use Rattle.routeline.proofs.main.Given as goal

abbrev pub invariant-loop : goal.invariant-loop
invariant-loop l =
    Holds l.speaker (lists_held l.lists l.index) l.chunk l.room
