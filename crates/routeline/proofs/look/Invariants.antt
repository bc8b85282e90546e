-- `routeline::look` meets its contract. The loop's invariant is `LookUnderway`: looking on from here leads where looking on from
-- the beginning does; and the lists stay the same. The bytes of a line keep it, and so does each byte that ends one; and where no
-- byte is looked at, looking on has ended.
-- The measure is what is left of the bytes. Assumes nothing.
use Rattle.std.specs.Prelude.{◌-◌}
use Rattle.index.specs.Lists.{SameIndex}
use Rattle.district.specs.Lists.{lists_held, SameFileLists}
use Rattle.routeline.specs.Speaker.{talk_of}
use Rattle.routeline.specs.SpeakerLaws.{LookUnderway}
use Rattle.routeline.proofs.look.Given as goal

abbrev pub invariant-loop-bytes : goal.invariant-loop-bytes
invariant-loop-bytes l =
    LookUnderway (talk_of l.initial.speaker (lists_held l.initial.lists l.initial.index) l.chunk l.initial.room) l.speaker (lists_held l.lists l.index) l.chunk l.room
    × SameFileLists l.initial.lists l.lists
    × SameIndex l.initial.index l.index

abbrev pub decreases-loop-bytes : goal.decreases-loop-bytes
decreases-loop-bytes l =
    l.speaker.got - l.speaker.from
