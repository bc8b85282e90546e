-- The lists of one side of a search. Assumes nothing.
use Rattle.network.specs.Lists.{SameList}
use Rattle.tables.specs.declared.SideLists.{SideLists}

-- after a call the side has the same two lists of its caller as before: what is written through it is written to them
abbrev pub SameLists : SideLists → SideLists → Type 0
SameLists before after = SameList before.labels after.labels × SameList before.neighbours after.neighbours
