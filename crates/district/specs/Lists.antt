-- The lists that the code goes over, as the lists that the definitions speak of; and that a call gives back the lists that it was
-- lent, and no others in their place. Assumes nothing.
use Rattle.std.specs.Prelude.{List, ℕ}
use Rattle.std.specs.Borrow.{MutBor}
use Rattle.network.specs.Lists.{SameList}
use Rattle.index.specs.declared.IndexLists.{IndexLists}
use Rattle.index.specs.Index.{Index}
use Rattle.index.specs.Lists.{index_in}
use Rattle.district.specs.declared.FileLists.{FileLists}
use Rattle.district.specs.Reader.{Lists, lists}

-- what the lists of a file hold, beside an index
abbrev pub lists_beside : FileLists → Index → Lists
lists_beside l ix = lists l.line.now l.tails.now l.heads.now l.weights.now ix l.forward.now l.backward.now

-- and beside the lists of an index
abbrev pub lists_held : FileLists → IndexLists (MutBor (List ℕ)) → Lists
lists_held l ix = lists_beside l (index_in ix)

-- the same lists, before and after
abbrev pub SameFileLists : FileLists → FileLists → Type 0
SameFileLists a b =
    SameList a.line b.line
    × SameList a.tails b.tails
    × SameList a.heads b.heads
    × SameList a.weights b.weights
    × SameList a.forward b.forward
    × SameList a.backward b.backward
