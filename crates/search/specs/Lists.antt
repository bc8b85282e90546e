-- The six lists that a caller lends to a query, and that a call gives back the lists that it was lent, and no others in their place.
-- Assumes nothing.
use Rattle.network.specs.Lists.{SameList}
use Rattle.search.specs.declared.Work.{Work}
use Rattle.search.specs.Promise.{LentLists, lent_lists}

-- what the lent lists hold
abbrev pub lists_of : Work → LentLists
lists_of w =
    lent_lists w.start_labels.now w.start_neighbours.now w.end_labels.now w.end_neighbours.now w.states.now w.path.now

-- the same lists, before and after
abbrev pub SameWork : Work → Work → Type 0
SameWork a b =
    SameList a.start_labels b.start_labels
    × SameList a.start_neighbours b.start_neighbours
    × SameList a.end_labels b.end_labels
    × SameList a.end_neighbours b.end_neighbours
    × SameList a.states b.states
    × SameList a.path b.path
