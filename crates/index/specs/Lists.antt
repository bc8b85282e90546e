-- The lists that the code goes over, as the arcs and the index that they hold; and that a call gives back the lists that it was
-- lent, and no others in their place. Assumes nothing.
use Rattle.std.specs.Prelude.{ℕ, List}
use Rattle.std.specs.Borrow.{MutBor}
use Rattle.std.proofs.Common.{Bor}
use Rattle.index.specs.declared.Arcs.{Arcs}
use Rattle.index.specs.declared.IndexLists.{IndexLists}
use Rattle.network.specs.Network.{Network, network}
use Rattle.network.specs.Lists.{SameList}
use Rattle.index.specs.Index.{Index, index}

-- the index that lists hold which are only looked at
abbrev pub index_of : IndexLists (Bor (List ℕ)) → Index
index_of ix = index ix.out_arcs.now ix.out_begins.now ix.in_arcs.now ix.in_begins.now

-- the index that lists hold which may be written
abbrev pub index_in : IndexLists (MutBor (List ℕ)) → Index
index_in ix = index ix.out_arcs.now ix.out_begins.now ix.in_arcs.now ix.in_begins.now

-- the network of so many nodes that lists of arcs hold
abbrev pub network_in : ℕ → Arcs → Network
network_in nodes g = network nodes g.tails.now g.heads.now g.weights.now

-- the same lists, before and after
abbrev pub SameIndex : IndexLists (MutBor (List ℕ)) → IndexLists (MutBor (List ℕ)) → Type 0
SameIndex a b =
    SameList a.out_arcs b.out_arcs
    × SameList a.out_begins b.out_begins
    × SameList a.in_arcs b.in_arcs
    × SameList a.in_begins b.in_begins

abbrev pub SameArcs : Arcs → Arcs → Type 0
SameArcs a b =
    SameList a.tails b.tails
    × SameList a.heads b.heads
    × SameList a.weights b.weights
