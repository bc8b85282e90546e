-- The lists that the code goes over, as the network, the potentials and the query that they hold; and that a call gives back a list
-- that it was lent. Assumes nothing.
use Rattle.std.specs.Prelude.{◌≡◌, List, length}
use Rattle.std.specs.Borrow.{MutBor}
use Rattle.network.specs.declared.NetworkLists.{NetworkLists}
use Rattle.network.specs.declared.QueryLists.{QueryLists}
use Rattle.network.specs.Network.{Network, network}
use Rattle.network.specs.Query.{Query, query}

-- the network that the lists hold
abbrev pub network_of : NetworkLists → Network
network_of g = network g.nodes g.tails.now g.heads.now g.weights.now

-- the query that the lists hold
abbrev pub query_asked : QueryLists → Query
query_asked q = query (network_of q.network) q.potentials.forward.now q.potentials.backward.now q.start q.end q.pattern.now

-- a list that is lent to be written, before and after a call: the same list, and as long as it was
abbrev pub SameList : {A : Type 0} → MutBor (List A) → MutBor (List A) → Type 0
SameList before after = (after.ghost_name ≡ before.ghost_name) × (length after.now ≡ length before.now)
