-- The contract of `relist` admits a single answer: whatever two runs on the same input leave in the lent lists, they are the
-- same. Assumes nothing.
use Rattle.std.specs.Prelude.{◌≡◌, List, ℕ, set}
use Rattle.listing.specs.Listing.{Listed}
use Rattle.listing.specs.OneAnswer.{list_arcs_one_answer}

pub relist_one_answer : (near : List ℕ) (nodes a node : ℕ) (arcs₀ begins₀ arcs begins arcs' begins' : List ℕ)
    → Listed (set near a node) nodes arcs₀ begins₀ arcs begins
    → Listed (set near a node) nodes arcs₀ begins₀ arcs' begins'
    → (arcs ≡ arcs') × (begins ≡ begins')
relist_one_answer near nodes a node = list_arcs_one_answer (set near a node) nodes
