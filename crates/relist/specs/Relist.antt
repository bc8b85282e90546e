-- What is said of a listing in which one arc gets another near node: which entries change, and that no others do. Assumes
-- nothing.
use Rattle.std.specs.Prelude.{◌≡◌, List, ℕ, ◌+◌, ◌<◌, ◌≤◌, length, get_or, set}
use Rattle.listing.specs.Listing.{listed_at, near_of, begin_of}

-- the place of arc a among the arcs of node w: after those of them that are below it
abbrev pub place_at : List ℕ → ℕ → ℕ → ℕ
place_at near w a = begin_of near w + length (listed_at (near_of near) w a)

-- the place of arc a: that at its own node
abbrev pub arc_place : List ℕ → ℕ → ℕ
arc_place near a = place_at near (near_of near a) a

-- arc a's near node becomes `node`: of the arcs only those from its old place to its new one change, and of the begins only
-- those of the nodes after one of its two nodes, up to the other
pub record OnlyBetween (near : List ℕ) (a node : ℕ) (arcs₀ begins₀ arcs begins : List ℕ) : Type 0 where
  pub arcs_before_lem : (i : ℕ) → i < arc_place near a → i < arc_place (set near a node) a → get_or arcs i 0 ≡ get_or arcs₀ i 0
  pub arcs_beyond : (i : ℕ) → arc_place near a < i → arc_place (set near a node) a < i → get_or arcs i 0 ≡ get_or arcs₀ i 0
  pub begins_before : (w : ℕ) → w ≤ near_of near a → w ≤ node → get_or begins w 0 ≡ get_or begins₀ w 0
  pub begins_beyond : (w : ℕ) → near_of near a < w → node < w → get_or begins w 0 ≡ get_or begins₀ w 0
