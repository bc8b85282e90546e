-- What the functions inside promise each other: where an arc's place in a part is, and the begins with an arc moved from one node
-- to another. Assumes nothing.
use Rattle.std.specs.Prelude.{◌≡◌, cond, List, ℕ, ◌+◌, ◌<◌, ◌≤◌, ltb, length, get_or}
use Rattle.network.specs.Network.{most_arcs}

-- node w has a part in the lists: it begins, and ends where the next one begins
pub record HasPart (arcs begins : List ℕ) (w : ℕ) : Type 0 where
  pub long : w + 1 < length begins
  pub ordered : get_or begins w 0 ≤ get_or begins (w + 1) 0
  pub within : get_or begins (w + 1) 0 ≤ length arcs

-- of the entries from `from` on and before `to` those that are below a come first
abbrev pub BelowFirst : List ℕ → ℕ → ℕ → ℕ → Type 0
BelowFirst arcs from to a = (i j : ℕ) → from ≤ i → i ≤ j → j < to → get_or arcs j 0 < a → get_or arcs i 0 < a

-- r is the first place from `from` on and before `to` whose entry is not below a, or `to` if there is none
pub record FirstNotBelow (arcs : List ℕ) (from to a r : ℕ) : Type 0 where
  pub from_on : from ≤ r
  pub not_beyond : r ≤ to
  pub below : (i : ℕ) → from ≤ i → i < r → get_or arcs i 0 < a
  pub not_below : r < to → a ≤ get_or arcs r 0

-- 1 for the nodes after u, whose part begins one later for an arc of u, and 0 for the others
unfoldable pub one_after : ℕ → ℕ → ℕ
one_after u w = cond (ltb u w) 1 0

-- the begins with an arc moved from node u to node v
pub record ArcMoved (u v : ℕ) (begins₀ begins : List ℕ) : Type 0 where
  pub long : length begins ≡ length begins₀
  pub each : (w : ℕ) → get_or begins w 0 + one_after u w ≡ get_or begins₀ w 0 + one_after v w

-- what the begins must be for that: every part after u, up to v, has an arc before it
pub record HasBefore (u v : ℕ) (begins : List ℕ) : Type 0 where
  pub long : v < length begins
  pub some : (w : ℕ) → u < w → w ≤ v → 0 < get_or begins w 0

-- or, for a move to an earlier node, no part after v, up to u, begins beyond the last arc
pub record HasRoom (u v : ℕ) (begins : List ℕ) : Type 0 where
  pub long : u < length begins
  pub few : (w : ℕ) → v < w → w ≤ u → get_or begins w 0 ≤ most_arcs
