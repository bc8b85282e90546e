-- An index of arcs by node (docs/RULES.md, "The index"): each way, the arcs of node 0, then those of node 1, and so on, each node's
-- in number order; and where each node's begin. Assumes nothing.
use Rattle.std.specs.Prelude.{Bool, not, ◌&&◌, ◌||◌, List, [], ◌∷◌, ◌++◌, ℕ, zero, suc, ◌+◌, ltb, leb, length}
use Rattle.network.specs.Network.{Side, start, end, Network, arc_count, near}
use Rattle.nba.specs.Search.{arcs_below, arcs_of}
use Rattle.network.specs.Front.{at_front, begins_with}

-- one way of an index: a list with an entry an arc, and a list with an entry a node and one more
pub record OneWay : Type 0 where
  pub arcs : List ℕ
  pub begins : List ℕ

-- an index is both ways: the arcs out of each node, and the arcs into each node
pub record Index : Type 0 where
  pub out : OneWay
  pub into : OneWay

-- the four lists of an index
abbrev pub index : List ℕ → List ℕ → List ℕ → List ℕ → Index
index oa ob ia ib = record { out = record { arcs = oa; begins = ob }; into = record { arcs = ia; begins = ib } }

-- a side's way: the start side walks arcs out of a node, the end side walks them into it
abbrev pub way_of : Side → Index → OneWay
way_of start ix = ix.out
way_of end ix = ix.into

-- ---- what the arcs build
-- the arcs of the nodes below u, node after node, each node's in number order
unfoldable pub arcs_before : Side → Network → ℕ → List ℕ
arcs_before s g zero = []
arcs_before s g (suc u) = arcs_before s g u ++ arcs_of s g u

-- where the arcs of node u begin: behind those of every node below it
unfoldable pub begin_in : Side → Network → ℕ → ℕ
begin_in s g u = length (arcs_before s g u)

-- where the arcs of node 0 begin, of node 1, and so on below n
unfoldable pub begins_below : Side → Network → ℕ → List ℕ
begins_below s g zero = []
begins_below s g (suc u) = begins_below s g u ++ (begin_in s g u ∷ [])

-- the way that the arcs build for a side; the last of its begins, one more than there are nodes, is the end
unfoldable pub build_of : Side → Network → OneWay
build_of s g = record { arcs = arcs_before s g g.nodes; begins = begins_below s g (suc g.nodes) }

-- a way built on lent lists, from their first entries on; the entries beyond stay
unfoldable pub built_way : Side → Network → OneWay → OneWay
built_way s g w = record { arcs = at_front (build_of s g).arcs w.arcs; begins = at_front (build_of s g).begins w.begins }

-- an index built on lent lists
unfoldable pub built_on : Network → Index → Index
built_on g ix = record { out = built_way start g ix.out; into = built_way end g ix.into }

-- where arc a stands among a side's arcs: behind those of the nodes below its own, and behind its node's arcs with lower numbers
unfoldable pub place_in : Side → Network → ℕ → ℕ
place_in s g a = begin_in s g (near s g a) + length (arcs_below s g (near s g a) a)

-- ---- what lent lists are tested for
-- a way is what the arcs build: its lists begin with that
unfoldable pub is_built : Side → Network → OneWay → Bool
is_built s g w = begins_with (build_of s g).arcs w.arcs && begins_with (build_of s g).begins w.begins

-- 20: the index is not what its arcs build
unfoldable pub wrong_index : Network → Index → Bool
wrong_index g ix = not (is_built start g ix.out && is_built end g ix.into)

-- a way has too few entries: fewer than there are arcs, or no more than there are nodes
unfoldable pub short_way : Network → OneWay → Bool
short_way g w = ltb (length w.arcs) (arc_count g) || leb (length w.begins) g.nodes

-- 6, of an index: one of its lists is too short
unfoldable pub short_index : Network → Index → Bool
short_index g ix = short_way g ix.out || short_way g ix.into
