-- What the arcs of a network build for a side is the listing of their near nodes, the tails for the start side and the heads for
-- the end side: of the arcs, of where a node's begin, and of an arc's place. Assumes nothing.
use Rattle.std.specs.Prelude.{◌≡◌, ◌&&◌, List, [], ◌∷◌, ◌++◌}
use Rattle.std.proofs.Math.Path.{refl, ap, ap₂}
use Rattle.std.proofs.Common.{sym, ◌∙◌, arith, lt-ltb, ℕ, zero, suc, ◌+◌, ◌≤◌}
use Rattle.std.proofs.Math.Bool.{not, cond}
use Rattle.std.proofs.Math.Dec.{eqb}
use Rattle.std.proofs.Math.ListN.{length}
use Rattle.network.specs.Given.{ArcsSized}
use Rattle.network.specs.Network.{Side, start, end, Network, arc_count, near, is_arc}
use Rattle.nba.specs.Search.{arcs_below, arcs_of}
use Rattle.network.specs.Front.{at_front, begins_with}
use Rattle.listing.specs.Listing.{listed_at, node_by_node, count_before, values_below, listed_arcs, listed_begins, Listed, is_listed}
use Rattle.listing.specs.ListingLaws.{length_by_node}
use Rattle.relist.specs.Relist.{arc_place}
use Rattle.index.specs.Index.{OneWay, Index, arcs_before, begin_in, begins_below, build_of, built_way, place_in, is_built, wrong_index}

-- the near nodes of a side's arcs
abbrev pub nears_of : Side → Network → List ℕ
nears_of start g = g.tails
nears_of end g = g.heads

module _ (s : Side) (g : Network) where
  arcs_below_lem : (u a : ℕ) → a ≤ arc_count g → arcs_below s g u a ≡ listed_at (near s g) u a
  unfolding arcs_below is_arc listed_at
  arcs_below_lem u zero h = refl
  arcs_below_lem u (suc a) h =
      ap₂ (λ l b. l ++ cond (b && eqb (near s g a) u) (a ∷ []) []) (arcs_below_lem u a (omega arith)) (lt-ltb a (arc_count g) h)

  pub arcs_of_lem : (u : ℕ) → arcs_of s g u ≡ listed_at (near s g) u (arc_count g)
  unfolding arcs_of
  arcs_of_lem u = arcs_below_lem u (arc_count g) (omega arith)

  pub arcs_before_lem : (u : ℕ) → arcs_before s g u ≡ node_by_node (near s g) (arc_count g) u
  unfolding arcs_before node_by_node
  arcs_before_lem zero = refl
  arcs_before_lem (suc u) = ap₂ (λ l k. l ++ k) (arcs_before_lem u) (arcs_of_lem u)

  begin_of_lem : (u : ℕ) → begin_in s g u ≡ count_before (near s g) (arc_count g) u
  unfolding begin_in
  begin_of_lem u = ap length (arcs_before_lem u) ∙ length_by_node (near s g) (arc_count g) u

  pub begins_below_lem : (u : ℕ) → begins_below s g u ≡ values_below (count_before (near s g) (arc_count g)) u
  unfolding begins_below values_below
  begins_below_lem zero = refl
  begins_below_lem (suc u) = ap₂ (λ l b. l ++ (b ∷ [])) (begins_below_lem u) (begin_of_lem u)

module _ (g : Network) (sized : ArcsSized g) where
  pub built_arcs : (s : Side) → (build_of s g).arcs ≡ listed_arcs (nears_of s g) g.nodes
  unfolding build_of listed_arcs
  built_arcs start = arcs_before_lem start g g.nodes
  built_arcs end = arcs_before_lem end g g.nodes ∙ ap (λ m. node_by_node (near end g) m g.nodes) (sym sized.heads_long)

  pub built_begins : (s : Side) → (build_of s g).begins ≡ listed_begins (nears_of s g) g.nodes
  unfolding build_of listed_begins
  built_begins start = begins_below_lem start g (suc g.nodes)
  built_begins end = begins_below_lem end g (suc g.nodes) ∙ ap (λ m. values_below (count_before (near end g) m) (suc g.nodes)) (sym sized.heads_long)

  -- an arc's place
  pub place_is : (s : Side) (a : ℕ) → a ≤ arc_count g → place_in s g a ≡ arc_place (nears_of s g) a
  unfolding place_in
  place_is start a h = ap₂ (λ b l. b + length l) (begin_of_lem start g (near start g a)) (arcs_below_lem start g (near start g a) a h)
  place_is end a h =
      ap₂ (λ b l. b + length l) (begin_of_lem end g (near end g a)) (arcs_below_lem end g (near end g a) a h)
      ∙ ap (λ m. count_before (near end g) m (near end g a) + length (listed_at (near end g) (near end g a) a)) (sym sized.heads_long)

  -- lists begin with what the arcs build if they begin with the listing
  pub built_listed : (s : Side) (w : OneWay) → is_built s g w ≡ is_listed (nears_of s g) g.nodes w.arcs w.begins
  unfolding is_built is_listed
  built_listed s w = ap₂ (λ x y. begins_with x w.arcs && begins_with y w.begins) (built_arcs s) (built_begins s)

  pub wrong_listed : (ix : Index)
      → wrong_index g ix
      ≡ not (is_listed g.tails g.nodes ix.out.arcs ix.out.begins && is_listed g.heads g.nodes ix.into.arcs ix.into.begins)
  unfolding wrong_index
  wrong_listed ix = ap₂ (λ x y. not (x && y)) (built_listed start ix.out) (built_listed end ix.into)

  -- lists that hold the listing are a way built on what they held before
  pub listed_built : (s : Side) (before after : OneWay) → Listed (nears_of s g) g.nodes before.arcs before.begins after.arcs after.begins
      → after ≡ built_way s g before
  unfolding built_way
  listed_built s before after held =
      ap₂ (λ x y. record { arcs = x; begins = y })
      (held.arcs_are ∙ ap (λ l. at_front l before.arcs) (sym (built_arcs s)))
      (held.begins_are ∙ ap (λ l. at_front l before.begins) (sym (built_begins s)))
