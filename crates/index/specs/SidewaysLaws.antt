-- The end side walks arcs backward: its arcs of a node and its way of an index are those of the start side, with tails and heads
-- exchanged. So what is proved of one side's lists serves both. Assumes nothing.
use Rattle.std.specs.Prelude.{◌≡◌, refl, [], ◌∷◌, ◌++◌, ℕ, zero, suc, length}
use Rattle.std.proofs.Common.{ap, ap₂, ◌∙◌}
use Rattle.network.specs.Network.{Side, start, end, Network, network, arc_count, is_arc}
use Rattle.nba.specs.Search.{arcs_below, arcs_of}
use Rattle.index.specs.Index.{OneWay, arcs_before, begin_in, begins_below, build_of, is_built}

-- the network with its arcs turned the way of a side
abbrev pub sideways : Side → Network → Network
sideways start g = g
sideways end g = network g.nodes g.heads g.tails g.weights

arcs_sideways : (s : Side) (g : Network) (u a : ℕ) → length g.heads ≡ arc_count g → arcs_below start (sideways s g) u a ≡ arcs_below s g u a
unfolding arcs_below is_arc
arcs_sideways start g u a e = refl
arcs_sideways end g u zero e = refl
arcs_sideways end g u (suc a) e = rw (arcs_sideways end g u a e, e)

pub arcs_of_sideways : (s : Side) (g : Network) (u : ℕ) → length g.heads ≡ arc_count g → arcs_of start (sideways s g) u ≡ arcs_of s g u
unfolding arcs_of
arcs_of_sideways start g u e = refl
arcs_of_sideways end g u e = arcs_sideways end g u (length g.heads) e ∙ ap (arcs_below end g u) e

-- so what the arcs build for a side is what those turned its way build for the start side
arcs_before_sideways : (s : Side) (g : Network) (u : ℕ) → length g.heads ≡ arc_count g → arcs_before start (sideways s g) u ≡ arcs_before s g u
unfolding arcs_before
arcs_before_sideways s g zero e = refl
arcs_before_sideways s g (suc u) e = ap₂ (λ x y. x ++ y) (arcs_before_sideways s g u e) (arcs_of_sideways s g u e)

begins_sideways : (s : Side) (g : Network) (u : ℕ) → length g.heads ≡ arc_count g → begins_below start (sideways s g) u ≡ begins_below s g u
unfolding begins_below begin_in
begins_sideways s g zero e = refl
begins_sideways s g (suc u) e = ap₂ (λ x y. x ++ (length y ∷ [])) (begins_sideways s g u e) (arcs_before_sideways s g u e)

nodes_sideways : (s : Side) (g : Network) → (sideways s g).nodes ≡ g.nodes
nodes_sideways start g = refl
nodes_sideways end g = refl

pub built_sideways : (s : Side) (g : Network) (w : OneWay) → length g.heads ≡ arc_count g → is_built start (sideways s g) w ≡ is_built s g w
unfolding is_built build_of
built_sideways s g w e = rw (nodes_sideways s g, arcs_before_sideways s g g.nodes e, begins_sideways s g (suc g.nodes) e)
