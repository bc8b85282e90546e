-- The part of a node in a way of an index that is what its arcs build: from where the node's arcs begin to where the next node's
-- begin stand the node's arcs (`arcs_of`), and nothing else of a search knows how they are found. Assumes nothing.
use Rattle.std.specs.Prelude.{◌≡◌, true, ℕ, suc, ◌-◌, ◌<◌, ◌≤◌, get_or, drop}
use Rattle.std.proofs.Math.Path.{sym, ap}
use Rattle.std.proofs.Common.{◌∙◌, arith}
use Rattle.std.proofs.Math.ListN.{length, length-append}
use Rattle.std.proofs.Math.Seq.{slice}
use Rattle.network.specs.CaseSplit.{both_true}
use Rattle.network.specs.Network.{Side, Network, arc_count, near}
use Rattle.nba.specs.Search.{arcs_of}
use Rattle.network.specs.Front.{at_front, begins_with}
use Rattle.network.specs.FrontLaws.{begins_is, get_d_front}
use Rattle.listing.specs.Listing.{listed_at, node_by_node, count_before, values_below}
use Rattle.listing.specs.ListingLaws.{length_values, get_d_values, before_next, before_rises, length_by_node}
use Rattle.listing.specs.PartLaws.{slice_entry, by_node_part, arcs_own}
use Rattle.index.specs.Index.{OneWay, arcs_before, begins_below, build_of, is_built}
use Rattle.index.specs.WayLaws.{arcs_of_lem, arcs_before_lem, begins_below_lem}

module _ (s : Side) (g : Network) (w : OneWay) (built : is_built s g w ≡ true) where
  arcs_are : w.arcs ≡ at_front (node_by_node (near s g) (arc_count g) g.nodes) w.arcs
  unfolding is_built build_of
  arcs_are =
      both_true (begins_with (arcs_before s g g.nodes) w.arcs) (begins_with (begins_below s g (suc g.nodes)) w.begins) built
      (λ p q. begins_is _ w.arcs (ap (λ l. begins_with l w.arcs) (sym (arcs_before_lem s g g.nodes)) ∙ p))

  begins_are : w.begins ≡ at_front (values_below (count_before (near s g) (arc_count g)) (suc g.nodes)) w.begins
  unfolding is_built build_of
  begins_are =
      both_true (begins_with (arcs_before s g g.nodes) w.arcs) (begins_with (begins_below s g (suc g.nodes)) w.begins) built
      (λ p q. begins_is _ w.begins (ap (λ l. begins_with l w.begins) (sym (begins_below_lem s g (suc g.nodes))) ∙ q))

  -- an entry of the begins, with one more for the end
  begin_found : (u : ℕ) → u ≤ g.nodes → get_or w.begins u 0 ≡ count_before (near s g) (arc_count g) u
  begin_found u h =
      let begins = count_before (near s g) (arc_count g) in
      ap (λ l. get_or l u 0) begins_are
      ∙ get_d_front (values_below begins (suc g.nodes)) w.begins u (omega (arith, length_values begins (suc g.nodes)))
      ∙ get_d_values begins (suc g.nodes) u (omega arith)

  -- there is one for each node, and one more
  pub begins_long : g.nodes < length w.begins
  unfolding at_front
  begins_long =
      let begins = values_below (count_before (near s g) (arc_count g)) (suc g.nodes) in
      omega (arith, ap length begins_are, length-append begins (drop (length begins) w.begins), length_values (count_before (near s g) (arc_count g)) (suc g.nodes))

  arcs_long : count_before (near s g) (arc_count g) g.nodes ≤ length w.arcs
  unfolding at_front
  arcs_long =
      let arcs = node_by_node (near s g) (arc_count g) g.nodes in
      omega (arith, ap length arcs_are, length-append arcs (drop (length arcs) w.arcs), length_by_node (near s g) (arc_count g) g.nodes)

  module _ (u : ℕ) (node : u < g.nodes) where
    -- THE LAW: what stands from a node's begin to the next node's are its arcs, in number order
    pub part_of_node : slice (get_or w.begins u 0) (get_or w.begins (suc u) 0) w.arcs ≡ arcs_of s g u
    unfolding at_front
    part_of_node =
        rw (begin_found u (omega arith), begin_found (suc u) node, arcs_are)
        (by_node_part (near s g) (arc_count g) g.nodes u _ node ∙ sym (arcs_of_lem s g u))

    -- it lies within the list, begins no later than it ends, and its entries are arcs
    pub part_in_list : get_or w.begins (suc u) 0 ≤ length w.arcs
    part_in_list = omega (arith, begin_found (suc u) node, before_rises (near s g) (arc_count g) (suc u) g.nodes node, arcs_long)

    pub part_in_order : get_or w.begins u 0 ≤ get_or w.begins (suc u) 0
    part_in_order = omega (arith, begin_found u (omega arith), begin_found (suc u) node, before_next (near s g) (arc_count g) u)

    pub part_entry : (k : ℕ) → get_or w.begins u 0 ≤ k → k < get_or w.begins (suc u) 0 → get_or w.arcs k 0 < arc_count g
    part_entry k p q =
        let from = get_or w.begins u 0 in
        let to = get_or w.begins (suc u) 0 in
        let own = listed_at (near s g) u (arc_count g) in
        let there : k - from < length own = omega (arith, begin_found u (omega arith), begin_found (suc u) node, before_next (near s g) (arc_count g) u) in
        let entry : get_or own (k - from) 0 ≡ get_or w.arcs k 0 =
        sym (ap (λ l. get_or l (k - from) 0) (part_of_node ∙ arcs_of_lem s g u)) ∙ slice_entry from to k w.arcs p q in
        rw entry at (arcs_own (near s g) u (arc_count g) (k - from) there).below
