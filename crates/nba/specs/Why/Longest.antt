-- The chain by which the largest shortest length, 2,047,000,000 (docs/RULES.md, "The network and a query"), is reached
-- (proofs/Why/LongestReached): 2,048 nodes, from the first to the last, each arc of the top weight. The walk along the chain is
-- that long, and none is shorter: the potential of a node is how far it is from the last, and along a walk a consistent potential
-- falls by no more than the walk's length. Assumes nothing.
use Rattle.std.specs.Prelude.{◌≡◌, true, false, List, [], ◌∷◌, ℤ, pos, ◌-ℤ◌, length, get_or, replicate, Ok}
use Rattle.std.proofs.Math.Path.{refl}
use Rattle.std.proofs.Common.{ap, ◌∙◌, ℕ, zero, suc, ◌+◌, ◌*◌, ◌-◌, ◌≤◌, ◌<◌, arith, lt-ltb, le-ltb, le-leb, eq-eqb, ne_eqb}
use Rattle.std.specs.Int.Signed.{le_z}
use Rattle.std.proofs.Math.ListN.{length-replicate, get_or-replicate}
use borrow.Author.Tests.{lt-leb}
use Rattle.network.specs.declared.Figures.{Figures}
use Rattle.network.specs.declared.Answer.{Answer}
use Rattle.network.specs.declared.Answer.TheVariants.{Route}
use Rattle.network.specs.Network.{start, end, Network, network, most_nodes, most_arcs, most_weight, arc_count, near, weight, is_arc}
use Rattle.network.specs.Walk.{Step, Walk, here, step}
use Rattle.network.specs.WalkLaws.{walk_is}
use Rattle.network.specs.Potential.{most_potential, keeps_rule}
use Rattle.network.specs.PotentialLaws.{shift, shifted, potential_along_walk}
use Rattle.network.specs.Query.{Query, query}
use Rattle.network.specs.Refusal.{nowhere, lowest, room_for, bad_node_count, bad_arc_lists, bad_potential_lists, bad_start_or_end, bad_entry, bad_pattern, bad_room, bad_arc, out_of_range, bad_potential, breaks_rule, list_rows, trip_rows, map_rows, first_refusal, query_verdict}
use Rattle.network.specs.LowestLaws.{passes_nowhere}
use Rattle.network.specs.Shift.{up, low_pos, up_pos, up_within}
use Rattle.network.specs.Given.{Sound}
use Rattle.network.specs.SoundLaws.{accepted_sound}
use Rattle.nba.specs.Demands.{WalkOfLength}
use Rattle.nba.specs.Why.MeasureLaws.{shiftable}

-- ---- a chain
-- n numbers in rising order from the first
unfoldable pub rising : ℕ → ℕ → List ℕ
rising zero first = []
rising (suc n) first = first ∷ rising n (suc first)

-- the potentials of n nodes in a chain: each is the number of arcs from there to the last node, times the top weight
unfoldable pub falling : ℕ → List ℤ
falling zero = []
falling (suc n) = pos (n * most_weight) ∷ falling n

-- a chain of n arcs, from node 0 to node n, each arc of the top weight
unfoldable pub chain : ℕ → Network
chain n = network (suc n) (rising n 0) (rising n 1) (replicate n most_weight)

-- the query along a chain of n arcs, from its first node to its last, pattern 0
unfoldable pub along : ℕ → Query
along n = query (chain n) (falling (suc n)) (replicate (suc n) (pos 0)) 0 n (0 ∷ [])

-- ---- its entries
rising_long : (n a : ℕ) → length (rising n a) ≡ n
unfolding rising
rising_long zero a = refl
rising_long (suc n) a = ap suc (rising_long n (suc a))

rising_at : (n a i : ℕ) → i < n → get_or (rising n a) i 0 ≡ a + i
unfolding rising
rising_at zero a i h = absurd (omega arith)
rising_at (suc n) a zero h = omega arith
rising_at (suc n) a (suc i) h = rising_at n (suc a) i (omega arith) ∙ omega arith

falling_long : (n : ℕ) → length (falling n) ≡ n
unfolding falling
falling_long zero = refl
falling_long (suc n) = ap suc (falling_long n)

-- node v, with m arcs before the last node
falling_at : (n v m : ℕ) → v + suc m ≡ n → get_or (falling n) v (pos 0) ≡ pos (m * most_weight)
unfolding falling
falling_at zero v m e = absurd (omega arith)
falling_at (suc n) zero m e = let s : n ≡ m = omega arith in rw s
falling_at (suc n) (suc v) m e = falling_at n v m (omega arith)

-- a difference of two natural numbers that is at most the weight
falls : (x y w : ℕ) → x ≤ w + y → le_z (pos x -ℤ pos y) (pos w) ≡ true
falls x y w h =
    up_within shift w (pos x) (pos y) (omega (arith, low_pos x)) (omega (arith, low_pos y))
    ∙ le-leb (up shift (pos x)) (w + up shift (pos y)) (omega (arith, up_pos shift x, up_pos shift y))

one_entry : bad_pattern (0 ∷ []) ≡ false
unfolding bad_pattern bad_entry lowest
one_entry = refl

module _ (n : ℕ) (few : n < most_nodes) where
  -- arc a goes from node a to the next, and has the top weight
  nodes_are : (chain n).nodes ≡ suc n
  unfolding chain
  nodes_are = refl

  arcs_are : arc_count (chain n) ≡ n
  unfolding chain
  arcs_are = rising_long n 0

  tail_at : (a : ℕ) → a < n → near start (chain n) a ≡ a
  unfolding chain
  tail_at a h = rising_at n 0 a h ∙ omega arith

  head_at : (a : ℕ) → a < n → near end (chain n) a ≡ suc a
  unfolding chain
  head_at a h = rising_at n 1 a h ∙ omega arith

  weight_at : (a : ℕ) → a < n → weight (chain n) a ≡ most_weight
  unfolding chain
  weight_at a h = get_or-replicate n a most_weight 0 h

  arc_is : (a : ℕ) → a < n → is_arc (chain n) a ≡ true
  unfolding is_arc
  arc_is a h = lt-ltb a (arc_count (chain n)) (omega (arith, arcs_are))

  -- ---- the table accepts the query
  no_bad_node_count : bad_node_count (chain n) ≡ false
  unfolding bad_node_count
  no_bad_node_count = rw (nodes_are, ne_eqb (suc n) 0 (λ e. omega arith), le-ltb most_nodes (suc n) (omega arith))

  no_bad_arc_lists : bad_arc_lists (chain n) ≡ false
  unfolding bad_arc_lists chain
  no_bad_arc_lists =
      rw (rising_long n 0, rising_long n 1, length-replicate n most_weight, eq-eqb n n refl, le-ltb most_arcs n (omega arith))

  no_bad_potential_lists : bad_potential_lists (chain n) (falling (suc n)) (replicate (suc n) (pos 0)) ≡ false
  unfolding bad_potential_lists
  no_bad_potential_lists = rw (nodes_are, falling_long (suc n), length-replicate (suc n) (pos 0), eq-eqb (suc n) (suc n) refl)

  no_bad_start_or_end : bad_start_or_end (chain n).nodes 0 n ≡ false
  unfolding bad_start_or_end
  no_bad_start_or_end = rw (nodes_are, lt-leb (suc n) 0 (omega arith), lt-leb (suc n) n (omega arith))

  no_bad_room : bad_room (chain n).nodes (room_for most_nodes) ≡ false
  unfolding bad_room
  no_bad_room = rw (nodes_are, le-ltb most_nodes (suc n) (omega arith))

  arc_fine : (a : ℕ) → a < n → bad_arc (chain n) a ≡ false
  unfolding bad_arc
  arc_fine a h =
      rw (nodes_are, tail_at a h, head_at a h, weight_at a h, lt-leb (suc n) a (omega arith), lt-leb (suc n) (suc a) (omega arith))

  no_bad_arc : lowest (bad_arc (chain n)) (arc_count (chain n)) ≡ nowhere
  no_bad_arc = passes_nowhere (bad_arc (chain n)) (arc_count (chain n)) (λ a h. arc_fine a (omega (arith, arcs_are)))

  potential_fine : (v : ℕ) → v < suc n → bad_potential (falling (suc n)) (replicate (suc n) (pos 0)) v ≡ false
  unfolding bad_potential out_of_range
  potential_fine v h =
      rw (falling_at (suc n) v (n - v) (omega arith), get_or-replicate (suc n) v (pos 0) (pos 0) h, le-ltb most_potential ((n - v) * most_weight) (omega arith))

  no_bad_potential : lowest (bad_potential (falling (suc n)) (replicate (suc n) (pos 0))) (chain n).nodes ≡ nowhere
  no_bad_potential =
      passes_nowhere (bad_potential (falling (suc n)) (replicate (suc n) (pos 0))) (chain n).nodes (λ v h. potential_fine v (omega (arith, nodes_are)))

  forward_rule : (a : ℕ) → a < n → keeps_rule start (chain n) (falling (suc n)) a ≡ true
  unfolding keeps_rule
  forward_rule a h =
      rw (tail_at a h, head_at a h, weight_at a h, falling_at (suc n) a (n - a) (omega arith), falling_at (suc n) (suc a) (n - suc a) (omega arith))
      (falls ((n - a) * most_weight) ((n - suc a) * most_weight) most_weight (omega arith))

  backward_rule : (a : ℕ) → a < n → keeps_rule end (chain n) (replicate (suc n) (pos 0)) a ≡ true
  unfolding keeps_rule
  backward_rule a h =
      rw (tail_at a h, head_at a h, weight_at a h, get_or-replicate (suc n) (suc a) (pos 0) (pos 0) (omega arith), get_or-replicate (suc n) a (pos 0) (pos 0) (omega arith))
      (falls 0 0 most_weight (omega arith))

  rule_fine : (a : ℕ) → a < n → breaks_rule (chain n) (falling (suc n)) (replicate (suc n) (pos 0)) a ≡ false
  unfolding breaks_rule
  rule_fine a h = rw (arc_is a h, forward_rule a h, backward_rule a h)

  no_broken_rule : lowest (breaks_rule (chain n) (falling (suc n)) (replicate (suc n) (pos 0))) (arc_count (chain n)) ≡ nowhere
  no_broken_rule =
      passes_nowhere (breaks_rule (chain n) (falling (suc n)) (replicate (suc n) (pos 0))) (arc_count (chain n)) (λ a h. rule_fine a (omega (arith, arcs_are)))

  pub along_accepted : query_verdict (along n) (room_for most_nodes) ≡ Ok tt
  unfolding query_verdict list_rows trip_rows map_rows first_refusal along
  along_accepted =
      rw (no_bad_node_count, no_bad_arc_lists, no_bad_potential_lists, no_bad_start_or_end, one_entry, no_bad_room, no_bad_arc, no_bad_potential, no_broken_rule)

  -- ---- the walk along the chain, and no shorter one
  walk_from : (i k : ℕ) → i + k ≤ n → Walk start (chain n) i (i + k) (k * most_weight)
  walk_from i zero h = let e : i + 0 ≡ i = omega arith in rw e here
  walk_from i (suc k) h =
      let e : suc i + k ≡ i + suc k = omega arith in
      let next : Step start (chain n) i (suc i) most_weight = record {
        arc = i;
        is_arc_lem = arc_is i (omega arith);
        from = tail_at i (omega arith);
        to = head_at i (omega arith);
        weighs = weight_at i (omega arith);
      } in
      walk_is (omega arith) (rw e at (step next (walk_from (suc i) k (omega arith))))

  pub walk_of_chain : WalkOfLength (along n) (n * most_weight)
  unfolding along
  walk_of_chain = let e : 0 + n ≡ n = omega arith in rw e at (walk_from 0 n (omega arith))

  pub along_sound : Sound (along n)
  along_sound = accepted_sound (along n) (room_for most_nodes) along_accepted

  -- the first node's potential is the whole length, and the last one's is 0
  pub along_no_shorter : (l : ℕ) → WalkOfLength (along n) l → n * most_weight ≤ l
  unfolding along shifted
  along_no_shorter l p =
      omega (
        arith,
        rw (falling_at (suc n) 0 n (omega arith), falling_at (suc n) n 0 (omega arith)) at (potential_along_walk (shiftable along_sound start) (along_sound.consistent start) p),
        up_pos shift (n * most_weight),
        up_pos shift (0 * most_weight),
      )

-- an answer is a route of this length
pub record RouteOfLength (a : Answer) (l : ℕ) : Type 0 where
  pub nodes : ℕ
  pub figures : Figures
  pub answered : a ≡ Route l nodes figures
