-- What `relist` finds in the lists and hands on: the arc's place in a node's part, and what shifting entries and moving begins
-- ask. Assumes nothing.
use Rattle.std.specs.Prelude.{◌≡◌, refl, true, false, List, ℕ, suc, ◌+◌, ◌-◌, ◌<◌, ◌≤◌, ltb, length, get_or, set}
use Rattle.std.specs.List.{insert, remove, between}
use Rattle.std.specs.List.Sorted.{IsPartitionedBy, IsPartitionPoint}
use Rattle.std.proofs.Common.{sym, ap, ◌∙◌, arith, add-one, ltb-true, ltb-false, lt-ltb, le-ltb}
use Rattle.std.proofs.lemmas.List.{get_or_default}
use Rattle.std.proofs.lemmas.List.Edits.{length-between, get_or-between}
use mir.Val.{bool_byte}
use Rattle.network.specs.CaseSplit.{by_eq, by_lt}
use Rattle.listing.specs.Listing.{listed_at, near_of, Listable, Listed}
use Rattle.listing.specs.ListingLaws.{length_rises, length_below, before_next, before_most}
use Rattle.listing.specs.PartLaws.{listed_place, arcs_low, arcs_high, begin_is, arcs_room, begins_room, part_ends, part_begins, entry_in, entry_is}
use Rattle.relist.specs.Relist.{place_at, arc_place}
use Rattle.relist.specs.Inner.{BelowFirst, FirstNotBelow, HasPart, HasBefore, HasRoom, one_after, ArcMoved}
use Rattle.relist.specs.InnerLaws.{after_is, after_not}
use Rattle.relist.specs.AwayLaws.{before_with}
use Rattle.relist.specs.RelistLaws.{taken_away, place_in_arcs, new_place_in_arcs, new_place, relisted}

-- ---- a part that is parted
module _ (arcs : List ℕ) (from to a : ℕ) (within : to ≤ length arcs) where
  part_entry : (k d : ℕ) → k < length (between from to arcs) → get_or (between from to arcs) k d ≡ get_or arcs (from + k) 0
  part_entry k d h =
      let inside : from + k < to = omega (arith, length-between arcs from to within) in
      get_or-between arcs from to k d inside ∙ get_or_default arcs (from + k) d 0 (omega arith)

  pub partitioned : BelowFirst arcs from to a → IsPartitionedBy (λ b. ltb b a) (between from to arcs)
  partitioned first i j d h k e =
      let inside : from + j < to = omega (arith, length-between arcs from to within) in
      lt-ltb _ a
      (omega (arith, part_entry i d (omega arith), first (from + i) (from + j) (omega arith) (omega arith) inside (omega (arith, part_entry j d k, ltb-true _ a e))))

  pub found_first : (r : ℕ) → from ≤ to → r ≤ length (between from to arcs) → IsPartitionPoint (λ b. ltb b a ≡ true) (λ b. ltb b a ≡ false) (between from to arcs) r
      → FirstNotBelow arcs from to a (from + r)
  found_first r h k parted =
      let long = length-between arcs from to within in
      record {
        from_on = omega arith;
        not_beyond = omega arith;
        below = λ i p q.
            let there : from + (i - from) ≡ i = omega arith in
            omega (arith, part_entry (i - from) 0 (omega arith), ap (λ j. get_or arcs j 0) there, ltb-true _ a (parted.0 (i - from) 0 (omega arith) (omega arith)));
        not_below = λ p. omega (arith, part_entry r 0 (omega arith), ltb-false _ a (parted.1 r 0 (omega arith) (omega arith)));
      }

module _ {near : List ℕ} {n : ℕ} {arcs begins : List ℕ} (s : Listable near n) (held : Listed near n arcs begins arcs begins) where
  -- every node has a part
  has_part : (w : ℕ) → w < n → HasPart arcs begins w
  has_part w h =
      let next : get_or begins (w + 1) 0 ≡ get_or begins (suc w) 0 = ap (λ j. get_or begins j 0) (add-one w) in
      record {
        long = omega (arith, begins_room held);
        ordered = omega (arith, part_begins held w h);
        within = omega (arith, part_ends held w h, arcs_room held s);
      }

  -- in which the arcs below a come first
  below_first : (w a : ℕ) → w < n → a < length near → BelowFirst arcs (get_or begins w 0) (get_or begins (w + 1) 0) a
  below_first w a h k i j p q r e =
      let at = near_of near in
      let m = length near in
      let next : get_or begins (w + 1) 0 ≡ get_or begins (suc w) 0 = ap (λ j. get_or begins j 0) (add-one w) in
      let from = get_or begins w 0 in
      by_lt (get_or arcs i 0) a (λ z. z)
      (λ z. by_lt (i - from) (length (listed_at at w a))
      (λ y. omega (arith, entry_is held w i h p (omega arith), arcs_low at w a m (i - from) (omega arith) y))
      (λ y. absurd (omega (
        arith,
        entry_is held w j h (omega arith) (omega arith),
        arcs_high at w a m (j - from) (omega arith) (entry_in held w j h (omega arith) (omega arith)),
      ))))

  -- what is found there is the arc's place
  found_is : (w a r : ℕ) → w < n → a < length near → FirstNotBelow arcs (get_or begins w 0) (get_or begins (w + 1) 0) a r → r ≡ place_at near w a
  found_is w a r h k found =
      let at = near_of near in
      let m = length near in
      let place = place_at near w a in
      let from = begin_is held w (omega arith) in
      let to = begin_is held (suc w) h ∙ before_next at m w in
      let next : get_or begins (w + 1) 0 ≡ get_or begins (suc w) 0 = ap (λ j. get_or begins j 0) (add-one w) in
      let below = length_rises at w a m (omega arith) in
      by_lt r place
      (λ p. absurd (omega (
        arith,
        found.not_below (omega arith),
        entry_is held w r h found.from_on (omega arith),
        arcs_low at w a m (r - get_or begins w 0) (omega arith) (omega arith),
      )))
      (λ p. by_eq r place (λ e. e)
      (λ d. absurd (omega (
        arith,
        found.below place (omega arith) (omega arith),
        entry_is held w place h (omega arith) (omega arith),
        arcs_high at w a m (place - get_or begins w 0) (omega arith) (entry_in held w place h (omega arith) (omega arith)),
      ))))

-- whether the one node is before the other, as a number
pub before_is : (u v less : ℕ) → less ≡ bool_byte (ltb u v) → less ≡ one_after u v
before_is u v less e =
    by_lt u v (λ h. e ∙ ap bool_byte (lt-ltb u v h) ∙ sym (after_is u v h)) (λ h. e ∙ ap bool_byte (le-ltb u v h) ∙ sym (after_not u v h))

-- what `relist` asks
module _ {near : List ℕ} {n : ℕ} {arcs begins : List ℕ} (a node : ℕ) (listable : Listable near n) (held : Listed near n arcs begins arcs begins) (within : (a < length near) × (node < n)) where
  arc_in : a < length near
  arc_in = within.0

  node_in : node < n
  node_in = within.1

  -- both nodes have a part
  old_node_in : near_of near a < n
  old_node_in = listable.near_in a arc_in

  pub old_part : HasPart arcs begins (near_of near a)
  old_part = has_part listable held (near_of near a) old_node_in

  pub old_below_first : BelowFirst arcs (get_or begins (near_of near a) 0) (get_or begins (near_of near a + 1) 0) a
  old_below_first = below_first listable held (near_of near a) a old_node_in arc_in

  pub new_part : HasPart arcs begins node
  new_part = has_part listable held node node_in

  pub new_below_first : BelowFirst arcs (get_or begins node 0) (get_or begins (node + 1) 0) a
  new_below_first = below_first listable held node a node_in arc_in

  -- an arc stands before every node after its own
  pub has_before : HasBefore (near_of near a) node begins
  has_before = record {
    long = omega (arith, begins_room held);
    some = λ w p q. omega (arith, begin_is held w (omega arith), before_with (taken_away listable a arc_in) w (omega arith), after_is (near_of near a) w p);
  }

  pub has_room : HasRoom (near_of near a) node begins
  has_room = record {
    long = omega (arith, begins_room held, listable.near_in a arc_in);
    few = λ w p q. omega (arith, begin_is held w (omega (arith, listable.near_in a arc_in)), before_most (near_of near) (length near) w, listable.few);
  }

  -- p is what is found at the old node, and q at the new one
  module _ (p q : ℕ) (old : FirstNotBelow arcs (get_or begins (near_of near a) 0) (get_or begins (near_of near a + 1) 0) a p)
      (new : FirstNotBelow arcs (get_or begins node 0) (get_or begins (node + 1) 0) a q) where
    p_is : p ≡ arc_place near a
    p_is = found_is listable held (near_of near a) a p (listable.near_in a arc_in) arc_in old

    q_is : q ≡ place_at near node a
    q_is = found_is listable held node a q node_in arc_in new

    -- without the arc its new place is one earlier, if that is at a later node
    pub one_before : one_after (near_of near a) node ≤ q
    one_before = omega (arith, q_is, new_place listable a node arc_in node_in)

    new_is : q - one_after (near_of near a) node ≡ arc_place (set near a node) a
    new_is = omega (arith, q_is, new_place listable a node arc_in node_in)

    -- the arc stands at its old place, and both places are within the list
    arc_is : get_or arcs p 0 ≡ a
    arc_is =
        let at = near_of near in
        let m = length near in
        let u = at a in
        let next : get_or begins (u + 1) 0 ≡ get_or begins (suc u) 0 = ap (λ j. get_or begins j 0) (add-one u) in
        let k : p - get_or begins u 0 ≡ length (listed_at at u a) = omega (arith, p_is, begin_is held u (omega (arith, old_node_in))) in
        sym (entry_is held u p old_node_in old.from_on (omega (arith, p_is, length_below at u a m refl arc_in, begin_is held (suc u) old_node_in, before_next at m u)))
        ∙ ap (λ j. get_or (listed_at at u m) j 0) k ∙ listed_place at u a m refl arc_in

    pub places_in : (p < length arcs) × (q - one_after (near_of near a) node < length arcs)
    places_in = (
      omega (arith, p_is, place_in_arcs listable a arc_in, arcs_room held listable),
      omega (arith, new_is, new_place_in_arcs listable a node arc_in node_in, arcs_room held listable),
    )

    pub relisted_there : {arcs' begins' : List ℕ} → arcs' ≡ insert (remove arcs p) (q - one_after (near_of near a) node) (get_or arcs p 0)
        → ArcMoved (near_of near a) node begins begins' → Listed (set near a node) n arcs begins arcs' begins'
    relisted_there e moved = relisted listable a node arc_in node_in held (rw (arc_is, new_is, p_is) at e) moved
