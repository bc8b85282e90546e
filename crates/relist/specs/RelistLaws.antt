-- Laws of a listing in which one arc gets another near node: that it can be listed, which entries stay, and what the pieces of
-- the code make of the lists. Assumes nothing.
use Rattle.std.specs.Prelude.{◌≡◌, refl, List, ◌++◌, ℕ, suc, ◌+◌, ◌-◌, ◌<◌, ◌≤◌, length, get_or, set, drop}
use Rattle.std.specs.List.{insert, remove}
use Rattle.std.proofs.Common.{sym, ap, ap₂, ◌∙◌, arith, length-append, length-set, length-drop, get_or-set_same, get_or-set_other, set-set, get_or-drop, ext_get_or}
use Rattle.std.proofs.lemmas.List.{set-get_or}
use Rattle.std.proofs.lemmas.List.Edits.{insert-append_left}
use Rattle.network.specs.CaseSplit.{by_eq, by_lt}
use Rattle.network.specs.Front.{at_front}
use Rattle.network.specs.FrontLaws.{front_is, drop_front}
use Rattle.listing.specs.Listing.{listed_at, count_before, near_of, begin_of, listed_arcs, listed_begins, Listable, Listed}
use Rattle.listing.specs.ListingLaws.{length_below, before_most, place_below, length_arcs, length_begins, values_are}
use Rattle.listing.specs.PartLaws.{begin_is, begins_room}
use Rattle.listing.specs.OneAnswer.{list_arcs_one_answer}
use Rattle.relist.specs.Relist.{place_at, arc_place, OnlyBetween}
use Rattle.relist.specs.Inner.{one_after, ArcMoved}
use Rattle.relist.specs.InnerLaws.{remove_insert, insert_same_before, insert_same_beyond, length_insert, after_is, after_not}
use Rattle.relist.specs.AwayLaws.{Away, listed_below, before_with, by_node_with}

-- ---- entries beyond those at the front
get_d_beyond : (entries old : List ℕ) (i : ℕ) → length entries ≤ i → get_or (at_front entries old) i 0 ≡ get_or old i 0
get_d_beyond entries old i h =
    let k = length entries in
    let there : k + (i - k) ≡ i = omega arith in
    ap (λ j. get_or (at_front entries old) j 0) (sym there) ∙ sym (get_or-drop k (at_front entries old) (i - k) 0)
    ∙ ap (λ l. get_or l (i - k) 0) (drop_front entries old)
    ∙ get_or-drop k old (i - k) 0 ∙ ap (λ j. get_or old j 0) there

-- ---- the arcs can still be listed
pub listable_moved : {near : List ℕ} {n : ℕ} → Listable near n → (a node : ℕ) → a < length near → node < n → Listable (set near a node) n
listable_moved {near} s a node h i = record {
  few = rw (length-set near a node) s.few;
  nodes_few = s.nodes_few;
  near_in = λ b k. by_eq b a
      (λ e. rw (e, get_or-set_same near a node 0 h) i)
      (λ d. rw (get_or-set_other near a b node 0 d) (s.near_in b (omega (arith, length-set near a node))));
}

-- ---- the same node once more: nothing changes
pub unmoved : {near : List ℕ} {n node : ℕ} {arcs₀ begins₀ arcs begins : List ℕ} (a : ℕ) → near_of near a ≡ node
    → Listed near n arcs₀ begins₀ arcs begins → Listed (set near a node) n arcs₀ begins₀ arcs begins
unmoved {near} a e held = rw (sym e, set-get_or near a 0) held

pub same_node : {near : List ℕ} {n node : ℕ} {arcs₀ begins₀ arcs begins : List ℕ} (a : ℕ) → near_of near a ≡ node
    → Listed near n arcs₀ begins₀ arcs₀ begins₀ → Listed (set near a node) n arcs₀ begins₀ arcs begins → (arcs ≡ arcs₀) × (begins ≡ begins₀)
same_node {near} {n} {node} {arcs₀} {begins₀} {arcs} {begins} a e held now-held =
    list_arcs_one_answer (set near a node) n arcs₀ begins₀ arcs begins arcs₀ begins₀ now-held (unmoved a e held)

-- ---- a listing beside that without the arc
module _ {near : List ℕ} {n : ℕ} (s : Listable near n) (a : ℕ) (h : a < length near) where
  -- the arc stands at n, which is no node
  pub taken_away : Away (length near) n a (near_of near) (near_of (set near a n))
  taken_away = record {
    arc = h;
    home = s.near_in a h;
    away = omega (arith, get_or-set_same near a n 0 h);
    others = λ b d. get_or-set_other near a b n 0 d;
  }

  arcs_with : listed_arcs near n ≡ insert (listed_arcs (set near a n) n) (arc_place near a) a
  unfolding listed_arcs
  arcs_with = rw (length-set near a n) (by_node_with taken_away)

  pub place_in_arcs : arc_place near a < length near
  place_in_arcs =
      let at = near_of near in
      let m = length near in
      omega (arith, place_below at m (at a) n (length (listed_at at (at a) a)) (s.near_in a h) (length_below at (at a) a m refl h), before_most at m n)

  place_in_rest : arc_place near a ≤ length (listed_arcs (set near a n) n)
  place_in_rest = omega (arith, place_in_arcs, length_insert (arc_place near a) a (listed_arcs (set near a n) n), ap length arcs_with, length_arcs s)

  -- lists that hold the listing
  front_with : (old : List ℕ) → at_front (listed_arcs near n) old ≡ insert (listed_arcs (set near a n) n ++ drop (length near) old) (arc_place near a) a
  unfolding at_front
  front_with old =
      ap₂ (λ l k. l ++ drop k old) arcs_with (length_arcs s)
      ∙ sym (insert-append_left (listed_arcs (set near a n) n) (drop (length near) old) (arc_place near a) a place_in_rest)

-- ---- the listings before and after arc a's near node becomes `node`
module _ {near : List ℕ} {n : ℕ} (s : Listable near n) (a node : ℕ) (h : a < length near) (i : node < n) where
  still_listable : Listable (set near a node) n
  still_listable = listable_moved s a node h i

  still_arc : a < length (set near a node)
  still_arc = omega (arith, length-set near a node)

  near_new : near_of (set near a node) a ≡ node
  near_new = get_or-set_same near a node 0 h

  pub new_place_in_arcs : arc_place (set near a node) a < length near
  new_place_in_arcs = omega (arith, place_in_arcs still_listable a still_arc, length-set near a node)

  new_place_in_rest : arc_place (set near a node) a ≤ length (listed_arcs (set near a n) n)
  new_place_in_rest = omega (arith, place_in_rest still_listable a still_arc, ap (λ l. length (listed_arcs l n)) (set-set near a node n))

  new_front_with : (old : List ℕ)
      → at_front (listed_arcs (set near a node) n) old ≡ insert (listed_arcs (set near a n) n ++ drop (length near) old) (arc_place (set near a node) a) a
  new_front_with old =
      front_with still_listable a still_arc old
      ∙ ap₂ (λ l k. insert (listed_arcs l n ++ drop k old) (arc_place (set near a node) a) a) (set-set near a node n) (length-set near a node)

  -- the parts after the old node begin one earlier, those after the new one one later
  new_begin : (w : ℕ) → w ≤ n → begin_of (set near a node) w + one_after (near_of near a) w ≡ begin_of near w + one_after node w
  new_begin w k =
      omega (
        arith,
        before_with (taken_away s a h) w k,
        before_with (taken_away still_listable a still_arc) w k,
        ap₂ (λ l m. count_before (near_of l) m w) (set-set near a node n) (length-set near a node),
        ap (λ m. count_before (near_of (set near a n)) m w) (length-set near a node),
        ap (λ u. one_after u w) near_new,
      )

  -- its new place, found in the old listing
  pub new_place : place_at near node a ≡ arc_place (set near a node) a + one_after (near_of near a) node
  new_place =
      let below : listed_at (near_of (set near a node)) node a ≡ listed_at (near_of near) node a =
      listed_below (taken_away still_listable a still_arc) node a (omega arith)
      ∙ ap (λ l. listed_at (near_of l) node a) (set-set near a node n)
      ∙ sym (listed_below (taken_away s a h) node a (omega arith)) in
      omega (arith, new_begin node (omega arith), after_not node node (omega arith), ap length below, ap (λ u. place_at (set near a node) u a) near_new)

  -- THE LAW OF A MOVE
  pub relisted : {arcs begins arcs' begins' : List ℕ} → Listed near n arcs begins arcs begins
      → arcs' ≡ insert (remove arcs (arc_place near a)) (arc_place (set near a node) a) a
      → ArcMoved (near_of near a) node begins begins'
      → Listed (set near a node) n arcs begins arcs' begins'
  unfolding listed_begins
  relisted {arcs} {begins} {arcs'} {begins'} held e moved =
      let rest = listed_arcs (set near a n) n ++ drop (length near) arcs in
      let room : arc_place near a ≤ length rest = omega (arith, place_in_rest s a h, length-append (listed_arcs (set near a n) n) (drop (length near) arcs)) in
      let gone : remove arcs (arc_place near a) ≡ rest = ap (λ l. remove l (arc_place near a)) (held.arcs_are ∙ front_with s a h arcs) ∙ remove_insert (arc_place near a) a rest room in
      record {
        arcs_are = e ∙ ap (λ l. insert l (arc_place (set near a node) a) a) gone ∙ sym (new_front_with arcs);
        begins_are =
            front_is (listed_begins (set near a node) n) begins begins' (suc n) (length_begins (set near a node) n)
            (values_are begins' (begin_of (set near a node)) (suc n) (omega (arith, moved.long, begins_room held)) entries) beyond;
      }
    where
      entries : (w : ℕ) → w < suc n → get_or begins' w 0 ≡ begin_of (set near a node) w
      entries w k = omega (arith, moved.each w, new_begin w (omega arith), begin_is held w (omega arith))

      beyond : drop (suc n) begins' ≡ drop (suc n) begins
      beyond =
          ext_get_or 0 (drop (suc n) begins') (drop (suc n) begins)
          (length-drop (suc n) begins' ∙ ap (λ k. k - suc n) moved.long ∙ sym (length-drop (suc n) begins))
          (λ k p. get_or-drop (suc n) begins' k 0 ∙ both (suc n + k) (omega arith) ∙ sym (get_or-drop (suc n) begins k 0))
        where
          both : (w : ℕ) → n < w → get_or begins' w 0 ≡ get_or begins w 0
          both w k = omega (arith, moved.each w, after_is (near_of near a) w (omega (arith, s.near_in a h)), after_is node w (omega arith))

  -- no other entries change
  pub only_between : {arcs₀ begins₀ arcs begins : List ℕ} → Listed near n arcs₀ begins₀ arcs₀ begins₀ → Listed (set near a node) n arcs₀ begins₀ arcs begins
      → OnlyBetween near a node arcs₀ begins₀ arcs begins
  only_between {arcs₀} {begins₀} {arcs} {begins} held now-held =
      let p = arc_place near a in
      let q = arc_place (set near a node) a in
      let rest = listed_arcs (set near a n) n ++ drop (length near) arcs₀ in
      let long = length-append (listed_arcs (set near a n) n) (drop (length near) arcs₀) in
      let p_in : p ≤ length rest = omega (arith, place_in_rest s a h) in
      let q_in : q ≤ length rest = omega (arith, new_place_in_rest) in
      let old : arcs₀ ≡ insert rest p a = held.arcs_are ∙ front_with s a h arcs₀ in
      let new : arcs ≡ insert rest q a = now-held.arcs_are ∙ new_front_with arcs₀ in
      record {
        arcs_before_lem = λ j f g. ap (λ l. get_or l j 0) new ∙ insert_same_before q p a rest j q_in p_in g f ∙ sym (ap (λ l. get_or l j 0) old);
        arcs_beyond = λ j f g. ap (λ l. get_or l j 0) new ∙ insert_same_beyond q p a rest j q_in p_in g f ∙ sym (ap (λ l. get_or l j 0) old);
        begins_before = λ w f g. both w (omega arith) (after_not (near_of near a) w f ∙ sym (after_not node w g));
        begins_beyond = λ w f g.
            by_lt n w
            (λ k. ap (λ l. get_or l w 0) now-held.begins_are ∙ get_d_beyond (listed_begins (set near a node) n) begins₀ w (omega (arith, length_begins (set near a node) n)))
            (λ k. both w k (after_is (near_of near a) w f ∙ sym (after_is node w g)));
      }
    where
      both : (w : ℕ) → w ≤ n → one_after (near_of near a) w ≡ one_after node w → get_or begins w 0 ≡ get_or begins₀ w 0
      both w k e = omega (arith, begin_is held w k, begin_is now-held w k, new_begin w k)
