-- Laws of the tables of an index: how they compose of the parts that the code tests one after the other, and what arcs and an
-- index that pass them can be relied on for. Assumes nothing.
use Rattle.std.specs.Prelude.{◌≡◌, Bool, true, false, not, ◌||◌, ◌&&◌, List, [], ◌∷◌, ℕ, ◌<◌, ◌≤◌, ltb, leb, get_or, Ok, Err}
use Rattle.std.proofs.Math.Path.{refl, sym, ap}
use Rattle.std.proofs.Common.{ap₂, ◌∙◌, arith, get_or-set_same, ltb-false, leb-false, le-leb}
use Rattle.std.proofs.Math.ListN.{length}
use Rattle.network.specs.declared.Lent.{Lent}
use Rattle.network.specs.declared.Cause.TheVariants.{NodeCount, ArcLists, PotentialLists, StartOrEnd, Pattern, Room, BadArc, BadPotential, Inconsistent, NoSuchArc, WrongIndex}
use Rattle.network.specs.Verdict.{Verdict}
use Rattle.network.specs.CaseSplit.{by_lt, neither_true}
use Rattle.network.specs.Given.{ArcsSized}
use Rattle.network.specs.Network.{Side, start, end, Network, most_weight, arc_count}
use Rattle.network.specs.Query.{Query}
use Rattle.network.specs.Refusal.{lowest, bad_node_count, bad_arc_lists, bad_potential_lists, bad_start_or_end, bad_pattern, bad_room, bad_arc, bad_potential, breaks_rule, given, given_at, first_refusal, list_rows, trip_rows, map_rows, sizes_verdict, list_verdict, trip_verdict, arcs_verdict, network_verdict, arcs_rows}
use Rattle.network.specs.RefusalLaws.{first_refusal_append, first_refusal_behind, first_refusal_one, first_refusal_accepted, rows_accepted, given_accepted, arcs_parts}
use Rattle.network.specs.SoundLaws.{arcs_sized, arcs_in}
use Rattle.listing.specs.Listing.{Listable, ListRoom, is_listed}
use Rattle.index.specs.Index.{Index, way_of, short_way, short_index, wrong_index}
use Rattle.index.specs.declared.Change.{Change}
use Rattle.index.specs.Table.{build_rows, build_verdict, changed, no_such_arc, bad_change, held_rows, held_verdict, change_rows, change_verdict, edit_rows, edit_verdict, indexed_rows, indexed_verdict}
use Rattle.index.specs.WayLaws.{nears_of, wrong_listed}

-- ---- the parts compose
module _ (g : Network) (ix : Index) where
  -- the arcs beside the lists of the index
  pub build_parts : build_verdict g ix ≡ arcs_verdict g (short_index g ix)
  unfolding build_verdict build_rows arcs_rows arcs_verdict
  build_parts = refl

  -- the arcs beside lists of these lengths
  pub arcs_decide : {short : Bool} {r : Verdict}
      → short
      ≡ ((ltb (length ix.out.arcs) (arc_count g) || leb (length ix.out.begins) g.nodes)
      || (ltb (length ix.into.arcs) (arc_count g) || leb (length ix.into.begins) g.nodes))
      → r ≡ arcs_verdict g short
      → r ≡ build_verdict g ix
  unfolding short_index short_way
  arcs_decide e judged = judged ∙ ap (arcs_verdict g) e ∙ sym build_parts

  pub held_parts : held_verdict g ix ≡ first_refusal (build_verdict g ix ∷ given (wrong_index g ix) WrongIndex ∷ [])
  unfolding held_verdict held_rows build_verdict
  held_parts = first_refusal_append (build_rows g ix) (given (wrong_index g ix) WrongIndex ∷ [])

  pub edit_parts : (c : Change) → edit_verdict g ix c ≡ first_refusal (held_verdict g ix ∷ change_verdict g c ∷ [])
  unfolding edit_verdict edit_rows held_verdict change_verdict
  edit_parts c =
      first_refusal_append (held_rows g ix) (change_rows g c)
      ∙ first_refusal_behind (first_refusal (held_rows g ix)) (change_rows g c) (first_refusal (change_rows g c) ∷ []) (sym (first_refusal_one (first_refusal (change_rows g c))))

-- a table's rows tested in four parts, of which the third and the fourth test rows of those before once more
in_four : (v1 v2 v3 v4 v5 v6 more v7 v20 v8 v9 : Verdict)
    → first_refusal (v1 ∷ v2 ∷ v3 ∷ v4 ∷ v5 ∷ v6 ∷ more ∷ v7 ∷ v20 ∷ v8 ∷ v9 ∷ [])
    ≡ first_refusal
    (first_refusal (v1 ∷ v2 ∷ v3 ∷ [])
    ∷ first_refusal (v4 ∷ v5 ∷ v6 ∷ [])
    ∷ first_refusal (v1 ∷ v2 ∷ more ∷ v7 ∷ v20 ∷ [])
    ∷ first_refusal (v1 ∷ v2 ∷ v3 ∷ v7 ∷ v8 ∷ v9 ∷ [])
    ∷ [])
unfolding first_refusal
in_four (Err c) v2 v3 v4 v5 v6 more v7 v20 v8 v9 = refl
in_four (Ok _) (Err c) v3 v4 v5 v6 more v7 v20 v8 v9 = refl
in_four (Ok _) (Ok _) (Err c) v4 v5 v6 more v7 v20 v8 v9 = refl
in_four (Ok _) (Ok _) (Ok _) (Err c) v5 v6 more v7 v20 v8 v9 = refl
in_four (Ok _) (Ok _) (Ok _) (Ok _) (Err c) v6 more v7 v20 v8 v9 = refl
in_four (Ok _) (Ok _) (Ok _) (Ok _) (Ok _) (Err c) more v7 v20 v8 v9 = refl
in_four (Ok _) (Ok _) (Ok _) (Ok _) (Ok _) (Ok _) (Err c) v7 v20 v8 v9 = refl
in_four (Ok _) (Ok _) (Ok _) (Ok _) (Ok _) (Ok _) (Ok _) (Err c) v20 v8 v9 = refl
in_four (Ok _) (Ok _) (Ok _) (Ok _) (Ok _) (Ok _) (Ok _) (Ok _) (Err c) v8 v9 = refl
in_four (Ok _) (Ok _) (Ok _) (Ok _) (Ok _) (Ok _) (Ok _) (Ok _) (Ok _) (Err c) v9 = refl
in_four (Ok _) (Ok _) (Ok _) (Ok _) (Ok _) (Ok _) (Ok _) (Ok _) (Ok _) (Ok _) (Err c) = refl
in_four (Ok _) (Ok _) (Ok _) (Ok _) (Ok _) (Ok _) (Ok _) (Ok _) (Ok _) (Ok _) (Ok _) = refl

-- a row of two conditions is two rows of its cause
either : (a b : Bool) (rows : List Verdict) → first_refusal (given (a || b) Room ∷ rows) ≡ first_refusal (given a Room ∷ given b Room ∷ rows)
unfolding first_refusal
either true b rows = refl
either false b rows = refl

-- a query over an index is judged by its lists, its trip, its arcs with the index, and its network
pub indexed_parts : (q : Query) (ix : Index) (l : Lent) → indexed_verdict q ix l
    ≡ first_refusal
    (list_verdict q.network q.forward q.backward
    ∷ trip_verdict q.network.nodes q.start q.end q.pattern l
    ∷ held_verdict q.network ix
    ∷ network_verdict q.network q.forward q.backward
    ∷ [])
unfolding indexed_verdict indexed_rows list_verdict list_rows trip_verdict trip_rows held_verdict held_rows build_rows arcs_rows network_verdict map_rows
indexed_parts q ix l =
    let g = q.network in
    let v1 = given (bad_node_count g) NodeCount in
    let v2 = given (bad_arc_lists g) ArcLists in
    let v3 = given (bad_potential_lists g q.forward q.backward) PotentialLists in
    let v4 = given (bad_start_or_end g.nodes q.start q.end) StartOrEnd in
    let v5 = given (bad_pattern q.pattern) Pattern in
    let v7 = given_at BadArc (lowest (bad_arc g) (arc_count g)) in
    let v20 = given (wrong_index g ix) WrongIndex in
    let v8 = given_at BadPotential (lowest (bad_potential q.forward q.backward) g.nodes) in
    let v9 = given_at Inconsistent (lowest (breaks_rule g q.forward q.backward) (arc_count g)) in
    first_refusal_behind v1 _ _
    (first_refusal_behind v2 _ _
    (first_refusal_behind v3 _ _
    (first_refusal_behind v4 _ _ (first_refusal_behind v5 _ _ (either (bad_room g.nodes l) (short_index g ix) (v7 ∷ v20 ∷ v8 ∷ v9 ∷ []))))))
    ∙ in_four v1 v2 v3 v4 v5 (given (bad_room g.nodes l) Room) (given (short_index g ix) Room) v7 v20 v8 v9

-- ---- what a build's table gives, where it accepts
module _ (g : Network) (ix : Index) (accepted : build_verdict g ix ≡ Ok tt) where
  rows : (i : ℕ) → get_or (sizes_verdict g ∷ given (short_index g ix) Room ∷ given_at BadArc (lowest (bad_arc g) (arc_count g)) ∷ []) i (Ok tt) ≡ Ok tt
  rows = rows_accepted _ (sym (build_parts g ix ∙ arcs_parts g (short_index g ix)) ∙ accepted)

  pub accepted_sized : ArcsSized g
  accepted_sized = arcs_sized g (rows 0)

  -- the arcs can be listed, each way
  pub listable : (s : Side) → Listable (nears_of s g) g.nodes
  listable start = record { few = accepted_sized.few_arcs; nodes_few = accepted_sized.few_nodes; near_in = λ a h. arcs_in g (rows 2) start a h }
  listable end = record {
    few = omega (arith, accepted_sized.few_arcs, accepted_sized.heads_long);
    nodes_few = accepted_sized.few_nodes;
    near_in = λ a h. arcs_in g (rows 2) end a (omega (arith, accepted_sized.heads_long));
  }

  -- the lists of each way are long enough
  pub room : (s : Side) → ListRoom (nears_of s g) g.nodes (way_of s ix).arcs (way_of s ix).begins
  unfolding short_index short_way
  room s =
      neither_true (short_way g ix.out) (short_way g ix.into) (given_accepted (short_index g ix) Room (rows 1))
      (λ out into.
      neither_true _ _ out
      (λ out_arcs out_begins.
      neither_true _ _ into
      (λ in_arcs in_begins.
      of s (ltb-false _ _ out_arcs) (leb-false _ _ out_begins) (ltb-false _ _ in_arcs) (leb-false _ _ in_begins))))
    where
      of : (s : Side) → arc_count g ≤ length ix.out.arcs → g.nodes < length ix.out.begins
          → arc_count g ≤ length ix.into.arcs → g.nodes < length ix.into.begins
          → ListRoom (nears_of s g) g.nodes (way_of s ix).arcs (way_of s ix).begins
      of start a b c d = record { arcs_long = a; begins_long = b }
      of end a b c d = record { arcs_long = omega (arith, accepted_sized.heads_long); begins_long = d }

  -- the index is tested way by way
  module _ (out into : Bool) (out_is : out ≡ is_listed g.tails g.nodes ix.out.arcs ix.out.begins) (into_is : into ≡ is_listed g.heads g.nodes ix.into.arcs ix.into.begins) where
    pub ways_decide : given (not (out && into)) WrongIndex ≡ held_verdict g ix
    ways_decide =
        ap (λ b. given b WrongIndex) (ap₂ (λ x y. not (x && y)) out_is into_is ∙ sym (wrong_listed g accepted_sized ix))
        ∙ sym (held_parts g ix ∙ first_refusal_accepted accepted (given (wrong_index g ix) WrongIndex ∷ []) ∙ first_refusal_one (given (wrong_index g ix) WrongIndex))

-- ---- what is there passes: the arcs and their index
module _ (g : Network) (ix : Index) (accepted : held_verdict g ix ≡ Ok tt) where
  held_rows_lem : (i : ℕ) → get_or (build_verdict g ix ∷ given (wrong_index g ix) WrongIndex ∷ []) i (Ok tt) ≡ Ok tt
  held_rows_lem = rows_accepted _ (sym (held_parts g ix) ∙ accepted)

  pub build_accepted : build_verdict g ix ≡ Ok tt
  build_accepted = held_rows_lem 0

  pub index_right : wrong_index g ix ≡ false
  index_right = given_accepted (wrong_index g ix) WrongIndex (held_rows_lem 1)

-- ---- a change, in lists of the same length, is judged by its own numbers
pub change_judged : (g : Network) → ArcsSized g → (c : Change)
    → change_verdict g c
    ≡ first_refusal
    (given (leb (arc_count g) c.number) (NoSuchArc c.number)
    ∷ given (leb g.nodes c.tail || leb g.nodes c.head || ltb most_weight c.weight) (BadArc c.number)
    ∷ [])
unfolding change_verdict change_rows no_such_arc bad_change bad_arc changed first_refusal
change_judged g sized c =
    by_lt c.number (arc_count g)
    (λ h.
    let a = c.number in
    rw (get_or-set_same g.tails a c.tail 0 h, get_or-set_same g.heads a c.head 0 (omega (arith, sized.heads_long)), get_or-set_same g.weights a c.weight 0 (omega (arith, sized.weights_long))) refl)
    (λ h. rw (le-leb (arc_count g) c.number h) refl)
