-- Arcs and index that pass the tests 1, 2, 6, 7 and 20 pass them for good: after a build that is accepted they do, and after an
-- edit they do as before it. So a caller who has built an index can edit it as often as he likes, and nothing need be tested again.
-- Assumes nothing.
use Rattle.std.specs.Prelude.{◌≡◌, false, ◌≢◌, [], ◌∷◌, ℕ, ◌<◌, Ok}
use Rattle.std.proofs.Math.Path.{refl, ap}
use Rattle.std.proofs.Common.{sym, ◌∙◌, arith}
use Rattle.std.proofs.Math.ListN.{length, length-set}
use Rattle.std.proofs.Math.Seq.{get_or-set_other}
use Rattle.network.specs.declared.Cause.TheVariants.{BadArc, WrongIndex}
use Rattle.network.specs.CaseSplit.{by_eq}
use Rattle.network.specs.LowestLaws.{nowhere_passes, passes_nowhere}
use Rattle.network.specs.Network.{Side, start, end, Network, arc_count}
use Rattle.network.specs.Refusal.{lowest, bad_node_count, bad_arc_lists, bad_arc, given, nowhere, arcs_rows}
use Rattle.network.specs.RefusalLaws.{rows_accepted, given_accepted, given_at_accepted, first_refusal_accepted, first_refusal_one}
use Rattle.network.specs.FrontLaws.{length_at_front, begins_front}
use Rattle.listing.specs.ListingLaws.{length_arcs, length_begins}
use Rattle.index.specs.Index.{Index, way_of, build_of, built_way, built_on, is_built, short_way, short_index, wrong_index}
use Rattle.index.specs.JudgedLaws.{held_parts, edit_parts, accepted_sized, listable, room, build_accepted}
use Rattle.index.specs.declared.Change.{Change}
use Rattle.index.specs.Table.{build_rows, build_verdict, changed, bad_change, change_rows, change_verdict, held_verdict, edit_verdict}
use Rattle.index.specs.WayLaws.{nears_of, built_arcs, built_begins}

-- what is built is what 20 asks for
pub built_right : (g : Network) (ix : Index) → wrong_index g (built_on g ix) ≡ false
unfolding wrong_index is_built built_on built_way
built_right g ix =
    rw (
      begins_front (build_of start g).arcs ix.out.arcs,
      begins_front (build_of start g).begins ix.out.begins,
      begins_front (build_of end g).arcs ix.into.arcs,
      begins_front (build_of end g).begins ix.into.begins,
    ) refl

-- ---- what is built, where it can be built, passes
module _ (g : Network) (ix : Index) (accepted : build_verdict g ix ≡ Ok tt) where
  -- each way built on its lists is as long as they are
  pub arcs_as_long : (s : Side) → length (built_way s g (way_of s ix)).arcs ≡ length (way_of s ix).arcs
  unfolding built_way
  arcs_as_long s =
      length_at_front (build_of s g).arcs (way_of s ix).arcs
      (omega (arith, ap length (built_arcs g (accepted_sized g ix accepted) s), length_arcs (listable g ix accepted s), (room g ix accepted s).arcs_long))

  pub begins_as_long : (s : Side) → length (built_way s g (way_of s ix)).begins ≡ length (way_of s ix).begins
  unfolding built_way
  begins_as_long s =
      length_at_front (build_of s g).begins (way_of s ix).begins
      (omega (arith, ap length (built_begins g (accepted_sized g ix accepted) s), length_begins (nears_of s g) g.nodes, (room g ix accepted s).begins_long))

  built_short : short_index g (built_on g ix) ≡ short_index g ix
  unfolding short_index short_way built_on
  built_short = rw (arcs_as_long start, begins_as_long start, arcs_as_long end, begins_as_long end) refl

  built_accepted : build_verdict g (built_on g ix) ≡ Ok tt
  unfolding build_verdict build_rows arcs_rows
  built_accepted = rw built_short accepted

  pub held_built : held_verdict g (built_on g ix) ≡ Ok tt
  held_built =
      held_parts g (built_on g ix)
      ∙ first_refusal_accepted built_accepted (given (wrong_index g (built_on g ix)) WrongIndex ∷ [])
      ∙ first_refusal_one (given (wrong_index g (built_on g ix)) WrongIndex)
      ∙ ap (λ b. given b WrongIndex) (built_right g ix)

-- an edit that is accepted has no bad values
change_fine : (g : Network) (ix : Index) (c : Change) → edit_verdict g ix c ≡ Ok tt → bad_change g c ≡ false
unfolding change_verdict change_rows
change_fine g ix c e =
    let own : change_verdict g c ≡ (Ok tt) = rows_accepted (held_verdict g ix ∷ change_verdict g c ∷ []) (sym (edit_parts g ix c) ∙ e) 1 in
    given_accepted (bad_change g c) (BadArc c.number) (rows_accepted (change_rows g c) own 1)

-- ---- the arcs with one changed can be built where they could be before
module _ (g : Network) (ix : Index) (c : Change) (accepted : build_verdict g ix ≡ Ok tt) (fine : bad_change g c ≡ false) where
  no_bad_arc : lowest (bad_arc g) (arc_count g) ≡ nowhere
  unfolding build_verdict build_rows arcs_rows
  no_bad_arc = given_at_accepted BadArc (lowest (bad_arc g) (arc_count g)) (rows_accepted (build_rows g ix) accepted 3)

  same_arc : (a : ℕ) → a ≢ c.number → bad_arc (changed g c) a ≡ bad_arc g a
  unfolding bad_arc changed
  same_arc a other =
      rw (
        get_or-set_other g.tails c.number a c.tail 0 other,
        get_or-set_other g.heads c.number a c.head 0 other,
        get_or-set_other g.weights c.number a c.weight 0 other,
      ) refl

  arc_fine : (a : ℕ) → a < arc_count g → bad_arc (changed g c) a ≡ false
  unfolding bad_change
  arc_fine a h =
      by_eq a c.number
      (λ same. ap (bad_arc (changed g c)) same ∙ fine)
      (λ other. same_arc a other ∙ nowhere_passes (bad_arc g) (arc_count g) no_bad_arc a h)

  changed_accepted : build_verdict (changed g c) ix ≡ Ok tt
  unfolding build_verdict build_rows arcs_rows changed short_index short_way bad_node_count bad_arc_lists
  changed_accepted =
      rw (
        length-set g.tails c.number c.tail,
        length-set g.heads c.number c.head,
        length-set g.weights c.number c.weight,
        passes_nowhere (bad_arc (changed g c)) (arc_count g) arc_fine,
      ) (rw no_bad_arc at accepted)

-- so after an edit that is accepted what is there passes as before it
pub held_changed : (g : Network) (ix : Index) (c : Change) → held_verdict g ix ≡ Ok tt → edit_verdict g ix c ≡ Ok tt → held_verdict (changed g c) (built_on (changed g c) ix) ≡ Ok tt
held_changed g ix c passed judged = held_built (changed g c) ix (changed_accepted g ix c (build_accepted g ix passed) (change_fine g ix c judged))
