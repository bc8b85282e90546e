-- A build and an edit keep to what is promised of them: where they refuse, since nothing is written, and where they do not, since
-- each way holds the listing of the arcs as they are then. Assumes nothing.
use Rattle.std.specs.Prelude.{◌≡◌, ◌||◌, [], ◌∷◌, ◌↔◌, ℕ, ◌<◌, ltb, leb, length, get_or, set, Ok, Err}
use Rattle.std.proofs.Math.Path.{refl, sym, ap, ap₂}
use Rattle.std.proofs.Common.{◌∙◌, arith, leb-false}
use Rattle.std.proofs.Math.ListN.{length-set}
use Rattle.std.proofs.Math.Seq.{get_or-set_same}
use Rattle.network.specs.declared.Cause.{Cause}
use Rattle.network.specs.declared.Cause.TheVariants.{BadArc, NoSuchArc}
use Rattle.network.specs.Verdict.{Verdict}
use Rattle.network.specs.CaseSplit.{neither_true}
use Rattle.network.specs.Given.{ArcsSized, Given, Refuses}
use Rattle.network.specs.GivenLaws.{accepted_refuses}
use Rattle.network.specs.Network.{Side, start, end, Network, most_weight, arc_count, near}
use Rattle.network.specs.Refusal.{given, first_refusal}
use Rattle.network.specs.RefusalLaws.{refused≢accepted, first_refusal_accepted, first_refusal_one, row_decides, rows_accepted, given_accepted}
use Rattle.listing.specs.Listing.{near_of, Listable, Listed}
use Rattle.listing.specs.ListingLaws.{is_listed_lem}
use Rattle.relist.specs.Relist.{arc_place, OnlyBetween}
use Rattle.relist.specs.RelistLaws.{same_node, only_between}
use Rattle.index.specs.Index.{Index, way_of, built_way, built_on, place_in}
use Rattle.index.specs.IndexedLaws.{right_built}
use Rattle.index.specs.HeldLaws.{held_built, held_changed}
use Rattle.index.specs.JudgedLaws.{edit_parts, accepted_sized, listable, build_accepted, index_right, change_judged}
use Rattle.index.specs.Kept.{builds, edits, RefusedAsGiven, BuildKept, EditKept}
use Rattle.index.specs.declared.Change.{Change}
use Rattle.index.specs.Table.{build_verdict, changed, held_verdict, change_verdict, edit_verdict, change_asked}
use Rattle.index.specs.TableLaws.{build_given, edit_given}
use Rattle.index.specs.WayLaws.{nears_of, place_is, built_listed, listed_built}

as_given : {Condition : ℕ → ℕ → ℕ → Type 0} {r v : Verdict} → r ≡ v → ((n p : ℕ) → Refuses v n p ↔ Given Condition n p) → RefusedAsGiven Condition r
as_given {r = r} e exactly = record {
  refused_as_given = λ n p h. (exactly n p).0 (rw (sym e) h);
  given_is_refused = λ n p h. rw e ((exactly n p).1 h);
}

-- what is said of a verdict that accepts holds of a refusal
not_accepted : {A : Type 0} {r : Verdict} {d : Cause} → r ≡ Err d → r ≡ Ok tt → A
not_accepted e z = absurd (refused≢accepted (sym e ∙ z))

-- ---- a build
module _ (g : Network) (ix : Index) where
  pub build_refused : {r : Verdict} {d : Cause} → r ≡ build_verdict g ix → r ≡ Err d → BuildKept g ix ix r
  unfolding builds
  build_refused judged e = record {
    leaves = rw (sym judged, e) refl;
    refusals = as_given judged (build_given g ix);
    untouched = λ n p h. refl;
    held = not_accepted e;
  }

  -- each way holds the listing of its near nodes
  module _ (accepted : build_verdict g ix ≡ Ok tt) (after : Index)
      (out : Listed g.tails g.nodes ix.out.arcs ix.out.begins after.out.arcs after.out.begins)
      (into : Listed g.heads g.nodes ix.into.arcs ix.into.begins after.into.arcs after.into.begins) where
    built_index : after ≡ built_on g ix
    unfolding built_on
    built_index =
        let arcs_fit = accepted_sized g ix accepted in
        ap₂ (λ x y. record { out = x; into = y }) (listed_built g arcs_fit start ix.out after.out out) (listed_built g arcs_fit end ix.into after.into into)

    pub build_kept : BuildKept g ix after (Ok tt)
    unfolding builds
    build_kept = record {
      leaves = rw (accepted, built_index) refl;
      refusals = as_given (sym accepted) (build_given g ix);
      untouched = λ n p h. absurd (accepted_refuses h refl);
      held = λ z. rw built_index (held_built g ix accepted);
    }

-- ---- an edit
-- the new near node of the arc, for a side
abbrev pub new_near : Side → Change → ℕ
new_near start c = c.tail
new_near end c = c.head

module _ (g : Network) (ix : Index) (c : Change) where
  -- an edit whose arcs and index are refused already is refused so
  pub held_decides : {r : Verdict} {d : Cause} → r ≡ held_verdict g ix → r ≡ Err d → r ≡ edit_verdict g ix c
  held_decides e told = row_decides e told (change_verdict g c ∷ []) ∙ sym (edit_parts g ix c)

  pub edit_refused : {r : Verdict} {d : Cause} → r ≡ edit_verdict g ix c → r ≡ Err d → EditKept c g ix g ix r
  unfolding edits
  edit_refused judged e = record {
    leaves = rw (sym judged, e) refl;
    refusals = as_given judged (edit_given g ix c);
    untouched = λ n p h. refl;
    held = λ passed. passed;
    stays = not_accepted e;
    before_both = not_accepted e;
    behind_both = not_accepted e;
    begins_up_to = not_accepted e;
    begins_behind = not_accepted e;
  }

  -- what is there passes
  module _ (held : held_verdict g ix ≡ Ok tt) where
    arcs_fit : ArcsSized g
    arcs_fit = accepted_sized g ix (build_accepted g ix held)

    -- each way can be listed, and holds the listing
    pub held_listable : (s : Side) → Listable (nears_of s g) g.nodes
    held_listable = listable g ix (build_accepted g ix held)

    pub held_listed : (s : Side) → Listed (nears_of s g) g.nodes (way_of s ix).arcs (way_of s ix).begins (way_of s ix).arcs (way_of s ix).begins
    held_listed s =
        is_listed_lem (nears_of s g) g.nodes (way_of s ix).arcs (way_of s ix).begins
        (sym (built_listed g arcs_fit s (way_of s ix)) ∙ right_built g ix (index_right g ix held) s)

    -- so the change's own numbers decide
    edit_judged : edit_verdict g ix c
        ≡ first_refusal
        (given (leb (arc_count g) c.number) (NoSuchArc c.number)
        ∷ given (leb g.nodes c.tail || leb g.nodes c.head || ltb most_weight c.weight) (BadArc c.number)
        ∷ [])
    edit_judged =
        edit_parts g ix c ∙ first_refusal_accepted held (change_verdict g c ∷ []) ∙ first_refusal_one (change_verdict g c) ∙ change_judged g arcs_fit c

    pub change_decides : {r : Verdict}
        → r ≡ change_asked g.nodes (arc_count g) c
        → r ≡ edit_verdict g ix c
    unfolding change_asked
    change_decides e = e ∙ sym edit_judged

    module _ (edit_accepted : edit_verdict g ix c ≡ Ok tt) where
      rows : (i : ℕ) → get_or (given (leb (arc_count g) c.number) (NoSuchArc c.number) ∷ given (leb g.nodes c.tail || leb g.nodes c.head || ltb most_weight c.weight) (BadArc c.number) ∷ []) i (Ok tt) ≡ Ok tt
      rows = rows_accepted _ (sym (edit_judged) ∙ edit_accepted)

      -- there is such an arc, and its new ends are nodes
      number_in : c.number < arc_count g
      number_in = leb-false (arc_count g) c.number (given_accepted _ (NoSuchArc c.number) (rows 0))

      pub number_near : (s : Side) → c.number < length (nears_of s g)
      number_near start = number_in
      number_near end = omega (arith, number_in, arcs_fit.heads_long)

      pub number_of_weight : c.number < length g.weights
      number_of_weight = omega (arith, number_in, arcs_fit.weights_long)

      pub new_in : (s : Side) → new_near s c < g.nodes
      new_in s =
          neither_true _ _ (given_accepted _ (BadArc c.number) (rows 1))
          (λ ends heavy. neither_true _ _ ends (λ tail head. of s (leb-false g.nodes c.tail tail) (leb-false g.nodes c.head head)))
        where
          of : (s : Side) → c.tail < g.nodes → c.head < g.nodes → new_near s c < g.nodes
          of start t h = t
          of end t h = h

      -- the arcs with that one changed
      still_fit : ArcsSized (changed g c)
      unfolding changed
      still_fit = record {
        some_nodes = arcs_fit.some_nodes;
        few_nodes = arcs_fit.few_nodes;
        heads_long = length-set g.heads c.number c.head ∙ arcs_fit.heads_long ∙ sym (length-set g.tails c.number c.tail);
        weights_long = length-set g.weights c.number c.weight ∙ arcs_fit.weights_long ∙ sym (length-set g.tails c.number c.tail);
        few_arcs = omega (arith, length-set g.tails c.number c.tail, arcs_fit.few_arcs);
      }

      nears_new : (s : Side) → nears_of s (changed g c) ≡ set (nears_of s g) c.number (new_near s c)
      unfolding changed
      nears_new start = refl
      nears_new end = refl

      near_new : (s : Side) → near s (changed g c) c.number ≡ new_near s c
      unfolding changed
      near_new start = get_or-set_same g.tails c.number c.tail 0 (number_near start)
      near_new end = get_or-set_same g.heads c.number c.head 0 (number_near end)

      near_old : (s : Side) → near s g c.number ≡ near_of (nears_of s g) c.number
      near_old start = refl
      near_old end = refl

      place_old : (s : Side) → place_in s g c.number ≡ arc_place (nears_of s g) c.number
      place_old s = place_is g arcs_fit s c.number (omega (arith, number_in))

      place_new : (s : Side) → place_in s (changed g c) c.number ≡ arc_place (set (nears_of s g) c.number (new_near s c)) c.number
      unfolding changed
      place_new s =
          place_is (changed g c) still_fit s c.number (omega (arith, number_in, length-set g.tails c.number c.tail))
          ∙ ap (λ l. arc_place l c.number) (nears_new s)

      -- each way holds the listing of its near nodes, with that one changed
      module _ (ix' : Index)
          (out : Listed (set g.tails c.number c.tail) g.nodes ix.out.arcs ix.out.begins ix'.out.arcs ix'.out.begins)
          (into : Listed (set g.heads c.number c.head) g.nodes ix.into.arcs ix.into.begins ix'.into.arcs ix'.into.begins) where
        new : (s : Side) → Listed (set (nears_of s g) c.number (new_near s c)) g.nodes (way_of s ix).arcs (way_of s ix).begins (way_of s ix').arcs (way_of s ix').begins
        new start = out
        new end = into

        new_way : (s : Side) → way_of s ix' ≡ built_way s (changed g c) (way_of s ix)
        unfolding changed
        new_way s = listed_built (changed g c) still_fit s (way_of s ix) (way_of s ix') (rw (nears_new s) (new s))

        new_index : ix' ≡ built_on (changed g c) ix
        unfolding built_on
        new_index = ap₂ (λ x y. record { out = x; into = y }) (new_way start) (new_way end)

        between : (s : Side) → OnlyBetween (nears_of s g) c.number (new_near s c) (way_of s ix).arcs (way_of s ix).begins (way_of s ix').arcs (way_of s ix').begins
        between s = only_between (held_listable s) c.number (new_near s c) (number_near s) (new_in s) (held_listed s) (new s)

        pub edit_kept : {r : Verdict} → r ≡ Ok tt → EditKept c g ix (changed g c) ix' r
        unfolding edits
        edit_kept e = record {
          leaves = rw (e, edit_accepted, new_index) refl;
          refusals = as_given (e ∙ sym edit_accepted) (edit_given g ix c);
          untouched = λ n p h. absurd (accepted_refuses h e);
          held = λ passed. rw new_index (held_changed g ix c passed edit_accepted);
          stays = λ z s same.
              let both = same_node c.number (sym (near_old s) ∙ sym same ∙ near_new s) (held_listed s) (new s) in
              ap₂ (λ x y. record { arcs = x; begins = y }) both.0 both.1;
          before_both = λ z s i p q. (between s).arcs_before_lem i (omega (arith, place_old s)) (omega (arith, place_new s));
          behind_both = λ z s i p q. (between s).arcs_beyond i (omega (arith, place_old s)) (omega (arith, place_new s));
          begins_up_to = λ z s u p q. (between s).begins_before u (omega (arith, near_old s)) (omega (arith, near_new s));
          begins_behind = λ z s u p q. (between s).begins_beyond u (omega (arith, near_old s)) (omega (arith, near_new s));
        }
