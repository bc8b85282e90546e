-- The FF of a query in a file is 4, 5, 7, 8 or 9 (docs/RULES.md, "The program"), so its number tells it from the FF of a file
-- refusal, which is 1, 2, 10 or 11. The argument: what lines that are taken tell has the counts that the 01 stated and lists that
-- are as long as they should be, and a query is lent room for the most nodes. Assumes nothing.
use Rattle.std.proofs.lemmas.Bool.{eq-eqb, ne_eqb, le-ltb, eqb-true, eqb-false, leb-true, ltb-true, ltb-false, not-true}
use Rattle.std.specs.Prelude.{◌≡◌, refl, ◌≢◌, Bool, true, false, not, ◌&&◌, List, [], ◌∷◌, ◌++◌, map, ℕ, zero, suc, ◌+◌, ◌≤◌, ◌<◌, ltb, leb, Ok, Err, Option, None, Some}
use Rattle.std.proofs.Common.{sym, ap, subst, ◌∙◌, arith}
use Rattle.std.proofs.Math.Dec.{eqb}
use Rattle.std.proofs.Math.ListN.{length, length-append}
use Rattle.std.proofs.lemmas.List.{length-map}
use Rattle.network.specs.Cap.{Cap}
use Rattle.network.specs.declared.Cause.{Cause}
use Rattle.network.specs.declared.Cause.TheVariants.{NodeCount, ArcLists, PotentialLists, StartOrEnd, Pattern, Room, BadArc, BadPotential, Inconsistent}
use Rattle.network.specs.Answer.{number_of}
use Rattle.network.specs.CaseSplit.{by_bool, both_true, true≢false}
use Rattle.network.specs.Network.{Network, arc_count, most_nodes, most_arcs}
use Rattle.network.specs.Refusal.{first_refusal, bad_node_count, bad_arc_lists, bad_potential_lists, bad_start_or_end, bad_pattern, bad_room, bad_arc, bad_potential, breaks_rule, list_rows, trip_rows, map_rows, query_verdict}
use Rattle.network.specs.RefusalLaws.{refused≢accepted}
use Rattle.network.specs.GivenLaws.{Rows, none, row, said_if, said_at, refused_says}
use Rattle.frames.specs.declared.Frame.{Frame}
use Rattle.frames.specs.declared.Frame.TheVariants.{Size, Arc, TwoWay, Potentials, Query as QueryFrame}
use Rattle.district.specs.File.{Told, GivenArc, added_arcs, with_arcs, size_owed, arcs_owed, potentials_owed, work_room, query_on}
use Rattle.district.specs.Reader.{network_told}
use Rattle.district.specs.Lines.{owed_arcs, size_read, arcs_read_by, potentials_read, may_stand, size_verdict, told_with}
use Rattle.district.specs.FileGiven.{line_count, frame_after, told_by_lines, told_after, TakenAfter, QueryNumber}
use Rattle.district.specs.FileGivenLaws.{told_next}

-- ---- what is told fits together
record Fits (t : Told) : Type 0 where
  pub few_nodes : t.nodes ≤ most_nodes
  pub few_arcs : t.arcs ≤ most_arcs
  -- nothing is stated before the 01
  pub size_first : t.nodes ≡ 0 → t.arcs ≡ 0
  pub heads_long : length t.heads ≡ length t.tails
  pub weights_long : length t.weights ≡ length t.tails
  pub arcs_within : length t.tails ≤ t.arcs
  pub backward_long : length t.backward ≡ length t.forward
  pub nodes_within : length t.forward ≤ t.nodes

-- the counts of a 01 that is taken
good_counts : (a b : ℕ) → size_verdict (Some (Size a b)) ≡ Ok tt → (0 < a) × (a ≤ most_nodes) × (b ≤ most_arcs)
unfolding first_refusal
good_counts a b s =
    by_bool (eqb a 0) (λ p. absurd (refused≢accepted {c = NodeCount} (rw p at s)))
    (λ p. by_bool (ltb most_nodes a) (λ q. absurd (refused≢accepted {c = NodeCount} (rw (p, q) at s)))
    (λ q. by_bool (ltb most_arcs b) (λ r. absurd (refused≢accepted {c = ArcLists} (rw (p, q, r) at s)))
    (λ r. let some : a ≢ 0 = eqb-false a 0 p in (omega arith, ltb-false most_nodes a q, ltb-false most_arcs b r))))

module _ (single : Bool) (t : Told) (f : Fits t) where
  -- arcs, no more than are owed
  fits_arcs : (added : List GivenArc) → length added ≤ owed_arcs t → Fits (with_arcs t added)
  fits_arcs added few =
      let longer : (l : List ℕ) (field : GivenArc → ℕ) → length (l ++ map field added) ≡ length l + length added = λ l field. length-append l (map field added) ∙ ap (λ (n : ℕ). length l + n) (length-map added field) in
      record {
        few_nodes = f.few_nodes;
        few_arcs = f.few_arcs;
        size_first = f.size_first;
        heads_long = omega (arith, longer t.heads (λ (a : GivenArc). a.head), longer t.tails (λ (a : GivenArc). a.tail), f.heads_long);
        weights_long = omega (arith, longer t.weights (λ (a : GivenArc). a.weight), longer t.tails (λ (a : GivenArc). a.tail), f.weights_long);
        arcs_within = omega (arith, few, f.arcs_within, longer t.tails (λ (a : GivenArc). a.tail));
        backward_long = f.backward_long;
        nodes_within = f.nodes_within;
      }

  fits_next : (g : Option Frame) → may_stand single t g ≡ true → size_verdict g ≡ Ok tt → Fits (told_with t g)
  unfolding may_stand told_with
  fits_next (Some (Size a b)) m s =
      let c : (0 < a) × (a ≤ most_nodes) × (b ≤ most_arcs) = good_counts a b s in
      let none : t.nodes ≡ 0 = eqb-true t.nodes 0 m in
      let no_arcs : t.arcs ≡ 0 = f.size_first none in
      record {
        few_nodes = c.1;
        few_arcs = c.2;
        size_first = λ z. absurd (omega (arith, c.0));
        heads_long = f.heads_long;
        weights_long = f.weights_long;
        arcs_within = omega arith;
        backward_long = f.backward_long;
        nodes_within = omega arith;
      }
  fits_next (Some (Arc a b w)) m s = both_true (size_read t) (leb 1 (owed_arcs t)) m (λ r o. fits_arcs (added_arcs (Some (Arc a b w))) (leb-true 1 (owed_arcs t) o))
  fits_next (Some (TwoWay a b w)) m s = both_true (size_read t) (leb 2 (owed_arcs t)) m (λ r o. fits_arcs (added_arcs (Some (TwoWay a b w))) (leb-true 2 (owed_arcs t) o))
  fits_next (Some (Potentials v h k)) m s =
      both_true (arcs_read_by t) (potentials_owed t && eqb v (length t.forward)) m
      (λ r p. both_true (potentials_owed t) (eqb v (length t.forward)) p
      (λ o q. let owed : length t.forward < t.nodes = ltb-true (length t.forward) t.nodes o in
      record {
        few_nodes = f.few_nodes;
        few_arcs = f.few_arcs;
        size_first = f.size_first;
        heads_long = f.heads_long;
        weights_long = f.weights_long;
        arcs_within = f.arcs_within;
        backward_long = omega (arith, length-append t.backward (k ∷ []), length-append t.forward (h ∷ []), f.backward_long);
        nodes_within = omega (arith, length-append t.forward (h ∷ []));
      }))
  fits_next (Some (QueryFrame a b c n)) m s =
      record {
        few_nodes = f.few_nodes;
        few_arcs = f.few_arcs;
        size_first = f.size_first;
        heads_long = f.heads_long;
        weights_long = f.weights_long;
        arcs_within = f.arcs_within;
        backward_long = f.backward_long;
        nodes_within = f.nodes_within;
      }
  fits_next None m s = absurd (true≢false m refl)

-- after lines that are taken
fits_after : (single : Bool) (first : ℕ) (bytes : List ℕ) (i : ℕ) → i ≤ line_count bytes → ((j : ℕ) → j < i → TakenAfter single first bytes j) → Fits (told_after bytes i)
unfolding told_by_lines
fits_after single first bytes zero h taken =
    record {
      few_nodes = omega arith;
      few_arcs = omega arith;
      size_first = λ z. refl;
      heads_long = refl;
      weights_long = refl;
      arcs_within = omega arith;
      backward_long = refl;
      nodes_within = omega arith;
    }
fits_after single first bytes (suc i) h taken =
    let t : TakenAfter single first bytes i = taken i (omega arith) in
    subst (λ (x : Told). Fits x) (sym (told_next single first bytes i h))
    (fits_next single (told_after bytes i) (fits_after single first bytes i (omega arith) (λ j l. taken j (omega arith))) (frame_after bytes i) t.may_stand_lem t.good_counts)

-- ---- a query on it
-- what a row of its table is then: its number is one of a query's refusals in a file
record Numbered (i number place : ℕ) : Type 0 where
  pub its : QueryNumber number

numbered : {i number place : ℕ} → 4 ≤ number → number ≤ 9 → number ≢ 6 → Numbered i number place
numbered least most not_room = record { its = record { least = least; most = most; not_room = not_room } }

module _ (t : Told) (f : Fits t) (all : potentials_read t ≡ true) (s e : ℕ) (p : List ℕ) where
  some_nodes : t.nodes ≢ 0
  some_nodes =
      both_true (arcs_read_by t) (not (potentials_owed t)) all
      (λ a _. both_true (size_read t) (not (arcs_owed t)) a (λ r _. eqb-false t.nodes 0 (not-true (size_owed t) r)))

  all_nodes : length t.forward ≡ t.nodes
  all_nodes =
      both_true (arcs_read_by t) (not (potentials_owed t)) all
      (λ _ r. omega (arith, f.nodes_within, ltb-false (length t.forward) t.nodes (not-true (potentials_owed t) r)))

  abbrev g : Network
  g = network_told t

  -- 1, 2, 3 and 6 are not given
  good_nodes : bad_node_count g ≡ false
  unfolding bad_node_count
  good_nodes = rw (ne_eqb t.nodes 0 some_nodes, le-ltb most_nodes t.nodes f.few_nodes)

  good_arc_lists : bad_arc_lists g ≡ false
  unfolding bad_arc_lists
  good_arc_lists =
      rw (eq-eqb _ _ f.heads_long, eq-eqb _ _ f.weights_long, le-ltb most_arcs (length t.tails) (omega (arith, f.arcs_within, f.few_arcs)))

  good_potential_lists : bad_potential_lists g t.forward t.backward ≡ false
  unfolding bad_potential_lists
  good_potential_lists = rw (eq-eqb _ _ all_nodes, eq-eqb _ _ (f.backward_long ∙ all_nodes))

  good_room : bad_room t.nodes work_room ≡ false
  unfolding bad_room
  good_room = rw (le-ltb most_nodes t.nodes f.few_nodes)

  -- so each row of the table has another number, or does not refuse
  rows_numbered : Rows Numbered 0 (list_rows g t.forward t.backward ++ (trip_rows t.nodes s e p work_room ++ map_rows g t.forward t.backward))
  unfolding list_rows trip_rows map_rows
  rows_numbered =
      row (said_if Numbered (bad_node_count g) NodeCount (λ h. absurd (true≢false h good_nodes)))
      (row (said_if Numbered (bad_arc_lists g) ArcLists (λ h. absurd (true≢false h good_arc_lists)))
      (row (said_if Numbered (bad_potential_lists g t.forward t.backward) PotentialLists (λ h. absurd (true≢false h good_potential_lists)))
      (row (said_if Numbered (bad_start_or_end t.nodes s e) StartOrEnd (λ h. numbered (omega arith) (omega arith) (λ z. omega arith)))
      (row (said_if Numbered (bad_pattern p) Pattern (λ h. numbered (omega arith) (omega arith) (λ z. omega arith)))
      (row (said_if Numbered (bad_room t.nodes work_room) Room (λ h. absurd (true≢false h good_room)))
      (row (said_at Numbered BadArc (bad_arc g) (arc_count g) (λ a h. numbered (omega arith) (omega arith) (λ z. omega arith)))
      (row (said_at Numbered BadPotential (bad_potential t.forward t.backward) t.nodes (λ v h. numbered (omega arith) (omega arith) (λ z. omega arith)))
      (row (said_at Numbered Inconsistent (breaks_rule g t.forward t.backward) (arc_count g) (λ a h. numbered (omega arith) (omega arith) (λ z. omega arith))) none))))))))

  query_numbered : (c : Cause) → query_verdict (query_on t s e p) work_room ≡ Err c → QueryNumber (number_of c)
  unfolding query_verdict
  query_numbered c v = (refused_says Numbered rows_numbered c v).holds.its

-- a query that is taken, and refused: its number is 4, 5, 7, 8 or 9
pub query_refused_with : (single : Bool) (first : ℕ) (bytes : List ℕ) (i : ℕ) → i < line_count bytes → ((j : ℕ) → j ≤ i → TakenAfter single first bytes j)
    → {s e n : ℕ} {cap : Cap} → frame_after bytes i ≡ Some (QueryFrame s e cap n) → (p : List ℕ) (c : Cause)
    → query_verdict (query_on (told_after bytes i) s e p) work_room ≡ Err c → QueryNumber (number_of c)
unfolding may_stand
query_refused_with single first bytes i h taken {s} {e} {n} {cap} frame p c v =
    let stands : may_stand single (told_after bytes i) (Some (QueryFrame s e cap n)) ≡ true = subst (λ (g : Option Frame). may_stand single (told_after bytes i) g ≡ true) frame (taken i (omega arith)).may_stand_lem in
    both_true (potentials_read (told_after bytes i)) (not (single && (told_after bytes i).asked)) stands
    (λ all _. query_numbered (told_after bytes i) (fits_after single first bytes i (omega arith) (λ j l. taken j (omega arith))) all s e p c v)
