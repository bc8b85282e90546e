-- A query over an index that is what its arcs build, in lists that are long enough, is judged as without an index; and one that is
-- accepted has such an index. Assumes nothing.
use Rattle.std.specs.Prelude.{◌≡◌, refl, Bool, true, false, ◌||◌, List, [], ◌∷◌, ◌++◌, Ok, Err}
use Rattle.std.proofs.Common.{sym, ◌∙◌}
use Rattle.std.proofs.lemmas.Bool.{not-false}
use Rattle.network.specs.declared.Lent.{Lent}
use Rattle.network.specs.declared.Cause.TheVariants.{BadArc, BadPotential, Inconsistent, Room, WrongIndex}
use Rattle.network.specs.Verdict.{Verdict}
use Rattle.network.specs.CaseSplit.{both_true, neither_true}
use Rattle.network.specs.Network.{Side, start, end, Network, arc_count}
use Rattle.network.specs.Query.{Query}
use Rattle.network.specs.Refusal.{given_at, lowest, bad_arc, bad_potential, breaks_rule, bad_room, first_refusal, list_rows, trip_rows, map_rows, query_verdict}
use Rattle.network.specs.RefusalLaws.{rows_accepted, given_accepted}
use Rattle.index.specs.Index.{Index, way_of, is_built, wrong_index, short_index}
use Rattle.index.specs.Table.{indexed_rows, indexed_verdict}

or_false : (b : Bool) → (b || false) ≡ b
or_false true = refl
or_false false = refl

-- a row that accepts makes no difference
passed_over : (rows more : List Verdict) → first_refusal (rows ++ (Ok tt ∷ more)) ≡ first_refusal (rows ++ more)
unfolding first_refusal
passed_over [] more = refl
passed_over (Ok _ ∷ rows) more = passed_over rows more
passed_over (Err c ∷ rows) more = refl

-- an index that is not wrong is, each way, what the arcs build
pub right_built : (g : Network) (ix : Index) → wrong_index g ix ≡ false → (s : Side) → is_built s g (way_of s ix) ≡ true
unfolding wrong_index
right_built g ix e start = both_true (is_built start g ix.out) (is_built end g ix.into) (not-false _ e) (λ p q. p)
right_built g ix e end = both_true (is_built start g ix.out) (is_built end g ix.into) (not-false _ e) (λ p q. q)

module _ (q : Query) (ix : Index) (l : Lent) where
  -- with lists that are long enough and the index that the arcs build, the index makes no difference
  pub indexed_same : short_index q.network ix ≡ false → wrong_index q.network ix ≡ false → indexed_verdict q ix l ≡ query_verdict q l
  unfolding indexed_verdict indexed_rows query_verdict list_rows trip_rows map_rows first_refusal
  indexed_same long right =
      rw (long, right, or_false (bad_room q.network.nodes l))
      (passed_over
      (list_rows q.network q.forward q.backward
      ++ (trip_rows q.network.nodes q.start q.end q.pattern l ++ (given_at BadArc (lowest (bad_arc q.network) (arc_count q.network)) ∷ [])))
      (given_at BadPotential (lowest (bad_potential q.forward q.backward) q.network.nodes)
      ∷ given_at Inconsistent (lowest (breaks_rule q.network q.forward q.backward) (arc_count q.network))
      ∷ []))

  -- an accepted query has an index that is what its arcs build, and lists that are long enough
  pub accepted_right : indexed_verdict q ix l ≡ Ok tt → wrong_index q.network ix ≡ false
  unfolding indexed_verdict indexed_rows
  accepted_right e = given_accepted (wrong_index q.network ix) WrongIndex (rows_accepted (indexed_rows q ix l) e 7)

  pub accepted_long : indexed_verdict q ix l ≡ Ok tt → short_index q.network ix ≡ false
  unfolding indexed_verdict indexed_rows
  accepted_long e =
      neither_true (bad_room q.network.nodes l) (short_index q.network ix)
      (given_accepted (bad_room q.network.nodes l || short_index q.network ix) Room (rows_accepted (indexed_rows q ix l) e 5)) (λ a b. b)

  -- so it is accepted without it
  pub accepted_plain : indexed_verdict q ix l ≡ Ok tt → query_verdict q l ≡ Ok tt
  accepted_plain e = sym (indexed_same (accepted_long e) (accepted_right e)) ∙ e
