-- "Given exactly when" of the tables of an index. Assumes nothing.
use Rattle.std.specs.Prelude.{◌≡◌, ◌↔◌, ℕ, get_or, Ok}
use Rattle.network.specs.declared.Lent.{Lent}
use Rattle.network.specs.declared.Cause.TheVariants.{NodeCount, ArcLists, PotentialLists, StartOrEnd, Pattern, Room, BadArc, BadPotential, Inconsistent, NoSuchArc, WrongIndex}
use Rattle.network.specs.Given.{Given, Refuses}
use Rattle.network.specs.GivenLaws.{Rows, none, row, said_if, said_at, refuses_if, refuses_at, given_exactly_when, accepted_exactly_when}
use Rattle.network.specs.Network.{Network}
use Rattle.network.specs.Query.{Query}
use Rattle.network.specs.Refusal.{arcs_rows}
use Rattle.index.specs.Index.{Index}
use Rattle.index.specs.declared.Change.{Change}
use Rattle.index.specs.Table.{build_rows, build_verdict, BuildCondition, held_rows, change_rows, edit_rows, edit_verdict, EditCondition, on_what_is_there, indexed_rows, indexed_verdict, QueryCondition}

-- ---- a build
module _ (g : Network) (ix : Index) where
  build_rows_lem : Rows (BuildCondition g ix) 0 (build_rows g ix)
  unfolding build_rows arcs_rows
  build_rows_lem =
      row (said_if (BuildCondition g ix) _ NodeCount BuildCondition.of_node_count)
      (row (said_if (BuildCondition g ix) _ ArcLists BuildCondition.of_arc_lists)
      (row (said_if (BuildCondition g ix) _ Room BuildCondition.of_room)
      (row (said_at (BuildCondition g ix) BadArc _ _ (λ a h. BuildCondition.of_arc h)) none)))

  build_refuses : (r n p : ℕ) → BuildCondition g ix r n p → Refuses (get_or (build_rows g ix) r (Ok tt)) n p
  unfolding build_rows arcs_rows
  build_refuses r n p (BuildCondition.of_node_count h) = refuses_if NodeCount h
  build_refuses r n p (BuildCondition.of_arc_lists h) = refuses_if ArcLists h
  build_refuses r n p (BuildCondition.of_room h) = refuses_if Room h
  build_refuses r n p (BuildCondition.of_arc {a} h) = refuses_at BadArc _ _ a h

  -- a build is refused with a number and a place exactly when its table gives that number there
  pub build_given : (n p : ℕ) → Refuses (build_verdict g ix) n p ↔ Given (BuildCondition g ix) n p
  unfolding build_verdict
  build_given = given_exactly_when (BuildCondition g ix) (build_rows g ix) build_rows_lem build_refuses

-- ---- an edit
module _ (g : Network) (ix : Index) (c : Change) where
  edit_rows_lem : Rows (EditCondition g ix c) 0 (edit_rows g ix c)
  unfolding build_rows arcs_rows held_rows change_rows edit_rows
  edit_rows_lem =
      row (said_if (EditCondition g ix c) _ NodeCount (λ h. on_what_is_there (BuildCondition.of_node_count h)))
      (row (said_if (EditCondition g ix c) _ ArcLists (λ h. on_what_is_there (BuildCondition.of_arc_lists h)))
      (row (said_if (EditCondition g ix c) _ Room (λ h. on_what_is_there (BuildCondition.of_room h)))
      (row (said_at (EditCondition g ix c) BadArc _ _ (λ a h. on_what_is_there (BuildCondition.of_arc h)))
      (row (said_if (EditCondition g ix c) _ WrongIndex EditCondition.of_index)
      (row (said_if (EditCondition g ix c) _ (NoSuchArc c.number) EditCondition.of_number)
      (row (said_if (EditCondition g ix c) _ (BadArc c.number) EditCondition.of_change) none))))))

  edit_refuses : (r n p : ℕ) → EditCondition g ix c r n p → Refuses (get_or (edit_rows g ix c) r (Ok tt)) n p
  unfolding build_rows arcs_rows held_rows change_rows edit_rows
  edit_refuses r n p (on_what_is_there (BuildCondition.of_node_count h)) = refuses_if NodeCount h
  edit_refuses r n p (on_what_is_there (BuildCondition.of_arc_lists h)) = refuses_if ArcLists h
  edit_refuses r n p (on_what_is_there (BuildCondition.of_room h)) = refuses_if Room h
  edit_refuses r n p (on_what_is_there (BuildCondition.of_arc {a} h)) = refuses_at BadArc _ _ a h
  edit_refuses r n p (EditCondition.of_index h) = refuses_if WrongIndex h
  edit_refuses r n p (EditCondition.of_number h) = refuses_if (NoSuchArc c.number) h
  edit_refuses r n p (EditCondition.of_change h) = refuses_if (BadArc c.number) h

  -- the same of an edit
  pub edit_given : (n p : ℕ) → Refuses (edit_verdict g ix c) n p ↔ Given (EditCondition g ix c) n p
  unfolding edit_verdict
  edit_given = given_exactly_when (EditCondition g ix c) (edit_rows g ix c) edit_rows_lem edit_refuses

-- ---- a query over an index
module _ (q : Query) (ix : Index) (l : Lent) where
  query_rows : Rows (QueryCondition q ix l) 0 (indexed_rows q ix l)
  unfolding indexed_rows
  query_rows =
      row (said_if (QueryCondition q ix l) _ NodeCount QueryCondition.of_node_count)
      (row (said_if (QueryCondition q ix l) _ ArcLists QueryCondition.of_arc_lists)
      (row (said_if (QueryCondition q ix l) _ PotentialLists QueryCondition.of_potential_lists)
      (row (said_if (QueryCondition q ix l) _ StartOrEnd QueryCondition.of_start_or_end)
      (row (said_if (QueryCondition q ix l) _ Pattern QueryCondition.of_pattern)
      (row (said_if (QueryCondition q ix l) _ Room QueryCondition.of_room)
      (row (said_at (QueryCondition q ix l) BadArc _ _ (λ a h. QueryCondition.of_arc h))
      (row (said_if (QueryCondition q ix l) _ WrongIndex QueryCondition.of_index)
      (row (said_at (QueryCondition q ix l) BadPotential _ _ (λ v h. QueryCondition.of_potential h))
      (row (said_at (QueryCondition q ix l) Inconsistent _ _ (λ a h. QueryCondition.of_rule h)) none)))))))))

  query_refuses : (r n p : ℕ) → QueryCondition q ix l r n p → Refuses (get_or (indexed_rows q ix l) r (Ok tt)) n p
  unfolding indexed_rows
  query_refuses r n p (QueryCondition.of_node_count h) = refuses_if NodeCount h
  query_refuses r n p (QueryCondition.of_arc_lists h) = refuses_if ArcLists h
  query_refuses r n p (QueryCondition.of_potential_lists h) = refuses_if PotentialLists h
  query_refuses r n p (QueryCondition.of_start_or_end h) = refuses_if StartOrEnd h
  query_refuses r n p (QueryCondition.of_pattern h) = refuses_if Pattern h
  query_refuses r n p (QueryCondition.of_room h) = refuses_if Room h
  query_refuses r n p (QueryCondition.of_arc {a} h) = refuses_at BadArc _ _ a h
  query_refuses r n p (QueryCondition.of_index h) = refuses_if WrongIndex h
  query_refuses r n p (QueryCondition.of_potential {v} h) = refuses_at BadPotential _ _ v h
  query_refuses r n p (QueryCondition.of_rule {a} h) = refuses_at Inconsistent _ _ a h

  -- a query is refused with a number and a place exactly when the table gives that number there, and accepted exactly when no
  -- condition of the table holds
  pub query_given : (n p : ℕ) → Refuses (indexed_verdict q ix l) n p ↔ Given (QueryCondition q ix l) n p
  unfolding indexed_verdict
  query_given = given_exactly_when (QueryCondition q ix l) (indexed_rows q ix l) query_rows query_refuses

  pub query_accepted : (indexed_verdict q ix l ≡ Ok tt) ↔ ((r n p : ℕ) → QueryCondition q ix l r n p → ⊥)
  unfolding indexed_verdict
  query_accepted = accepted_exactly_when (QueryCondition q ix l) (indexed_rows q ix l) query_rows query_refuses
