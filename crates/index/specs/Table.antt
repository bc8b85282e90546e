-- The refusal tables of an index (docs/RULES.md, "Refusal numbers" and "The index"): of a build, of an edit, and of a query over an
-- index. Each is given twice: as rows of which the first that refuses is the verdict, and as conditions, for "given exactly when".
-- Assumes nothing.
use Rattle.std.specs.Prelude.{◌≡◌, Bool, true, ◌||◌, List, [], ◌∷◌, ◌++◌, ℕ, leb, ltb, set}
use Rattle.network.specs.declared.Lent.{Lent}
use Rattle.network.specs.declared.Cause.TheVariants.{NodeCount, ArcLists, PotentialLists, StartOrEnd, Pattern, Room, BadArc, BadPotential, Inconsistent, NoSuchArc, WrongIndex}
use Rattle.index.specs.declared.Change.{Change}
use Rattle.network.specs.Verdict.{Verdict}
use Rattle.network.specs.Given.{Lowest}
use Rattle.network.specs.Network.{Network, network, arc_count, most_weight}
use Rattle.network.specs.Query.{Query}
use Rattle.network.specs.Refusal.{lowest, bad_node_count, bad_arc_lists, bad_potential_lists, bad_start_or_end, bad_pattern, bad_room, bad_arc, bad_potential, breaks_rule, given, given_at, first_refusal, arcs_rows}
use Rattle.index.specs.Index.{Index, short_index, wrong_index}

-- ---- a build: 1, 2, 6 for the lists of the index, 7
unfoldable pub build_rows : Network → Index → List Verdict
build_rows g ix = arcs_rows g (short_index g ix)

unfoldable pub build_verdict : Network → Index → Verdict
build_verdict g ix = first_refusal (build_rows g ix)

-- row, number and place
pub data BuildCondition (g : Network) (ix : Index) : ℕ → ℕ → ℕ → Type 0 where
  of_node_count : bad_node_count g ≡ true → BuildCondition g ix 0 1 0
  of_arc_lists : bad_arc_lists g ≡ true → BuildCondition g ix 1 2 0
  of_room : short_index g ix ≡ true → BuildCondition g ix 2 6 0
  of_arc : {a : ℕ} → Lowest (bad_arc g) (arc_count g) a → BuildCondition g ix 3 7 a

-- ---- an edit: the same on what is there, then 20, 19, and 7 for the new values
-- an edit names an arc by its number, and has its new tail, head and weight
abbrev pub change : ℕ → ℕ → ℕ → ℕ → Change
change a t h w = record { number = a; tail = t; head = h; weight = w }

-- the arcs with that one changed
unfoldable pub changed : Network → Change → Network
changed g c = network g.nodes (set g.tails c.number c.tail) (set g.heads c.number c.head) (set g.weights c.number c.weight)

-- 19: there is no arc of this number
unfoldable pub no_such_arc : Network → ℕ → Bool
no_such_arc g a = leb (arc_count g) a

-- 7, of an edit: the arc would be bad
unfoldable pub bad_change : Network → Change → Bool
bad_change g c = bad_arc (changed g c) c.number

-- 19 and 7 by how many nodes and arcs there are
unfoldable pub change_asked : ℕ → ℕ → Change → Verdict
change_asked nodes arcs c =
    first_refusal
    (given (leb arcs c.number) (NoSuchArc c.number)
    ∷ given (leb nodes c.tail || leb nodes c.head || ltb most_weight c.weight) (BadArc c.number)
    ∷ [])

-- what is there: 1, 2, 6, 7 and 20
unfoldable pub held_rows : Network → Index → List Verdict
held_rows g ix = build_rows g ix ++ (given (wrong_index g ix) WrongIndex ∷ [])

unfoldable pub held_verdict : Network → Index → Verdict
held_verdict g ix = first_refusal (held_rows g ix)

-- the change itself: 19 and 7
unfoldable pub change_rows : Network → Change → List Verdict
change_rows g c = given (no_such_arc g c.number) (NoSuchArc c.number) ∷ given (bad_change g c) (BadArc c.number) ∷ []

unfoldable pub change_verdict : Network → Change → Verdict
change_verdict g c = first_refusal (change_rows g c)

unfoldable pub edit_rows : Network → Index → Change → List Verdict
edit_rows g ix c = held_rows g ix ++ change_rows g c

unfoldable pub edit_verdict : Network → Index → Change → Verdict
edit_verdict g ix c = first_refusal (edit_rows g ix c)

pub data EditCondition (g : Network) (ix : Index) (c : Change) : ℕ → ℕ → ℕ → Type 0 where
  on_what_is_there : {row number place : ℕ} → BuildCondition g ix row number place → EditCondition g ix c row number place
  of_index : wrong_index g ix ≡ true → EditCondition g ix c 4 20 0
  of_number : no_such_arc g c.number ≡ true → EditCondition g ix c 5 19 c.number
  of_change : bad_change g c ≡ true → EditCondition g ix c 6 7 c.number

-- ---- a query over an index: the whole table, 6 for its lists too, and 20 after 7 and before 8
unfoldable pub indexed_rows : Query → Index → Lent → List Verdict
indexed_rows q ix l =
    given (bad_node_count q.network) NodeCount
    ∷ given (bad_arc_lists q.network) ArcLists
    ∷ given (bad_potential_lists q.network q.forward q.backward) PotentialLists
    ∷ given (bad_start_or_end q.network.nodes q.start q.end) StartOrEnd
    ∷ given (bad_pattern q.pattern) Pattern
    ∷ given (bad_room q.network.nodes l || short_index q.network ix) Room
    ∷ given_at BadArc (lowest (bad_arc q.network) (arc_count q.network))
    ∷ given (wrong_index q.network ix) WrongIndex
    ∷ given_at BadPotential (lowest (bad_potential q.forward q.backward) q.network.nodes)
    ∷ given_at Inconsistent (lowest (breaks_rule q.network q.forward q.backward) (arc_count q.network))
    ∷ []

unfoldable pub indexed_verdict : Query → Index → Lent → Verdict
indexed_verdict q ix l = first_refusal (indexed_rows q ix l)

-- row, number and place; 10 and 11 are refusals of files and 19 is one of edits, and no query meets them
pub data QueryCondition (q : Query) (ix : Index) (l : Lent) : ℕ → ℕ → ℕ → Type 0 where
  of_node_count : bad_node_count q.network ≡ true → QueryCondition q ix l 0 1 0
  of_arc_lists : bad_arc_lists q.network ≡ true → QueryCondition q ix l 1 2 0
  of_potential_lists : bad_potential_lists q.network q.forward q.backward ≡ true → QueryCondition q ix l 2 3 0
  of_start_or_end : bad_start_or_end q.network.nodes q.start q.end ≡ true → QueryCondition q ix l 3 4 0
  of_pattern : bad_pattern q.pattern ≡ true → QueryCondition q ix l 4 5 0
  of_room : (bad_room q.network.nodes l || short_index q.network ix) ≡ true → QueryCondition q ix l 5 6 0
  of_arc : {a : ℕ} → Lowest (bad_arc q.network) (arc_count q.network) a → QueryCondition q ix l 6 7 a
  of_index : wrong_index q.network ix ≡ true → QueryCondition q ix l 7 20 0
  of_potential : {v : ℕ} → Lowest (bad_potential q.forward q.backward) q.network.nodes v → QueryCondition q ix l 8 8 v
  of_rule : {a : ℕ} → Lowest (breaks_rule q.network q.forward q.backward) (arc_count q.network) a → QueryCondition q ix l 9 9 a
