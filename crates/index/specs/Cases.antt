-- Cases of an index, by hand: what a build leaves, what an edit leaves, and what the table says of a query over an index. One
-- list, and one proof over it by computation. Each case says which wrong program it shows. Assumes nothing.
use Rattle.std.specs.Prelude.{◌≡◌, refl, List, [], ◌∷◌, ◌++◌, map, ℕ, ℤ, pos, replicate, Ok, Err}
use Rattle.network.specs.declared.Lent.{Lent}
use Rattle.network.specs.declared.Cause.{Cause}
use Rattle.network.specs.declared.Cause.TheVariants.{NodeCount, ArcLists, PotentialLists, StartOrEnd, Pattern, Room, BadArc, BadPotential, Inconsistent, NoSuchArc, WrongIndex}
use Rattle.network.specs.Verdict.{Verdict}
use Rattle.network.specs.Network.{Network, network, is_arc}
use Rattle.network.specs.Potential.{keeps_rule}
use Rattle.network.specs.Query.{Query, query}
use Rattle.network.specs.Refusal.{lowest, room_for, bad_node_count, bad_arc_lists, bad_potential_lists, bad_start_or_end, bad_entry, bad_pattern, bad_room, bad_arc, out_of_range, bad_potential, breaks_rule, first_refusal, arcs_rows}
use Rattle.nba.specs.Search.{arcs_below, arcs_of}
use Rattle.network.specs.Front.{at_front, begins_with}
use Rattle.index.specs.Index.{Index, index, arcs_before, begin_in, begins_below, build_of, built_way, built_on, is_built, wrong_index, short_way, short_index}
use Rattle.index.specs.Kept.{IndexLeft, index_left, builds, edits}
use Rattle.index.specs.declared.Change.{Change}
use Rattle.index.specs.Table.{change, changed, no_such_arc, bad_change, build_rows, build_verdict, held_rows, change_rows, edit_rows, edit_verdict, indexed_rows, indexed_verdict}

-- a build or an edit and what it leaves, or a query and its verdict
pub data IndexCase : Type 0 where
  builds_to : Network → Index → IndexLeft → IndexCase
  edits_to : Network → Index → Change → IndexLeft → IndexCase
  asks : Query → Index → Lent → Verdict → IndexCase

-- ---- words for the cases
-- a build or an edit that is refused leaves everything as it was
abbrev not_built : Network → Index → Cause → IndexCase
not_built g ix c = builds_to g ix (index_left (Err c) g ix)

abbrev not_edited : Network → Index → Change → Cause → IndexCase
not_edited g ix new c = edits_to g ix new (index_left (Err c) g ix)

-- district D5, and its index: out of node 0 lead arcs 0 and 3, out of nodes 1 and 2 arcs 1 and 2, out of node 4 arc 4; into nodes 1
-- and 2 lead arcs 0 and 1, into node 3 arcs 2 and 4, into node 4 arc 3
abbrev d5 : Network
d5 = network 5 (0 ∷ 1 ∷ 2 ∷ 0 ∷ 4 ∷ []) (1 ∷ 2 ∷ 3 ∷ 4 ∷ 3 ∷ []) (1 ∷ 1 ∷ 1 ∷ 2 ∷ 2 ∷ [])

abbrev d5_index : Index
d5_index = index (0 ∷ 3 ∷ 1 ∷ 2 ∷ 4 ∷ []) (0 ∷ 2 ∷ 3 ∷ 4 ∷ 4 ∷ 5 ∷ []) (0 ∷ 1 ∷ 2 ∷ 4 ∷ 3 ∷ []) (0 ∷ 0 ∷ 1 ∷ 2 ∷ 4 ∷ 5 ∷ [])

-- lists of 9s, with this many entries each
abbrev nines : ℕ → ℕ → ℕ → ℕ → Index
nines a b c d = index (replicate a 9) (replicate b 9) (replicate c 9) (replicate d 9)

-- two nodes, arcs 0 from 0 to 1 and 1 from 1 to 0, and the index
abbrev there_and_back : Network
there_and_back = network 2 (0 ∷ 1 ∷ []) (1 ∷ 0 ∷ []) (1 ∷ 1 ∷ [])

abbrev there_and_back_index : Index
there_and_back_index = index (0 ∷ 1 ∷ []) (0 ∷ 1 ∷ 2 ∷ []) (1 ∷ 0 ∷ []) (0 ∷ 1 ∷ 2 ∷ [])

-- two parallel arcs and an arc from node 1 to itself, and the index
abbrev parallel : Network
parallel = network 2 (0 ∷ 0 ∷ 1 ∷ []) (1 ∷ 1 ∷ 1 ∷ []) (5 ∷ 5 ∷ 0 ∷ [])

abbrev parallel_index : Index
parallel_index = index (0 ∷ 1 ∷ 2 ∷ []) (0 ∷ 2 ∷ 3 ∷ []) (0 ∷ 1 ∷ 2 ∷ []) (0 ∷ 0 ∷ 3 ∷ [])

-- in a network of two nodes over an index: from 0 to 1 with pattern 0, backward potentials 0, forward potentials and room
abbrev from_0_to_1 : Network → List ℤ → Index → ℕ → Verdict → IndexCase
from_0_to_1 g h ix n = asks (query g h (replicate 2 (pos 0)) 0 1 (0 ∷ [])) ix (room_for n)

-- ---- what is built
abbrev build_cases : List IndexCase
build_cases =
    -- D5, into lists with an entry too many: who exchanges out and in, lists a node's arcs in falling order, leaves out the last
    -- begin, or writes beyond
    builds_to d5 (nines 6 7 6 7)
    (index_left (Ok tt) d5
    (index (0 ∷ 3 ∷ 1 ∷ 2 ∷ 4 ∷ 9 ∷ []) (0 ∷ 2 ∷ 3 ∷ 4 ∷ 4 ∷ 5 ∷ 9 ∷ []) (0 ∷ 1 ∷ 2 ∷ 4 ∷ 3 ∷ 9 ∷ []) (0 ∷ 0 ∷ 1 ∷ 2 ∷ 4 ∷ 5 ∷ 9 ∷ [])))
    -- parallel arcs and an arc from a node to itself: who lists one of them only, or leaves it out
    ∷ builds_to parallel (nines 3 3 3 3) (index_left (Ok tt) parallel parallel_index)
    -- no arcs, in no entries: who asks for one
    ∷ builds_to (network 1 [] [] []) (nines 0 2 0 2) (index_left (Ok tt) (network 1 [] [] []) (index [] (0 ∷ 0 ∷ []) [] (0 ∷ 0 ∷ [])))
    -- 1: no node, and 2,049 of them
    ∷ not_built (network 0 [] [] []) (nines 0 1 0 1) NodeCount
    ∷ not_built (network 2049 [] [] []) (nines 0 2 0 2) NodeCount
    -- 2: heads one short, then weights: who measures another list
    ∷ not_built (network 2 (0 ∷ 1 ∷ []) (1 ∷ []) (1 ∷ 1 ∷ [])) (nines 2 3 2 3) ArcLists
    ∷ not_built (network 2 (0 ∷ 1 ∷ []) (1 ∷ 0 ∷ []) (1 ∷ [])) (nines 2 3 2 3) ArcLists
    -- 6: each list one short: who does not measure it, or asks for an entry a node only
    ∷ not_built there_and_back (nines 1 3 2 3) Room
    ∷ not_built there_and_back (nines 2 2 2 3) Room
    ∷ not_built there_and_back (nines 2 3 1 3) Room
    ∷ not_built there_and_back (nines 2 3 2 2) Room
    -- 7, at the lowest arc: head 2 at arc 1, then a weight at arc 0
    ∷ not_built (network 2 (0 ∷ 1 ∷ []) (1 ∷ 2 ∷ []) (1 ∷ 1 ∷ [])) (nines 2 3 2 3) (BadArc 1)
    ∷ not_built (network 2 (0 ∷ 2 ∷ []) (1 ∷ 0 ∷ []) (1000001 ∷ 1 ∷ [])) (nines 2 3 2 3) (BadArc 0)
    -- everything is wrong, and is mended row by row: who tests a row before an earlier one
    ∷ not_built (network 0 (0 ∷ 1 ∷ []) (1 ∷ []) (1 ∷ 1 ∷ [])) (nines 1 3 2 3) NodeCount
    ∷ not_built (network 2 (0 ∷ 2 ∷ []) (1 ∷ []) (1 ∷ 1 ∷ [])) (nines 1 3 2 3) ArcLists
    ∷ not_built (network 2 (0 ∷ 2 ∷ []) (1 ∷ 0 ∷ []) (1 ∷ 1 ∷ [])) (nines 1 3 2 3) Room
    ∷ []

-- ---- what is edited
abbrev edit_cases : List IndexCase
edit_cases =
    -- an arc's tail moves on, from node 0 to 2: who leaves the entries between, or touches the other way
    edits_to d5 d5_index (change 3 2 4 2)
    (index_left (Ok tt) (network 5 (0 ∷ 1 ∷ 2 ∷ 2 ∷ 4 ∷ []) (1 ∷ 2 ∷ 3 ∷ 4 ∷ 3 ∷ []) (1 ∷ 1 ∷ 1 ∷ 2 ∷ 2 ∷ []))
    (index (0 ∷ 1 ∷ 2 ∷ 3 ∷ 4 ∷ []) (0 ∷ 1 ∷ 2 ∷ 4 ∷ 4 ∷ 5 ∷ []) (0 ∷ 1 ∷ 2 ∷ 4 ∷ 3 ∷ []) (0 ∷ 0 ∷ 1 ∷ 2 ∷ 4 ∷ 5 ∷ [])))
    -- the first arc: on to node 4, where it stands before arc 4, and back to node 0
    ∷ edits_to d5 d5_index (change 0 4 0 1)
    (index_left (Ok tt) (network 5 (4 ∷ 1 ∷ 2 ∷ 0 ∷ 4 ∷ []) (0 ∷ 2 ∷ 3 ∷ 4 ∷ 3 ∷ []) (1 ∷ 1 ∷ 1 ∷ 2 ∷ 2 ∷ []))
    (index (3 ∷ 1 ∷ 2 ∷ 0 ∷ 4 ∷ []) (0 ∷ 1 ∷ 2 ∷ 3 ∷ 3 ∷ 5 ∷ []) (0 ∷ 1 ∷ 2 ∷ 4 ∷ 3 ∷ []) (0 ∷ 1 ∷ 1 ∷ 2 ∷ 4 ∷ 5 ∷ [])))
    -- the last arc: back to node 0, where it stands behind arc 3, and to node 1; and a new weight
    ∷ edits_to d5 d5_index (change 4 0 1 7)
    (index_left (Ok tt) (network 5 (0 ∷ 1 ∷ 2 ∷ 0 ∷ 0 ∷ []) (1 ∷ 2 ∷ 3 ∷ 4 ∷ 1 ∷ []) (1 ∷ 1 ∷ 1 ∷ 2 ∷ 7 ∷ []))
    (index (0 ∷ 3 ∷ 4 ∷ 1 ∷ 2 ∷ []) (0 ∷ 3 ∷ 4 ∷ 5 ∷ 5 ∷ 5 ∷ []) (0 ∷ 4 ∷ 1 ∷ 2 ∷ 3 ∷ []) (0 ∷ 0 ∷ 2 ∷ 3 ∷ 4 ∷ 5 ∷ [])))
    -- to another node but to its own place: who then leaves the begins
    ∷ edits_to d5 d5_index (change 2 3 3 1)
    (index_left (Ok tt) (network 5 (0 ∷ 1 ∷ 3 ∷ 0 ∷ 4 ∷ []) (1 ∷ 2 ∷ 3 ∷ 4 ∷ 3 ∷ []) (1 ∷ 1 ∷ 1 ∷ 2 ∷ 2 ∷ []))
    (index (0 ∷ 3 ∷ 1 ∷ 2 ∷ 4 ∷ []) (0 ∷ 2 ∷ 3 ∷ 3 ∷ 4 ∷ 5 ∷ []) (0 ∷ 1 ∷ 2 ∷ 4 ∷ 3 ∷ []) (0 ∷ 0 ∷ 1 ∷ 2 ∷ 4 ∷ 5 ∷ [])))
    -- to where it is, and a weight alone: no entry of the index changes
    ∷ edits_to d5 d5_index (change 3 0 4 2) (index_left (Ok tt) d5 d5_index)
    ∷ edits_to d5 d5_index (change 3 0 4 1000000)
    (index_left (Ok tt) (network 5 (0 ∷ 1 ∷ 2 ∷ 0 ∷ 4 ∷ []) (1 ∷ 2 ∷ 3 ∷ 4 ∷ 3 ∷ []) (1 ∷ 1 ∷ 1 ∷ 1000000 ∷ 2 ∷ [])) d5_index)
    -- one of two parallel arcs, made one from a node to itself: who moves the other
    ∷ edits_to parallel parallel_index (change 0 1 1 5)
    (index_left (Ok tt) (network 2 (1 ∷ 0 ∷ 1 ∷ []) (1 ∷ 1 ∷ 1 ∷ []) (5 ∷ 5 ∷ 0 ∷ []))
    (index (1 ∷ 0 ∷ 2 ∷ []) (0 ∷ 1 ∷ 3 ∷ []) (0 ∷ 1 ∷ 2 ∷ []) (0 ∷ 0 ∷ 3 ∷ [])))
    -- entries beyond stay
    ∷ edits_to there_and_back (index (0 ∷ 1 ∷ 9 ∷ []) (0 ∷ 1 ∷ 2 ∷ 9 ∷ []) (1 ∷ 0 ∷ 9 ∷ []) (0 ∷ 1 ∷ 2 ∷ 9 ∷ [])) (change 0 1 1 1)
    (index_left (Ok tt) (network 2 (1 ∷ 1 ∷ []) (1 ∷ 0 ∷ []) (1 ∷ 1 ∷ []))
    (index (0 ∷ 1 ∷ 9 ∷ []) (0 ∷ 0 ∷ 2 ∷ 9 ∷ []) (1 ∷ 0 ∷ 9 ∷ []) (0 ∷ 1 ∷ 2 ∷ 9 ∷ [])))
    -- 20: one entry of one list is another, for each of the four: who does not compare it; and out and in exchanged
    ∷ not_edited there_and_back (index (0 ∷ 0 ∷ []) (0 ∷ 1 ∷ 2 ∷ []) (1 ∷ 0 ∷ []) (0 ∷ 1 ∷ 2 ∷ [])) (change 0 0 1 1) WrongIndex
    ∷ not_edited there_and_back (index (0 ∷ 1 ∷ []) (0 ∷ 1 ∷ 1 ∷ []) (1 ∷ 0 ∷ []) (0 ∷ 1 ∷ 2 ∷ [])) (change 0 0 1 1) WrongIndex
    ∷ not_edited there_and_back (index (0 ∷ 1 ∷ []) (0 ∷ 1 ∷ 2 ∷ []) (1 ∷ 1 ∷ []) (0 ∷ 1 ∷ 2 ∷ [])) (change 0 0 1 1) WrongIndex
    ∷ not_edited there_and_back (index (0 ∷ 1 ∷ []) (0 ∷ 1 ∷ 2 ∷ []) (1 ∷ 0 ∷ []) (1 ∷ 1 ∷ 2 ∷ [])) (change 0 0 1 1) WrongIndex
    ∷ not_edited there_and_back (index (1 ∷ 0 ∷ []) (0 ∷ 1 ∷ 2 ∷ []) (0 ∷ 1 ∷ []) (0 ∷ 1 ∷ 2 ∷ [])) (change 0 0 1 1) WrongIndex
    -- 20: node 0's arcs in falling order
    ∷ not_edited parallel (index (1 ∷ 0 ∷ 2 ∷ []) (0 ∷ 2 ∷ 3 ∷ []) (0 ∷ 1 ∷ 2 ∷ []) (0 ∷ 0 ∷ 3 ∷ [])) (change 0 0 1 1) WrongIndex
    -- 19: arc 2 of two, and the highest number
    ∷ not_edited there_and_back there_and_back_index (change 2 0 1 1) (NoSuchArc 2)
    ∷ not_edited there_and_back there_and_back_index (change 65535 0 1 1) (NoSuchArc 65535)
    -- 7: new tail, head and weight, each just too large
    ∷ not_edited there_and_back there_and_back_index (change 1 2 0 1) (BadArc 1)
    ∷ not_edited there_and_back there_and_back_index (change 1 0 2 1) (BadArc 1)
    ∷ not_edited there_and_back there_and_back_index (change 1 0 1 1000001) (BadArc 1)
    -- everything is wrong, and is mended row by row
    ∷ not_edited (network 0 (0 ∷ 2 ∷ []) (1 ∷ []) (1 ∷ 1 ∷ [])) (nines 1 3 2 3) (change 2 2 1 1) NodeCount
    ∷ not_edited (network 2 (0 ∷ 2 ∷ []) (1 ∷ []) (1 ∷ 1 ∷ [])) (nines 1 3 2 3) (change 2 2 1 1) ArcLists
    ∷ not_edited (network 2 (0 ∷ 2 ∷ []) (1 ∷ 0 ∷ []) (1 ∷ 1 ∷ [])) (nines 1 3 2 3) (change 2 2 1 1) Room
    ∷ not_edited (network 2 (0 ∷ 2 ∷ []) (1 ∷ 0 ∷ []) (1 ∷ 1 ∷ [])) (nines 2 3 2 3) (change 2 2 1 1) (BadArc 1)
    ∷ not_edited there_and_back (nines 2 3 2 3) (change 2 2 1 1) WrongIndex
    ∷ not_edited there_and_back there_and_back_index (change 2 2 1 1) (NoSuchArc 2)
    ∷ not_edited there_and_back there_and_back_index (change 0 2 1 1) (BadArc 0)
    ∷ []

-- ---- what is asked
abbrev query_cases : List IndexCase
query_cases =
    -- the right index, and entries beyond that are anything: who compares them
    from_0_to_1 there_and_back (replicate 2 (pos 0)) there_and_back_index 2 (Ok tt)
    ∷ from_0_to_1 there_and_back (replicate 2 (pos 0)) (index (0 ∷ 1 ∷ 9 ∷ []) (0 ∷ 1 ∷ 2 ∷ 9 ∷ []) (1 ∷ 0 ∷ 9 ∷ []) (0 ∷ 1 ∷ 2 ∷ 9 ∷ [])) 2 (Ok tt)
    -- 6: each list of the index one short: who measures the work lists only; 6 for a work list, with an index in order
    ∷ from_0_to_1 there_and_back (replicate 2 (pos 0)) (nines 1 3 2 3) 2 (Err Room)
    ∷ from_0_to_1 there_and_back (replicate 2 (pos 0)) (nines 2 2 2 3) 2 (Err Room)
    ∷ from_0_to_1 there_and_back (replicate 2 (pos 0)) (nines 2 3 1 3) 2 (Err Room)
    ∷ from_0_to_1 there_and_back (replicate 2 (pos 0)) (nines 2 3 2 2) 2 (Err Room)
    ∷ from_0_to_1 there_and_back (replicate 2 (pos 0)) there_and_back_index 1 (Err Room)
    -- 3, 4 and 5 beside an index list that is too short: who measures the index first
    ∷ from_0_to_1 there_and_back (replicate 1 (pos 0)) (nines 1 3 2 3) 2 (Err PotentialLists)
    ∷ asks (query there_and_back (replicate 2 (pos 0)) (replicate 2 (pos 0)) 2 1 (0 ∷ [])) (nines 1 3 2 3) (room_for 2) (Err StartOrEnd)
    ∷ asks (query there_and_back (replicate 2 (pos 0)) (replicate 2 (pos 0)) 0 1 []) (nines 1 3 2 3) (room_for 2) (Err Pattern)
    -- 20 before 9
    ∷ from_0_to_1 there_and_back (pos 2 ∷ pos 0 ∷ []) (nines 2 3 2 3) 2 (Err WrongIndex)
    ∷ from_0_to_1 there_and_back (pos 2 ∷ pos 0 ∷ []) there_and_back_index 2 (Err (Inconsistent 0))
    -- 6, 7, 20 and 8 are wrong, and are mended row by row: who tests 20 before 7, or 8 before 20
    ∷ from_0_to_1 (network 2 (0 ∷ 2 ∷ []) (1 ∷ 0 ∷ []) (1 ∷ 1 ∷ [])) (replicate 2 (pos 2047000001)) (nines 1 3 2 3) 2 (Err Room)
    ∷ from_0_to_1 (network 2 (0 ∷ 2 ∷ []) (1 ∷ 0 ∷ []) (1 ∷ 1 ∷ [])) (replicate 2 (pos 2047000001)) (nines 2 3 2 3) 2 (Err (BadArc 1))
    ∷ from_0_to_1 there_and_back (replicate 2 (pos 2047000001)) (nines 2 3 2 3) 2 (Err WrongIndex)
    ∷ from_0_to_1 there_and_back (replicate 2 (pos 2047000001)) there_and_back_index 2 (Err (BadPotential 0))
    ∷ []

abbrev index_cases : List IndexCase
index_cases = build_cases ++ edit_cases ++ query_cases

-- ---- what is reckoned
-- the case with what the definitions give
unfoldable pub reckoned : IndexCase → IndexCase
reckoned (builds_to g ix l) = builds_to g ix (builds g ix)
reckoned (edits_to g ix new l) = edits_to g ix new (edits g ix new)
reckoned (asks q ix lent v) = asks q ix lent (indexed_verdict q ix lent)

-- ---- the proof, by computation
pub cases_hold : map reckoned index_cases ≡ index_cases
unfolding reckoned builds edits build_verdict build_rows arcs_rows held_rows change_rows edit_verdict edit_rows indexed_verdict indexed_rows first_refusal no_such_arc bad_change changed wrong_index is_built short_index short_way built_on built_way build_of begins_below begin_in arcs_before arcs_of arcs_below at_front begins_with breaks_rule bad_potential out_of_range bad_arc bad_room bad_pattern bad_entry bad_start_or_end bad_potential_lists bad_arc_lists bad_node_count lowest keeps_rule is_arc
cases_hold = refl
