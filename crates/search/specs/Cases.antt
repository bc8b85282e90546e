-- Cases of what a query leaves, without a cap and at one, entry for entry, in lists that are one entry longer than needed: who
-- writes beyond the node count or beyond the path, who shows a path where there is no route or nothing yet, who makes a turn after
-- the last of a cap, who searches over a wrong index, and who writes and then refuses, leaves something else. One list, and one
-- proof over it by computation. Assumes nothing.
use Rattle.std.specs.Prelude.{◌≡◌, refl, List, [], ◌∷◌, map, ℕ, pos, replicate, None, Some}
use Rattle.network.specs.declared.Figures.{Figures}
use Rattle.network.specs.declared.Cause.TheVariants.{Pattern, Room, WrongIndex}
use Rattle.network.specs.declared.Answer.TheVariants.{Route, NoRoute, Refused, Provisional, Undecided}
use Rattle.network.specs.Cap.{Cap}
use Rattle.network.specs.Network.{network, is_arc}
use Rattle.network.specs.Potential.{keeps_rule}
use Rattle.network.specs.Query.{Query, query, side_of_turn}
use Rattle.network.specs.Refusal.{lowest, bad_node_count, bad_arc_lists, bad_potential_lists, bad_start_or_end, bad_entry, bad_pattern, bad_room, bad_arc, out_of_range, bad_potential, breaks_rule, first_refusal}
use Rattle.nba.specs.State.{missing, no_node}
use Rattle.nba.specs.Search.{beginning_half, at_beginning, lower, least_below, candidate, ended, rejected, arcs_below, arcs_of, with_label, with_meeting, look_at, look_at_each, half_after, after_reach, rejecting, opening, turn, turn_unless_ended, after_turns, at_once, state_at}
use Rattle.nba.specs.Result.{trail, turned_before, path_through, path_of, count_of, figures_in, answer_at, found, excess_over, excess, unended_at, found_at}
use Rattle.network.specs.Front.{at_front, begins_with}
use Rattle.index.specs.Index.{Index, index, arcs_before, begin_in, begins_below, build_of, is_built, wrong_index, short_way, short_index}
use Rattle.index.specs.Table.{indexed_rows, indexed_verdict}
use Rattle.search.specs.Promise.{LentLists, lent_lists, shown_path, lists_at, Left, left, queried, queried_at}

-- a query over an index on the lists below, and what it leaves
pub record LeavingCase : Type 0 where
  pub asked : Query
  pub index : Index
  pub cap : Cap
  pub leaves : Left

-- ---- words for the cases
-- two nodes, one arc from 0 to 1 of weight 1, potentials 0: index, start, end, pattern and cap
abbrev trip_over : Index → ℕ → ℕ → List ℕ → Cap → Left → LeavingCase
trip_over ix s e p c l = record {
  asked = query (network 2 (0 ∷ []) (1 ∷ []) (1 ∷ [])) (replicate 2 (pos 0)) (replicate 2 (pos 0)) s e p;
  index = ix;
  cap = c;
  leaves = l;
}

-- the same over the index that the arc builds
abbrev trip_under : ℕ → ℕ → List ℕ → Cap → Left → LeavingCase
trip_under = trip_over (index (0 ∷ 9 ∷ []) (0 ∷ 1 ∷ 1 ∷ 9 ∷ []) (0 ∷ 9 ∷ []) (0 ∷ 0 ∷ 1 ∷ 9 ∷ []))

abbrev trip : ℕ → ℕ → List ℕ → Left → LeavingCase
trip s e p = trip_under s e p None

abbrev trip_at : ℕ → ℕ → List ℕ → ℕ → Left → LeavingCase
trip_at s e p n = trip_under s e p (Some n)

-- turns, nodes opened by each side, nodes rejected
abbrev counts : ℕ → ℕ → ℕ → ℕ → Figures
counts t s e r = record { turns = t; opened_by_start = s; opened_by_end = e; rejected = r }

-- what each list holds before, and a list with its first two entries overwritten
abbrev old : List ℕ
old = 7 ∷ 8 ∷ 9 ∷ []

abbrev over : ℕ → ℕ → List ℕ
over a b = a ∷ b ∷ 9 ∷ []

-- ---- the cases
abbrev leaving_cases : List LeavingCase
leaving_cases =
    -- a route over both nodes: the third entry of every list stays
    trip 0 1 (0 ∷ []) (left (Route 1 2 (counts 2 1 0 1)) (lent_lists (over 0 1) (over no_node 0) (over missing 0) (over no_node no_node) (over 1 2) (over 0 1)))
    -- no route: the path list stays whole
    ∷ trip 1 0 (0 ∷ []) (left (NoRoute (counts 1 1 0 0)) (lent_lists (over missing 0) (over no_node no_node) (over 0 missing) (over no_node no_node) (over 0 1) old))
    -- start equal to end: one path node, and the tables as at the beginning of a search
    ∷ trip 1 1 (0 ∷ []) (left (Route 0 1 (counts 0 0 0 0)) (lent_lists (over missing 0) (over no_node no_node) (over missing 0) (over no_node no_node) (over 0 0) (over 1 8)))
    -- an empty pattern: nothing changes
    ∷ trip 0 1 [] (left (Refused Pattern) (lent_lists old old old old old old))
    -- the route at a cap of two turns, which it takes; at one turn it is provisional, with no excess; at none the query is
    -- undecided, with the tables as at the beginning of a search and the path list whole
    ∷ trip_at 0 1 (0 ∷ []) 2 (left (Route 1 2 (counts 2 1 0 1)) (lent_lists (over 0 1) (over no_node 0) (over missing 0) (over no_node no_node) (over 1 2) (over 0 1)))
    ∷ trip_at 0 1 (0 ∷ []) 1 (left (Provisional 1 0 2 (counts 1 1 0 0)) (lent_lists (over 0 1) (over no_node 0) (over missing 0) (over no_node no_node) (over 1 0) (over 0 1)))
    ∷ trip_at 0 1 (0 ∷ []) 0 (left (Undecided (counts 0 0 0 0)) (lent_lists (over 0 missing) (over no_node no_node) (over missing 0) (over no_node no_node) (over 0 0) old))
    -- no route after the last turn of the cap: whether the search has ended is asked once more
    ∷ trip_at 1 0 (0 ∷ []) 1 (left (NoRoute (counts 1 1 0 0)) (lent_lists (over missing 0) (over no_node no_node) (over 0 missing) (over no_node no_node) (over 0 1) old))
    -- start equal to end needs no turn, and a bad pattern is refused at any cap
    ∷ trip_at 1 1 (0 ∷ []) 0 (left (Route 0 1 (counts 0 0 0 0)) (lent_lists (over missing 0) (over no_node no_node) (over missing 0) (over no_node no_node) (over 0 0) (over 1 8)))
    ∷ trip_at 0 1 [] 0 (left (Refused Pattern) (lent_lists old old old old old old))
    -- the two ways of the index exchanged, and a list of it that is one entry too short: nothing changes
    ∷ trip_over (index (0 ∷ []) (0 ∷ 0 ∷ 1 ∷ []) (0 ∷ []) (0 ∷ 1 ∷ 1 ∷ [])) 0 1 (0 ∷ []) None (left (Refused WrongIndex) (lent_lists old old old old old old))
    ∷ trip_over (index (0 ∷ []) (0 ∷ 1 ∷ 1 ∷ []) (0 ∷ []) (0 ∷ 0 ∷ [])) 0 1 (0 ∷ []) (Some 2) (left (Refused Room) (lent_lists old old old old old old))
    ∷ []

-- ---- what is left
abbrev left_under : Cap → Query → Index → LentLists → Left
left_under None q ix l = queried q ix l
left_under (Some n) q ix l = queried_at q ix n l

unfoldable pub leaving : LeavingCase → LeavingCase
leaving c = record {
  asked = c.asked;
  index = c.index;
  cap = c.cap;
  leaves = left_under c.cap c.asked c.index (lent_lists old old old old old old);
}

-- ---- the proof, by computation
pub cases_left : map leaving leaving_cases ≡ leaving_cases
unfolding leaving queried queried_at lists_at shown_path at_front found found_at answer_at unended_at excess excess_over figures_in count_of path_of path_through turned_before trail state_at at_once after_turns turn_unless_ended turn opening rejecting after_reach half_after look_at_each look_at with_meeting with_label arcs_of arcs_below rejected ended candidate least_below lower at_beginning beginning_half side_of_turn is_arc keeps_rule indexed_verdict indexed_rows short_index short_way wrong_index is_built build_of begins_below begin_in arcs_before begins_with first_refusal breaks_rule bad_potential out_of_range bad_arc bad_room bad_pattern bad_entry bad_start_or_end bad_potential_lists bad_arc_lists bad_node_count lowest
cases_left = refl
