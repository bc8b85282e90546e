-- What a query leaves (docs/RULES.md, "The end of a search" and "Capped queries"): its answer, and every entry of every lent list.
-- Assumes nothing.
use Rattle.std.specs.Prelude.{cond, List, [], ℕ, length, Ok, Err}
use Rattle.network.specs.declared.Answer.{Answer}
use Rattle.network.specs.declared.Answer.TheVariants.{Refused}
use Rattle.network.specs.declared.Lent.{Lent}
use Rattle.network.specs.Verdict.{Verdict}
use Rattle.network.specs.Query.{Query}
use Rattle.nba.specs.State.{State, present}
use Rattle.nba.specs.Search.{state_at}
use Rattle.nba.specs.Result.{path_of, found, found_at}
use Rattle.network.specs.Front.{at_front}
use Rattle.index.specs.Index.{Index}
use Rattle.index.specs.Table.{indexed_verdict}

-- the six lists that a caller lends
pub record LentLists : Type 0 where
  pub start_labels_there : List ℕ
  pub start_neighbours_there : List ℕ
  pub end_labels_there : List ℕ
  pub end_neighbours_there : List ℕ
  pub states : List ℕ
  pub path : List ℕ

abbrev pub lent_lists : List ℕ → List ℕ → List ℕ → List ℕ → List ℕ → List ℕ → LentLists
lent_lists sl sn el en states path = record {
  start_labels_there = sl;
  start_neighbours_there = sn;
  end_labels_there = el;
  end_neighbours_there = en;
  states = states;
  path = path;
}

-- how long they are
abbrev pub lengths : LentLists → Lent
lengths l = record {
  start_labels = length l.start_labels_there;
  start_neighbours = length l.start_neighbours_there;
  end_labels = length l.end_labels_there;
  end_neighbours = length l.end_neighbours_there;
  states = length l.states;
  path = length l.path;
}

-- the path that is shown: none where there is no best length, so none with "no route" and none with "undecided"
unfoldable pub shown_path : Query → State → List ℕ
shown_path q st = cond (present st.best) (path_of q st) []

-- the lists after a search at a cap: the first entries of the work lists, one a node, hold the state after the turns made, and the
-- path list holds the path from its first entry; all entries beyond keep their old values
unfoldable pub lists_at : Query → ℕ → LentLists → LentLists
lists_at q cap l =
    let st = state_at q cap in
    record {
      start_labels_there = at_front st.start_half.labels l.start_labels_there;
      start_neighbours_there = at_front st.start_half.neighbours l.start_neighbours_there;
      end_labels_there = at_front st.end_half.labels l.end_labels_there;
      end_neighbours_there = at_front st.end_half.neighbours l.end_neighbours_there;
      states = at_front st.states l.states;
      path = at_front (shown_path q st) l.path;
    }

-- the lists after a search without a cap, which hold the end state
abbrev pub lists_after : Query → LentLists → LentLists
lists_after q l = lists_at q q.network.nodes l

-- an answer, and the lists as they are then
pub record Left : Type 0 where
  pub answer : Answer
  pub lists : LentLists

abbrev pub left : Answer → LentLists → Left
left a l = record { answer = a; lists = l }

-- what the search of an accepted query leaves, without a cap and at a cap
abbrev pub search_leaves : Query → LentLists → Left
search_leaves q l = left (found q) (lists_after q l)

abbrev pub search_leaves_at : Query → ℕ → LentLists → Left
search_leaves_at q cap l = left (found_at q cap) (lists_at q cap l)

-- a refusal leaves all lent lists untouched; an accepted query leaves what its search leaves
abbrev pub verdict_leaves : Verdict → LentLists → Left → Left
verdict_leaves (Err c) l searched = left (Refused c) l
verdict_leaves (Ok _) l searched = searched

-- what a query over an index leaves, without a cap and at a cap: the index decides about a refusal, and about nothing else
unfoldable pub queried : Query → Index → LentLists → Left
queried q ix l = verdict_leaves (indexed_verdict q ix (lengths l)) l (search_leaves q l)

unfoldable pub queried_at : Query → Index → ℕ → LentLists → Left
queried_at q ix cap l = verdict_leaves (indexed_verdict q ix (lengths l)) l (search_leaves_at q cap l)
