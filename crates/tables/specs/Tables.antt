-- What setting the tables to the beginning of a search, counting the figures and writing the path ask and leave: the tables of
-- step 1 (docs/RULES.md, step 1), figures added up, and the nodes of a path. Assumes nothing.
use Rattle.std.specs.Prelude.{◌≡◌, List, ℕ, ◌+◌, ◌≤◌, ◌<◌, length, set, replicate}
use Rattle.std.specs.List.{All}
use Rattle.network.specs.declared.Figures.{Figures}
use Rattle.network.specs.Network.{most_nodes}
use Rattle.nba.specs.State.{missing, no_node, undecided}
use Rattle.nba.specs.Result.{path_through}

-- every table has one entry a node
pub record Long (n : ℕ) (labels neighbours theirs beyond states : List ℕ) : Type 0 where
  pub labels_long : length labels ≡ n
  pub neighbours_long : length neighbours ≡ n
  pub theirs_long : length theirs ≡ n
  pub beyond_long : length beyond ≡ n
  pub states_long : length states ≡ n

-- the tables of n nodes at the beginning of a search: each side has label 0 at its source, and nothing else
pub record FirstTables (n s e : ℕ) (start_labels_there start_neighbours_there end_labels_there end_neighbours_there states : List ℕ) : Type 0 where
  pub start_labels_are : start_labels_there ≡ set (replicate n missing) s 0
  pub start_neighbours_are : start_neighbours_there ≡ replicate n no_node
  pub end_labels_are : end_labels_there ≡ set (replicate n missing) e 0
  pub end_neighbours_are : end_neighbours_there ≡ replicate n no_node
  pub states_are : states ≡ replicate n undecided

-- the figures of two tables together: each is the sum of the two
unfoldable pub together : Figures → Figures → Figures
together f g = record {
  turns = f.turns + g.turns;
  opened_by_start = f.opened_by_start + g.opened_by_start;
  opened_by_end = f.opened_by_end + g.opened_by_end;
  rejected = f.rejected + g.rejected;
}

-- figures to which one node more can be added: none is above twice the largest number of nodes
pub record Countable (f : Figures) : Type 0 where
  pub turns : f.turns ≤ most_nodes + most_nodes
  pub by_start : f.opened_by_start ≤ most_nodes + most_nodes
  pub by_end : f.opened_by_end ≤ most_nodes + most_nodes
  pub rejected : f.rejected ≤ most_nodes + most_nodes

-- every entry of the list is a node of a network of n nodes
abbrev pub NodesBelow : ℕ → List ℕ → Type 0
NodesBelow n nodes = All (λ v. v < n) nodes

-- what writing a path asks: it is of nodes and no longer than there are nodes, and the list has room for as many
pub record PathRoom (path startward endward : List ℕ) (s e meeting : ℕ) : Type 0 where
  -- both sides have a neighbour for each node
  pub as_many : length endward ≡ length startward
  -- there are at most 2,048 nodes
  pub few : length startward ≤ most_nodes
  -- the path list has room for as many entries as there are nodes
  pub room : length startward ≤ length path
  -- the path has at most as many entries as there are nodes
  pub short : length (path_through startward endward s e meeting) ≤ length startward
  -- every entry of the path is a node
  pub nodes : NodesBelow (length startward) (path_through startward endward s e meeting)
