-- Cases of a queue over three nodes, by hand: the node that the search takes, and the least number of the queue, which stands
-- for it. One list, and one proof over it by computation. Each case says which wrong program it shows. Assumes nothing.
use Rattle.std.specs.Prelude.{◌≡◌, refl, List, [], ◌∷◌, map, ℕ, ℤ, pos, negsuc}
use Rattle.network.specs.Shift.{up}
use Rattle.nba.specs.State.{missing, opened_by}
use Rattle.network.specs.Network.{start}
use Rattle.nba.specs.Search.{Chosen, none, node, lower, least_below}
use Rattle.least.specs.Tournament.{least_of}
use Rattle.queue.specs.Code.{code, key_in, meaning}
use Rattle.queue.specs.Queue.{waiting_number}

-- the labels, states and potentials of the nodes, the node that is taken, and the node that the least number stands for
pub data QueueCase : Type 0 where
  takes : List ℕ → List ℕ → List ℤ → Chosen → Chosen → QueueCase

-- both are the same
abbrev takes_both : List ℕ → List ℕ → List ℤ → Chosen → QueueCase
takes_both labels states p c = takes labels states p c c

-- potentials of 0
abbrev flat : List ℤ
flat = pos 0 ∷ pos 0 ∷ pos 0 ∷ []

abbrev queue_cases : List QueueCase
queue_cases =
    -- all keys equal: who takes the highest number, or lets the node count before the key
    takes_both (5 ∷ 5 ∷ 5 ∷ []) (0 ∷ 0 ∷ 0 ∷ []) flat (node 0 (pos 5))
    -- the lowest number among equals is taken already: who lets it wait on
    ∷ takes_both (5 ∷ 5 ∷ 5 ∷ []) (opened_by start ∷ 0 ∷ 0 ∷ []) flat (node 1 (pos 5))
    -- the last node has the least key: who compares nodes before keys
    ∷ takes_both (7 ∷ 6 ∷ 5 ∷ []) (0 ∷ 0 ∷ 0 ∷ []) flat (node 2 (pos 5))
    -- the least label has not the least key: who leaves the potential out
    ∷ takes_both (9 ∷ 5 ∷ 6 ∷ []) (0 ∷ 0 ∷ 0 ∷ []) (negsuc 7 ∷ pos 0 ∷ pos 0 ∷ []) (node 0 (pos 1))
    -- keys below 0, two of them equal: who takes -1 for the greatest
    ∷ takes_both (0 ∷ 0 ∷ 0 ∷ []) (0 ∷ 0 ∷ 0 ∷ []) (pos 0 ∷ negsuc 1 ∷ negsuc 1 ∷ []) (node 1 (negsuc 1))
    -- the greatest and the least key that there can be
    ∷ takes_both (4294967294 ∷ 0 ∷ missing ∷ []) (0 ∷ 0 ∷ 0 ∷ []) (pos 2147483647 ∷ negsuc 2147483647 ∷ pos 0 ∷ []) (node 1 (negsuc 2147483647))
    ∷ takes_both (4294967294 ∷ missing ∷ missing ∷ []) (0 ∷ 0 ∷ 0 ∷ []) (pos 2147483647 ∷ pos 0 ∷ pos 0 ∷ []) (node 0 (pos 6442450941))
    -- no node has a label, or those that have one are taken: who takes a node for all that
    ∷ takes_both (missing ∷ missing ∷ missing ∷ []) (0 ∷ 0 ∷ 0 ∷ []) flat none
    ∷ takes_both (5 ∷ missing ∷ missing ∷ []) (opened_by start ∷ 0 ∷ 0 ∷ []) flat none
    ∷ []

-- ---- what is reckoned
-- the numbers of nodes 0, 1 and 2
abbrev numbers_of_three : List ℕ → List ℕ → List ℤ → List ℕ
numbers_of_three labels states p = map (waiting_number labels states p) (0 ∷ 1 ∷ 2 ∷ [])

-- the case with what the definitions give
unfoldable pub reckoned_queue : QueueCase → QueueCase
reckoned_queue (takes labels states p c d) = takes labels states p (least_below labels states p 3) (meaning (least_of (numbers_of_three labels states p)))

-- ---- the proof, by computation
pub queue_cases_hold : map reckoned_queue queue_cases ≡ queue_cases
unfolding reckoned_queue least_below lower meaning least_of waiting_number code key_in up
queue_cases_hold = refl
