-- The search as the code makes it. The rules (docs/RULES.md, step 5) ask what is missing; the code asks no such question, it
-- compares with the mark that stands for what is missing, which is more than any label and any sum of labels, and it adds two
-- labels only where one has fallen. `ByMarkLaws` proves that this is the same search. Assumes nothing.
use Rattle.std.specs.Prelude.{cond, ◌&&◌, List, [], ◌∷◌, ℕ, zero, suc, ◌+◌, eqb, ltb, get_or, set}
use Rattle.network.specs.Network.{Side, other, Network, far, weight}
use Rattle.network.specs.Query.{Query, side_of_turn}
use Rattle.nba.specs.State.{missing, State, half, undecided, opened_by}
use Rattle.nba.specs.Search.{at_beginning, Chosen, none, node, candidate, ended, rejected, arcs_of, Reach, after_reach, reach_of, rejecting}

-- node v gets label l and neighbour u; if the sum of its two labels is less than the best length, the sum becomes the best
-- length and v the meeting node (a missing label makes a sum that is less than no best length)
unfoldable pub label_by_mark : List ℕ → ℕ → ℕ → ℕ → Reach → Reach
label_by_mark theirs u v l r =
    let met = ltb (l + get_or theirs v missing) r.best in
    record {
      labels = set r.labels v l;
      neighbours = set r.neighbours v u;
      best = cond met (l + get_or theirs v missing) r.best;
      meeting = cond met v r.meeting;
    }

-- arc a is looked at from u: a far node still undecided gets the label of u plus the weight if that is less than its label
-- (a missing label is more than any)
unfoldable pub look_by_mark : Side → Network → List ℕ → List ℕ → ℕ → ℕ → Reach → Reach
look_by_mark s g theirs states u a r =
    let l = get_or r.labels u missing + weight g a in
    cond (eqb (get_or states (far s g a) 0) undecided && ltb l (get_or r.labels (far s g a) missing))
    (label_by_mark theirs u (far s g a) l r)
    r

-- the arcs of a list are looked at one after the other
unfoldable pub look_each_by_mark : Side → Network → List ℕ → List ℕ → ℕ → List ℕ → Reach → Reach
look_each_by_mark s g theirs states u [] r = r
look_each_by_mark s g theirs states u (a ∷ rest) r = look_each_by_mark s g theirs states u rest (look_by_mark s g theirs states u a r)

-- u is opened
unfoldable pub opening_by_mark : Query → Side → ℕ → State → State
opening_by_mark q s u st =
    let states = set st.states u (opened_by s) in
    after_reach q s st states
    (look_each_by_mark s q.network (half (other s) st).labels states u (arcs_of s q.network u) (reach_of s st))

abbrev pub takes_by_mark : Query → Side → Chosen → State → State
takes_by_mark q s none st = st
takes_by_mark q s (node u k) st = cond (rejected q s st u) (rejecting q s u st) (opening_by_mark q s u st)

-- side s takes its candidate
unfoldable pub turn_by_mark : Query → Side → State → State
turn_by_mark q s st = takes_by_mark q s (candidate q s st) st

-- the state after i turns
unfoldable pub after_turns_by_mark : Query → ℕ → State
after_turns_by_mark q zero = at_beginning q
after_turns_by_mark q (suc i) =
    let st = after_turns_by_mark q i in
    cond (ended q st) st (turn_by_mark q (side_of_turn q.pattern i) st)
