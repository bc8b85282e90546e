-- The tests on bare numbers are those that `nba` makes of a search's state. Assumes nothing.
use Rattle.std.specs.Prelude.{◌≡◌, refl, List, ℕ, ℤ, get_or}
use Rattle.network.specs.Network.{Side, other}
use Rattle.network.specs.Potential.{potential_at}
use Rattle.network.specs.Query.{Query, potentials}
use Rattle.nba.specs.State.{missing, State, half, label_of}
use Rattle.nba.specs.Search.{key_of, target, rejected}
use Rattle.steps.specs.Steps.{key_for, rejects}

-- step 3
pub key_of_is_key_for : (labels : List ℕ) (p : List ℤ) (v : ℕ) → key_of labels p v ≡ key_for (get_or labels v missing) (potential_at p v)
key_of_is_key_for labels p v = refl

-- step 4
pub rejected_is_rejects : (q : Query) (s : Side) (st : State) (u : ℕ)
    → rejected q s st u
    ≡ rejects st.best (label_of s st u) (potential_at (potentials s q) u) (potential_at (potentials s q) (target q s)) (half (other s) st).floor (potential_at (potentials (other s) q) u)
unfolding rejected rejects
rejected_is_rejects q s st u = refl
