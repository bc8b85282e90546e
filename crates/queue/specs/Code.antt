-- A node and its key as one number: the key, raised so that it is no longer negative, times the most nodes, plus the node. Such
-- numbers compare as their keys, and among equal keys as their nodes. Definitions only. Assumes nothing.
use Rattle.std.specs.Prelude.{cond, ℕ, ◌+◌, ◌*◌, ◌/◌, ◌%◌, ◌^◌, eqb, ℤ, pos, ◌-ℤ◌}
use Rattle.network.specs.Network.{most_nodes}
use Rattle.network.specs.Shift.{up}
use Rattle.nba.specs.Search.{Chosen, none, node}
use Rattle.least.specs.Tournament.{no_number}

-- what a key is raised by: every key is less than this, with either sign
abbrev pub raise : ℕ
raise = 2 ^ 40

-- the code of node v with key k
unfoldable pub code : ℤ → ℕ → ℕ
code k v = up raise k * most_nodes + v

-- the key of a code
unfoldable pub key_in : ℕ → ℤ
key_in x = pos (x / most_nodes) -ℤ pos raise

-- what a number stands for: no node, or the node and the key whose code it is
unfoldable pub meaning : ℕ → Chosen
meaning x = cond (eqb x no_number) none (node (x % most_nodes) (key_in x))
