-- Steps 3 and 4 of a turn (docs/RULES.md, "The search, turn by turn") on bare numbers, and what the code's candidate stands for.
-- Step 6 is `floor_after` of `nba`, which has no lists either. Assumes nothing.
use Rattle.std.specs.Prelude.{Bool, ◌&&◌, ◌||◌, ℕ, ℤ, pos, ◌+ℤ◌, ◌-ℤ◌, Option, None, Some}
use Rattle.std.specs.Int.Signed.{le_z}
use Rattle.nba.specs.State.{present}
use Rattle.nba.specs.Search.{Chosen, none, node}
use Rattle.steps.specs.declared.Candidate.{Candidate}

-- the candidate that the code's stands for
abbrev pub meant : Option Candidate → Chosen
meant None = none
meant (Some c) = node c.node c.key

-- step 3's key on bare numbers: the label plus the side's own potential
abbrev pub key_for : ℕ → ℤ → ℤ
key_for label potential = pos label +ℤ potential

-- the two tests of step 4 on bare numbers: the best length, the label, the own potentials of the node and of the target, the
-- other side's floor and its potential of the node
unfoldable pub rejects : ℕ → ℕ → ℤ → ℤ → ℤ → ℤ → Bool
rejects best label own target floor theirs =
    present best && (le_z (pos best) (key_for label own -ℤ target) || le_z (pos best) ((pos label +ℤ floor) -ℤ theirs))
