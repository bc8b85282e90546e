-- Each public function's contract admits a single answer: whatever two runs on the same input return is the same. Assumes nothing.
use Rattle.std.specs.Prelude.{◌≡◌, refl, Bool, ℕ, ℤ, Option, None, Some}
use Rattle.std.proofs.Common.{sym, ap, ◌∙◌}
use Rattle.nba.specs.Search.{Chosen, none, node, floor_after}
use Rattle.steps.specs.declared.Candidate.{Candidate}
use Rattle.steps.specs.Steps.{meant, key_for, rejects}

-- two candidates of the code that stand for the same one are the same
written : Chosen → Option Candidate
written none = None
written (node v k) = Some (record { node = v; key = k })

written_meant : (c : Option Candidate) → written (meant c) ≡ c
unfolding written
written_meant None = refl
written_meant (Some c) = refl

pub same_candidate : (a b : Option Candidate) → meant a ≡ meant b → a ≡ b
same_candidate a b e = sym (written_meant a) ∙ (ap written e ∙ written_meant b)

-- `key`
pub key_one_answer : (label : ℕ) (potential : ℤ) (r s : ℤ) → r ≡ key_for label potential → s ≡ key_for label potential → r ≡ s
key_one_answer label potential r s e f = e ∙ sym f

-- `reject`
pub reject_one_answer : (best label : ℕ) (own target floor theirs : ℤ) (r s : Bool)
    → r ≡ rejects best label own target floor theirs → s ≡ rejects best label own target floor theirs → r ≡ s
reject_one_answer best label own target floor theirs r s e f = e ∙ sym f

-- `floor_after`
pub floor_after_one_answer : (floor : ℤ) (next : Option Candidate) (r s : ℤ) → r ≡ floor_after floor (meant next) → s ≡ floor_after floor (meant next) → r ≡ s
floor_after_one_answer floor next r s e f = e ∙ sym f
