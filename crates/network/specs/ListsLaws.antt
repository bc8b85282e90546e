-- That lists which are lent stay the same from call to call. Assumes nothing.
use Rattle.std.specs.Prelude.{◌≡◌, ℕ}
use Rattle.std.proofs.Common.{◌∙◌}

-- what a list is called and how long it is, before one call, between the two and after the other
pub same_still : {x y z l m n : ℕ} → (y ≡ x) × (m ≡ l) → (z ≡ y) × (n ≡ m) → (z ≡ x) × (n ≡ l)
same_still first second = (second.0 ∙ first.0, second.1 ∙ first.1)
