-- Each public function's contract admits a single answer: whatever two runs on the same input return and leave in the lent
-- list, they are the same. Assumes nothing.
use Rattle.std.specs.Prelude.{◌≡◌, List, ℕ, length, replicate, set}
use Rattle.std.proofs.Common.{sym, ◌∙◌}
use Rattle.least.specs.Tournament.{TournamentOf, least_of, no_number, numbers_in}
use Rattle.least.specs.TournamentLaws.{one_list}

module _ (list₀ : List ℕ) where
  pub clear_one_answer : (list list' : List ℕ)
      → list ≡ replicate (length list₀) no_number
      → list' ≡ replicate (length list₀) no_number
      → list ≡ list'
  clear_one_answer list list' e f = e ∙ sym f

  pub put_one_answer : (v x : ℕ) (list list' : List ℕ)
      → TournamentOf (set (numbers_in list₀) v x) list
      → TournamentOf (set (numbers_in list₀) v x) list'
      → list ≡ list'
  put_one_answer v x list list' s t = one_list s t

  pub least_one_answer : (r s : ℕ) → r ≡ least_of (numbers_in list₀) → s ≡ least_of (numbers_in list₀) → r ≡ s
  least_one_answer r s e f = e ∙ sym f
