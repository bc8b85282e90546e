-- Each public function's contract admits a single answer: whatever two runs on the same input return and leave in the lent list,
-- they are the same. Assumes nothing.
use Rattle.std.specs.Prelude.{◌≡◌, List, ℕ, ℤ, Option}
use Rattle.std.proofs.Common.{sym, ◌∙◌}
use Rattle.least.specs.TournamentLaws.{one_list}
use Rattle.steps.specs.declared.Candidate.{Candidate}
use Rattle.steps.specs.Steps.{meant}
use Rattle.steps.specs.OneAnswer.{same_candidate}
use Rattle.queue.specs.Queue.{Entered, LeftQueue, BegunQueue, next_in}

-- `begin_queue`
pub begin_queue_one_answer : (before list list' : List ℕ) (v : ℕ) (potential : ℤ) → BegunQueue v potential before list → BegunQueue v potential before list' → list ≡ list'
begin_queue_one_answer before list list' v potential s t = one_list s t

-- `enter`
pub enter_one_answer : (before list list' : List ℕ) (v label : ℕ) (potential : ℤ) → Entered v label potential before list → Entered v label potential before list' → list ≡ list'
enter_one_answer before list list' v label potential s t = one_list s t

-- `leave`
pub leave_one_answer : (before list list' : List ℕ) (v : ℕ) → LeftQueue v before list → LeftQueue v before list' → list ≡ list'
leave_one_answer before list list' v s t = one_list s t

-- `next_node`
pub next_node_one_answer : (list : List ℕ) (r s : Option Candidate) → meant r ≡ next_in list → meant s ≡ next_in list → r ≡ s
next_node_one_answer list r s e f = same_candidate r s (e ∙ sym f)
