-- What each stop says of the candidates and the turns; and each public function's contract admits a single answer. Assumes nothing.
use Rattle.std.specs.Prelude.{◌≡◌, refl, Bool, true, false, cond, ◌||◌, ℕ, ◌<◌, ◌≤◌, ltb, ℤ, ◌-ℤ◌, Option}
use Rattle.std.proofs.Common.{sym, ◌∙◌, ltb-true, ltb-false}
use Rattle.network.specs.declared.Answer.{Answer}
use Rattle.network.specs.declared.Figures.{Figures}
use Rattle.nba.specs.Result.{excess_over}
use Rattle.nba.specs.Search.{Chosen, none, node, is_none}
use Rattle.steps.specs.declared.Candidate.{Candidate}
use Rattle.steps.specs.Steps.{meant}
use Rattle.cap.specs.declared.Course.{Course}
use Rattle.cap.specs.declared.Course.TheVariants.{Turn, Ended, UsedUp}
use Rattle.cap.specs.Stop.{course_of, with_length, without_length}

-- ---- what each course says
-- a turn: each side has the node that it may take, and turns are left
pub record Turning (c d : Chosen) (turns cap a b : ℕ) : Type 0 where
  pub own_key : ℤ
  pub own_takes : c ≡ node a own_key
  pub other_key : ℤ
  pub other_takes : d ≡ node b other_key
  pub turns_left : turns < cap

-- the turns are used up: both have one, and as many turns were made as the cap allows
pub record OutOfTurns (c d : Chosen) (turns cap : ℕ) : Type 0 where
  pub both : (is_none c || is_none d) ≡ false
  pub no_turns : cap ≤ turns

-- both have one: the turns decide
by_turns : {P : Type 0} (turns cap : ℕ) {x y r : Course} → cond (ltb turns cap) x y ≡ r → (turns < cap → x ≡ r → P) → (cap ≤ turns → y ≡ r → P) → P
by_turns {P} turns cap {x} {y} {r} e f g = by (ltb turns cap) refl e
  where
    by : (t : Bool) → ltb turns cap ≡ t → cond t x y ≡ r → P
    by true h i = f (ltb-true turns cap h) i
    by false h i = g (ltb-false turns cap h) i

pub turn_says : (c d : Chosen) (turns cap : ℕ) {a b : ℕ} → course_of c d turns cap ≡ Turn a b → Turning c d turns cap a b
unfolding course_of
turn_says none d turns cap e = cc
turn_says (node v k) none turns cap e = cc
turn_says (node v k) (node w j) turns cap {a} {b} e =
    by_turns turns cap e
    (λ h i.
    let mine : v ≡ a = cc in
    let yours : w ≡ b = cc in
    record { own_key = k; own_takes = rw mine; other_key = j; other_takes = rw yours; turns_left = h })
    (λ h i. cc)

pub ended_says : (c d : Chosen) (turns cap : ℕ) → course_of c d turns cap ≡ Ended → (is_none c || is_none d) ≡ true
unfolding course_of
ended_says none d turns cap e = refl
ended_says (node v k) none turns cap e = refl
ended_says (node v k) (node w j) turns cap e =
    by_turns turns cap e
    (λ h i. cc)
    (λ h i. cc)

pub used_up_says : (c d : Chosen) (turns cap : ℕ) → course_of c d turns cap ≡ UsedUp → OutOfTurns c d turns cap
unfolding course_of
used_up_says none d turns cap e = cc
used_up_says (node v k) none turns cap e = cc
used_up_says (node v k) (node w j) turns cap e =
    by_turns turns cap e
    (λ h i. cc)
    (λ h i. record { both = refl; no_turns = h })

-- ---- one answer
-- `next`
pub next_one_answer : (own other : Option Candidate) (turns cap : ℕ) (r s : Course)
    → r ≡ course_of (meant own) (meant other) turns cap → s ≡ course_of (meant own) (meant other) turns cap → r ≡ s
next_one_answer own other turns cap r s e f = e ∙ sym f

-- `excess`
pub excess_one_answer : (length : ℕ) (floor h beyond k : ℤ) (r s : ℕ)
    → r ≡ excess_over length (floor -ℤ h) (beyond -ℤ k) → s ≡ excess_over length (floor -ℤ h) (beyond -ℤ k) → r ≡ s
excess_one_answer length floor h beyond k r s e f = e ∙ sym f

-- `with_length`
pub with_length_one_answer : (over : Bool) (l x n : ℕ) (f : Figures) (r s : Answer)
    → r ≡ with_length over l x n f → s ≡ with_length over l x n f → r ≡ s
with_length_one_answer over l x n f r s e g = e ∙ sym g

-- `without_length`
pub without_length_one_answer : (over : Bool) (f : Figures) (r s : Answer)
    → r ≡ without_length over f → s ≡ without_length over f → r ≡ s
without_length_one_answer over f r s e g = e ∙ sym g
