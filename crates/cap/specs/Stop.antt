-- When a search at a cap stops, and what it then answers (docs/RULES.md, "Capped queries"), on bare values. Assumes nothing.
use Rattle.std.specs.Prelude.{Bool, cond, ℕ, ltb}
use Rattle.network.specs.declared.Answer.{Answer}
use Rattle.network.specs.declared.Answer.TheVariants.{Route, NoRoute, Provisional, Undecided}
use Rattle.network.specs.declared.Figures.{Figures}
use Rattle.nba.specs.Search.{Chosen, none, node}
use Rattle.cap.specs.declared.Course.{Course}
use Rattle.cap.specs.declared.Course.TheVariants.{Turn, Ended, UsedUp}

-- step 2, by what each side would take: a side without a candidate ends the search, whether turns are left or not; otherwise a
-- turn follows as long as fewer were made than the cap allows
unfoldable pub course_of : Chosen → Chosen → ℕ → ℕ → Course
course_of none c turns cap = Ended
course_of (node a k) none turns cap = Ended
course_of (node a k) (node b j) turns cap = cond (ltb turns cap) (Turn a b) UsedUp

-- the answer with a best length
unfoldable pub with_length : Bool → ℕ → ℕ → ℕ → Figures → Answer
with_length over l x n f = cond over (Route l n f) (Provisional l x n f)

-- the answer with none
unfoldable pub without_length : Bool → Figures → Answer
without_length over f = cond over (NoRoute f) (Undecided f)
