-- Cases of when a search at a cap stops and of what it answers: who makes a turn too many or too few, who asks whether the search
-- has ended only while turns are left, and who lets the excess be negative, computes something else. Assumes nothing.
use Rattle.std.specs.Prelude.{◌≡◌, refl, [], ◌∷◌, pos, negsuc}
use Rattle.nba.specs.Result.{excess_over}
use Rattle.nba.specs.Search.{none, node}
use Rattle.cap.specs.declared.Course.TheVariants.{Turn, Ended, UsedUp}
use Rattle.cap.specs.Stop.{course_of}

-- both sides have a node: the last turn of a cap of 3, and none after it; none at all at cap 0. A side has none: the search has
-- ended, after the last turn of the cap as before it
pub courses_computed :
    course_of (node 4 (pos 7)) (node 5 (pos 9)) 2 3 ∷ course_of (node 4 (pos 7)) (node 5 (pos 9)) 3 3 ∷ course_of (node 4 (pos 7)) (node 5 (pos 9)) 0 0
    ∷ course_of none (node 5 (pos 9)) 3 3 ∷ course_of (node 4 (pos 7)) none 3 3 ∷ course_of none none 1 3 ∷ []
    ≡ Turn 4 5 ∷ UsedUp ∷ UsedUp ∷ Ended ∷ Ended ∷ Ended ∷ []
unfolding course_of
courses_computed = refl

-- D5 at cap 2 and at cap 3; the one number is the largest, then the other, then 0; the largest is the length itself, or above it
pub excesses_computed :
    excess_over 4 (pos 1) (pos 1) ∷ excess_over 3 (pos 2) (pos 1) ∷ excess_over 9 (pos 6) (pos 2) ∷ excess_over 9 (pos 2) (pos 6) ∷ excess_over 9 (negsuc 4) (negsuc 0)
    ∷ excess_over 9 (pos 9) (pos 0) ∷ excess_over 9 (pos 0) (pos 12) ∷ []
    ≡ 3 ∷ 1 ∷ 3 ∷ 3 ∷ 9 ∷ 0 ∷ 0 ∷ []
unfolding excess_over
excesses_computed = refl
