-- Laws of entries at a list's front. Assumes nothing.
use Rattle.std.specs.Prelude.{◌≡◌, refl, true, List, [], ◌∷◌, ◌++◌, ℕ, ◌<◌, ◌≤◌, eqb, length, get_or, take, drop}
use Rattle.std.proofs.Common.{sym, ap, ap₂, ◌∙◌, arith, length-append, length-drop, take-append-drop, eqb-true, eq-eqb}
use Rattle.std.proofs.Math.ListN.{get_or-append}
use Rattle.std.proofs.Math.Seq.{take-append_seam, drop-append_seam}
use Rattle.network.specs.CaseSplit.{both_true}
use Rattle.network.specs.Front.{at_front, begins_with}

-- ---- what is at the front
pub take_front : (entries old : List ℕ) → take (length entries) (at_front entries old) ≡ entries
unfolding at_front
take_front entries old = take-append_seam entries (drop (length entries) old)

pub drop_front : (entries old : List ℕ) → drop (length entries) (at_front entries old) ≡ drop (length entries) old
unfolding at_front
drop_front entries old = drop-append_seam entries (drop (length entries) old)

pub get_d_front : (entries old : List ℕ) (i : ℕ) → i < length entries → get_or (at_front entries old) i 0 ≡ get_or entries i 0
unfolding at_front
get_d_front entries old i h = get_or-append entries (drop (length entries) old) 0 i h

pub length_at_front : (entries old : List ℕ) → length entries ≤ length old → length (at_front entries old) ≡ length old
unfolding at_front
length_at_front entries old h = length-append entries (drop (length entries) old) ∙ omega (arith, length-drop (length entries) old)

-- a list whose first entries these are, and whose others those of an older list
pub front_is : (entries old l : List ℕ) (n : ℕ) → length entries ≡ n → take n l ≡ entries → drop n l ≡ drop n old → l ≡ at_front entries old
unfolding at_front
front_is entries old l n long first others =
    sym (take-append-drop n l) ∙ ap₂ (λ x y. x ++ y) first (others ∙ ap (λ k. drop k old) (sym long))

-- entries put at the front twice are there as after once
pub front_twice : (entries old : List ℕ) → at_front entries (at_front entries old) ≡ at_front entries old
unfolding at_front
front_twice entries old = ap (λ l. entries ++ l) (drop_front entries old)

-- ---- what a list begins with
begins_append : (wanted rest : List ℕ) → begins_with wanted (wanted ++ rest) ≡ true
unfolding begins_with
begins_append [] rest = refl
begins_append (x ∷ wanted) rest = rw (eq-eqb x x refl) (begins_append wanted rest)

pub begins_front : (wanted old : List ℕ) → begins_with wanted (at_front wanted old) ≡ true
unfolding at_front
begins_front wanted old = begins_append wanted (drop (length wanted) old)

-- a list that begins with them is itself with them at its front, and only such a list
pub begins_is : (wanted l : List ℕ) → begins_with wanted l ≡ true → l ≡ at_front wanted l
unfolding at_front begins_with
begins_is [] l h = refl
begins_is (x ∷ wanted) [] h = cc
begins_is (x ∷ wanted) (y ∷ l) h =
    both_true (eqb x y) (begins_with wanted l) h (λ p q. ap₂ (λ z t. z ∷ t) (sym (eqb-true x y p)) (begins_is wanted l q))

pub is_begins : (wanted l : List ℕ) → l ≡ at_front wanted l → begins_with wanted l ≡ true
is_begins wanted l e = ap (begins_with wanted) e ∙ begins_front wanted l
