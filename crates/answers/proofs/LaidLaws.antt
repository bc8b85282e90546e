-- A text laid after a text: the second writer is lent the room from where the first one ended. Assumes nothing.
use Rattle.std.proofs.Common.{◌≡◌, refl, sym, ap, subst, ◌∙◌, List, [], ◌++◌, ℕ, ◌+◌, ◌-◌, ◌≤◌, length, take, drop, append-nil, length-append, length-drop, take_at, drop_at, arith}
use Rattle.frames.specs.Room.{laid, Laid}
use Rattle.frames.specs.RoomLaws.{Underway, underway_more, underway_end}

-- a text before what follows its length is laid
pub laid_before : (text room : List ℕ) (n : ℕ) → length text ≡ n → text ++ drop n room ≡ laid text room
unfolding laid
laid_before text room n e = rw e

length_laid : (text room : List ℕ) → length text ≤ length room → length (laid text room) ≡ length room
unfolding laid
length_laid text room h = simp (length-append, length-drop) (omega arith)

-- the first part is laid
underway_first : (one two room after : List ℕ) → length one + length two ≤ length room → after ≡ laid one room → Underway (one ++ two) room after (length one) two
unfolding laid
underway_first one two room after h e =
    record {
      front = rw (e, take_at one (drop (length one) room) (length one) refl);
      back = rw (e, drop_at one (drop (length one) room) (length one) refl);
      size = ap length e ∙ simp (length-append, length-drop) (omega arith);
      fits = let l : length after ≡ length room = ap length e ∙ simp (length-append, length-drop) (omega arith) in omega arith;
    }

-- what is left after a first text has room for a second
pub laid_leaves : (one two room xs : List ℕ) (at : ℕ) → length one + length two ≤ length room → Laid one room xs at → at + length two ≤ length xs
laid_leaves one two room xs at h p = omega (arith, p.count_is, ap length p.room_is, length_laid one room (omega arith))

-- a text after a text: the second writer was lent the room from where the first one ended
pub laid_after :
    (one two room xs ys : List ℕ) (at more : ℕ) → length one + length two ≤ length room
    → Laid one room xs at
    → Laid two (take (length xs - at) (drop at xs)) ys more
    → Laid (one ++ two) room (take at xs ++ (ys ++ drop (length xs - at) (drop at xs))) (at + more)
laid_after one two room xs ys at more h p q =
    let first : Underway (one ++ two) room xs (length one) two = underway_first one two room xs h p.room_is in
    let here : Underway (one ++ two) room xs at two = rw (← p.count_is) at first in
    let there : Underway (one ++ two) room xs at (two ++ []) = subst (λ (l : List ℕ). Underway (one ++ two) room xs at l) (sym (append-nil two)) here in
    let both : Underway (one ++ two) room (take at xs ++ (ys ++ drop (length xs - at) (drop at xs))) (at + length two) [] = underway_more (one ++ two) room xs at two [] ys there q.room_is in
    underway_end (one ++ two) room _ (at + more) (rw (← q.count_is) at both)
