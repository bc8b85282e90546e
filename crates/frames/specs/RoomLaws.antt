-- Texts laid part by part. A text is underway in a room while its first entries stand at the front, the rest is still to come,
-- and nothing beyond has changed; each writer takes it one part further. Assumes nothing.
use Rattle.std.specs.Prelude.{◌≡◌, refl, Bool, true, false, cond, ℕ, suc, ◌+◌, ◌-◌, ◌<◌, ◌≤◌, leb, set}
use Rattle.std.proofs.Common.{sym, ap, ◌∙◌, arith, le_refl, add-one, length-append, length-set, take-append-drop, take_at, drop_at, take-suc-set, drop-set-lt, length-take-le, le-leb, leb-true, List, [], ◌∷◌, ◌++◌, append_assoc, append-nil}
use Rattle.std.proofs.Math.ListN.{length, take, drop, length-drop, drop_of_length-le}
use Rattle.std.proofs.Math.Seq.{drop-drop, take_all}
use Rattle.std.proofs.lemmas.Bool.{lt-leb}
use Rattle.frames.specs.Room.{laid, placed, counted, Laid, Placed}

-- `at` entries of the text stand at the front of the room, `left` is still to come, and the room was `old`
pub record Underway (text old room : List ℕ) (at : ℕ) (left : List ℕ) : Type 0 where
  pub front : take at room ++ left ≡ text
  pub back : drop at room ≡ drop at old
  pub size : length room ≡ length old
  pub fits : at + length left ≤ length room

-- a text that fits where it was to be placed is laid there
pub placed_laid : (text room after : List ℕ) (n : ℕ) → length text ≤ length room → Placed text room after n → Laid text room after n
unfolding placed counted
placed_laid text room after n fits p = record { count_is = p.count_is ∙ rw (le-leb _ _ fits); room_is = p.room_is ∙ rw (le-leb _ _ fits) }

-- what is counted of a text that was to be placed lies within the room
pub placed_within : {text room after : List ℕ} {n : ℕ} → Placed text room after n → n ≤ length room
unfolding counted
placed_within {text} {room} p = rw p.count_is (within (leb (length text) (length room)) refl)
  where
    within : (b : Bool) → leb (length text) (length room) ≡ b → cond b (length text) 0 ≤ length room
    within true e = leb-true _ _ e
    within false e = omega arith

-- a part lent from a place on has the room that is left there
pub length_rest : (room : List ℕ) (at : ℕ) → length (take (length room - at) (drop at room)) ≡ length room - at
length_rest room at =
    let short : length (drop at room) ≤ length room - at = rw length-drop (le_refl _) in
    rw (take_all (length room - at) (drop at room) short, length-drop)

pub lent_room : (room : List ℕ) (at n : ℕ) → at + n ≤ length room → n ≤ length (take (length room - at) (drop at room))
lent_room room at n h = rw (length_rest room at) (omega arith)

-- nothing is written yet
pub underway_start : (text room : List ℕ) → length text ≤ length room → Underway text room room 0 text
underway_start text room h = record { front = refl; back = refl; size = refl; fits = omega arith }

-- one entry more is written
pub underway_entry : (text old room : List ℕ) (at b : ℕ) (left : List ℕ) → Underway text old room at (b ∷ left) → Underway text old (set room at b) (at + 1) left
underway_entry text old room at b left u =
    let h : at < length room = omega arith in
    record {
      front = rw (add-one, take-suc-set room at b, append_assoc) u.front;
      back = rw (add-one, drop-set-lt (suc at) room at b (le_refl (suc at))) (after u.back);
      size = simp length-set u.size;
      fits = simp length-set (omega arith);
    }
  where
    after : drop at room ≡ drop at old → drop (suc at) room ≡ drop (suc at) old
    after e = rw (← add-one, ← drop-drop, ← drop-drop) (ap (drop 1) e)

-- one part more is laid in the room that is left, which was lent from `at` on and came home as `ys`
module _ (text old room : List ℕ) (at : ℕ) (part left ys : List ℕ) (u : Underway text old room at (part ++ left)) (ys_is : ys ≡ laid part (take (length room - at) (drop at room))) where
  room_left : at + length part + length left ≤ length room
  room_left = omega (arith, u.fits, length-append part left)

  home : take at room ++ (ys ++ drop (length room - at) (drop at room)) ≡ (take at room ++ part) ++ drop (at + length part) room
  unfolding laid
  home =
      let short : length (drop at room) ≤ length room - at = rw length-drop (le_refl _) in
      let whole : take (length room - at) (drop at room) ≡ drop at room = take_all (length room - at) (drop at room) short in
      let none : drop (length room - at) (drop at room) ≡ [] = drop_of_length-le (drop at room) short in
      rw (ys_is, none, append-nil, whole, drop-drop, append_assoc)

  front_length : length (take at room ++ part) ≡ at + length part
  front_length = simp length-append (omega (arith, length-take-le at room (omega (arith, room_left))))

  pub underway_more : Underway text old (take at room ++ (ys ++ drop (length room - at) (drop at room))) (at + length part) left
  underway_more =
      let l : length ((take at room ++ part) ++ drop (at + length part) room) ≡ length room = simp (length-append (take at room ++ part), length-drop) (omega (arith, front_length, room_left)) in
      rw home
      (record {
        front = rw (take_at (take at room ++ part) _ (at + length part) front_length, append_assoc) u.front;
        back = rw (drop_at (take at room ++ part) _ (at + length part) front_length, ← drop-drop, ← drop-drop) (ap (drop (length part)) u.back);
        size = l ∙ u.size;
        fits = omega (arith, l, room_left);
      })

-- all is written
pub underway_end : (text old room : List ℕ) (at : ℕ) → Underway text old room at [] → Laid text old room at
unfolding laid
underway_end text old room at u =
    let all : take at room ≡ text = sym (append-nil (take at room)) ∙ u.front in
    let n : length text ≡ at = ap length (sym all) ∙ length-take-le at room (omega arith) in
    record {
      count_is = sym n;
      room_is = sym (take-append-drop at room) ∙ rw (all, u.back, n);
    }

-- a text that was laid where it fits is placed, and one that does not fit leaves the room as it is
pub laid_placed : (text room after : List ℕ) (count : ℕ) → length text ≤ length room → Laid text room after count → Placed text room after count
unfolding placed counted
laid_placed text room after count h l = record { count_is = rw (le-leb _ _ h) l.count_is; room_is = rw (le-leb _ _ h) l.room_is }

pub too_little_room : (text room : List ℕ) → length room < length text → Placed text room room 0
unfolding placed counted
too_little_room text room h = record { count_is = rw (lt-leb _ _ h); room_is = rw (lt-leb _ _ h) }

pub nothing_placed : (room : List ℕ) → Placed [] room room 0
unfolding laid
nothing_placed room = laid_placed [] room room 0 (omega arith) (record { count_is = refl; room_is = refl })

-- what two writers of a text leave in the same room, and what they count, are the same
pub placed_once :
    (text room after after' : List ℕ) (count count' : ℕ)
    → Placed text room after count
    → Placed text room after' count'
    → (count ≡ count') × (after ≡ after')
placed_once text room after after' count count' p q = (p.count_is ∙ sym q.count_is, p.room_is ∙ sym q.room_is)
