-- Laws of a list with an entry taken out or put in, and of the begins while an arc moves from node to node. Assumes nothing.
use Rattle.std.specs.Prelude.{◌≡◌, refl, ◌≢◌, List, [], ◌∷◌, ◌++◌, ℕ, zero, suc, ◌+◌, ◌-◌, ◌<◌, ◌≤◌, length, get_or, take, drop, set}
use Rattle.std.specs.List.{insert, remove}
use Rattle.std.proofs.Common.{sym, ap, ap₂, ◌∙◌, arith, add-one, length-append, length-drop, length-set, get_or-set_same, get_or-set_other, take-suc, take-append-drop, get_or-drop, lt-ltb, le-ltb}
use Rattle.std.proofs.Math.ListN.{length-take}
use Rattle.std.proofs.Math.Seq.{drop-cons}
use Rattle.std.proofs.lemmas.List.{append_assoc, length-take-le, take_at, drop_at}
use Rattle.std.proofs.lemmas.List.Edits.{insert-append_right, remove-append_right, get_or-insert_below, get_or-insert_above}
use Rattle.network.specs.CaseSplit.{by_eq, by_lt}
use Rattle.relist.specs.Inner.{one_after, ArcMoved}

-- ---- entries below a, and one more
pub below_next : (arcs : List ℕ) (from i a : ℕ) → ((j : ℕ) → from ≤ j → j < i → get_or arcs j 0 < a) → get_or arcs i 0 < a
    → (j : ℕ) → from ≤ j → j < i + 1 → get_or arcs j 0 < a
below_next arcs from i a h e j f k = by_eq j i (λ z. rw z e) (λ d. h j f (omega arith))

-- ---- the entry taken out can be the next one if that is copied, or the one before
remove_next : (i : ℕ) (l : List ℕ) → suc i < length l → remove (set l i (get_or l (suc i) 0)) (suc i) ≡ remove l i
remove_next i [] h = absurd (omega arith)
remove_next zero (x ∷ []) h = absurd (omega arith)
remove_next zero (x ∷ y ∷ l) h = refl
remove_next (suc i) (x ∷ l) h = ap (λ t. x ∷ t) (remove_next i l (omega arith))

remove_previous : (i : ℕ) (l : List ℕ) → suc i < length l → remove (set l (suc i) (get_or l i 0)) i ≡ remove l (suc i)
remove_previous i [] h = absurd (omega arith)
remove_previous zero (x ∷ []) h = absurd (omega arith)
remove_previous zero (x ∷ y ∷ l) h = refl
remove_previous (suc i) (x ∷ l) h = ap (λ t. x ∷ t) (remove_previous i l (omega arith))

-- as the places are counted
pub remove_on : (i : ℕ) (l : List ℕ) → i + 1 < length l → remove (set l i (get_or l (i + 1) 0)) (i + 1) ≡ remove l i
remove_on i l h = rw (add-one i) (remove_next i l (omega arith))

pub remove_back : (i : ℕ) (l : List ℕ) → 0 < i → i < length l → remove (set l i (get_or l (i - 1) 0)) (i - 1) ≡ remove l i
remove_back zero l h k = absurd (omega arith)
remove_back (suc i) l h k = let e : suc i - 1 ≡ i = omega arith in rw e (remove_previous i l k)

-- ---- an entry is written: it is taken out and another put in
pub set_is : (i x : ℕ) (l : List ℕ) → i < length l → set l i x ≡ insert (remove l i) i x
set_is i x [] h = absurd (omega arith)
set_is zero x (y ∷ l) h = refl
set_is (suc i) x (y ∷ l) h = ap (λ t. y ∷ t) (set_is i x l (omega arith))

-- ---- an entry put in
pub length_insert : (i x : ℕ) (l : List ℕ) → length (insert l i x) ≡ suc (length l)
length_insert i x l = omega (arith, length-append (take i l) (x ∷ drop i l), length-take i l, length-drop i l)

pub remove_insert : (i x : ℕ) (l : List ℕ) → i ≤ length l → remove (insert l i x) i ≡ l
remove_insert i x l h =
    let long = length-take-le i l h in
    let beyond : drop (suc i) (insert l i x) ≡ drop i l =
    ap (drop (suc i)) (sym (append_assoc (take i l) (x ∷ []) (drop i l)))
    ∙ drop_at (take i l ++ (x ∷ [])) (drop i l) (suc i) (omega (arith, length-append (take i l) (x ∷ []))) in
    ap₂ (λ y z. y ++ z) (take_at (take i l) (x ∷ drop i l) i long) beyond ∙ take-append-drop i l

-- put into the second of two lists
pub insert_second : (i x : ℕ) (l k : List ℕ) (j : ℕ) → j ≡ length l + i → insert (l ++ k) j x ≡ l ++ insert k i x
insert_second i x l k j e =
    let there : j - length l ≡ i = omega arith in
    insert-append_right l k (length l) j x refl (omega arith) ∙ ap (λ m. l ++ insert k m x) there

-- put in at one of two places it leaves the entries before both, and those beyond both
pub insert_same_before : (p q x : ℕ) (l : List ℕ) (j : ℕ) → p ≤ length l → q ≤ length l → j < p → j < q → get_or (insert l p x) j 0 ≡ get_or (insert l q x) j 0
insert_same_before p q x l j h i f g = get_or-insert_below l p x 0 j f h ∙ sym (get_or-insert_below l q x 0 j g i)

pub insert_same_beyond : (p q x : ℕ) (l : List ℕ) (j : ℕ) → p ≤ length l → q ≤ length l → p < j → q < j → get_or (insert l p x) j 0 ≡ get_or (insert l q x) j 0
insert_same_beyond p q x l j h i f g =
    let before : (j - 1) + 1 ≡ j = omega arith in
    rw (sym before) (get_or-insert_above l p x 0 (j - 1) (omega arith) h ∙ sym (get_or-insert_above l q x 0 (j - 1) (omega arith) i))

-- ---- an entry taken out and put in at another place: those between are turned by one place
pub turned_left : (p q : ℕ) (l : List ℕ) → p ≤ q → q < length l
    → let part = take (q + 1 - p) (drop p l) in
    take p l ++ ((drop 1 part ++ take 1 part) ++ drop (q + 1 - p) (drop p l)) ≡ insert (remove l p) q (get_or l p 0)
turned_left p q l h k =
    let x = get_or l p 0 in
    let rest = drop (suc p) l in
    let more : q + 1 - p ≡ suc (q - p) = omega arith in
    rw (more, drop-cons l p 0 (omega arith))
    (ap (λ t. take p l ++ t) (append_assoc (take (q - p) rest) (x ∷ []) (drop (q - p) rest))
    ∙ sym (insert-append_right (take p l) rest p q x (length-take-le p l (omega arith)) h))

pub turned_right : (p q : ℕ) (l : List ℕ) → q ≤ p → p < length l
    → let part = take (p + 1 - q) (drop q l) in
    take q l ++ ((drop (length part - 1) part ++ take (length part - 1) part) ++ drop (p + 1 - q) (drop q l)) ≡ insert (remove l p) q (get_or l p 0)
turned_right p q l h k =
    let x = get_or l p 0 in
    let part = drop q l in
    let n = p - q in
    let more : p + 1 - q ≡ suc n = omega arith in
    let there : q + n ≡ p = omega arith in
    let inside : n < length part = omega (arith, length-drop q l) in
    let last : take (suc n) part ≡ take n part ++ (x ∷ []) =
    take-suc part n 0 inside ∙ ap (λ y. take n part ++ (y ∷ [])) (get_or-drop q l n 0 ∙ ap (λ j. get_or l j 0) there) in
    let long = length-take-le n part (omega arith) in
    let before_last : length (take n part ++ (x ∷ [])) - 1 ≡ n = omega (arith, length-append (take n part) (x ∷ [])) in
    let front = length-take-le q l (omega arith) in
    let gone : remove l p ≡ take q l ++ remove part n =
    ap (λ t. remove t p) (sym (take-append-drop q l)) ∙ remove-append_right (take q l) part q p front h in
    rw (more, last, before_last, drop_at (take n part) (x ∷ []) n long, take_at (take n part) (x ∷ []) n long)
    (sym (ap (λ t. insert t q x) gone ∙ ap₂ (λ y z. y ++ (x ∷ z)) (take_at (take q l) (remove part n) q front) (drop_at (take q l) (remove part n) q front)))

-- ---- nodes after a node
pub after_is : (u w : ℕ) → u < w → one_after u w ≡ 1
unfolding one_after
after_is u w h = rw (lt-ltb u w h)

pub after_not : (u w : ℕ) → w ≤ u → one_after u w ≡ 0
unfolding one_after
after_not u w h = rw (le-ltb u w h)

-- one node further on, the count changes at u itself only
pub after_own : (u w : ℕ) → w ≡ u → one_after u (suc w) ≡ 1
after_own u w e = after_is u (suc w) (omega arith)

pub after_other : (u w : ℕ) → w ≢ u → one_after u (suc w) ≡ one_after u w
after_other u w d =
    by_lt u w (λ h. after_is u (suc w) (omega arith) ∙ sym (after_is u w h))
    (λ h. after_not u (suc w) (by_lt w u (λ k. k) (λ k. absurd (d (omega arith)))) ∙ sym (after_not u w h))

-- a node and the one before it have the same nodes after them, but for itself
after_previous : (w z : ℕ) → 0 < w → z ≢ w → one_after w z ≡ one_after (w - 1) z
after_previous w z h d =
    by_lt w z (λ i. after_is w z i ∙ sym (after_is (w - 1) z (omega arith)))
    (λ i. after_not w z i ∙ sym (after_not (w - 1) z (omega arith)))

-- ---- the begins while an arc moves from node to node
pub moved_none : (u : ℕ) (l : List ℕ) → ArcMoved u u l l
moved_none u l = record { long = refl; each = λ w. refl }

-- one entry is written, and what is asked of the others says what it was
moved_set : {u v u' v' : ℕ} {l₀ l : List ℕ} (k x : ℕ) → k < length l
    → x + one_after u' k ≡ get_or l₀ k 0 + one_after v' k
    → ((w : ℕ) → w ≢ k → one_after u' w ≡ one_after u w)
    → ((w : ℕ) → w ≢ k → one_after v' w ≡ one_after v w)
    → ArcMoved u v l₀ l
    → ArcMoved u' v' l₀ (set l k x)
moved_set {u' = u'} {v' = v'} {l₀ = l₀} {l = l} k x h e f g s = record {
  long = length-set l k x ∙ s.long;
  each = λ w.
      by_eq w k
      (λ z. rw (z, get_or-set_same l k x 0 h) e)
      (λ d. rw (get_or-set_other l k w x 0 d, f w d, g w d) (s.each w));
}

-- an arc on its way from u has come to the node before w: the entry of w is as it was, and with it one less the arc has come to w
module _ {u w : ℕ} {l₀ l : List ℕ} (s : ArcMoved u (w - 1) l₀ l) (h : u < w) where
  pub same_earlier : get_or l w 0 ≡ get_or l₀ w 0
  same_earlier = omega (arith, s.each w, after_is u w h, after_is (w - 1) w (omega arith))

  pub moved_earlier : (x : ℕ) → x + 1 ≡ get_or l w 0 → w < length l → ArcMoved u (w + 1 - 1) l₀ (set l w x)
  moved_earlier x e i =
      let there : w + 1 - 1 ≡ w = omega arith in
      rw there
      (moved_set w x i (omega (arith, same_earlier, after_is u w h, after_not w w (omega arith))) (λ z d. refl) (λ z d. after_previous w z (omega arith) d) s)

-- and if it came from the node before w to v: with that entry one more it came from w
module _ {v w : ℕ} {l₀ l : List ℕ} (s : ArcMoved (w - 1) v l₀ l) (h : v < w) where
  pub same_later : get_or l w 0 ≡ get_or l₀ w 0
  same_later = omega (arith, s.each w, after_is v w h, after_is (w - 1) w (omega arith))

  pub moved_later : w < length l → ArcMoved (w + 1 - 1) v l₀ (set l w (get_or l w 0 + 1))
  moved_later i =
      let there : w + 1 - 1 ≡ w = omega arith in
      rw there
      (moved_set w (get_or l w 0 + 1) i (omega (arith, same_later, after_is v w h, after_not w w (omega arith))) (λ z d. after_previous w z (omega arith) d) (λ z d. refl) s)
