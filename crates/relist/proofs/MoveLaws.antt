-- Laws of the begins while an arc moves from node to node: they are gone through from the part right after the earlier one of the two
-- nodes to that of the other. Assumes nothing.
use Rattle.std.specs.Prelude.{◌≡◌, List, ◌++◌, ℕ, ◌+◌, ◌-◌, ◌<◌, ◌≤◌, min, max, length, get_or, set, take, drop}
use Rattle.std.proofs.Common.{ap, ◌∙◌, arith, length-append, length-drop, length-set, get_or-take, get_or-drop, get_or-set_same, get_or-set_other}
use Rattle.std.proofs.Math.ListN.{get_or-append}
use Rattle.std.proofs.lemmas.List.{length-take-le, get_or-append_right}
use Rattle.network.specs.CaseSplit.{by_eq, by_lt}
use Rattle.relist.specs.Inner.{one_after, ArcMoved}
use Rattle.relist.specs.InnerLaws.{after_is, after_not}

-- of the entries that are gone through the first i are as after the move, the others as in the list l, where they are those from
-- `first` on
pub record Moving (u v first i : ℕ) (l items : List ℕ) : Type 0 where
  pub moved : (k : ℕ) → k < i → get_or items k 0 + one_after u (first + k) ≡ get_or l (first + k) 0 + one_after v (first + k)
  pub others : (k : ℕ) → i ≤ k → k < length items → get_or items k 0 ≡ get_or l (first + k) 0

module _ {u v first i : ℕ} {l items : List ℕ} (s : Moving u v first i l items) (inside : i < length items) where
  moving_set : (x : ℕ) → x + one_after u (first + i) ≡ get_or l (first + i) 0 + one_after v (first + i) → Moving u v first (i + 1) l (set items i x)
  moving_set x e = record {
    moved = λ k h.
        by_eq k i
        (λ z. rw (z, get_or-set_same items i x 0 inside) e)
        (λ d. rw (get_or-set_other items i k x 0 d) (s.moved k (omega arith)));
    others = λ k h j. get_or-set_other items i k x 0 (λ z. omega arith) ∙ s.others k (omega arith) (omega (arith, length-set items i x));
  }

  -- towards a later node it becomes one less
  pub moving_earlier : u < first → first + i ≤ v → 0 < get_or items i 0 → Moving u v first (i + 1) l (set items i (get_or items i 0 - 1))
  moving_earlier h k some =
      moving_set (get_or items i 0 - 1) (omega (arith, some, s.others i (omega arith) inside, after_is u (first + i) (omega arith), after_not v (first + i) k))

  -- towards an earlier node one more
  pub moving_later : v < first → first + i ≤ u → Moving u v first (i + 1) l (set items i (get_or items i 0 + 1))
  moving_later h k =
      moving_set (get_or items i 0 + 1) (omega (arith, s.others i (omega arith) inside, after_is v (first + i) (omega arith), after_not u (first + i) k))

-- with all of them gone through the arc is moved
module _ {u v first n : ℕ} {l items : List ℕ} (from : first ≡ min u v + 1) (to : first + n ≡ max u v + 1) (room : first + n ≤ length l) (long : length items ≡ n) (s : Moving u v first n l items) where
  front : length (take first l) ≡ first
  front = length-take-le first l (omega arith)

  before : (w : ℕ) → w < first → get_or (take first l ++ (items ++ drop n (drop first l))) w 0 + one_after u w ≡ get_or l w 0 + one_after v w
  before w h = omega (arith, get_or-append (take first l) (items ++ drop n (drop first l)) 0 w (omega (arith, front)), get_or-take first l w 0 h, after_not u w (omega arith), after_not v w (omega arith))

  between : (w : ℕ) → first ≤ w → w < first + n → get_or (take first l ++ (items ++ drop n (drop first l))) w 0 + one_after u w ≡ get_or l w 0 + one_after v w
  between w h k =
      let there : first + (w - first) ≡ w = omega arith in
      let moved = rw there at (s.moved (w - first) (omega arith)) in
      omega (arith, get_or-append_right (take first l) (items ++ drop n (drop first l)) first w 0 front h, get_or-append items (drop n (drop first l)) 0 (w - first) (omega arith), moved)

  beyond : (w : ℕ) → first + n ≤ w → get_or (take first l ++ (items ++ drop n (drop first l))) w 0 + one_after u w ≡ get_or l w 0 + one_after v w
  beyond w h =
      let there : first + (n + (w - first - n)) ≡ w = omega arith in
      omega (
        arith,
        get_or-append_right (take first l) (items ++ drop n (drop first l)) first w 0 front (omega arith),
        get_or-append_right items (drop n (drop first l)) n (w - first) 0 long (omega arith),
        get_or-drop n (drop first l) (w - first - n) 0,
        get_or-drop first l (n + (w - first - n)) 0,
        ap (λ j. get_or l j 0) there,
        after_is u w (omega arith),
        after_is v w (omega arith),
      )

  pub moving_all : ArcMoved u v l (take first l ++ (items ++ drop n (drop first l)))
  moving_all = record {
    long = omega (arith, length-append (take first l) (items ++ drop n (drop first l)), length-append items (drop n (drop first l)), front, length-drop n (drop first l), length-drop first l);
    each = λ w. by_lt w first (before w) (λ h. by_lt w (first + n) (between w h) (beyond w));
  }
