-- A listing beside the one in which an arc is taken away and stands at none of the nodes: it is that one with the arc put in at
-- its place. So the listings before and after a move are compared, by the one that both of them have in common. Assumes nothing.
use Rattle.std.specs.Prelude.{◌≡◌, refl, ◌≢◌, [], ◌∷◌, ◌++◌, ℕ, zero, suc, ◌+◌, ◌<◌, ◌≤◌, eqb, length}
use Rattle.std.specs.List.{insert}
use Rattle.std.proofs.Common.{sym, ap, ap₂, ◌∙◌, arith, ne_eqb}
use Rattle.std.proofs.lemmas.List.Edits.{insert_end, insert-append_left}
use Rattle.network.specs.CaseSplit.{by_eq}
use Rattle.listing.specs.Listing.{listed_at, node_by_node, count_before}
use Rattle.listing.specs.ListingLaws.{listed_same, listed_other, length_rises, before_next, before_rises, length_by_node}
use Rattle.relist.specs.Inner.{one_after}
use Rattle.relist.specs.InnerLaws.{insert_second, length_insert, after_not, after_own, after_other}

-- arc a, one of m, is listed at one of n nodes, and when it is taken away at none; the other arcs stay
pub record Away (m n a : ℕ) (at off : ℕ → ℕ) : Type 0 where
  pub arc : a < m
  pub home : at a < n
  pub away : n ≤ off a
  pub others : (b : ℕ) → b ≢ a → off b ≡ at b

module _ {m n a : ℕ} {at off : ℕ → ℕ} (s : Away m n a at off) where
  -- ---- the arcs of a node
  same_tests : (w b : ℕ) → ((c : ℕ) → c < b → eqb (at c) w ≡ eqb (off c) w) → listed_at at w b ≡ listed_at off w b
  unfolding listed_at
  same_tests w zero e = refl
  same_tests w (suc b) e = rw (same_tests w b (λ c h. e c (omega arith)), e b (omega arith))

  other_test : (w c : ℕ) → c ≢ a → eqb (at c) w ≡ eqb (off c) w
  other_test w c d = ap (λ k. eqb k w) (sym (s.others c d))

  -- those below a
  pub listed_below : (w b : ℕ) → b ≤ a → listed_at at w b ≡ listed_at off w b
  listed_below w b h = same_tests w b (λ c i. other_test w c (λ z. omega arith))

  -- those of a node that is not arc a's
  listed_elsewhere : (w b : ℕ) → w < n → w ≢ at a → listed_at at w b ≡ listed_at off w b
  listed_elsewhere w b h d =
      same_tests w b
      (λ c i. by_eq c a
      (λ z. rw (z, ne_eqb (at a) w (λ y. d (sym y)), ne_eqb (off a) w (λ y. omega (arith, s.away))))
      (other_test w c))

  -- those of arc a's
  listed_home : (b : ℕ) → a < b → listed_at at (at a) b ≡ insert (listed_at off (at a) b) (length (listed_at off (at a) a)) a
  listed_home zero h = absurd (omega arith)
  listed_home (suc b) h =
      let u = at a in
      let k = length (listed_at off u a) in
      by_eq b a
      (λ z. rw z (listed_same at u a refl ∙ ap (λ l. l ++ (a ∷ [])) (listed_below u a (omega arith))
      ∙ sym (ap (λ l. insert l k a) (listed_other off u a (λ y. omega (arith, s.away, s.home))) ∙ insert_end (listed_at off u a) a)))
      (λ z. let rest = listed_home b (omega arith) in
      by_eq (at b) u
      (λ y. listed_same at u b y ∙ ap (λ l. l ++ (b ∷ [])) rest
      ∙ sym (ap (λ l. insert l k a) (listed_same off u b (s.others b z ∙ y)) ∙ insert-append_left (listed_at off u b) (b ∷ []) k a (length_rises off u a b (omega arith))))
      (λ y. listed_other at u b y ∙ rest ∙ sym (ap (λ l. insert l k a) (listed_other off u b (λ x. y (sym (s.others b z) ∙ x))))))

  -- ---- where they begin: one later after arc a's node
  pub before_with : (w : ℕ) → w ≤ n → count_before at m w ≡ count_before off m w + one_after (at a) w
  unfolding count_before
  before_with zero h = omega (arith, after_not (at a) 0 (omega arith))
  before_with (suc w) h =
      let before = before_with w (omega arith) in
      by_eq w (at a)
      (λ z. omega (arith, before, ap (λ u. length (listed_at at u m)) z, ap (λ u. length (listed_at off u m)) z, ap length (listed_home m s.arc), length_insert (length (listed_at off (at a) a)) a (listed_at off (at a) m), after_not (at a) w (omega arith), after_own (at a) w z))
      (λ d. omega (arith, before, ap length (listed_elsewhere w m (omega arith) d), after_other (at a) w d))

  -- the place of arc a at node w
  place_is : (w : ℕ) → w ≤ n → count_before at m w + length (listed_at at w a) ≡ count_before off m w + length (listed_at off w a) + one_after (at a) w
  place_is w h = omega (arith, before_with w h, ap length (listed_below w a (omega arith)))

  -- ---- node by node
  by_node_before : (w : ℕ) → w ≤ at a → node_by_node at m w ≡ node_by_node off m w
  unfolding node_by_node
  by_node_before zero h = refl
  by_node_before (suc w) h = ap₂ (λ x y. x ++ y) (by_node_before w (omega arith)) (listed_elsewhere w m (omega (arith, s.home)) (λ z. omega arith))

  by_node_after : (w : ℕ) → at a < w → w ≤ n
      → node_by_node at m w ≡ insert (node_by_node off m w) (count_before off m (at a) + length (listed_at off (at a) a)) a
  unfolding node_by_node
  by_node_after zero h k = absurd (omega arith)
  by_node_after (suc w) h k =
      let u = at a in
      let below = length (listed_at off u a) in
      by_eq w u
      (λ z. rw z (ap₂ (λ x y. x ++ y) (by_node_before u (omega arith)) (listed_home m s.arc)
      ∙ sym (insert_second below a (node_by_node off m u) (listed_at off u m) (count_before off m u + below) (omega (arith, length_by_node off m u)))))
      (λ d. ap₂ (λ x y. x ++ y) (by_node_after w (omega arith) (omega arith)) (listed_elsewhere w m (omega arith) d)
      ∙ sym (insert-append_left (node_by_node off m w) (listed_at off w m) (count_before off m u + below) a
      (omega (arith, length_rises off u a m (omega (arith, s.arc)), before_next off m u, before_rises off m (suc u) w (omega arith), length_by_node off m w))))

  -- THE LAW OF AN ARC TAKEN AWAY
  pub by_node_with : node_by_node at m n ≡ insert (node_by_node off m n) (count_before at m (at a) + length (listed_at at (at a) a)) a
  by_node_with =
      let same : count_before off m (at a) + length (listed_at off (at a) a) ≡ count_before at m (at a) + length (listed_at at (at a) a) =
      omega (arith, place_is (at a) (omega (arith, s.home)), after_not (at a) (at a) (omega arith)) in
      by_node_after n s.home (omega arith) ∙ ap (λ k. insert (node_by_node off m n) k a) same
