-- Laws of figures and of paths. Assumes nothing.
use Rattle.std.specs.Prelude.{◌≡◌, ◌≢◌, refl, Bool, true, false, cond, not, List, [], ◌∷◌, ◌++◌, ℕ, zero, suc, ◌+◌, ◌-◌, ◌≤◌, ◌<◌, eqb, length, get_or, take, drop, set, replicate, reverse}
use Rattle.std.specs.List.{count_by}
use Rattle.std.proofs.Common.{sym, ap, ◌∙◌, arith, add_assoc, add-zero, add-one, append_assoc, length-append, length-drop, drop-cons, drop-drop}
use Rattle.std.proofs.lemmas.List.{append-nil, take_at, drop_at, take_all, drop_all, set_at, length-reverse, reverse-reverse, take_more, drop-set, get_or_default}
use Rattle.std.proofs.Math.Seq.{drop-length, take-append_seam, drop-append_seam, drop-append-add}
use Rattle.std.proofs.lemmas.Grind.{common_steps}
use Rattle.std.proofs.lemmas.List.Edits.{sets, sets-eq}
use Rattle.std.proofs.lemmas.List.Elements.{All-from_get_or, All-take, All-drop, All-nil, All-cons, All-head, All-tail}
use Rattle.std.proofs.lemmas.List.Recursion.{is_count_by}
use Rattle.std.proofs.lemmas.List.Sorted.{All-permutation, IsPermutation-reverse}
use Rattle.std.proofs.lemmas.List.Sums.{sum_by-append, count_by-le-length}
use Rattle.network.specs.declared.Figures.{Figures}
use Rattle.network.specs.Network.{start, end, most_nodes}
use Rattle.nba.specs.State.{no_node, undecided, opened_by, rejected_by}
use Rattle.nba.specs.Result.{trail, turned_before, path_through, count_of, figures_in}
use Rattle.nba.specs.Why.TrailLaws.{trail_by_neighbour, length_turned_before}
use Rattle.network.specs.Front.{at_front}
use Rattle.tables.specs.Tables.{together, Countable, NodesBelow, PathRoom}

-- ---- filling
-- a list filled to its end is that value, as often as the list is long
pub filled_whole : (i v : ℕ) (l : List ℕ) → i ≡ length l → replicate i v ++ drop i l ≡ replicate (length l) v
filled_whole i v l e = rw (e, drop-length, append-nil)

-- ---- figures
-- how many entries pass a test, in the library's words
count_is : (test : ℕ → Bool) (l : List ℕ) → count_of test l ≡ count_by test l
unfolding count_of
count_is test = is_count_by (count_of test) test refl (λ x l. grind arith)

-- a count is no more than there are entries
count_le_length : (test : ℕ → Bool) (l : List ℕ) → count_of test l ≤ length l
count_le_length test l = rw count_is (count_by-le-length test l)

-- a count over two lists is that of the one and that of the other
count_append : (test : ℕ → Bool) (a b : List ℕ) → count_of test (a ++ b) ≡ count_of test a + count_of test b
count_append test a b = simp count_is (sum_by-append (λ x. cond (test x) 1 0) a b)

-- figures are equal where their four numbers are
figures_equal : {t t' s s' e e' r r' : ℕ} → t ≡ t' → s ≡ s' → e ≡ e' → r ≡ r'
    → ◌≡◌ {A = Figures} (record { turns = t; opened_by_start = s; opened_by_end = e; rejected = r }) (record { turns = t'; opened_by_start = s'; opened_by_end = e'; rejected = r' })
figures_equal a b c d = cc

together_assoc : (f g h : Figures) → together (together f g) h ≡ together f (together g h)
unfolding together
together_assoc f g h = simp add_assoc

-- the figures of no nodes add nothing
pub together_none : (f : Figures) → together f (figures_in []) ≡ f
unfolding together figures_in count_of
together_none f = simp add-zero

-- the figures of a table are those of its two parts
figures_append : (a b : List ℕ) → figures_in (a ++ b) ≡ together (figures_in a) (figures_in b)
unfolding figures_in together
figures_append a b = grind (arith, count_append)

-- one node more is counted
pub figures_more : (states : List ℕ) (i : ℕ) → i < length states → figures_in (take (i + 1) states) ≡ together (figures_in (take i states)) (figures_in (get_or states i 0 ∷ []))
figures_more states i h = rw (take_more states i 0 h) (figures_append _ _)

-- one node more is counted: the figures so far and those of the nodes to come stay the same together
pub count_next : (f g : Figures) (states : List ℕ) (i : ℕ) → i < length states → g ≡ together f (figures_in (get_or states i 0 ∷ []))
    → together g (figures_in (drop (i + 1) states)) ≡ together f (figures_in (drop i states))
count_next f g states i h e =
    rw (e, add-one, together_assoc, drop-cons states i 0, figures_append (get_or states i 0 ∷ []) (drop (suc i) states))

-- figures that are part of those of a table of at most 2,048 nodes are small enough to count on
pub part_countable : (f rest : Figures) (states : List ℕ) → length states ≤ most_nodes → together f rest ≡ figures_in states → Countable f
unfolding together figures_in
part_countable f rest states few e = record {
  turns = omega (arith, ap (λ (g : Figures). g.turns) e, count_le_length (λ x. not (eqb undecided x)) states);
  by_start = omega (arith, ap (λ (g : Figures). g.opened_by_start) e, count_le_length (eqb (opened_by start)) states);
  by_end = omega (arith, ap (λ (g : Figures). g.opened_by_end) e, count_le_length (eqb (opened_by end)) states);
  rejected = omega (arith, ap (λ (g : Figures). g.rejected) e, count_le_length (eqb (rejected_by start)) states, count_le_length (eqb (rejected_by end)) states);
}

-- the figures of at most 2,048 nodes are small enough to count on
pub figures_countable : (states : List ℕ) → length states ≤ most_nodes → Countable (figures_in states)
unfolding figures_in
figures_countable states few = record {
  turns = omega (arith, count_le_length (λ x. not (eqb undecided x)) states);
  by_start = omega (arith, count_le_length (eqb (opened_by start)) states);
  by_end = omega (arith, count_le_length (eqb (opened_by end)) states);
  rejected = omega (arith, count_le_length (eqb (rejected_by start)) states, count_le_length (eqb (rejected_by end)) states);
}

-- ---- nodes
-- a list is of nodes if each of its entries is one
pub nodes_by_entry : (n : ℕ) (l : List ℕ) → ((i : ℕ) → i < length l → get_or l i 0 < n) → NodesBelow n l
nodes_by_entry n l h = All-from_get_or (λ v. v < n) l 0 h

-- ---- trails
-- what is at the front is what is written from the first entry on
pub front_entries : (l old : List ℕ) → length l ≤ length old → sets old 0 l ≡ at_front l old
unfolding at_front
front_entries l old h = grind (arith, sets-eq l old 0)

-- after any other node than the source comes its neighbour, and what comes after that
pub trail_next : (neighbours : List ℕ) (home v k j : ℕ) → v ≢ home → v < length neighbours → k ≡ suc j
    → trail neighbours home k v ≡ get_or neighbours v 0 ∷ trail neighbours home j (get_or neighbours v 0)
trail_next neighbours home v k j away within one_less =
    rw one_less (trail_by_neighbour neighbours home j v _ away (get_or_default neighbours v no_node 0 within))

-- the next k nodes after v, from neighbour to neighbour
unfoldable pub onward : List ℕ → ℕ → ℕ → List ℕ
onward neighbours zero v = []
onward neighbours (suc k) v = get_or neighbours v no_node ∷ onward neighbours k (get_or neighbours v no_node)

module _ (neighbours : List ℕ) (v k j : ℕ) (within : v < length neighbours) (one_less : k ≡ suc j) where
  -- the next nodes are the neighbour and those after it
  pub onward_next : onward neighbours k v ≡ get_or neighbours v 0 ∷ onward neighbours j (get_or neighbours v 0)
  unfolding onward
  onward_next = rw (one_less, get_or_default neighbours v no_node 0 within)

  -- the next node is written backward: with those to come turned round before it, the list is as promised before
  pub back_next : (path : List ℕ) → j < length path
      → turned_before (onward neighbours j (get_or neighbours v 0)) (drop j (set path j (get_or neighbours v 0))) ≡ turned_before (onward neighbours k v) (drop k path)
  unfolding turned_before
  back_next path h = rw (onward_next, one_less, drop-set path j (get_or neighbours v 0) h, add-one)

  -- the next node is written forward: with those to come after it, the list is as promised before
  pub on_next : (path : List ℕ) (at : ℕ) → sets (set path at (get_or neighbours v 0)) (at + 1) (onward neighbours j (get_or neighbours v 0)) ≡ sets path at (onward neighbours k v)
  on_next path at = rw (onward_next, add-one)

-- a trail is as many nodes onward as it is long
trail_onward : (neighbours : List ℕ) (home n v : ℕ) → trail neighbours home n v ≡ onward neighbours (length (trail neighbours home n v)) v
unfolding trail onward
trail_onward neighbours home zero v = refl
trail_onward neighbours home (suc n) v = go (eqb v home) (trail_onward neighbours home n (get_or neighbours v no_node))
  where
    go : (t : Bool) {l : List ℕ} → l ≡ onward neighbours (length l) (get_or neighbours v no_node)
        → cond t [] (get_or neighbours v no_node ∷ l) ≡ onward neighbours (length (cond t [] (get_or neighbours v no_node ∷ l))) v
    go true e = refl
    go false e = ap (λ (l : List ℕ). get_or neighbours v no_node ∷ l) e

pub trail_is : (neighbours : List ℕ) (home n v : ℕ) {k : ℕ} → k ≡ length (trail neighbours home n v) → trail neighbours home n v ≡ onward neighbours k v
trail_is neighbours home n v e = trail_onward neighbours home n v ∙ rw e

-- ---- lists turned round
-- a list turned round before another
turned : (a b : List ℕ) → turned_before a b ≡ reverse a ++ b
unfolding turned_before
turned [] b = refl
turned (x ∷ a) b = turned a (x ∷ b) ∙ grind (arith, common_steps)

-- it is the list turned round, and then the other
turned_append : (a b : List ℕ) → turned_before a b ≡ turned_before a [] ++ b
turned_append a b = rw (turned a b, turned a [], append-nil)

module _ {n : ℕ} where
  -- of a list turned round before another, the other is of nodes, and so is the list
  back_below : (a b : List ℕ) → NodesBelow n (turned_before a b) → NodesBelow n b
  unfolding turned_before
  back_below [] b h = h
  back_below (v ∷ a) b h = All-tail (λ x. x < n) v b (back_below a (v ∷ b) h)

  front_below : (a b : List ℕ) → NodesBelow n (turned_before a b) → NodesBelow n a
  unfolding turned_before
  front_below [] b h = All-nil (λ x. x < n)
  front_below (v ∷ a) b h = All-cons (λ x. x < n) v a (All-head (λ x. x < n) v b (back_below a (v ∷ b) h)) (front_below a (v ∷ b) h)

-- of a list of nodes each part is of nodes
parts_below : {n : ℕ} (a b : List ℕ) → NodesBelow n (a ++ b) → NodesBelow n a × NodesBelow n b
parts_below {n} a b h =
    let below = λ (v : ℕ). v < n in
    (rw take-append_seam at (All-take below (length a) (a ++ b) h), rw drop-append_seam at (All-drop below (length a) (a ++ b) h))

-- ---- paths
-- entries written after those at the front are at the front too
front_more : (a more old : List ℕ) → length a + length more ≤ length old → sets (at_front a old) (length a) more ≡ at_front (a ++ more) old
unfolding at_front
front_more a more old h =
    let fits : length a + length more ≤ length (a ++ drop (length a) old) = simp (length-append, length-drop) (omega arith) in
    sets-eq more (a ++ drop (length a) old) (length a) fits
    ∙ rw (take-append_seam, drop-append-add, drop-drop, length-append, append_assoc)

-- a list written backward to the front, then more: they are at the front, the first turned round
front_turned : (a more old : List ℕ) → length a + length more ≤ length old
    → sets (turned_before a (drop (length a) old)) (length a) more ≡ at_front (turned_before a more) old
unfolding at_front
front_turned a more old h =
    let same : length (turned_before a []) ≡ length a = omega (arith, length_turned_before a []) in
    let fits : length (turned_before a []) + length more ≤ length old = omega arith in
    let done = front_more (turned_before a []) more old fits in
    rw (turned_append a (drop (length a) old), turned_append a more) (rw same at done)

-- the path is the two trails and the meeting node between them
pub path_length : (startward endward : List ℕ) (s e meeting : ℕ)
    → length (path_through startward endward s e meeting) ≡ length (trail startward s (length startward) meeting) + 1 + length (trail endward e (length endward) meeting)
unfolding path_through
path_length startward endward s e meeting = length_turned_before _ _ ∙ omega arith

module _ {path startward endward : List ℕ} {s e meeting : ℕ} (asked : PathRoom path startward endward s e meeting) where
  abbrev start_trail : List ℕ
  start_trail = trail startward s (length startward) meeting

  abbrev end_trail : List ℕ
  end_trail = trail endward e (length endward) meeting

  path_is : path_through startward endward s e meeting ≡ reverse start_trail ++ meeting ∷ end_trail
  unfolding path_through
  path_is = turned start_trail (meeting ∷ end_trail)

  -- from the meeting node on, each side's trail is of nodes
  pub end_trail_below : NodesBelow (length endward) (meeting ∷ end_trail)
  end_trail_below =
      let parts = parts_below (reverse start_trail) (meeting ∷ end_trail) (rw path_is at asked.nodes) in
      rw (← asked.as_many) at parts.1

  pub start_trail_below : NodesBelow (length startward) (meeting ∷ start_trail)
  start_trail_below =
      let below = λ (v : ℕ). v < length startward in
      let parts = parts_below (reverse start_trail) (meeting ∷ end_trail) (rw path_is at asked.nodes) in
      let turned_back : NodesBelow (length startward) (reverse (reverse start_trail)) = All-permutation below _ _ (IsPermutation-reverse (reverse start_trail)) parts.0 in
      All-cons below meeting start_trail (All-head below meeting end_trail parts.1) (rw reverse-reverse at turned_back)

  -- the start side's trail turned round at the front, and the meeting node after it
  pub half_written : (before : ℕ) (first turned_first : List ℕ) → before ≡ length start_trail → first ≡ at_front start_trail path → turned_first ≡ reverse (take before first)
      → set (turned_first ++ drop before first) before meeting ≡ reverse start_trail ++ meeting ∷ drop (before + 1) path
  unfolding at_front
  half_written before first turned_first b f t =
      let fits : length start_trail < length path = omega (arith, path_length startward endward s e meeting) in
      rw (t, f, b, take-append_seam, drop-append_seam, drop-cons path (length start_trail) 0, add-one) (set_at (reverse start_trail) _ _ meeting _ (length-reverse start_trail))

  -- the end side's trail after that: the path
  pub whole_written : (before : ℕ) (half last : List ℕ) → before ≡ length start_trail → half ≡ reverse start_trail ++ meeting ∷ drop (before + 1) path
      → last ≡ at_front end_trail (take (length half - (before + 1)) (drop (before + 1) half))
      → take (before + 1) half ++ (last ++ drop (length half - (before + 1)) (drop (before + 1) half)) ≡ at_front (path_through startward endward s e meeting) path
  unfolding at_front
  whole_written before half last b h l =
      let upto = reverse start_trail ++ meeting ∷ [] in
      let size : length upto ≡ before + 1 = simp (length-append, length-reverse) (omega arith) in
      let parts : half ≡ upto ++ drop (before + 1) path = h ∙ sym (append_assoc (reverse start_trail) (meeting ∷ []) (drop (before + 1) path)) in
      let front : take (before + 1) half ≡ upto = rw parts (take_at upto _ _ size) in
      let back : drop (before + 1) half ≡ drop (before + 1) path = rw parts (drop_at upto _ _ size) in
      let enough : length (drop (before + 1) half) ≤ length half - (before + 1) = simp length-drop (omega arith) in
      let total : before + 1 + length end_trail ≡ length (path_through startward endward s e meeting) = omega (arith, path_length startward endward s e meeting) in
      rw (l, take_all _ _ enough, drop_all _ _ enough, front, back, append-nil, drop-drop, total, path_is) (simp append_assoc)

  module _ (before after : ℕ) (before_is : before ≡ length start_trail) (after_is : after ≡ length end_trail) where
    -- the path fits the path list, and its length a u16
    pub path_within : before + 1 + after ≤ length path
    path_within = omega (arith, path_length startward endward s e meeting)

    pub path_few : before + 1 + after ≤ most_nodes
    path_few = omega (arith, path_length startward endward s e meeting)

    -- the start side's trail written backward to the front, the meeting node after it, and then the end side's trail: the path
    pub path_written : (first last : List ℕ) → first ≡ turned_before (onward startward before meeting) (drop before path)
        → last ≡ sets (set first before meeting) (before + 1) (onward endward after meeting)
        → last ≡ at_front (path_through startward endward s e meeting) path
    unfolding path_through
    path_written first last first_is last_is =
        let fits : length start_trail + length (meeting ∷ end_trail) ≤ length path = omega (arith, path_within) in
        let done = front_turned start_trail (meeting ∷ end_trail) path fits in
        let start_is = trail_is startward s (length startward) meeting before_is in
        let end_is = trail_is endward e (length endward) meeting after_is in
        rw (last_is, first_is, ← start_is, ← end_is, before_is, add-one) done
