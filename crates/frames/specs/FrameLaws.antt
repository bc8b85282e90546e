-- Nothing is lost between a frame and its line: each frame written out is decoded to itself with its pattern, each sound line
-- is the line of its frame and pattern, and so two different sound lines differ in frame or pattern. Assumes nothing.
use Rattle.std.specs.Prelude.{◌≡◌, refl, Bool, true, false, List, [], ◌∷◌, ◌++◌, map, ℕ, suc, ◌+◌, ◌^◌, ◌<◌, ◌≤◌, ℤ, pos, negsuc, ltb, length, take, drop, Option, None, Some}
use Rattle.std.proofs.Common.{sym, ap, subst, ◌∙◌, arith, length-append, take-append-drop, drop_of_length-le, drop_at, ltb-true, eq-eqb}
use Rattle.std.specs.Int.Signed.{mag}
use Rattle.std.proofs.lemmas.List.{length-map}
use Rattle.frames.specs.Digits.{digit_of, value_of, are_digits, number_at, spelled}
use Rattle.frames.specs.DigitLaws.{value_of_digit, digit_of_value}
use Rattle.frames.specs.Signed.{signed_of, bits_of}
use Rattle.frames.specs.SignedLaws.{signed_of_bits, bits_of_signed}
use Rattle.frames.specs.FieldSteps.{first_is, others_are}
use Rattle.frames.specs.FieldLaws.{digits-++, digits_drop, digit_is_digit, byte_of_value, number_below, fields_at, total, InFields, none, one, length_spelled, spelled_digits, fields_roundtrip, fields_rewritten}
use Rattle.frames.specs.Frame.{size_of, arc_frame, arc_of, potentials_of, query_of, capped_of, of_kind, frame_of, entries_from, entries_of, pattern_of}
use Rattle.frames.specs.FrameCases.{frame_cases, by_kind}
use Rattle.frames.specs.FrameLine.{frame_line, Below, Spellable}
use Rattle.frames.specs.declared.Frame.{Frame}
use Rattle.frames.specs.declared.Frame.TheVariants.{Size, Arc, TwoWay, Potentials, Query}

-- entries below 16, written as digits and read
below_others : {m b : ℕ} {l : List ℕ} → Below m (b ∷ l) → Below m l
below_others h = record { law = λ i k. h.law (suc i) (omega arith) }

entries_digits : (p : List ℕ) → Below 16 p → are_digits (map digit_of p) ≡ true
unfolding are_digits
entries_digits [] h = refl
entries_digits (b ∷ p) h = digits-++ (digit_of b ∷ []) (map digit_of p) (digit_is_digit b (h.law 0 (omega arith))) (entries_digits p (below_others h))

entries_roundtrip : (p : List ℕ) → Below 16 p → map value_of (map digit_of p) ≡ p
entries_roundtrip [] h = refl
entries_roundtrip (b ∷ p) h = rw (value_of_digit b (h.law 0 (omega arith)), entries_roundtrip p (below_others h))

-- digits read as entries and written again
entries_rewritten : (s : List ℕ) → are_digits s ≡ true → map digit_of (map value_of s) ≡ s
unfolding are_digits
entries_rewritten [] d = refl
entries_rewritten (b ∷ s) d =
    let v : value_of b < 16 = ltb-true (value_of b) 16 (first_is (ltb (value_of b) 16) (are_digits s) d) in
    rw (digit_of_value b (byte_of_value b v) v, entries_rewritten s (others_are (ltb (value_of b) 16) (are_digits s) d))

bits_below : (z : ℤ) → mag z < 2147483648 → bits_of z < 4294967296
unfolding bits_of
bits_below (pos n) h = omega arith
bits_below (negsuc n) h = omega arith

-- what a line of fields and entries has
module _ {ws vs : List ℕ} (inside : InFields ws vs) (p : List ℕ) (b : Below 16 p) where
  line_digits : are_digits (spelled ws vs ++ map digit_of p) ≡ true
  line_digits = digits-++ (spelled ws vs) (map digit_of p) (spelled_digits inside) (entries_digits p b)

  line_length : length (spelled ws vs ++ map digit_of p) ≡ total ws + length p
  line_length = length-append (spelled ws vs) (map digit_of p) ∙ omega (arith, length_spelled inside, length-map p digit_of)

  line_fields : fields_at 0 ws (spelled ws vs ++ map digit_of p) ≡ vs
  line_fields = fields_roundtrip [] 0 (map digit_of p) refl inside

no_entries : Below 16 []
no_entries = record { law = λ i h. absurd (omega arith) }

-- where the fields and entries of a line were written, each kind is read: first a size
size_roundtrip : (n m : ℕ) (p : List ℕ) → Spellable (Size n m) p → frame_of (frame_line (Size n m) p) ≡ Some (Size n m)
unfolding frame_line of_kind size_of
size_roundtrip n m p ok =
    let below : Below 16 p = rw ok.2 no_entries in
    let inside : InFields (2 ∷ 4 ∷ 4 ∷ []) (1 ∷ n ∷ m ∷ []) =
    one 2 1 (omega arith) (one 4 n (omega arith) (one 4 m (omega arith) none)) in
    let s = frame_line (Size n m) p in
    let fields : fields_at 0 (2 ∷ 4 ∷ 4 ∷ []) s ≡ 1 ∷ n ∷ m ∷ [] = line_fields inside p below in
    let kind : number_at s 0 2 ≡ 1 = cc in
    let nodes : number_at s 2 4 ≡ n = cc in
    let arcs : number_at s 6 4 ≡ m = cc in
    let size : length s ≡ 10 = line_length inside p below ∙ omega (arith, ap length ok.2) in
    sym (by_kind s 1 (line_digits inside p below) kind) ∙ rw (eq-eqb _ _ size, nodes, arcs)

-- an arc or a two-way link, which differ in their kind alone
abbrev arc_kind : Bool → ℕ
arc_kind true = 5
arc_kind false = 2

arc_kind_below : (both : Bool) → arc_kind both < 16 ^ 2
arc_kind_below true = omega arith
arc_kind_below false = omega arith

arc_of_kind : (both : Bool) (s : List ℕ) → of_kind (arc_kind both) s ≡ arc_of both s
unfolding of_kind
arc_of_kind true s = refl
arc_of_kind false s = refl

arc_roundtrip : (both : Bool) (t a w : ℕ) (p : List ℕ) → Spellable (Arc t a w) p → frame_of (spelled (2 ∷ 4 ∷ 4 ∷ 8 ∷ []) (arc_kind both ∷ t ∷ a ∷ w ∷ []) ++ map digit_of p) ≡ Some (arc_frame both t a w)
unfolding arc_of
arc_roundtrip both t a w p ok =
    let below : Below 16 p = rw ok.3 no_entries in
    let inside : InFields (2 ∷ 4 ∷ 4 ∷ 8 ∷ []) (arc_kind both ∷ t ∷ a ∷ w ∷ []) =
    one 2 (arc_kind both) (arc_kind_below both) (one 4 t (omega arith) (one 4 a (omega arith) (one 8 w (omega arith) none))) in
    let s = spelled (2 ∷ 4 ∷ 4 ∷ 8 ∷ []) (arc_kind both ∷ t ∷ a ∷ w ∷ []) ++ map digit_of p in
    let fields : fields_at 0 (2 ∷ 4 ∷ 4 ∷ 8 ∷ []) s ≡ arc_kind both ∷ t ∷ a ∷ w ∷ [] = line_fields inside p below in
    let kind : number_at s 0 2 ≡ arc_kind both = cc in
    let tail : number_at s 2 4 ≡ t = cc in
    let head : number_at s 6 4 ≡ a = cc in
    let weight : number_at s 10 8 ≡ w = cc in
    let size : length s ≡ 18 = line_length inside p below ∙ omega (arith, ap length ok.3) in
    sym (by_kind s (arc_kind both) (line_digits inside p below) kind)
    ∙ (arc_of_kind both s ∙ rw (eq-eqb _ _ size, tail, head, weight))

potentials_roundtrip : (n : ℕ) (h k : ℤ) (p : List ℕ) → Spellable (Potentials n h k) p → frame_of (frame_line (Potentials n h k) p) ≡ Some (Potentials n h k)
unfolding frame_line of_kind potentials_of
potentials_roundtrip n h k p ok =
    let below : Below 16 p = rw ok.3 no_entries in
    let inside : InFields (2 ∷ 4 ∷ 8 ∷ 8 ∷ []) (3 ∷ n ∷ bits_of h ∷ bits_of k ∷ []) =
    one 2 3 (omega arith)
    (one 4 n (omega arith)
    (one 8 (bits_of h) (omega (arith, bits_below h ok.1))
    (one 8 (bits_of k) (omega (arith, bits_below k ok.2)) none))) in
    let s = frame_line (Potentials n h k) p in
    let fields : fields_at 0 (2 ∷ 4 ∷ 8 ∷ 8 ∷ []) s ≡ 3 ∷ n ∷ bits_of h ∷ bits_of k ∷ [] = line_fields inside p below in
    let kind : number_at s 0 2 ≡ 3 = cc in
    let node : number_at s 2 4 ≡ n = cc in
    let forward : number_at s 6 8 ≡ bits_of h = cc in
    let backward : number_at s 14 8 ≡ bits_of k = cc in
    let size : length s ≡ 22 = line_length inside p below ∙ omega (arith, ap length ok.3) in
    sym (by_kind s 3 (line_digits inside p below) kind)
    ∙ rw (eq-eqb _ _ size, node, forward, backward, signed_of_bits h ok.1, signed_of_bits k ok.2)

-- a query's fields, and that they fit
query_fits : (a b n : ℕ) (p : List ℕ) → Spellable (Query a b None n) p → InFields (2 ∷ 4 ∷ 4 ∷ 2 ∷ []) (4 ∷ a ∷ b ∷ n ∷ [])
query_fits a b n p ok = one 2 4 (omega arith) (one 4 a (omega arith) (one 4 b (omega arith) (one 2 n (omega arith) none)))

query_roundtrip : (a b n : ℕ) (p : List ℕ) → Spellable (Query a b None n) p → frame_of (frame_line (Query a b None n) p) ≡ Some (Query a b None n)
unfolding frame_line of_kind query_of
query_roundtrip a b n p ok =
    let inside : InFields (2 ∷ 4 ∷ 4 ∷ 2 ∷ []) (4 ∷ a ∷ b ∷ n ∷ []) = query_fits a b n p ok in
    let s = frame_line (Query a b None n) p in
    let fields : fields_at 0 (2 ∷ 4 ∷ 4 ∷ 2 ∷ []) s ≡ 4 ∷ a ∷ b ∷ n ∷ [] = line_fields inside p ok.4 in
    let kind : number_at s 0 2 ≡ 4 = cc in
    let start : number_at s 2 4 ≡ a = cc in
    let end : number_at s 6 4 ≡ b = cc in
    let entries : number_at s 10 2 ≡ n = cc in
    let size : length s ≡ 12 + number_at s 10 2 = line_length inside p ok.4 ∙ omega (arith, ok.3) in
    sym (by_kind s 4 (line_digits inside p ok.4) kind) ∙ rw (eq-eqb _ _ size, start, end, entries)

-- the same with a cap
capped_fits : (a b c n : ℕ) (p : List ℕ) → Spellable (Query a b (Some c) n) p → InFields (2 ∷ 4 ∷ 4 ∷ 4 ∷ 2 ∷ []) (7 ∷ a ∷ b ∷ c ∷ n ∷ [])
capped_fits a b c n p ok =
    one 2 7 (omega arith)
    (one 4 a (omega arith) (one 4 b (omega arith) (one 4 c (omega arith) (one 2 n (omega arith) none))))

capped_roundtrip : (a b c n : ℕ) (p : List ℕ) → Spellable (Query a b (Some c) n) p → frame_of (frame_line (Query a b (Some c) n) p) ≡ Some (Query a b (Some c) n)
unfolding frame_line of_kind capped_of
capped_roundtrip a b c n p ok =
    let inside : InFields (2 ∷ 4 ∷ 4 ∷ 4 ∷ 2 ∷ []) (7 ∷ a ∷ b ∷ c ∷ n ∷ []) = capped_fits a b c n p ok in
    let s = frame_line (Query a b (Some c) n) p in
    let fields : fields_at 0 (2 ∷ 4 ∷ 4 ∷ 4 ∷ 2 ∷ []) s ≡ 7 ∷ a ∷ b ∷ c ∷ n ∷ [] = line_fields inside p ok.5 in
    let kind : number_at s 0 2 ≡ 7 = cc in
    let start : number_at s 2 4 ≡ a = cc in
    let end : number_at s 6 4 ≡ b = cc in
    let cap : number_at s 10 4 ≡ c = cc in
    let entries : number_at s 14 2 ≡ n = cc in
    let size : length s ≡ 16 + number_at s 14 2 = line_length inside p ok.5 ∙ omega (arith, ok.4) in
    sym (by_kind s 7 (line_digits inside p ok.5) kind) ∙ rw (eq-eqb _ _ size, start, end, cap, entries)

-- each frame written out and decoded is the same frame
pub frame_roundtrip : (f : Frame) (p : List ℕ) → Spellable f p → frame_of (frame_line f p) ≡ Some f
unfolding frame_line
frame_roundtrip (Size n m) p ok = size_roundtrip n m p ok
frame_roundtrip (Arc t h w) p ok = arc_roundtrip false t h w p ok
frame_roundtrip (TwoWay t h w) p ok = arc_roundtrip true t h w p ok
frame_roundtrip (Potentials n h k) p ok = potentials_roundtrip n h k p ok
frame_roundtrip (Query a b None n) p ok = query_roundtrip a b n p ok
frame_roundtrip (Query a b (Some c) n) p ok = capped_roundtrip a b c n p ok

-- the digits after a query's fields are its entries
fields_entries : {ws vs : List ℕ} (p : List ℕ) → InFields ws vs → Below 16 p → entries_from (total ws) (spelled ws vs ++ map digit_of p) ≡ p
unfolding entries_from
fields_entries {ws} {vs} p inside b = rw (drop_at (spelled ws vs) (map digit_of p) (total ws) (length_spelled inside)) (entries_roundtrip p b)

entries_again : (f : Frame) (p : List ℕ) → Spellable f p → entries_of (Some f) (frame_line f p) ≡ p
unfolding frame_line
entries_again (Size n m) p h = sym h.2
entries_again (Arc t a w) p h = sym h.3
entries_again (TwoWay t a w) p h = sym h.3
entries_again (Potentials n a k) p h = sym h.3
entries_again (Query a b None n) p h = fields_entries p (query_fits a b n p h) h.4
entries_again (Query a b (Some c) n) p h = fields_entries p (capped_fits a b c n p h) h.5

-- and its pattern is the same pattern
pub pattern_roundtrip : (f : Frame) (p : List ℕ) → Spellable f p → pattern_of (frame_line f p) ≡ p
unfolding pattern_of
pattern_roundtrip f p h = rw (frame_roundtrip f p h) (entries_again f p h)

-- a line's kind and fields, and the digits after them, written again
module _ (s : List ℕ) (ws : List ℕ) (kind : ℕ) (d : are_digits s ≡ true) (k : number_at s 0 2 ≡ kind) where
  digits_rewritten : 2 + total ws ≤ length s → spelled (2 ∷ ws) (kind ∷ fields_at 2 ws s) ++ map digit_of (map value_of (drop (2 + total ws) s)) ≡ s
  digits_rewritten h =
      let front : spelled (2 ∷ ws) (number_at s 0 2 ∷ fields_at 2 ws s) ≡ take (2 + total ws) s = fields_rewritten s 0 (2 ∷ ws) d (omega arith) in
      let after : map digit_of (map value_of (drop (2 + total ws) s)) ≡ drop (2 + total ws) s = entries_rewritten (drop (2 + total ws) s) (digits_drop (2 + total ws) s d) in
      rw (← k, front, after) (take-append-drop (2 + total ws) s)

  -- the same where the fields fill the line
  fields_only : length s ≡ 2 + total ws → spelled (2 ∷ ws) (kind ∷ fields_at 2 ws s) ++ [] ≡ s
  fields_only l =
      let all : length s ≤ 2 + total ws = omega arith in
      rw (drop_of_length-le s all) at (digits_rewritten (omega arith))

-- a sound line is the line of its frame and its pattern
pub line_rewritten : (s : List ℕ) {f : Frame} → frame_of s ≡ Some f → frame_line f (pattern_of s) ≡ s
unfolding pattern_of entries_from frame_line
line_rewritten s {f} =
    frame_cases s (λ (r : Option Frame). r ≡ Some f → frame_line f (entries_of r s) ≡ s)
    (λ h. cc)
    (λ d k l h. same_frame (fields_only s (4 ∷ 4 ∷ []) 1 d k l) h)
    (λ d k l h. same_frame (fields_only s (4 ∷ 4 ∷ 8 ∷ []) 2 d k l) h)
    (λ d k l h. same_frame (fields_only s (4 ∷ 4 ∷ 8 ∷ []) 5 d k l) h)
    (λ d k l h.
    let forward : bits_of (signed_of (number_at s 6 8)) ≡ number_at s 6 8 = bits_of_signed _ (number_below s 6 8 d (omega arith)) in
    let backward : bits_of (signed_of (number_at s 14 8)) ≡ number_at s 14 8 = bits_of_signed _ (number_below s 14 8 d (omega arith)) in
    same_frame (rw (forward, backward) (fields_only s (4 ∷ 8 ∷ 8 ∷ []) 3 d k l)) h)
    (λ d k l h. same_frame (digits_rewritten s (4 ∷ 4 ∷ 2 ∷ []) 4 d k (omega arith)) h)
    (λ d k l h. same_frame (digits_rewritten s (4 ∷ 4 ∷ 4 ∷ 2 ∷ []) 7 d k (omega arith)) h)
  where
    same_frame : {g : Frame} → frame_line g (entries_of (Some g) s) ≡ s → Some g ≡ Some f → frame_line f (entries_of (Some g) s) ≡ s
    same_frame {g} e h = let same : g ≡ f = cc in subst (λ (x : Frame). frame_line x (entries_of (Some g) s) ≡ s) same e

-- two sound lines with the same frame and the same pattern are the same line
pub line_determined : (s t : List ℕ) → (frame_of s ≡ None → ⊥) → frame_of s ≡ frame_of t → pattern_of s ≡ pattern_of t → s ≡ t
line_determined s t sound f p = by_frame (frame_of s) refl
  where
    by_frame : (r : Option Frame) → frame_of s ≡ r → s ≡ t
    by_frame None e = absurd (sound e)
    by_frame (Some g) e = sym (line_rewritten s e) ∙ (rw p (line_rewritten t (sym f ∙ e)))
