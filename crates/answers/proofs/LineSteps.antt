-- One digit or one field more is written: what each turn of the loops that write leans on. And how long a line of fields is.
-- Assumes nothing.
use Rattle.std.proofs.Common.{◌≡◌, refl, sym, ap, List, [], ◌∷◌, ◌++◌, map, ℕ, suc, ◌+◌, ◌-◌, ◌*◌, ◌/◌, ◌%◌, ◌<◌, ◌≤◌, length, get_or, take, drop, set, replicate, append_assoc, add-one, le_refl, arith, length-append, length-set, drop_of_length-le, drop-cons, drop-set-lt, get_or-set_same}
use Rattle.std.specs.List.{sum_by}
use Rattle.std.proofs.lemmas.List.{length-map}
use Rattle.std.proofs.lemmas.List.Sums.{sum_by-cons}
use Rattle.frames.specs.Digits.{digit_of, digits_of, spelled}
use Rattle.frames.specs.FieldLaws.{total, length_digits}
use Rattle.frames.specs.Room.{laid}
use Rattle.frames.specs.RoomLaws.{Underway, underway_more}
use Rattle.frames.specs.AnswerLaws.{length_line}
use Rattle.frames.specs.AnswerLines.{line_feed, line_of, nodes_line}
use Rattle.answers.specs.declared.Field.{Field}
use Rattle.answers.specs.declared.Field.TheVariants.{Two, Four, Eight}
use Rattle.answers.specs.Fields.{width_of, number_held, four_digits, line_by, line_with}

-- one digit more is written, from the back
pub digits_written : (room : List ℕ) (j n : ℕ) → j < length room → digits_of j (n / 16) ++ drop j (set room j (digit_of (n % 16))) ≡ digits_of (suc j) n ++ drop (suc j) room
unfolding digits_of
digits_written room j n h =
    let d : ℕ = digit_of (n % 16) in
    let within : j < length (set room j d) = rw length-set h in
    rw (drop-cons (set room j d) j 0, get_or-set_same room j d 0, drop-set-lt (suc j) room j d (le_refl (suc j)), append_assoc)

-- a line is underway, with the fields from i on still to come
module _ {X : Type 0} (spells : X → Field) (items : List X) (old room : List ℕ) (at i : ℕ) (u : Underway (line_by spells items) old room at (line_by spells (drop i items))) where
  -- after the last field the line feed is still to come
  pub line_feed_left : length items ≤ i → Underway (line_by spells items) old room at (line_feed ∷ [])
  unfolding line_of spelled
  line_feed_left h = rw (drop_of_length-le items h) at u

  -- the next field has room, and once it is written the line is so much further
  module _ (x : X) (f : Field) (h : i < length items) (item : x ≡ get_or items i x) (field : f ≡ spells x) where
    next_field : Underway (line_by spells items) old room at (digits_of (width_of f) (number_held f) ++ line_by spells (drop (i + 1) items))
    unfolding line_of spelled
    next_field = rw add-one (rw (drop-cons items i x, sym item, ← field, append_assoc) at u)

    pub field_fits : at + width_of f ≤ length room
    field_fits = omega (arith, next_field.fits, length-append (digits_of (width_of f) (number_held f)) (line_by spells (drop (i + 1) items)), length_digits (width_of f) (number_held f))

    pub field_more :
        (ys : List ℕ) → ys ≡ laid (digits_of (width_of f) (number_held f)) (take (length room - at) (drop at room))
        → Underway (line_by spells items) old (take at room ++ (ys ++ drop (length room - at) (drop at room))) (at + width_of f) (line_by spells (drop (i + 1) items))
    field_more ys e = rw (length_digits (width_of f) (number_held f)) at (underway_more (line_by spells items) old room at (digits_of (width_of f) (number_held f)) _ ys next_field e)

-- nodes are written as fields of four digits
pub nodes_spelled : (path : List ℕ) → line_by four_digits path ≡ nodes_line path
nodes_spelled path = rw (fours path, same path)
  where
    fours : (path : List ℕ) → map (λ x. width_of (four_digits x)) path ≡ replicate (length path) 4
    fours [] = refl
    fours (x ∷ path) = ap (λ l. 4 ∷ l) (fours path)

    same : (path : List ℕ) → map (λ x. number_held (four_digits x)) path ≡ path
    same [] = refl
    same (x ∷ path) = ap (λ l. x ∷ l) (same path)

-- the digits of fields, at most eight a field
pub digits_fit : (fields : List Field) → sum_by width_of fields ≤ 8 * length fields
digits_fit [] = omega arith
digits_fit (Two n ∷ fields) = omega (arith, sum_by-cons width_of (Two n) fields, digits_fit fields)
digits_fit (Four n ∷ fields) = omega (arith, sum_by-cons width_of (Four n) fields, digits_fit fields)
digits_fit (Eight n ∷ fields) = omega (arith, sum_by-cons width_of (Eight n) fields, digits_fit fields)

-- the bytes of a line are the digits of its fields and a line feed
pub length_fields : (fields : List Field) → length (line_with fields) ≡ sum_by width_of fields + 1
length_fields fields = rw (sum_is_total fields) (length_line (map (λ f. width_of f) fields) (map (λ f. number_held f) fields) (simp length-map))
  where
    sum_is_total : (fields : List Field) → sum_by width_of fields ≡ total (map width_of fields)
    sum_is_total [] = refl
    sum_is_total (f ∷ fields) = rw (sum_by-cons width_of f fields) (ap (λ n. width_of f + n) (sum_is_total fields))
