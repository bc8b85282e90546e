-- The display's answer gathered byte by byte: what is written so far and what is still to come make up the answer, and it fits.
-- Where a refusal has ended the file nothing is still to come, so the bytes that are left need not be looked at. Assumes nothing.
use Rattle.std.specs.Prelude.{◌≡◌, true, false, List, [], ◌∷◌, ◌++◌, ℕ, ◌+◌, ◌-◌, ◌≤◌, length, take, drop}
use Rattle.std.proofs.Common.{sym, subst, ◌∙◌, append-nil, arith, length-append, length-drop, take-append-drop, take_all, length-take-le, drop_of_length-le}
use Rattle.frames.specs.Room.{Laid, Placed}
use Rattle.frames.specs.RoomLaws.{Underway, underway_start, underway_more, underway_end, length_rest, lent_room, placed_laid, placed_within}
use Rattle.district.specs.declared.Reader.{Reader}
use Rattle.district.specs.declared.Taken.{Taken}
use Rattle.district.specs.File.{take_byte, end_of_input, display_answer}
use Rattle.district.specs.Reader.{Lists, lists, file_of, Roomy, Kept, Stepped, holding_more, Held, Ended, start_reader, most_bytes, refusal_bytes}
use Rattle.district.specs.ReaderLaws.{start_file, start_kept, end_of_ended, AsLong, as_long_same, as_long_then}
use Rattle.district.specs.HoldLaws.{held_few}
use Rattle.district.specs.FileLaws.{rest_of, rest_whole, rest_none, rest_byte, rest_fed, rest_ended, display_short}

-- the reader stands over lists as long as those lent, `at` bytes of the file's answer stand at the front of the text, and `rest` is
-- what is still to be read
pub record Gathering (file old : List ℕ) (lent : Lists) (r : Reader) (l : Lists) (text : List ℕ) (at : ℕ) (rest : List ℕ) : Type 0 where
  pub kept : Kept r l
  pub as_long : AsLong lent l
  -- what is written and what the rest of the file prints make up the answer
  pub underway : Underway (display_answer file) old text at (rest_of (file_of r l) rest)

-- the file is read, by a reader over some lists
pub record Gathered (file old : List ℕ) (lent : Lists) (r : Reader) (text : List ℕ) (at : ℕ) : Type 0 where
  pub over : Lists
  pub gathering : Gathering file old lent r over text at []

-- the text has room for any file's answer
pub display_bytes : (file : List ℕ) → length (display_answer file) ≤ most_bytes + refusal_bytes
display_bytes file = rw (← rest_whole true 1 file) (display_short 1 file)

pub gather_start : (file text : List ℕ) (r : Reader) (l : Lists) → r ≡ start_reader true 1 → Roomy l → most_bytes + refusal_bytes ≤ length text → Gathering file text l r l text 0 file
gather_start file text r l e h room =
    rw e
    (record {
      kept = start_kept true 1 l h;
      as_long = as_long_same l;
      underway = rw (start_file true 1 l, rest_whole true 1 file) (underway_start (display_answer file) text (omega (arith, display_bytes file)));
    })

-- the line alone has changed, and is as long as it was
as_long_line : (l : Lists) (line : List ℕ) → length line ≡ length l.line → AsLong l (lists line l.tails l.heads l.weights l.index l.forward l.backward)
as_long_line l line e =
    let same : AsLong l l = as_long_same l in
    record { line = e; tails = same.tails; heads = same.heads; weights = same.weights; index = same.index; forward = same.forward; backward = same.backward }

-- ---- a part of the answer
-- its writer was lent the text from `at` on, which came home as `ys`; as it fits, it takes the answer as much further
module _ (file old : List ℕ) (text : List ℕ) (at : ℕ) (part left ys : List ℕ) (n : ℕ) (u : Underway (display_answer file) old text at (part ++ left))
    (p : Placed part (take (length text - at) (drop at text)) ys n) where
  part_fits : at + length part ≤ length text
  part_fits = omega (arith, u.fits, length-append part left)

  part_laid : Laid part (take (length text - at) (drop at text)) ys n
  part_laid = placed_laid part _ ys n (lent_room text at (length part) part_fits) p

  part_more : Underway (display_answer file) old (take at text ++ (ys ++ drop (length text - at) (drop at text))) (at + n) left
  part_more = rw part_laid.count_is (underway_more (display_answer file) old text at part left ys u part_laid.room_is)

module _ (file old : List ℕ) (lent : Lists) (r : Reader) (l : Lists) (text : List ℕ) (at : ℕ) (rest : List ℕ) (g : Gathering file old lent r l text at rest) where
  -- whatever a writer places in the text from `at` on lies within it
  pub part_within : {part ys : List ℕ} {n : ℕ} → Placed part (take (length text - at) (drop at text)) ys n → at + n ≤ length text
  part_within p = omega (arith, placed_within p, length_rest text at, g.underway.fits)

  -- and where the writer's part comes home as long as it was lent, the text is as long as it was
  pub text_length : (ys : List ℕ) → length ys ≡ length (take (length text - at) (drop at text)) → length (take at text ++ (ys ++ drop (length text - at) (drop at text))) ≡ length old
  text_length ys e = simp (length-append, length-drop) (omega (arith, e, length_rest text at, length-take-le at text (omega (arith, g.underway.fits)), g.underway.size))

  -- bytes of a line are held, which print nothing
  pub file_held_fits : {n : ℕ} {line : List ℕ} → Held r n rest l.line line → n ≤ length rest
  file_held_fits h = held_few h

  pub gather_held : {n : ℕ} {line left : List ℕ} → Held r n rest l.line line → length line ≡ length l.line → take (length rest - n) (drop n rest) ≡ left
      → Gathering file old lent (holding_more r n) (lists line l.tails l.heads l.weights l.index l.forward l.backward) text at left
  gather_held {n} {line} {left} h long e =
      let all = h.law l.tails l.heads l.weights l.index l.forward l.backward g.kept in
      let is_left : drop n rest ≡ left = sym (take_all (length rest - n) (drop n rest) (omega (arith, length-drop n rest))) ∙ e in
      let fed : rest_of (file_of r l) rest ≡ rest_of (file_of (holding_more r n) (lists line l.tails l.heads l.weights l.index l.forward l.backward)) left = rw (take-append-drop, is_left) at (rest_fed _ _ _ (drop n rest) all.file_is) in
      record {
        kept = all.kept;
        as_long = as_long_then g.as_long (as_long_line l line long);
        underway = subst (λ (x : List ℕ). Underway (display_answer file) old text at x) fed g.underway;
      }

  -- where a refusal has ended the file, what is left of it prints nothing
  pub gather_ended : r.going ≡ false → Gathered file old lent r text at
  unfolding file_of
  gather_ended ended =
      let none : rest_of (file_of r l) rest ≡ rest_of (file_of r l) [] = rest_ended (file_of r l) rest ended ∙ sym (rest_ended (file_of r l) [] ended) in
      record { over = l; gathering = record { kept = g.kept; as_long = g.as_long; underway = subst (λ (x : List ℕ). Underway (display_answer file) old text at x) none g.underway } }

  -- where only what the end of input prints is still to come, that makes the answer whole
  pub gather_end : (ys : List ℕ) (n : ℕ) → rest_of (file_of r l) rest ≡ end_of_input (file_of r l) → Placed (end_of_input (file_of r l)) (take (length text - at) (drop at text)) ys n → Laid (display_answer file) old (take at text ++ (ys ++ drop (length text - at) (drop at text))) (at + n)
  gather_end ys n over p =
      let last : rest_of (file_of r l) rest ≡ end_of_input (file_of r l) ++ [] = over ∙ sym (append-nil (end_of_input (file_of r l))) in
      underway_end _ _ _ _ (part_more file old text at _ _ ys n (subst (λ (x : List ℕ). Underway (display_answer file) old text at x) last g.underway) p)

-- the next byte
module _ (file old : List ℕ) (lent : Lists) (r : Reader) (l : Lists) (text : List ℕ) (at b : ℕ) (left : List ℕ) (g : Gathering file old lent r l text at (b ∷ left)) where
  pub here : rest_of (file_of r l) (b ∷ left) ≡ (take_byte (file_of r l) b).printed ++ rest_of (take_byte (file_of r l) b).file left
  here = rest_byte (file_of r l) b left

  pub gather_byte : {t : Taken} {after : Lists} {ys : List ℕ} → Stepped (take_byte (file_of r l) b) t l after (take (length text - at) (drop at text)) ys → AsLong l after
      → Gathering file old lent t.reader after (take at text ++ (ys ++ drop (length text - at) (drop at text))) (at + t.written) left
  gather_byte {t} {after} {ys} s long =
      record {
        kept = s.kept;
        as_long = as_long_then g.as_long long;
        underway = rw s.file_is (part_more file old text at _ _ ys t.written (subst (λ (x : List ℕ). Underway (display_answer file) old text at x) here g.underway) s.room_is);
      }

-- where the file is read, only what the end of input prints is still to come
module _ (file old : List ℕ) (lent : Lists) (r : Reader) (text : List ℕ) (at : ℕ) (g : Gathered file old lent r text at) (ys : List ℕ) (n : ℕ) (e : Ended r (take (length text - at) (drop at text)) ys n) where
  pub gathered_within : at + n ≤ length text
  gathered_within = part_within _ _ _ _ _ _ _ _ g.gathering (e.law g.over g.gathering.kept)

  pub gathered_whole : Laid (display_answer file) old (take at text ++ (ys ++ drop (length text - at) (drop at text))) (at + n)
  gathered_whole = gather_end _ _ _ _ _ _ _ _ g.gathering ys n (rest_none _) (e.law g.over g.gathering.kept)

-- ---- of a file read up to a byte
-- where a refusal has ended the file, and where it is read whole, only what the end of input prints is still to come
module _ (file : List ℕ) (r : Reader) (l : Lists) (i : ℕ) where
  pub over_ended : r.going ≡ false → rest_of (file_of r l) (drop i file) ≡ end_of_input (file_of r l)
  unfolding file_of
  over_ended ended = rest_ended (file_of r l) (drop i file) ended ∙ end_of_ended r l ended

  pub over_read : length file ≤ i → rest_of (file_of r l) (drop i file) ≡ end_of_input (file_of r l)
  over_read none = rw (drop_of_length-le file none, rest_none)
