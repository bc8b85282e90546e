-- Bytes held many at once: they are held one after the other, as the definition takes them, and as many as it would hold before
-- the line ends or is full. Assumes nothing.
use Rattle.std.proofs.lemmas.Bool.{eqb-false, eq-eqb, ne_eqb, lt-ltb}
use Rattle.std.specs.Prelude.{◌≡◌, true, false, eqb, length, take, drop, set, List, [], ◌∷◌, ◌++◌, ℕ, zero, suc, ◌+◌, ◌-◌, ◌≤◌, ◌<◌}
use Rattle.std.proofs.Math.Path.{refl}
use Rattle.std.proofs.Common.{sym, ap, ◌∙◌, zero-add, length-append, drop_of_length-le, append_assoc, append-nil, arith}
use Rattle.std.proofs.Math.Numerals.{add-one}
use Rattle.std.proofs.Math.ListN.{get_or}
use Rattle.std.proofs.Math.Seq.{take-suc, drop-cons, drop-drop}
use Rattle.network.specs.CaseSplit.{cases}
use Rattle.frames.specs.AnswerLines.{line_feed}
use Rattle.frames.specs.Frame.{most_digits}
use Rattle.district.specs.declared.Reader.{Reader}
use Rattle.district.specs.File.{File, step, holding, take_byte, feed}
use Rattle.district.specs.Reader.{lists, file_of, held_within, held_of, Held}
use Rattle.district.specs.ReaderLaws.{beyond_same, count_held}
use Rattle.district.specs.TakenLaws.{Grown, grown_one, holding_all, grown_file, grown_beyond, grown_kept}

-- ---- the definition
-- a byte that ends no line and finds room in it is held, and nothing is printed
hold_one : (f : File) (b : ℕ) → f.going ≡ true → (b ≡ line_feed → ⊥) → length f.held < most_digits → take_byte f b ≡ step (holding f b) []
unfolding take_byte
hold_one f b goes other short = rw (goes, ne_eqb _ _ other, lt-ltb _ _ short)

-- and so are as many as find room, up to the first line feed
feed_held : (room : ℕ) (f : File) (bytes : List ℕ) → f.going ≡ true → room + length f.held ≡ most_digits
    → feed f (take (held_within room bytes) bytes) ≡ step (holding_all f (take (held_within room bytes) bytes)) []
unfolding feed held_within
feed_held zero f bytes goes fits = rw append-nil
feed_held (suc room) f [] goes fits = rw append-nil
feed_held (suc room) f (b ∷ bytes) goes fits =
    cases (λ n. feed f (take n (b ∷ bytes)) ≡ step (holding_all f (take n (b ∷ bytes))) []) (eqb b line_feed) (λ _. rw append-nil)
    (λ other.
    let longer : room + length (f.held ++ (b ∷ [])) ≡ most_digits = omega (arith, length-append f.held (b ∷ [])) in
    rw (hold_one f b goes (eqb-false b line_feed other) (omega arith), feed_held room (holding f b) bytes goes longer, append_assoc))

-- none is held of no bytes, and none from a line feed on
held_none : (room : ℕ) → held_within room [] ≡ 0
unfolding held_within
held_none zero = refl
held_none (suc room) = refl

held_at_feed : (room b : ℕ) (bytes : List ℕ) → b ≡ line_feed → held_within room (b ∷ bytes) ≡ 0
unfolding held_within
held_at_feed zero b bytes ends = refl
held_at_feed (suc room) b bytes ends = rw (eq-eqb _ _ ends)

-- no more are held than there are
few_held : (room : ℕ) (bytes : List ℕ) → held_within room bytes ≤ length bytes
unfolding held_within
few_held zero bytes = omega arith
few_held (suc room) [] = omega arith
few_held (suc room) (b ∷ bytes) =
    cases (λ n. n ≤ length (b ∷ bytes)) (eqb b line_feed) (λ _. omega arith) (λ _. omega (arith, few_held room bytes))

pub held_few : {r : Reader} {n : ℕ} {bytes line line' : List ℕ} → Held r n bytes line line' → n ≤ length bytes
unfolding held_of
held_few {r} {n} {bytes} h =
    rw h.count_is (cases (λ n. n ≤ length bytes) r.going (λ _. few_held (most_digits - r.held) bytes) (λ _. omega arith))

-- ---- the loop
-- to a line of `at` bytes n are added so far, and as many are still to come as the rest of the bytes gives the rest of the line
pub record Holding (at : ℕ) (bytes line₀ line : List ℕ) (n : ℕ) : Type 0 where
  pub within : at + n ≤ most_digits
  pub grown : Grown line₀ line (at) n (take n bytes)
  pub count : n + held_within (most_digits - (at + n)) (drop n bytes) ≡ held_within (most_digits - at) bytes

pub hold_start : (at : ℕ) (bytes line : List ℕ) → at ≤ most_digits → Holding at bytes line line 0
hold_start at bytes line few =
    let same : at + 0 ≡ at = omega arith in
    record {
      within = omega arith;
      grown = record { front = rw (same, append-nil); back = refl; size = refl };
      count = rw (same, zero-add);
    }

module _ (at : ℕ) (bytes line₀ line : List ℕ) (n : ℕ) (u : Holding at bytes line₀ line n) where
  pub hold_more : n < length bytes → (get_or bytes n 0 ≡ line_feed → ⊥) → at + n < most_digits → most_digits ≤ length line₀ → Holding at bytes line₀ (set line (at + n) (get_or bytes n 0)) (n + 1)
  unfolding held_within
  hold_more more other short long =
      let b : ℕ = get_or bytes n 0 in
      let one : Grown line (set line (at + n) b) (at + n) 1 (b ∷ []) = grown_one line (at + n) b refl (omega (arith, u.grown.size)) in
      let next : at + (n + 1) ≡ at + n + 1 = omega arith in
      let left : most_digits - (at + n) ≡ suc (most_digits - (at + (n + 1))) = omega arith in
      let step_on : held_within (most_digits - (at + n)) (drop n bytes) ≡ suc (held_within (most_digits - (at + (n + 1))) (drop (n + 1) bytes)) = rw (left, drop-cons bytes n 0, ne_eqb _ _ other, add-one n) in
      record {
        within = omega arith;
        grown =
            record {
              front = rw (next, one.front, u.grown.front, append_assoc, add-one, take-suc bytes n 0);
              back = rw next (one.back ∙ (sym (drop-drop 1 (at + n) line) ∙ (ap (drop 1) u.grown.back ∙ drop-drop 1 (at + n) line₀)));
              size = one.size ∙ u.grown.size;
            };
        count = omega (arith, step_on, u.count);
      }

module _ (r : Reader) (bytes line₀ line : List ℕ) (n : ℕ) (u : Holding r.held bytes line₀ line n) where
  -- where no more are still to come, so many are held
  done : held_within (most_digits - (r.held + n)) (drop n bytes) ≡ 0 → r.going ≡ true → Held r n bytes line₀ line
  unfolding held_of file_of
  done none goes =
      let all : n ≡ held_within (most_digits - r.held) bytes = omega (arith, u.count) in
      record {
        count_is = rw goes all;
        law = λ tails heads weights ix h k kept.
            let l = lists line₀ tails heads weights ix h k in
            record {
              file_is =
                  rw (grown_file r n (take n bytes) line₀ line tails heads weights ix h k kept u.within u.grown, all)
                  (feed_held (most_digits - r.held) (file_of r l) bytes goes (omega (arith, count_held r l kept, kept.counted.held_within_lem)));
              beyond = grown_beyond r n (take n bytes) line₀ line tails heads weights ix h k kept u.within u.grown;
              kept = grown_kept r n (take n bytes) line₀ line tails heads weights ix h k kept u.within u.grown;
            };
      }

  -- it is left at the end of the bytes, at a line feed, and where the line is full
  pub hold_all : length bytes ≤ n → r.going ≡ true → Held r n bytes line₀ line
  hold_all over goes = done (rw (drop_of_length-le bytes over) (held_none _)) goes

  pub hold_to_feed : n < length bytes → get_or bytes n 0 ≡ line_feed → r.going ≡ true → Held r n bytes line₀ line
  hold_to_feed more ends goes = done (rw (drop-cons bytes n 0) (held_at_feed _ _ (drop (suc n) bytes) ends)) goes

  pub hold_full : most_digits ≤ r.held + n → r.going ≡ true → Held r n bytes line₀ line
  unfolding held_within
  hold_full full goes = let none : most_digits - (r.held + n) ≡ 0 = omega arith in done (rw none) goes

-- where a refusal has ended the file, none is held
pub hold_ended : (r : Reader) (bytes line : List ℕ) → r.going ≡ false → Held r 0 bytes line line
unfolding held_of feed file_of
hold_ended r bytes line ended =
    let same : r.held + 0 ≡ r.held = omega arith in
    record {
      count_is = rw ended;
      law = λ tails heads weights ix h k kept. record { file_is = rw same; beyond = rw same (beyond_same r _); kept = rw same kept };
    }
