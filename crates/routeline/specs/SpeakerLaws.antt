-- Laws of the code's speaker: it begins as a talk begins, asks what its talk asks, and each step of it is a step of its talk; so
-- the program holds a talk that can come to pass, from its beginning on. Assumes nothing.
use Rattle.std.specs.Prelude.{◌≡◌, true, false, ◌&&◌, eqb, ltb, List, [], ◌∷◌, ◌++◌, ℕ, zero, suc, ◌+◌, ◌-◌, ◌≤◌, ◌<◌, min, ℤ, pos, negsuc, length, take, drop, get_or}
use Rattle.std.proofs.Math.Path.{refl, ap}
use Rattle.std.proofs.Common.{sym, ◌∙◌, arith, add-one, length-append, length-drop, take-append-drop, take_at, SFits, of_z}
use Rattle.std.proofs.lemmas.Bool.{eq-eqb, ne_eqb, eqb-true, ltb-true, lt-ltb}
use Rattle.std.specs.Int.Signed.{lt_z}
use Rattle.std.proofs.Math.Seq.{slice, slice_empty, slice-cons, length-slice, drop-drop, take-nil}
use Rattle.std.specs.Int.{w32, w64}
use Rattle.network.specs.CaseSplit.{cases, by_bool, by_eq, by_lt, both_true, true≢false}
use Rattle.frames.specs.Room.{laid, Laid, Placed}
use Rattle.frames.specs.RoomLaws.{placed_laid}
use Rattle.district.specs.declared.Reader.{Reader}
use Rattle.district.specs.declared.Taken.{Taken}
use Rattle.district.specs.File.{FileStep, step, take_byte, end_of_input, feed}
use Rattle.district.specs.Reader.{Lists, lists, file_of, Roomy, Stepped, holding_more, Held, Ended, most_bytes}
use Rattle.district.specs.ReaderLaws.{start_file, start_kept}
use Rattle.district.specs.HoldLaws.{held_few}
use Rattle.district.specs.PrintLaws.{printed_fits, end_fits}
use Rattle.routeline.specs.declared.Stage.TheVariants.{AllHeard, CutShort}
use Rattle.routeline.specs.declared.Ask.{Ask}
use Rattle.routeline.specs.declared.Ask.TheVariants.{Write, Read, Stop}
use Rattle.routeline.specs.declared.Did.{Did}
use Rattle.routeline.specs.declared.Did.TheVariants.{Came, Ended as EndedThere, Went, Interrupted, WouldWait, Failed}
use Rattle.routeline.specs.declared.Speaker.{Speaker}
use Rattle.routeline.specs.Talk.{Talk, talk, silence, asks, asks_on, Possible, can_come, can_end, can_go, can_pass, can_fail, look_on, talk_looked, told, talk_after, Seen, seen, seen_after, Talked, begun, then}
use Rattle.routeline.specs.TalkLaws.{never, empty, look_one, look_fed, look_nothing, look_owing, look_ended, none_left_to_look_at}
use Rattle.routeline.specs.Speaker.{talk_of, OwedWithin, Sits, StandsFor, speaker_at, start_speaker, event_of, interrupted_error, wait_error, unmoved_by, clamp_len, answer_of, reading_of, writing_of, CameWithin, WentWithin, ReadDid, read_some, read_end, read_interrupted, read_later, read_failed, WriteDid, wrote_some, write_interrupted, write_later, write_failed, AsksAs, Answers, looks_on, TellsAs}

-- ---- parts of lists
-- the part from a to b, as it is lent
pub lent_part : (a b : ℕ) (l : List ℕ) → a ≤ b → take (b - a) (drop a l) ≡ slice a b l
lent_part zero b l h = let n : b - 0 ≡ b = omega arith in rw n
lent_part (suc a) zero [] h = absurd (omega arith)
lent_part (suc a) (suc b) [] h = take-nil (suc b - suc a)
lent_part (suc a) zero (x ∷ l) h = absurd (omega arith)
lent_part (suc a) (suc b) (x ∷ l) h = let n : suc b - suc a ≡ b - a = omega arith in rw n (lent_part a b l (omega arith))

-- ---- the beginning
pub start_stands : (l : Lists) (chunk room : List ℕ) → Roomy l → most_bytes ≤ length room → StandsFor silence start_speaker l chunk room
unfolding start_speaker talk_of
start_stands l chunk room r h =
    record {
      sits =
          record {
            kept = start_kept false 1 l r;
            heard_first = omega arith;
            heard_within = omega arith;
            owed_there = record { owed_first = omega arith; owed_within = omega arith };
            for_answer = h;
          };
      talk_is = rw start_file;
    }

-- ---- what is asked
module _ (s : Speaker) where
  pub asks_owing : s.done < s.written → AsksAs s Write
  unfolding asks talk_of
  asks_owing h =
      record {
        law = λ l chunk room k.
            let n : length (slice s.done s.written room) ≡ 0 → ⊥ = λ e. omega (arith, length-slice s.done s.written room k.owed_there.owed_within) in
            rw (ne_eqb (length (slice s.done s.written room)) 0 n);
      }

  pub asks_paid : {ask : Ask} → s.written ≤ s.done → ask ≡ asks_on s.stage s.reader.going → AsksAs s ask
  unfolding asks talk_of file_of
  asks_paid h e =
      record {
        law = λ l chunk room k.
            let n : length (slice s.done s.written room) ≡ 0 = length-slice s.done s.written room k.owed_there.owed_within ∙ omega arith in
            rw (eq-eqb (length (slice s.done s.written room)) 0 n) e;
      }

-- ---- what the system did
-- the number of an error, read off its bits
from_bits : (error : ℤ) (n : ℕ) → n < 2147483648 → SFits w32 error → of_z w32 error ≡ n → error ≡ pos n
from_bits (pos m) n small f e = ap pos e
from_bits (negsuc m) n small f e = absurd (omega (arith, f.sfits))

pub unmoved_interrupted : (error : ℤ) → SFits w32 error → of_z w32 error ≡ interrupted_error → Interrupted ≡ unmoved_by error
unfolding unmoved_by
unmoved_interrupted error f e = rw (from_bits error interrupted_error (omega arith) f e)

pub unmoved_later : (error : ℤ) → SFits w32 error → of_z w32 error ≡ wait_error → WouldWait ≡ unmoved_by error
unfolding unmoved_by
unmoved_later error f e = rw (from_bits error wait_error (omega arith) f e)

pub unmoved_failed : (error : ℤ) → (of_z w32 error ≡ interrupted_error → ⊥) → (of_z w32 error ≡ wait_error → ⊥) → Failed ≡ unmoved_by error
unfolding unmoved_by
unmoved_failed (pos n) a b = rw (ne_eqb n interrupted_error a, ne_eqb n wait_error b)
unmoved_failed (negsuc n) a b = refl

-- what a call did, in its three cases
module _ (none : Did) (some : ℕ → Did) where
  pub answer_unmoved : (got error : ℤ) (most : ℕ) → lt_z got (pos 0) ≡ true → unmoved_by error ≡ answer_of none some got error most
  unfolding answer_of
  answer_unmoved (pos n) error most below = absurd (omega (arith, ltb-true n 0 below))
  answer_unmoved (negsuc n) error most below = refl

  pub answer_none : (got error : ℤ) (most : ℕ) → lt_z got (pos 0) ≡ false → of_z w64 got ≡ 0 → none ≡ answer_of none some got error most
  unfolding answer_of
  answer_none (pos n) error most above e = rw (eq-eqb n 0 e)
  answer_none (negsuc n) error most above e = never (cc)

  pub answer_some : (got error : ℤ) (most n : ℕ) → lt_z got (pos 0) ≡ false → (of_z w64 got ≡ 0 → ⊥) → n ≡ clamp_len got most → some n ≡ answer_of none some got error most
  unfolding answer_of
  answer_some (pos n) error most k above e c = rw (ne_eqb n 0 e, c)
  answer_some (negsuc n) error most k above e c = never (cc)

  answer_cases : (P : Did → Type 0) (got error : ℤ) (most : ℕ) → P none → ((n : ℕ) → n ≤ most → P (some n)) → P Interrupted → P WouldWait → P Failed → P (answer_of none some got error most)
  unfolding answer_of unmoved_by
  answer_cases P (pos n) error most z s a b c = cases P (eqb n 0) (λ _. z) (λ _. s (min n most) (omega arith))
  answer_cases P (negsuc n) (pos e) most z s a b c = cases P (eqb e interrupted_error) (λ _. a) (λ _. cases P (eqb e wait_error) (λ _. b) (λ _. c))
  answer_cases P (negsuc n) (negsuc e) most z s a b c = c

pub reads : (got error : ℤ) (most : ℕ) → ReadDid most (reading_of got error most)
reads got error most = answer_cases EndedThere Came (ReadDid most) got error most read_end (λ n h. read_some h) read_interrupted read_later read_failed

pub writes : (put error : ℤ) (most : ℕ) → WriteDid most (writing_of put error most)
writes put error most = answer_cases WouldWait Went (WriteDid most) put error most write_later (λ n h. wrote_some h) write_interrupted write_later write_failed

-- what was asked was done
module _ (s : Speaker) (did : Did) (chunk : List ℕ) where
  pub answers_write : (room part : List ℕ) → OwedWithin s room → part ≡ slice s.done s.written room → WriteDid (length part) did → Answers Write s did chunk chunk
  answers_write room part w p d =
      let n : length part ≡ s.written - s.done = ap length p ∙ length-slice s.done s.written room w.owed_within in
      record { of_write = λ _. (rw n at d, refl); of_read = λ e. never (cc) }

  pub answers_read : (chunk_after : List ℕ) → length chunk_after ≡ length chunk → ReadDid (length chunk_after) did → Answers Read s did chunk chunk_after
  answers_read chunk_after n d = record { of_write = λ e. never (cc); of_read = λ _. (d, n) }

  pub answers_nothing : Answers Stop s did chunk chunk
  answers_nothing = record { of_write = λ e. never (cc); of_read = λ e. never (cc) }

-- ---- what is told
module _ (text room after : List ℕ) (count : ℕ) (short : length text ≤ most_bytes) (for_answer : most_bytes ≤ length room) (p : Placed text room after count) where
  its_laid : Laid text room after count
  its_laid = placed_laid text room after count (omega arith) p

  laid_length : length after ≡ length room
  unfolding laid
  laid_length = ap length its_laid.room_is ∙ simp (length-append, length-drop) (omega arith)

  laid_within : count ≤ length after
  laid_within = omega (arith, laid_length, its_laid.count_is)

  laid_part : slice 0 count after ≡ text
  unfolding laid
  laid_part = rw its_laid.room_is (take_at text (drop (length text) room) count (sym its_laid.count_is))

module _ (s : Speaker) (room : List ℕ) where
  pub tells_came : (n : ℕ) → TellsAs s (Came n) (speaker_at s.reader 0 n s.done s.written s.stage) room room
  unfolding talk_of told event_of
  tells_came n =
      record {
        law = λ l chunk k w.
            record {
              sits = record { kept = k.kept; heard_first = omega arith; heard_within = w.few n refl; owed_there = record { owed_first = k.owed_there.owed_first; owed_within = k.owed_there.owed_within }; for_answer = k.for_answer };
              talk_is = refl;
            };
      }

  pub tells_went : (n : ℕ) → s.done + n ≤ s.written → TellsAs s (Went n) (speaker_at s.reader s.from s.got (s.done + n) s.written s.stage) room room
  unfolding talk_of told event_of
  tells_went n h =
      record {
        law = λ l chunk k w.
            record {
              sits = record { kept = k.kept; heard_first = k.heard_first; heard_within = k.heard_within; owed_there = record { owed_first = h; owed_within = k.owed_there.owed_within }; for_answer = k.for_answer };
              talk_is = rw drop-drop;
            };
      }

  pub tells_interrupted : TellsAs s Interrupted s room room
  unfolding told event_of
  tells_interrupted = record { law = λ l chunk k w. record { sits = k; talk_is = refl } }

  pub tells_later : TellsAs s WouldWait s room room
  unfolding told event_of
  tells_later = record { law = λ l chunk k w. record { sits = k; talk_is = refl } }

  pub tells_failed : TellsAs s Failed (speaker_at s.reader 0 0 0 0 CutShort) room room
  unfolding talk_of told event_of
  tells_failed =
      record {
        law = λ l chunk k w.
            record {
              sits = record { kept = k.kept; heard_first = omega arith; heard_within = omega arith; owed_there = record { owed_first = omega arith; owed_within = omega arith }; for_answer = k.for_answer };
              talk_is = refl;
            };
      }

  pub tells_ended : (after : List ℕ) (count : ℕ) → Ended s.reader room after count → TellsAs s EndedThere (speaker_at s.reader s.from s.got 0 count AllHeard) room after
  unfolding talk_of told event_of
  tells_ended after count e =
      record {
        law = λ l chunk k w.
            let text : List ℕ = end_of_input (file_of s.reader l) in
            let short : length (end_of_input (file_of s.reader l)) ≤ most_bytes = end_fits (file_of s.reader l) in
            let p : Placed (end_of_input (file_of s.reader l)) room after count = e.law l k.kept in
            record {
              sits =
                  record {
                    kept = k.kept;
                    heard_first = k.heard_first;
                    heard_within = k.heard_within;
                    owed_there = record { owed_first = omega arith; owed_within = laid_within _ room after count short k.for_answer p };
                    for_answer = omega (arith, k.for_answer, laid_length _ room after count short k.for_answer p);
                  };
              talk_is = ap (λ (o : List ℕ). talk (file_of s.reader l) (slice s.from s.got chunk) o AllHeard) (laid_part _ room after count short k.for_answer p);
            };
      }

-- ---- bytes are looked at
-- looking on from here leads where looking on from the beginning does
pub record LookUnderway (t : Talk) (s : Speaker) (l : Lists) (chunk room : List ℕ) : Type 0 where
  pub sits : Sits s l chunk room
  pub leads : talk_looked (talk_of s l chunk room) ≡ talk_looked t

pub look_start : (s : Speaker) (l : Lists) (chunk room : List ℕ) → Sits s l chunk room → LookUnderway (talk_of s l chunk room) s l chunk room
look_start s l chunk room k = record { sits = k; leads = refl }

-- what the next byte does, and the speaker after it
abbrev step_at : Speaker → Lists → List ℕ → FileStep
step_at s l chunk = take_byte (file_of s.reader l) (get_or chunk s.from 0)

abbrev pub next_speaker : Speaker → Taken → Speaker
next_speaker s taken = speaker_at taken.reader (s.from + 1) s.got 0 taken.written s.stage

-- when a byte is looked at
pub record LooksOn (r : Reader) (from got done written : ℕ) : Type 0 where
  pub there : from < got
  pub paid : done ≡ written
  pub goes : r.going ≡ true

pub looks_on_more : (r : Reader) (from got done written : ℕ) → looks_on r from got done written ≡ true → LooksOn r from got done written
unfolding looks_on
looks_on_more r from got done written on =
    both_true (ltb from got && eqb done written) r.going on
    (λ a g. both_true (ltb from got) (eqb done written) a (λ m p. record { there = ltb-true from got m; paid = eqb-true done written p; goes = g }))

looks_on_is : (r : Reader) (from got done written : ℕ) → from < got → done ≡ written → r.going ≡ true → looks_on r from got done written ≡ true
unfolding looks_on
looks_on_is r from got done written a p g = rw (lt-ltb _ _ a, eq-eqb _ _ p, g)

-- bytes of a line are held, which are looked at and print nothing
module _ (t : Talk) (s : Speaker) (l : Lists) (chunk room : List ℕ) (u : LookUnderway t s l chunk room) (on : looks_on s.reader s.from s.got s.done s.written ≡ true)
    (n : ℕ) (line : List ℕ) (h : Held s.reader n (take (s.got - s.from) (drop s.from chunk)) l.line line) where
  pub held_fit : s.from + n ≤ s.got
  held_fit =
      let m = looks_on_more _ _ _ _ _ on in
      let few : n ≤ length (slice s.from s.got chunk) = rw (lent_part s.from s.got chunk (omega (arith, m.there))) at (held_few h) in
      omega (arith, few, length-slice s.from s.got chunk u.sits.heard_within, m.there)

  -- where they are not all that there are, the next byte is looked at
  pub held_on : (s.from + n ≡ s.got → ⊥) → looks_on (holding_more s.reader n) (s.from + n) s.got s.done s.written ≡ true
  held_on more = let m = looks_on_more _ _ _ _ _ on in looks_on_is _ _ _ _ _ (by_lt (s.from + n) s.got (λ x. x) (λ x. absurd (more (omega (arith, held_fit))))) m.paid m.goes

  pub look_held : LookUnderway t (speaker_at (holding_more s.reader n) (s.from + n) s.got s.done s.written s.stage) (lists line l.tails l.heads l.weights l.index l.forward l.backward) chunk room
  unfolding talk_of file_of
  look_held =
      let m = looks_on_more _ _ _ _ _ on in
      let after : Lists = lists line l.tails l.heads l.weights l.index l.forward l.backward in
      let all = h.law l.tails l.heads l.weights l.index l.forward l.backward u.sits.kept in
      let bytes : List ℕ = slice s.from s.got chunk in
      let owed : slice s.done s.written room ≡ [] = empty _ (length-slice s.done s.written room u.sits.owed_there.owed_within ∙ omega (arith, m.paid)) in
      let fed : feed (file_of s.reader l) (take n bytes) ≡ step (file_of (holding_more s.reader n) after) [] = rw (lent_part s.from s.got chunk (omega (arith, m.there))) at all.file_is in
      let looked : look_on s.stage (file_of s.reader l) [] (take n bytes ++ drop n bytes) ≡ look_on s.stage (file_of (holding_more s.reader n) after) [] (drop n bytes) = look_fed s.stage (file_of s.reader l) (file_of (holding_more s.reader n) after) (take n bytes) (drop n bytes) fed m.goes in
      record {
        sits =
            record {
              kept = all.kept;
              heard_first = held_fit;
              heard_within = u.sits.heard_within;
              owed_there = record { owed_first = u.sits.owed_there.owed_first; owed_within = u.sits.owed_there.owed_within };
              for_answer = u.sits.for_answer;
            };
        leads = rw owed (sym (rw (take-append-drop n bytes, drop-drop n s.from (take s.got chunk)) at looked) ∙ (rw owed at u.leads));
      }

-- one byte more is looked at
module _ (t : Talk) (s : Speaker) (l : Lists) (chunk room : List ℕ) (u : LookUnderway t s l chunk room) (on : looks_on s.reader s.from s.got s.done s.written ≡ true)
    (taken : Taken) (after : Lists) (room_after : List ℕ) (st : Stepped (take_byte (file_of s.reader l) (get_or chunk s.from 0)) taken l after room room_after) where
  more : s.from < s.got
  more = (looks_on_more _ _ _ _ _ on).there

  paid : s.done ≡ s.written
  paid = (looks_on_more _ _ _ _ _ on).paid

  goes : s.reader.going ≡ true
  goes = (looks_on_more _ _ _ _ _ on).goes

  short : length (step_at s l chunk).printed ≤ most_bytes
  short = (printed_fits (file_of s.reader l) (get_or chunk s.from 0)).bytes

  pub more_length : length room_after ≡ length room
  more_length = laid_length (step_at s l chunk).printed room room_after taken.written short u.sits.for_answer st.room_is

  next_sits : Sits (next_speaker s taken) after chunk room_after
  next_sits =
      record {
        kept = st.kept;
        heard_first = omega (arith, more);
        heard_within = u.sits.heard_within;
        owed_there = record { owed_first = omega arith; owed_within = laid_within (step_at s l chunk).printed room room_after taken.written short u.sits.for_answer st.room_is };
        for_answer = omega (arith, u.sits.for_answer, more_length);
      }

  looked_one : talk_looked (talk_of s l chunk room) ≡ look_on s.stage (step_at s l chunk).file (step_at s l chunk).printed (slice (suc s.from) s.got chunk)
  unfolding talk_of file_of
  looked_one =
      let none : length (slice s.done s.written room) ≡ 0 = length-slice s.done s.written room u.sits.owed_there.owed_within ∙ omega (arith, paid) in
      ap (λ (h : List ℕ). look_on s.stage (file_of s.reader l) (slice s.done s.written room) h) (slice-cons s.from s.got chunk 0 more u.sits.heard_within)
      ∙ look_one s.stage (file_of s.reader l) (slice s.done s.written room) (get_or chunk s.from 0) (slice (suc s.from) s.got chunk) none goes

  looked_next : talk_looked (talk_of (next_speaker s taken) after chunk room_after) ≡ look_on s.stage (step_at s l chunk).file (step_at s l chunk).printed (slice (suc s.from) s.got chunk)
  unfolding talk_of
  looked_next = rw (st.file_is, laid_part (step_at s l chunk).printed room room_after taken.written short u.sits.for_answer st.room_is, add-one)

  pub look_more : LookUnderway t (next_speaker s taken) after chunk room_after
  look_more = record { sits = next_sits; leads = looked_next ∙ (sym looked_one ∙ u.leads) }

-- where it ends
module _ (t : Talk) (s : Speaker) (l : Lists) (chunk room : List ℕ) (u : LookUnderway t s l chunk room) where
  look_done : talk_looked (talk_of s l chunk room) ≡ talk_of s l chunk room → StandsFor (talk_looked t) s l chunk room
  look_done e = record { sits = u.sits; talk_is = sym e ∙ u.leads }

  look_all : s.got ≤ s.from → StandsFor (talk_looked t) s l chunk room
  unfolding talk_of
  look_all h =
      let none : slice s.from s.got chunk ≡ [] = empty _ (length-slice s.from s.got chunk u.sits.heard_within ∙ omega arith) in
      look_done (look_nothing s.stage (file_of s.reader l) (slice s.done s.written room) (slice s.from s.got chunk) none)

  look_until_owing : (s.done ≡ s.written → ⊥) → StandsFor (talk_looked t) s l chunk room
  unfolding talk_of
  look_until_owing h =
      let some : length (slice s.done s.written room) ≡ 0 → ⊥ = λ e. h (omega (arith, length-slice s.done s.written room u.sits.owed_there.owed_within, u.sits.owed_there.owed_first)) in
      look_done (look_owing s.stage (file_of s.reader l) (slice s.done s.written room) (slice s.from s.got chunk) some)

  look_until_ended : s.reader.going ≡ false → StandsFor (talk_looked t) s l chunk room
  unfolding talk_of file_of
  look_until_ended h = look_done (look_ended s.stage (file_of s.reader l) (slice s.done s.written room) (slice s.from s.got chunk) h)

  pub look_end : looks_on s.reader s.from s.got s.done s.written ≡ false → StandsFor (talk_looked t) s l chunk room
  unfolding looks_on
  look_end off =
      by_lt s.from s.got
      (λ more. by_eq s.done s.written (λ paid. by_bool s.reader.going (λ goes. absurd (true≢false (looks_on_is s.reader s.from s.got s.done s.written more paid goes) off)) look_until_ended) look_until_owing)
      look_all

-- what is told and then looked at is what follows
pub follows : (s : Speaker) (did : Did) (told_to : Speaker) (l : Lists) (chunk room room_told : List ℕ) → Sits s l chunk room → CameWithin did (length chunk) → TellsAs s did told_to room room_told
    → (r : Speaker) (after_look : Lists) (room_after : List ℕ) → StandsFor (talk_looked (talk_of told_to l chunk room_told)) r after_look chunk room_after
    → StandsFor (talk_after (talk_of s l chunk room) (event_of did chunk)) r after_look chunk room_after
follows s did told_to l chunk room room_told k w t r after_look room_after v =
    record { sits = v.sits; talk_is = v.talk_is ∙ ap talk_looked (t.law l chunk k w).talk_is }

-- ---- the program holds a talk that can come to pass
pub record Holds (s : Speaker) (l : Lists) (chunk room : List ℕ) : Type 0 where
  pub what_is_seen : Seen
  pub talked : Talked what_is_seen (talk_of s l chunk room)
  pub sits : Sits s l chunk room

pub holds_start : (s : Speaker) (l : Lists) (chunk room : List ℕ) → s ≡ start_speaker → Roomy l → most_bytes ≤ length room → Holds s l chunk room
holds_start s l chunk room e r h =
    let v : StandsFor silence start_speaker l chunk room = start_stands l chunk room r h in
    rw e (record { what_is_seen = seen [] false []; talked = rw v.talk_is begun; sits = v.sits })

-- the system did something that can come of what was asked
pub record Ready (s : Speaker) (did : Did) (l : Lists) (chunk room : List ℕ) : Type 0 where
  pub holds : Holds s l chunk room
  pub came_within : CameWithin did (length chunk)
  pub went_within : WentWithin s did
  pub possible : Possible (talk_of s l chunk room) (event_of did chunk)

-- what came of a read or a write fits
read_came : {most : ℕ} {did : Did} → ReadDid most did → CameWithin did most
read_came (read_some {n} few) = record { few = λ m e. let q : n ≡ m = cc in omega arith }
read_came read_end = record { few = λ m e. never (cc) }
read_came read_interrupted = record { few = λ m e. never (cc) }
read_came read_later = record { few = λ m e. never (cc) }
read_came read_failed = record { few = λ m e. never (cc) }

read_went : {most : ℕ} {did : Did} (s : Speaker) → ReadDid most did → WentWithin s did
read_went s (read_some few) = record { few = λ m e. never (cc) }
read_went s read_end = record { few = λ m e. never (cc) }
read_went s read_interrupted = record { few = λ m e. never (cc) }
read_went s read_later = record { few = λ m e. never (cc) }
read_went s read_failed = record { few = λ m e. never (cc) }

write_came : {few most : ℕ} {did : Did} → WriteDid few did → CameWithin did most
write_came (wrote_some few) = record { few = λ m e. never (cc) }
write_came write_interrupted = record { few = λ m e. never (cc) }
write_came write_later = record { few = λ m e. never (cc) }
write_came write_failed = record { few = λ m e. never (cc) }

write_went : {did : Did} (s : Speaker) → s.done ≤ s.written → WriteDid (s.written - s.done) did → WentWithin s did
write_went s h (wrote_some {n} few) = record { few = λ m e. let q : n ≡ m = cc in omega arith }
write_went s h write_interrupted = record { few = λ m e. never (cc) }
write_went s h write_later = record { few = λ m e. never (cc) }
write_went s h write_failed = record { few = λ m e. never (cc) }

module _ (t : Talk) (chunk : List ℕ) where
  read_possible : asks t ≡ Read → {most : ℕ} {did : Did} → ReadDid most did → Possible t (event_of did chunk)
  unfolding event_of
  read_possible a (read_some {n} few) = can_come a (take n chunk)
  read_possible a read_end = can_end a
  read_possible a read_interrupted = can_pass (λ e. never (cc))
  read_possible a read_later = can_pass (λ e. never (cc))
  read_possible a read_failed = can_fail (λ e. never (cc))

  write_possible : asks t ≡ Write → {did : Did} → WriteDid (length t.owed) did → Possible t (event_of did chunk)
  unfolding event_of
  write_possible a (wrote_some {n} few) = can_go a n few
  write_possible a write_interrupted = can_pass (λ e. never (cc))
  write_possible a write_later = can_pass (λ e. never (cc))
  write_possible a write_failed = can_fail (λ e. never (cc))

module _ (s : Speaker) (l : Lists) (chunk room : List ℕ) (h : Holds s l chunk room) where
  ready_write : asks (talk_of s l chunk room) ≡ Write → {did : Did} → WriteDid (s.written - s.done) did → Ready s did l chunk room
  unfolding talk_of
  ready_write a d =
      record {
        holds = h;
        came_within = write_came d;
        went_within = write_went s h.sits.owed_there.owed_first d;
        possible = write_possible (talk_of s l chunk room) chunk a (rw (length-slice s.done s.written room h.sits.owed_there.owed_within) d);
      }

  module _ (a : asks (talk_of s l chunk room) ≡ Read) (chunk_after : List ℕ) (same : length chunk_after ≡ length chunk) where
    none_left : s.from ≡ s.got
    unfolding talk_of
    none_left = omega (arith, ap length (none_left_to_look_at h.talked a), length-slice s.from s.got chunk h.sits.heard_within, h.sits.heard_first)

    same_talk : talk_of s l chunk_after room ≡ talk_of s l chunk room
    unfolding talk_of
    same_talk = rw (none_left, slice_empty s.got chunk_after, slice_empty s.got chunk)

    ready_read : {did : Did} → ReadDid (length chunk_after) did → Ready s did l chunk_after room
    ready_read d =
        record {
          holds =
              record {
                what_is_seen = h.what_is_seen;
                talked = rw same_talk h.talked;
                sits = record { kept = h.sits.kept; heard_first = h.sits.heard_first; heard_within = omega (arith, h.sits.heard_within); owed_there = h.sits.owed_there; for_answer = h.sits.for_answer };
              };
          came_within = read_came d;
          went_within = read_went s d;
          possible = read_possible (talk_of s l chunk_after room) chunk_after (rw same_talk a) d;
        }

  -- whatever the system did, it can come of what was asked
  pub ready : (ask : Ask) (did : Did) (chunk_after : List ℕ) → AsksAs s ask → (ask ≡ Stop → ⊥) → Answers ask s did chunk chunk_after → Ready s did l chunk_after room
  ready Write did chunk_after asked goes d = rw (d.of_write refl).1 (ready_write (sym (asked.law l chunk room h.sits)) (d.of_write refl).0)
  ready Read did chunk_after asked goes d = ready_read (sym (asked.law l chunk room h.sits)) chunk_after (d.of_read refl).1 (d.of_read refl).0
  ready Stop did chunk_after asked goes d = absurd (goes refl)

-- and what follows is again a talk that can come to pass
pub holds_on : (s : Speaker) (did : Did) (l : Lists) (chunk room : List ℕ) → Ready s did l chunk room → (r : Speaker) (l_after : Lists) (room_after : List ℕ)
    → StandsFor (talk_after (talk_of s l chunk room) (event_of did chunk)) r l_after chunk room_after → Holds r l_after chunk room_after
holds_on s did l chunk room y r l_after room_after v =
    record { what_is_seen = seen_after y.holds.what_is_seen (talk_of s l chunk room) (event_of did chunk); talked = rw v.talk_is (then y.holds.talked y.possible); sits = v.sits }
