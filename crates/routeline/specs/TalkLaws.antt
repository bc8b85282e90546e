-- Every talk keeps what is promised of it, whatever the system does. The invariant: while the input goes on, the bytes looked at
-- are those that were read and are not left to look at, and what they print is what is written and then what is owed; once the
-- input has ended, the same holds of the file's whole answer. Each event keeps it. Assumes nothing.
use Rattle.std.specs.Prelude.{◌≡◌, refl, Bool, true, false, List, [], ◌∷◌, ◌++◌, ℕ, ◌+◌, length, take, drop}
use Rattle.std.proofs.Common.{sym, ◌∙◌, ap, append_assoc, append-nil, arith, eqb-true, eq-eqb, ne_eqb, length-append, take-append-drop}
use Rattle.network.specs.CaseSplit.{by_bool, by_eq, cases2, true≢false}
use Rattle.district.specs.File.{File, FileStep, step, take_byte, end_of_input, feed, answer_from, file_answer}
use Rattle.district.specs.FileLaws.{feed_append, rest_of, rest_ended}
use Rattle.routeline.specs.declared.Stage.{Stage}
use Rattle.routeline.specs.declared.Stage.TheVariants.{Listening, AllHeard, CutShort}
use Rattle.routeline.specs.declared.Ask.TheVariants.{Write, Read, Stop}
use Rattle.routeline.specs.Talk.{Talk, talk, unread, is_empty, asks_on, asks, Event, came, over, went, failed, Possible, can_come, can_end, can_go, can_pass, can_fail, look_on, talk_looked, told, talk_after, Seen, seen, seen_after, Talked, begun, then, due, Begins, LastLooked, Promised}

-- ---- cases
by_stage : {P : Type 0} (stage : Stage) → (stage ≡ Listening → P) → (stage ≡ AllHeard → P) → (stage ≡ CutShort → P) → P
by_stage Listening f g h = f refl
by_stage AllHeard f g h = g refl
by_stage CutShort f g h = h refl

-- two things that differ are not the same
pub never : {P : Type 0} → ◌≡◌ {A = ℕ} 0 1 → P
never e = absurd (omega arith)

pub empty : (l : List ℕ) → length l ≡ 0 → l ≡ []
empty [] e = refl
empty (x ∷ l) e = absurd (omega arith)

-- ---- what is asked
-- a read is asked for when nothing is owed, the input goes on and the file too
pub record AsksToRead (t : Talk) : Type 0 where
  pub none_owed : length t.owed ≡ 0
  pub listening : t.stage ≡ Listening
  pub going : t.file.going ≡ true

asks_owing : (t : Talk) → (length t.owed ≡ 0 → ⊥) → asks t ≡ Write
unfolding asks
asks_owing t some = rw (ne_eqb _ _ some)

asks_idle : (t : Talk) (stage : Stage) (going : Bool) → length t.owed ≡ 0 → t.stage ≡ stage → t.file.going ≡ going → asks t ≡ asks_on stage going
unfolding asks
asks_idle t stage going none l g = rw (eq-eqb _ _ none, l, g)

asks_to_read : (t : Talk) → asks t ≡ Read → AsksToRead t
asks_to_read t e =
    by_eq (length t.owed) 0
    (λ none. by_stage t.stage
    (λ l. by_bool t.file.going (λ g. record { none_owed = none; listening = l; going = g }) (λ g. let q = asks_idle t Listening false none l g in never (cc)))
    (λ l. let q = asks_idle t AllHeard t.file.going none l refl in never (cc))
    (λ l. let q = asks_idle t CutShort t.file.going none l refl in never (cc)))
    (λ some. let q = asks_owing t some in never (cc))

asks_to_write : (t : Talk) → asks t ≡ Write → length t.owed ≡ 0 → ⊥
asks_to_write t e none =
    by_stage t.stage
    (λ l. by_bool t.file.going (λ g. let q = asks_idle t Listening true none l g in never (cc)) (λ g. let q = asks_idle t Listening false none l g in never (cc)))
    (λ l. let q = asks_idle t AllHeard t.file.going none l refl in never (cc))
    (λ l. let q = asks_idle t CutShort t.file.going none l refl in never (cc))

asks_to_stop : (t : Talk) → asks t ≡ Stop → length t.owed ≡ 0
asks_to_stop t e = by_eq (length t.owed) 0 (λ none. none) (λ some. let q = asks_owing t some in never (cc))

stops_listening : (t : Talk) → asks t ≡ Stop → t.stage ≡ Listening → t.file.going ≡ false
stops_listening t e l =
    by_bool t.file.going (λ g. let q = asks_idle t Listening true (asks_to_stop t e) l g in never (cc)) (λ g. g)

cut_short_stops : (t : Talk) → length t.owed ≡ 0 → t.stage ≡ CutShort → asks t ≡ Stop
cut_short_stops t none l = asks_idle t CutShort t.file.going none l refl

-- ---- bytes
feed_one : (f : File) (b : ℕ) → feed f (b ∷ []) ≡ take_byte f b
unfolding feed
feed_one f b = ap (λ (p : List ℕ). step (take_byte f b).file p) (append-nil (take_byte f b).printed)

feed_more : (f : File) (looked : List ℕ) (b : ℕ) → feed f (looked ++ (b ∷ [])) ≡ step (take_byte (feed f looked).file b).file ((feed f looked).printed ++ (take_byte (feed f looked).file b).printed)
feed_more f looked b = rw (feed_append, feed_one)

-- what a file prints after some of its bytes comes after what those print
answer_append : (looked more : List ℕ) → file_answer (looked ++ more) ≡ (feed unread looked).printed ++ rest_of (feed unread looked).file more
unfolding answer_from rest_of
answer_append looked more = rw (feed_append, append_assoc)

-- ---- the invariant
-- while the input goes on
record Hears (s : Seen) (t : Talk) : Type 0 where
  not_ended : s.ended ≡ false
  looked : List ℕ
  read_is : s.read ≡ looked ++ t.heard
  file_is : t.file ≡ (feed unread looked).file
  said : (feed unread looked).printed ≡ s.written ++ t.owed
  none_left : length t.owed ≡ 0 → t.file.going ≡ true → t.heard ≡ []
  last : (length t.owed ≡ 0 → ⊥) → LastLooked s t

-- once the input has ended
record Finishes (s : Seen) (t : Talk) : Type 0 where
  has_ended : s.ended ≡ true
  none_heard : t.heard ≡ []
  said : file_answer s.read ≡ s.written ++ t.owed

record Invariant (s : Seen) (t : Talk) : Type 0 where
  in_order : Begins (due s) s.written
  hears : t.stage ≡ Listening → Hears s t
  finishes : t.stage ≡ AllHeard → Finishes s t
  none_owed : t.stage ≡ CutShort → length t.owed ≡ 0

hears_in_order : (s : Seen) (t : Talk) → Hears s t → Begins (due s) s.written
hears_in_order s t h =
    record {
      rest = t.owed ++ (feed (feed unread h.looked).file t.heard).printed;
      whole_is = rw (h.not_ended, h.read_is, feed_append, h.said, append_assoc);
    }

kept_hearing : (s : Seen) (t : Talk) → t.stage ≡ Listening → Hears s t → Invariant s t
kept_hearing s t l h =
    record {
      in_order = hears_in_order s t h;
      hears = λ _. h;
      finishes = λ e. never (cc);
      none_owed = λ e. never (cc);
    }

kept_finishing : (s : Seen) (t : Talk) → t.stage ≡ AllHeard → Finishes s t → Invariant s t
kept_finishing s t l h =
    record {
      in_order = record { rest = t.owed; whole_is = rw h.has_ended h.said };
      hears = λ e. never (cc);
      finishes = λ _. h;
      none_owed = λ e. never (cc);
    }

-- looking on keeps it
look_stage : (stage : Stage) (f : File) (owed heard : List ℕ) → (look_on stage f owed heard).stage ≡ stage
unfolding look_on
look_stage stage f owed [] = refl
look_stage stage f owed (b ∷ heard) =
    cases2 (λ (t : Talk). t.stage ≡ stage) (is_empty owed) f.going (λ _ _. look_stage stage (take_byte f b).file (take_byte f b).printed heard) (λ _. refl)

module _ (s : Seen) (goes_on : s.ended ≡ false) where
  look_hears : (looked : List ℕ) (f : File) (owed heard : List ℕ) → s.read ≡ looked ++ heard → f ≡ (feed unread looked).file → (feed unread looked).printed ≡ s.written ++ owed
      → ((length owed ≡ 0 → ⊥) → LastLooked s (talk f heard owed Listening)) → Hears s (look_on Listening f owed heard)
  unfolding look_on
  look_hears looked f owed [] r g p l =
      record { not_ended = goes_on; looked = looked; read_is = r; file_is = g; said = p; none_left = λ _ _. refl; last = l }
  look_hears looked f owed (b ∷ heard) r g p l =
      cases2 (Hears s) (is_empty owed) f.going
      (λ none _.
      let nothing : owed ≡ [] = empty owed (eqb-true _ _ none) in
      let paid : (feed unread looked).printed ≡ s.written = p ∙ rw (nothing, append-nil) in
      let r' : s.read ≡ (looked ++ (b ∷ [])) ++ heard = r ∙ sym (append_assoc looked (b ∷ []) heard) in
      let g' : (take_byte f b).file ≡ (feed unread (looked ++ (b ∷ []))).file = rw (feed_more, g) in
      let p' : (feed unread (looked ++ (b ∷ []))).printed ≡ s.written ++ (take_byte f b).printed = rw (feed_more, paid, g) in
      look_hears (looked ++ (b ∷ [])) (take_byte f b).file (take_byte f b).printed heard r' g' p'
      (λ _. record { before = looked; last = b; read_is = r; file_is = rw g; earlier_written = record { rest = []; whole_is = rw (append-nil, paid) }; owed_is = rw (paid, g) }))
      (λ some.
      record {
        not_ended = goes_on;
        looked = looked;
        read_is = r;
        file_is = g;
        said = p;
        none_left = λ none goes. absurd (true≢false goes (some (eq-eqb _ _ none)));
        last = l;
      })

-- a byte is looked at where nothing is owed and the file goes on
pub look_one : (stage : Stage) (f : File) (owed : List ℕ) (b : ℕ) (heard : List ℕ) → length owed ≡ 0 → f.going ≡ true → look_on stage f owed (b ∷ heard) ≡ look_on stage (take_byte f b).file (take_byte f b).printed heard
unfolding look_on
look_one stage f owed b heard none goes =
    cases2 (λ (t : Talk). t ≡ look_on stage (take_byte f b).file (take_byte f b).printed heard) (is_empty owed) f.going (λ _ _. refl) (λ some. absurd (true≢false goes (some (eq-eqb _ _ none))))

-- a file that a refusal has ended stays as it is
feed_ended : (f : File) (bytes : List ℕ) → f.going ≡ false → feed f bytes ≡ step f []
unfolding feed take_byte
feed_ended f [] ended = refl
feed_ended f (b ∷ bytes) ended = let same : take_byte f b ≡ step f [] = rw ended in rw (same, feed_ended f bytes ended)

fed_goes : (f : File) (bytes : List ℕ) → (feed f bytes).file.going ≡ true → f.going ≡ true
fed_goes f bytes goes =
    by_bool f.going (λ e. e) (λ ended. absurd (true≢false goes (ap (λ (s : FileStep). s.file.going) (feed_ended f bytes ended) ∙ ended)))

-- bytes that print nothing are looked at, and then those after them
pub look_fed : (stage : Stage) (f g : File) (bytes heard : List ℕ) → feed f bytes ≡ step g [] → g.going ≡ true → look_on stage f [] (bytes ++ heard) ≡ look_on stage g [] heard
unfolding feed
look_fed stage f g [] heard e goes = ap (λ (s : FileStep). look_on stage s.file [] heard) e
look_fed stage f g (b ∷ bytes) heard e goes =
    let first : FileStep = take_byte f b in
    let rest : FileStep = feed first.file bytes in
    let none : length first.printed + length rest.printed ≡ 0 = sym (length-append first.printed rest.printed) ∙ ap (λ (s : FileStep). length s.printed) e in
    let leads : feed first.file bytes ≡ step g [] = λ i. step (e i).file (empty rest.printed (omega arith) i) in
    look_one stage f [] b (bytes ++ heard) refl (fed_goes f (b ∷ bytes) (ap (λ (s : FileStep). s.file.going) e ∙ goes))
    ∙ (ap (λ (owed : List ℕ). look_on stage first.file owed (bytes ++ heard)) (empty first.printed (omega arith)) ∙ look_fed stage first.file g bytes heard leads goes)

-- nothing is looked at where nothing was heard, where something is owed, and where a refusal has ended the file
module _ (stage : Stage) (f : File) (owed : List ℕ) where
  pub look_nothing : (heard : List ℕ) → heard ≡ [] → look_on stage f owed heard ≡ talk f heard owed stage
  unfolding look_on
  look_nothing [] e = refl
  look_nothing (b ∷ heard) e = absurd (omega (arith, ap length e))

  pub look_owing : (heard : List ℕ) → (length owed ≡ 0 → ⊥) → look_on stage f owed heard ≡ talk f heard owed stage
  unfolding look_on
  look_owing [] some = refl
  look_owing (b ∷ heard) some = rw (ne_eqb _ _ some)

  pub look_ended : (heard : List ℕ) → f.going ≡ false → look_on stage f owed heard ≡ talk f heard owed stage
  unfolding look_on
  look_ended [] e = refl
  look_ended (b ∷ heard) e = cases2 (λ (t : Talk). t ≡ talk f (b ∷ heard) owed stage) (is_empty owed) f.going (λ _ goes. absurd (true≢false goes e)) (λ _. refl)

module _ (s : Seen) (t : Talk) (k : Invariant s t) where
  -- ---- each event keeps the invariant
  hearing : asks t ≡ Read → Hears s t
  hearing e = k.hears (asks_to_read t e).listening

  read_all_looked : (e : asks t ≡ Read) → s.read ≡ (hearing e).looked
  read_all_looked e =
      let a : AsksToRead t = asks_to_read t e in
      (hearing e).read_is ∙ (ap (λ (l : List ℕ). (hearing e).looked ++ l) ((hearing e).none_left a.none_owed a.going) ∙ append-nil (hearing e).looked)

  all_paid : (e : asks t ≡ Read) → (feed unread s.read).printed ≡ s.written
  all_paid e =
      let nothing : t.owed ≡ [] = empty t.owed (asks_to_read t e).none_owed in
      ap (λ (l : List ℕ). (feed unread l).printed) (read_all_looked e) ∙ ((hearing e).said ∙ rw (nothing, append-nil))

  kept_came : asks t ≡ Read → (bytes : List ℕ) → Invariant (seen_after s t (came bytes)) (talk_after t (came bytes))
  unfolding told
  kept_came e bytes =
      let a : AsksToRead t = asks_to_read t e in
      let h : Hears s t = hearing e in
      kept_hearing _ _ (look_stage t.stage t.file t.owed bytes ∙ a.listening)
      (rw a.listening (look_hears (seen_after s t (came bytes)) h.not_ended h.looked t.file t.owed bytes (ap (λ (l : List ℕ). l ++ bytes) (read_all_looked e)) h.file_is h.said (λ some. absurd (some a.none_owed))))

  kept_over : asks t ≡ Read → Invariant (seen_after s t over) (talk_after t over)
  unfolding told answer_from
  kept_over e =
      let h : Hears s t = hearing e in
      let none : t.heard ≡ [] = h.none_left (asks_to_read t e).none_owed (asks_to_read t e).going in
      rw (look_nothing AllHeard t.file (end_of_input t.file) t.heard none)
      (kept_finishing _ _ refl
      (record {
        has_ended = refl;
        none_heard = none;
        said = rw (all_paid e, read_all_looked e, ← h.file_is);
      }))

  module _ (n : ℕ) where
    paid_on : {printed : List ℕ} → printed ≡ s.written ++ t.owed → printed ≡ (s.written ++ take n t.owed) ++ drop n t.owed
    paid_on p = p ∙ rw (append_assoc, take-append-drop)

    last_on : LastLooked s t → LastLooked (seen_after s t (went n)) (told t (went n))
    unfolding told
    last_on l =
        record {
          before = l.before;
          last = l.last;
          read_is = l.read_is;
          file_is = l.file_is;
          earlier_written = record { rest = l.earlier_written.rest ++ take n t.owed; whole_is = ap (λ (w : List ℕ). w ++ take n t.owed) l.earlier_written.whole_is ∙ append_assoc (feed unread l.before).printed l.earlier_written.rest (take n t.owed) };
          owed_is = sym (paid_on refl) ∙ l.owed_is;
        }

    kept_went : asks t ≡ Write → Invariant (seen_after s t (went n)) (talk_after t (went n))
    unfolding told
    kept_went e =
        by_stage t.stage on_hearing on_finishing (λ l. absurd (asks_to_write t e (k.none_owed l)))
      where
        on_hearing : t.stage ≡ Listening → Invariant (seen_after s t (went n)) (talk_after t (went n))
        on_hearing l =
            let h : Hears s t = k.hears l in
            kept_hearing _ _ (look_stage t.stage t.file (drop n t.owed) t.heard ∙ l)
            (rw l (look_hears (seen_after s t (went n)) h.not_ended h.looked t.file (drop n t.owed) t.heard h.read_is h.file_is (paid_on h.said)
            (λ _. rw l at (last_on (h.last (asks_to_write t e))))))

        on_finishing : t.stage ≡ AllHeard → Invariant (seen_after s t (went n)) (talk_after t (went n))
        on_finishing l =
            let h : Finishes s t = k.finishes l in
            rw (look_nothing t.stage t.file (drop n t.owed) t.heard h.none_heard)
            (kept_finishing _ _ l (record { has_ended = h.has_ended; none_heard = h.none_heard; said = paid_on h.said }))

  kept_again : (asks t ≡ Stop → ⊥) → Invariant s (talk_looked t)
  kept_again e =
      by_stage t.stage
      (λ l. let h : Hears s t = k.hears l in
      kept_hearing _ _ (look_stage t.stage t.file t.owed t.heard ∙ l)
      (rw l (look_hears s h.not_ended h.looked t.file t.owed t.heard h.read_is h.file_is h.said (λ some. rw l at (h.last some)))))
      (λ l. let h : Finishes s t = k.finishes l in rw (look_nothing t.stage t.file t.owed t.heard h.none_heard) (kept_finishing s t l h))
      (λ l. absurd (e (cut_short_stops t (k.none_owed l) l)))

  kept_failed : Invariant s (talk_after t failed)
  unfolding told look_on
  kept_failed =
      record {
        in_order = k.in_order;
        hears = λ l. never (cc);
        finishes = λ l. never (cc);
        none_owed = λ _. refl;
      }

  kept_then : {e : Event} → Possible t e → Invariant (seen_after s t e) (talk_after t e)
  unfolding told
  kept_then (can_come a bytes) = kept_came a bytes
  kept_then (can_end a) = kept_over a
  kept_then (can_go a n h) = kept_went n a
  kept_then (can_pass a) = kept_again a
  kept_then (can_fail a) = kept_failed

  -- ---- what the invariant says
  kept_promised : Promised s t
  kept_promised =
      record {
        in_order = k.in_order;
        paid_before_reading = λ e. rw ((hearing e).not_ended, all_paid e);
        paid_before_looking =
            λ e o. by_stage t.stage (λ l. (k.hears l).last (asks_to_write t e)) (λ l. absurd (true≢false (k.finishes l).has_ended o)) (λ l. absurd (asks_to_write t e (k.none_owed l)));
        whole_at_the_end =
            λ e c o. by_stage t.stage (λ l. absurd (true≢false o (k.hears l).not_ended)) (λ l. sym ((k.finishes l).said ∙ rw (empty t.owed (asks_to_stop t e), append-nil))) (λ l. absurd (c l));
        whole_before_the_end =
            λ e c o more. by_stage t.stage (λ l. stopped (k.hears l) (empty t.owed (asks_to_stop t e)) (stops_listening t e l) more) (λ l. absurd (true≢false (k.finishes l).has_ended o)) (λ l. absurd (c l));
        silent_after_failure = λ l. cut_short_stops t (k.none_owed l) l;
      }
    where
      stopped : Hears s t → t.owed ≡ [] → t.file.going ≡ false → (more : List ℕ) → s.written ≡ file_answer (s.read ++ more)
      stopped h nothing ended more =
          let over : (feed unread h.looked).file.going ≡ false = rw (← h.file_is) ended in
          rw (h.read_is, append_assoc, answer_append, rest_ended (feed unread h.looked).file (t.heard ++ more) over, append-nil, h.said, nothing, append-nil)

-- nothing is said or heard at the beginning
kept_begun : Invariant (seen [] false []) (talk unread [] [] Listening)
unfolding feed
kept_begun =
    kept_hearing _ _ refl
    (record {
      not_ended = refl;
      looked = [];
      read_is = refl;
      file_is = refl;
      said = refl;
      none_left = λ _ _. refl;
      last = λ some. absurd (some refl);
    })

kept_talk : {s : Seen} {t : Talk} → Talked s t → Invariant s t
kept_talk begun = kept_begun
kept_talk (then {s} {t} r p) = kept_then s t (kept_talk r) p

-- every talk keeps what is promised, whatever the system does
pub every_talk_promised : {s : Seen} {t : Talk} → Talked s t → Promised s t
every_talk_promised {s} {t} r = kept_promised s t (kept_talk r)

-- when bytes are asked for, none that came before are left to look at
pub none_left_to_look_at : {s : Seen} {t : Talk} → Talked s t → asks t ≡ Read → t.heard ≡ []
none_left_to_look_at {s} {t} r e = (hearing s t (kept_talk r) e).none_left (asks_to_read t e).none_owed (asks_to_read t e).going
