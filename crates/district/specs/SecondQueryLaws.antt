-- What the display is answered. Where no second query line stands, or a file refusal comes before it, the display is answered
-- what `routeline` prints. Where one stands, it is answered what `routeline` prints for the file up to that line, and then 11
-- there. The argument: a line is judged alike by both, unless it is a sound query after one that was taken. Assumes nothing.
use Rattle.std.proofs.lemmas.Bool.{ltb-false, leb-true}
use Rattle.std.specs.Prelude.{◌≡◌, Bool, not, ◌&&◌, leb, length, take, get_or, Ok, Err, Option, None, Some, List, [], ◌∷◌, ◌++◌, ℕ, zero, suc, ◌+◌, ◌≤◌, ◌<◌}
use Rattle.std.proofs.Math.Path.{refl, ap}
use Rattle.std.proofs.Common.{sym, ◌∙◌, append_assoc, arith}
use Rattle.std.proofs.Math.Bool.{true, false, and-false}
use Rattle.std.proofs.Math.Dec.{eqb}
use Rattle.network.specs.declared.Cause.{Cause}
use Rattle.network.specs.declared.Cause.TheVariants.{MisplacedLine}
use Rattle.network.specs.Verdict.{Verdict}
use Rattle.network.specs.declared.Answer.TheVariants.{Refused as Refusal}
use Rattle.network.specs.CaseSplit.{by_bool, by_lt, both_true, true≢false}
use Rattle.network.specs.Refusal.{given, first_refusal}
use Rattle.network.specs.RefusalLaws.{refused≢accepted}
use Rattle.frames.specs.declared.Frame.{Frame}
use Rattle.frames.specs.declared.Frame.TheVariants.{Size, Arc, TwoWay, Potentials, Query as QueryFrame}
use Rattle.frames.specs.Frame.{frame_of}
use Rattle.frames.specs.AnswerLines.{line_feed, answer_lines}
use Rattle.district.specs.File.{Told, nothing_told, last_line, wrong_cause, size_owed, arcs_owed, potentials_owed, owing, answer_from, file_answer, display_answer}
use Rattle.district.specs.Lines.{Lines, began_with, lines_of, size_read, arcs_read_by, potentials_read, owed_arcs, may_stand, size_verdict, frame_verdict, end_verdict, told_with, printed_for, Outcome, then_on, read_lines, outcome_of, refusal_line, printed_of}
use Rattle.district.specs.LinesLaws.{file_by_lines}
use Rattle.district.specs.FileGivenLaws.{accepted_taken, taken_accepted}
use Rattle.district.specs.FileGiven.{line_count, told_by_lines}
use Rattle.district.specs.SecondQuery.{is_query, AsksAgain, SecondQueryAt, RefusedBefore, first_lines}

-- ---- one line
module _ (n : ℕ) (t : Told) where
  -- any other line than a second query's may stand for the display where it may for `routeline`
  stand_alike : (g : Option Frame) → (is_query g ≡ true → t.asked ≡ true → ⊥) → may_stand true t g ≡ may_stand false t g
  unfolding may_stand
  stand_alike (Some (QueryFrame s e c k)) first = by_bool t.asked (λ a. absurd (first refl a)) (λ a. rw a)
  stand_alike (Some (Size a b)) first = refl
  stand_alike (Some (Arc a b w)) first = refl
  stand_alike (Some (TwoWay a b w)) first = refl
  stand_alike (Some (Potentials v h k)) first = refl
  stand_alike None first = refl

  verdict_alike : (g : Option Frame) → (is_query g ≡ true → t.asked ≡ true → ⊥) → frame_verdict true n t g ≡ frame_verdict false n t g
  unfolding frame_verdict
  verdict_alike g first = rw (stand_alike g first)

  -- and the display refuses that one with 11
  verdict_again : (g : Option Frame) → is_query g ≡ true → t.asked ≡ true → frame_verdict true n t g ≡ Err (MisplacedLine n)
  unfolding frame_verdict may_stand first_refusal
  verdict_again (Some (QueryFrame s e c k)) query asked = rw (asked, and-false (potentials_read t)) (by_bool (eqb n last_line) (λ p. rw p) (λ p. rw p))
  verdict_again (Some (Size a b)) query asked = absurd (true≢false query refl)
  verdict_again (Some (Arc a b w)) query asked = absurd (true≢false query refl)
  verdict_again (Some (TwoWay a b w)) query asked = absurd (true≢false query refl)
  verdict_again (Some (Potentials v h k)) query asked = absurd (true≢false query refl)
  verdict_again None query asked = absurd (true≢false query refl)

  -- a line that is taken may stand
  taken_stands : (g : Option Frame) → frame_verdict false n t g ≡ Ok tt → may_stand false t g ≡ true
  unfolding frame_verdict first_refusal
  taken_stands g = go (eqb n last_line) (may_stand false t g)
    where
      go : (last stands : Bool) → first_refusal (given last (MisplacedLine n) ∷ given (not stands) (wrong_cause g n) ∷ size_verdict g ∷ []) ≡ Ok tt → stands ≡ true
      go true stands e = absurd (refused≢accepted e)
      go false true e = refl
      go false false e = absurd (refused≢accepted e)

-- ---- where a query was taken, nothing is owed
record Complete (t : Told) : Type 0 where
  pub read : t.asked ≡ true → potentials_read t ≡ true

not_owed : (b : Bool) → not b ≡ true → b ≡ false
not_owed true h = sym h
not_owed false h = refl

module _ (t : Told) (c : Complete t) where
  size_there : t.asked ≡ true → size_owed t ≡ false
  size_there a = both_true (arcs_read_by t) (not (potentials_owed t)) (c.read a) (λ x _. both_true (size_read t) (not (arcs_owed t)) x (λ s _. not_owed (size_owed t) s))

  arcs_there : t.asked ≡ true → arcs_owed t ≡ false
  arcs_there a = both_true (arcs_read_by t) (not (potentials_owed t)) (c.read a) (λ x _. both_true (size_read t) (not (arcs_owed t)) x (λ _ q. not_owed (arcs_owed t) q))

  potentials_there : t.asked ≡ true → potentials_owed t ≡ false
  potentials_there a = both_true (arcs_read_by t) (not (potentials_owed t)) (c.read a) (λ _ p. not_owed (potentials_owed t) p)

  none_owed : t.asked ≡ true → owing t ≡ false
  none_owed a = rw (size_there a, arcs_there a, potentials_there a, a)

  complete_next : (g : Option Frame) → may_stand false t g ≡ true → Complete (told_with t g)
  unfolding may_stand told_with
  complete_next (Some (Size a b)) m = record { read = λ q. absurd (true≢false m (size_there q)) }
  complete_next (Some (Arc a b w)) m =
      record { read = λ q. absurd (both_true (size_read t) (leb 1 (owed_arcs t)) m (λ s l. omega (arith, leb-true 1 (owed_arcs t) l, ltb-false (length t.tails) t.arcs (arcs_there q)))) }
  complete_next (Some (TwoWay a b w)) m =
      record { read = λ q. absurd (both_true (size_read t) (leb 2 (owed_arcs t)) m (λ s l. omega (arith, leb-true 2 (owed_arcs t) l, ltb-false (length t.tails) t.arcs (arcs_there q)))) }
  complete_next (Some (Potentials v h k)) m =
      record {
        read = λ q. absurd
            (both_true (arcs_read_by t) (potentials_owed t && eqb v (length t.forward)) m
            (λ _ p. both_true (potentials_owed t) (eqb v (length t.forward)) p (λ o _. true≢false o (potentials_there q))));
      }
  complete_next (Some (QueryFrame s e d k)) m = record { read = λ _. both_true (potentials_read t) true m (λ p _. p) }
  complete_next None m = absurd (true≢false m refl)

-- ---- the lines from line n on
-- as `AsksAgain`, of lines before which t is told
record AgainIn (t : Told) (whole : List (List ℕ)) (i : ℕ) : Type 0 where
  pub there : i < length whole
  pub query : is_query (frame_of (get_or whole i [])) ≡ true
  pub asked : (told_by_lines t (take i whole)).asked ≡ true

-- as `SecondQueryAt`, of lines of which the first has number n
record SecondIn (n : ℕ) (t : Told) (whole : List (List ℕ)) (i : ℕ) : Type 0 where
  pub again : AgainIn t whole i
  pub taken : (j : ℕ) → j < i → frame_verdict false (n + j) (told_by_lines t (take j whole)) (frame_of (get_or whole j [])) ≡ Ok tt
  pub lowest : (j : ℕ) → j < i → AgainIn t whole j → ⊥

-- the FF line of 11 at line n
abbrev eleven_at : ℕ → List ℕ
eleven_at n = answer_lines (Refusal (MisplacedLine n)) []

data Parted (n : ℕ) (t : Told) (whole : List (List ℕ)) (rest : List ℕ) : Type 0 where
  alike : ((i : ℕ) → SecondIn n t whole i → ⊥) → read_lines true n t whole rest ≡ read_lines false n t whole rest → Parted n t whole rest
  second : (i : ℕ) → SecondIn n t whole i → printed_of (read_lines true n t whole rest) ≡ printed_of (read_lines false n t (take i whole) []) ++ eleven_at (n + i) → Parted n t whole rest

-- one line further
module _ (n : ℕ) (t : Told) (line : List ℕ) (more : List (List ℕ)) where
  again_later : {j : ℕ} → AgainIn t (line ∷ more) (suc j) → AgainIn (told_with t (frame_of line)) more j
  unfolding told_by_lines
  again_later a = record { there = omega (arith, a.there); query = a.query; asked = a.asked }

  again_sooner : {j : ℕ} → AgainIn (told_with t (frame_of line)) more j → AgainIn t (line ∷ more) (suc j)
  unfolding told_by_lines
  again_sooner a = record { there = omega (arith, a.there); query = a.query; asked = a.asked }

  second_later : {i : ℕ} → SecondIn n t (line ∷ more) (suc i) → SecondIn (n + 1) (told_with t (frame_of line)) more i
  unfolding told_by_lines
  second_later s =
      record {
        again = again_later s.again;
        taken = λ j h. let e : n + 1 + j ≡ n + suc j = omega arith in rw e (s.taken (suc j) (omega arith));
        lowest = λ j h a. s.lowest (suc j) (omega arith) (again_sooner a);
      }

  second_sooner : {i : ℕ} → (is_query (frame_of line) ≡ true → t.asked ≡ true → ⊥) → frame_verdict false n t (frame_of line) ≡ Ok tt → SecondIn (n + 1) (told_with t (frame_of line)) more i → SecondIn n t (line ∷ more) (suc i)
  unfolding told_by_lines
  second_sooner {i} first v s = record { again = again_sooner s.again; taken = taken; lowest = lowest }
    where
      taken : (j : ℕ) → j < suc i → frame_verdict false (n + j) (told_by_lines t (take j (line ∷ more))) (frame_of (get_or (line ∷ more) j [])) ≡ Ok tt
      taken zero h = let e : n + 0 ≡ n = omega arith in rw e v
      taken (suc j) h = let e : n + suc j ≡ n + 1 + j = omega arith in rw e (s.taken j (omega arith))

      lowest : (j : ℕ) → j < suc i → AgainIn t (line ∷ more) j → ⊥
      lowest zero h a = first a.query a.asked
      lowest (suc j) h a = s.lowest j (omega arith) (again_later a)

  -- this line is the second query line
  second_here : is_query (frame_of line) ≡ true → t.asked ≡ true → SecondIn n t (line ∷ more) 0
  unfolding told_by_lines
  second_here query asked =
      record {
        again = record { there = omega arith; query = query; asked = asked };
        taken = λ j h. absurd (omega arith);
        lowest = λ j h a. absurd (omega (arith, h));
      }

-- at the end of input there is no difference
end_alike : (n : ℕ) (t : Told) (rest : List ℕ) → read_lines true n t [] rest ≡ read_lines false n t [] rest
unfolding read_lines end_verdict frame_verdict may_stand
end_alike n t [] = refl
end_alike n t (b ∷ rest) = refl

printed_on : (printed : List ℕ) (later : Outcome) → printed_of (then_on (Ok tt) printed later) ≡ printed ++ printed_of later
printed_on printed later = append_assoc printed later.answers (refusal_line later.verdict)

not_both : (a b : Bool) → (a && b) ≡ false → a ≡ true → b ≡ true → ⊥
not_both true b h p q = true≢false q h
not_both false b h p q = true≢false p (refl {a = false})

-- the first line and then the others
module _ (n : ℕ) (t : Told) (line : List ℕ) (more : List (List ℕ)) (rest : List ℕ) where
  read_again : Complete t → is_query (frame_of line) ≡ true → t.asked ≡ true
      → printed_of (read_lines true n t (line ∷ more) rest) ≡ printed_of (read_lines false n t [] []) ++ eleven_at (n + 0)
  unfolding read_lines end_verdict
  read_again c query asked =
      let e : n + 0 ≡ n = omega arith in
      rw (e, verdict_again n t (frame_of line) query asked, none_owed t c asked)

  module _ (first : is_query (frame_of line) ≡ true → t.asked ≡ true → ⊥) where
    refused_none : {x : Cause} → frame_verdict false n t (frame_of line) ≡ Err x → (i : ℕ) → SecondIn n t (line ∷ more) i → ⊥
    unfolding told_by_lines
    refused_none e zero s = first s.again.query s.again.asked
    refused_none e (suc i) s = let z : n + 0 ≡ n = omega arith in refused≢accepted (sym e ∙ (rw z at (s.taken 0 (omega arith))))

    refused_alike : {x : Cause} → frame_verdict false n t (frame_of line) ≡ Err x → read_lines true n t (line ∷ more) rest ≡ read_lines false n t (line ∷ more) rest
    unfolding read_lines
    refused_alike e = rw (verdict_alike n t (frame_of line) first, e)

    module _ (taken : frame_verdict false n t (frame_of line) ≡ Ok tt) where
      taken_alike : read_lines true (n + 1) (told_with t (frame_of line)) more rest ≡ read_lines false (n + 1) (told_with t (frame_of line)) more rest
          → read_lines true n t (line ∷ more) rest ≡ read_lines false n t (line ∷ more) rest
      unfolding read_lines
      taken_alike same = rw (verdict_alike n t (frame_of line) first, taken, same)

      taken_second : (i : ℕ) → printed_of (read_lines true (n + 1) (told_with t (frame_of line)) more rest) ≡ printed_of (read_lines false (n + 1) (told_with t (frame_of line)) (take i more) []) ++ eleven_at (n + 1 + i)
          → printed_of (read_lines true n t (line ∷ more) rest) ≡ printed_of (read_lines false n t (line ∷ take i more) []) ++ eleven_at (n + suc i)
      unfolding read_lines
      taken_second i p =
          let m : n + suc i ≡ n + 1 + i = omega arith in
          let printed : List ℕ = printed_for t line (frame_of line) in
          let one : Outcome = read_lines true (n + 1) (told_with t (frame_of line)) more rest in
          let two : Outcome = read_lines false (n + 1) (told_with t (frame_of line)) (take i more) [] in
          rw (m, verdict_alike n t (frame_of line) first, taken)
          (printed_on printed one ∙ (ap (λ (x : List ℕ). printed ++ x) p ∙ (sym (append_assoc printed (printed_of two) (eleven_at (n + 1 + i))) ∙ ap (λ (x : List ℕ). x ++ eleven_at (n + 1 + i)) (sym (printed_on printed two)))))

      later_none : ((i : ℕ) → SecondIn (n + 1) (told_with t (frame_of line)) more i → ⊥) → (i : ℕ) → SecondIn n t (line ∷ more) i → ⊥
      unfolding told_by_lines
      later_none none zero s = first s.again.query s.again.asked
      later_none none (suc i) s = none i (second_later n t line more s)

      parted_later : Parted (n + 1) (told_with t (frame_of line)) more rest → Parted n t (line ∷ more) rest
      parted_later (alike none same) = alike (later_none none) (taken_alike same)
      parted_later (second i s p) = second (suc i) (second_sooner n t line more first taken s) (taken_second i p)

parted : (whole : List (List ℕ)) (n : ℕ) (t : Told) (rest : List ℕ) → Complete t → Parted n t whole rest
parted [] n t rest c = alike (λ i s. absurd (omega (arith, s.again.there))) (end_alike n t rest)
parted (line ∷ more) n t rest c =
    by_bool (is_query (frame_of line) && t.asked)
    (λ b. both_true (is_query (frame_of line)) t.asked b (λ query asked. second 0 (second_here n t line more query asked) (read_again n t line more rest c query asked)))
    (λ b. go (not_both (is_query (frame_of line)) t.asked b) (frame_verdict false n t (frame_of line)) refl (λ k. parted more (n + 1) (told_with t (frame_of line)) rest k))
  where
    go : (is_query (frame_of line) ≡ true → t.asked ≡ true → ⊥) → (v : Verdict) → frame_verdict false n t (frame_of line) ≡ v
        → (Complete (told_with t (frame_of line)) → Parted (n + 1) (told_with t (frame_of line)) more rest) → Parted n t (line ∷ more) rest
    go first (Err x) e later = alike (refused_none n t line more rest first e) (refused_alike n t line more rest first e)
    go first (Ok _) e later = parted_later n t line more rest first e (later (complete_next t c (frame_of line) (taken_stands n t (frame_of line) e)))

-- ---- the file up to a line
-- the lines of a file that begins with a line feed, and with another byte
module _ (b : ℕ) (bytes : List ℕ) where
  lines_feed : eqb b line_feed ≡ true → lines_of (b ∷ bytes) ≡ record { whole = [] ∷ (lines_of bytes).whole; rest = (lines_of bytes).rest }
  unfolding lines_of
  lines_feed p = rw p

  lines_other : eqb b line_feed ≡ false → lines_of (b ∷ bytes) ≡ began_with (b ∷ []) (lines_of bytes).whole (lines_of bytes).rest
  unfolding lines_of
  lines_other p = rw p

  first_feed : (i : ℕ) → eqb b line_feed ≡ true → first_lines (suc i) (b ∷ bytes) ≡ b ∷ first_lines i bytes
  unfolding first_lines
  first_feed i p = rw p

  first_other : (i : ℕ) → eqb b line_feed ≡ false → first_lines (suc i) (b ∷ bytes) ≡ b ∷ first_lines (suc i) bytes
  unfolding first_lines
  first_other i p = rw p

-- the first of some lines is among the first lines, also with a byte ahead of it
began_count : (b i : ℕ) (whole : List (List ℕ)) (rest : List ℕ) → suc i ≤ length (began_with (b ∷ []) whole rest).whole → suc i ≤ length whole
began_count b i [] rest h = absurd (omega arith)
began_count b i (line ∷ more) rest h = h

began_first : (b i : ℕ) (whole : List (List ℕ)) (rest : List ℕ) → suc i ≤ length (began_with (b ∷ []) whole rest).whole
    → began_with (b ∷ []) (take (suc i) whole) [] ≡ record { whole = take (suc i) (began_with (b ∷ []) whole rest).whole; rest = [] }
began_first b i [] rest h = absurd (omega arith)
began_first b i (line ∷ more) rest h = refl

-- the lines of the first lines are those, and nothing stands after them
abbrev up_to : ℕ → Lines → Lines
up_to i l = record { whole = take i l.whole; rest = [] }

first_lines_lem : (bytes : List ℕ) (i : ℕ) → i ≤ line_count bytes → lines_of (first_lines i bytes) ≡ up_to i (lines_of bytes)
unfolding first_lines lines_of
first_lines_lem bytes zero h = refl
first_lines_lem [] (suc i) h = refl
first_lines_lem (b ∷ bytes) (suc i) h =
    by_bool (eqb b line_feed)
    (λ p. let short : i ≤ line_count bytes = omega (arith, ap (λ (l : Lines). length l.whole) (lines_feed b bytes p)) in
    ap lines_of (first_feed b bytes i p)
    ∙ (lines_feed b (first_lines i bytes) p
    ∙ (ap (λ (l : Lines). record { whole = [] ∷ l.whole; rest = l.rest }) (first_lines_lem bytes i short) ∙ sym (ap (up_to (suc i)) (lines_feed b bytes p)))))
    (λ p. let long : suc i ≤ length (began_with (b ∷ []) (lines_of bytes).whole (lines_of bytes).rest).whole = omega (arith, ap (λ (l : Lines). length l.whole) (lines_other b bytes p)) in
    ap lines_of (first_other b bytes i p)
    ∙ (lines_other b (first_lines (suc i) bytes) p
    ∙ (ap (λ (l : Lines). began_with (b ∷ []) l.whole l.rest) (first_lines_lem bytes (suc i) (began_count b i (lines_of bytes).whole (lines_of bytes).rest long))
    ∙ (began_first b i (lines_of bytes).whole (lines_of bytes).rest long ∙ sym (ap (up_to (suc i)) (lines_other b bytes p))))))

-- ---- the whole file
-- a second query line stands in a file, or none
pub data SecondOrNone (bytes : List ℕ) : Type 0 where
  one_at : (n : ℕ) → SecondQueryAt bytes n → SecondOrNone bytes
  no_second : ((n : ℕ) → SecondQueryAt bytes n → ⊥) → SecondOrNone bytes

module _ (bytes : List ℕ) where
  file_parted : Parted 1 nothing_told (lines_of bytes).whole (lines_of bytes).rest
  file_parted = parted (lines_of bytes).whole 1 nothing_told (lines_of bytes).rest (record { read = λ a. absurd (true≢false a refl) })

  second_in : {n : ℕ} (s : SecondQueryAt bytes n) → SecondIn 1 nothing_told (lines_of bytes).whole s.comes.before
  second_in s =
      record {
        again = record { there = s.again.there; query = s.again.query; asked = s.again.asked };
        taken = λ j h. taken_accepted false 1 bytes j (s.comes.taken j h);
        lowest = λ j h a. s.lowest j h (record { there = a.there; query = a.query; asked = a.asked });
      }

  second_at : {i : ℕ} → SecondIn 1 nothing_told (lines_of bytes).whole i → SecondQueryAt bytes (1 + i)
  second_at {i} s =
      record {
        comes = record { before = i; its_number = refl; within = omega (arith, s.again.there); taken = λ j h. accepted_taken false 1 bytes j (s.taken j h) };
        again = record { there = s.again.there; query = s.again.query; asked = s.again.asked };
        lowest = λ j h a. s.lowest j h (record { there = a.there; query = a.query; asked = a.asked });
      }

  -- there is only one
  second_same : {n i : ℕ} (s : SecondQueryAt bytes n) → SecondIn 1 nothing_told (lines_of bytes).whole i → i ≡ s.comes.before
  second_same {n} {i} s q =
      by_lt i s.comes.before (λ h. absurd (s.lowest i h (record { there = q.again.there; query = q.again.query; asked = q.again.asked })))
      (λ h. by_lt s.comes.before i (λ k. absurd (q.lowest s.comes.before k (second_in s).again)) (λ k. omega arith))

  -- each reading by lines
  file_read : (single : Bool) → answer_from single 1 bytes ≡ printed_of (read_lines single 1 nothing_told (lines_of bytes).whole (lines_of bytes).rest)
  unfolding outcome_of
  file_read single = file_by_lines single 1 bytes

  -- `routeline` on the first lines
  file_up_to : (i : ℕ) → i ≤ line_count bytes → file_answer (first_lines i bytes) ≡ printed_of (read_lines false 1 nothing_told (take i (lines_of bytes).whole) [])
  unfolding outcome_of
  file_up_to i h = file_by_lines false 1 (first_lines i bytes) ∙ ap (λ (l : Lines). printed_of (read_lines false 1 nothing_told l.whole l.rest)) (first_lines_lem bytes i h)

  -- no second query line: the display is answered what `routeline` prints
  pub display_as_routeline : ((n : ℕ) → SecondQueryAt bytes n → ⊥) → display_answer bytes ≡ file_answer bytes
  display_as_routeline none = go file_parted
    where
      go : Parted 1 nothing_told (lines_of bytes).whole (lines_of bytes).rest → display_answer bytes ≡ file_answer bytes
      go (alike _ same) = file_read true ∙ (ap printed_of same ∙ sym (file_read false))
      go (second i s p) = absurd (none (1 + i) (second_at s))

  -- so also where a file refusal comes before each line that asks again
  pub display_refused_before : ((i : ℕ) → AsksAgain bytes i → RefusedBefore bytes i) → display_answer bytes ≡ file_answer bytes
  display_refused_before h =
      display_as_routeline (λ n s. let r : RefusedBefore bytes s.comes.before = h s.comes.before s.again in r.not_taken (s.comes.taken r.line r.before))

  -- a second query line: what `routeline` prints for the file up to it, and then 11 there
  pub display_up_to_second : {n : ℕ} (s : SecondQueryAt bytes n) → display_answer bytes ≡ file_answer (first_lines s.comes.before bytes) ++ answer_lines (Refusal (MisplacedLine n)) []
  display_up_to_second {n} s = go file_parted
    where
      go : Parted 1 nothing_told (lines_of bytes).whole (lines_of bytes).rest → display_answer bytes ≡ file_answer (first_lines s.comes.before bytes) ++ answer_lines (Refusal (MisplacedLine n)) []
      go (alike none _) = absurd (none s.comes.before (second_in s))
      go (second i q p) =
          file_read true
          ∙ (p
          ∙ (ap (λ (j : ℕ). printed_of (read_lines false 1 nothing_told (take j (lines_of bytes).whole) []) ++ eleven_at (1 + j)) (second_same s q)
          ∙ (ap (λ (l : List ℕ). l ++ eleven_at (1 + s.comes.before)) (sym (file_up_to s.comes.before s.comes.within))
          ∙ ap (λ (m : ℕ). file_answer (first_lines s.comes.before bytes) ++ eleven_at m) (sym s.comes.its_number))))

  -- and one of the two is so
  pub second_or_none : SecondOrNone bytes
  second_or_none = go file_parted
    where
      go : Parted 1 nothing_told (lines_of bytes).whole (lines_of bytes).rest → SecondOrNone bytes
      go (alike none _) = no_second (λ n s. none s.comes.before (second_in s))
      go (second i s p) = one_at (1 + i) (second_at s)
