-- "Given exactly when" for the refusals of a file: its outcome is a refusal exactly when the rules (docs/RULES.md, "Input order")
-- give that refusal, and no refusal exactly when they give none. The argument: a file's verdict is the first refusal among the
-- verdicts on its lines and on its end, each taken where all lines before it are; and the verdict on a line is read off its
-- three tests. Assumes nothing.
use Rattle.std.specs.Prelude.{◌≡◌, ◌↔◌, ◌≢◌, Bool, eqb, take, get_or, Ok, Err, Option, None, Some, List, [], ◌∷◌, ◌++◌, ℕ, zero, suc, ◌+◌, ◌-◌, ◌≤◌, ◌<◌}
use Rattle.std.proofs.Math.Path.{refl, sym, ap, subst}
use Rattle.std.proofs.Common.{◌∙◌, take-suc, eq-eqb, ne_eqb, append-nil, arith}
use Rattle.std.proofs.Math.Bool.{true, false}
use Rattle.std.proofs.Math.ListN.{length}
use Rattle.std.proofs.Math.Seq.{take-length, take-nil}
use Rattle.network.specs.declared.Cause.{Cause}
use Rattle.network.specs.declared.Cause.TheVariants.{NodeCount, ArcLists, PotentialLists, StartOrEnd, Pattern, Room, BadArc, BadPotential, Inconsistent, UnsoundLine, MisplacedLine, NoSuchArc, WrongIndex}
use Rattle.network.specs.Verdict.{Verdict}
use Rattle.network.specs.declared.Answer.TheVariants.{Refused as Refusal}
use Rattle.network.specs.Answer.{number_of, place_of}
use Rattle.network.specs.Given.{Refuses, by_cause}
use Rattle.network.specs.CaseSplit.{by_bool, by_eq, by_lt, true≢false}
use Rattle.network.specs.Refusal.{first_refusal}
use Rattle.network.specs.RefusalLaws.{refused≢accepted, first_refusal_one, rows_accepted, given_accepted, FirstRow, first_row, row_first}
use Rattle.frames.specs.declared.Frame.{Frame}
use Rattle.frames.specs.declared.Frame.TheVariants.{Size, Arc, TwoWay, Potentials, Query as QueryFrame}
use Rattle.frames.specs.Frame.{frame_of}
use Rattle.frames.specs.AnswerLines.{answer_lines}
use Rattle.district.specs.File.{Told, nothing_told, last_line, wrong_cause, size_owed, owing, answer_from}
use Rattle.district.specs.Lines.{lines_of, may_stand, bad_nodes, bad_arcs, size_verdict, frame_verdict, end_verdict, told_with, Outcome, then_on, read_lines, outcome_of}
use Rattle.district.specs.LinesLaws.{file_by_lines}
use Rattle.district.specs.FileGiven.{line_count, frame_after, told_by_lines, told_after, printed_by_lines, printed_after, TakenAfter, ComesTo, FirstSize, NodesRefused, ArcsRefused, UnsoundAt, MisplacedAt, NoFrame, unsound, cut, whole, part, Misplaced, last, not_there, owed_there, TakenWhole, FileCondition, of_bad_nodes, of_bad_arcs, of_unsound_line, of_misplaced_line}

-- the table of a file's refusals by cause, as the proofs go through it
abbrev pub GivenByCause : Bool → ℕ → List ℕ → Cause → Type 0
GivenByCause single first bytes NodeCount = NodesRefused first bytes
GivenByCause single first bytes ArcLists = ArcsRefused first bytes
GivenByCause single first bytes (UnsoundLine n) = UnsoundAt single first bytes n
GivenByCause single first bytes (MisplacedLine n) = MisplacedAt single first bytes n
GivenByCause single first bytes PotentialLists = ⊥
GivenByCause single first bytes StartOrEnd = ⊥
GivenByCause single first bytes Pattern = ⊥
GivenByCause single first bytes Room = ⊥
GivenByCause single first bytes (BadArc a) = ⊥
GivenByCause single first bytes (BadPotential v) = ⊥
GivenByCause single first bytes (Inconsistent a) = ⊥
GivenByCause single first bytes (NoSuchArc a) = ⊥
GivenByCause single first bytes WrongIndex = ⊥

same_cause : {c d : Cause} → ◌≡◌ {A = Verdict} (Err c) (Err d) → c ≡ d
same_cause {c} {d} e = cc

-- ---- the verdict on one frame
module _ (single : Bool) (n : ℕ) (t : Told) (g : Option Frame) where
  verdict_last : n ≡ last_line → frame_verdict single n t g ≡ Err (MisplacedLine n)
  unfolding frame_verdict first_refusal
  verdict_last e = rw (eq-eqb n last_line e)

  verdict_wrong : n ≢ last_line → may_stand single t g ≡ false → frame_verdict single n t g ≡ Err (wrong_cause g n)
  unfolding frame_verdict first_refusal
  verdict_wrong e m = rw (ne_eqb n last_line e, m)

  verdict_counts : n ≢ last_line → may_stand single t g ≡ true → frame_verdict single n t g ≡ size_verdict g
  unfolding frame_verdict first_refusal
  verdict_counts e m = rw (ne_eqb n last_line e, m) (first_refusal_one (size_verdict g))

-- a last line without its line feed is judged as no sound frame
cut_verdict : (single : Bool) (n : ℕ) (t : Told) (rest : List ℕ) → rest ≢ [] → end_verdict single n t rest ≡ frame_verdict single n t None
unfolding end_verdict
cut_verdict single n t [] some = absurd (some refl)
cut_verdict single n t (b ∷ rest) some = refl

-- a frame is sound or not
by_sound : {P : Type 0} (g : Option Frame) → (g ≡ None → P) → (g ≢ None → P) → P
by_sound None f k = f refl
by_sound (Some g) f k = k (λ e. let z : ◌≡◌ {A = ℕ} 0 1 = cc in omega arith)

-- a sound frame that is not taken is 11
sound_misplaced : (g : Option Frame) → g ≢ None → (n : ℕ) → wrong_cause g n ≡ MisplacedLine n
sound_misplaced None s n = absurd (s refl)
sound_misplaced (Some g) s n = refl

-- ---- the verdicts in turn
-- on each line and then on the end of input
unfoldable verdicts_from : Bool → ℕ → Told → List (List ℕ) → List ℕ → List Verdict
verdicts_from single n t [] rest = end_verdict single n t rest ∷ []
verdicts_from single n t (line ∷ more) rest =
    frame_verdict single n t (frame_of line) ∷ verdicts_from single (n + 1) (told_with t (frame_of line)) more rest

-- a line's verdict, and then the first refusal after it
then_verdict : (v : Verdict) (printed : List ℕ) (later : Outcome) (rows : List Verdict) → later.verdict ≡ first_refusal rows → (then_on v printed later).verdict ≡ first_refusal (v ∷ rows)
unfolding first_refusal
then_verdict (Ok _) printed later rows e = e
then_verdict (Err c) printed later rows e = refl

-- a line that is refused prints nothing
then_none : (v : Verdict) (printed : List ℕ) (later : Outcome) → (v ≡ Ok tt → ⊥) → (then_on v printed later).answers ≡ []
then_none (Ok _) printed later never = absurd (never refl)
then_none (Err c) printed later never = refl

module _ (single : Bool) where
  -- the first refusal is the file's
  verdict_first : (n : ℕ) (t : Told) (lines : List (List ℕ)) (rest : List ℕ) → (read_lines single n t lines rest).verdict ≡ first_refusal (verdicts_from single n t lines rest)
  unfolding read_lines verdicts_from first_refusal
  verdict_first n t [] rest = sym (first_refusal_one (end_verdict single n t rest))
  verdict_first n t (line ∷ more) rest =
      then_verdict (frame_verdict single n t (frame_of line)) _ _ (verdicts_from single (n + 1) (told_with t (frame_of line)) more rest)
      (verdict_first (n + 1) (told_with t (frame_of line)) more rest)

  -- the verdict on a line, where the lines before it told what they tell
  verdict_at : (n : ℕ) (t : Told) (lines : List (List ℕ)) (rest : List ℕ) (i : ℕ) → i < length lines
      → get_or (verdicts_from single n t lines rest) i (Ok tt) ≡ frame_verdict single (n + i) (told_by_lines t (take i lines)) (frame_of (get_or lines i []))
  unfolding verdicts_from told_by_lines
  verdict_at n t [] rest i h = absurd (omega arith)
  verdict_at n t (line ∷ more) rest zero h = let e : n ≡ n + 0 = omega arith in ap (λ (m : ℕ). frame_verdict single m t (frame_of line)) e
  verdict_at n t (line ∷ more) rest (suc i) h =
      let e : n + 1 + i ≡ n + suc i = omega arith in
      verdict_at (n + 1) (told_with t (frame_of line)) more rest i (omega arith)
      ∙ ap (λ (m : ℕ). frame_verdict single m (told_by_lines (told_with t (frame_of line)) (take i more)) (frame_of (get_or more i []))) e

  -- the verdict on the end
  verdict_end : (n : ℕ) (t : Told) (lines : List (List ℕ)) (rest : List ℕ)
      → get_or (verdicts_from single n t lines rest) (length lines) (Ok tt) ≡ end_verdict single (n + length lines) (told_by_lines t lines) rest
  unfolding verdicts_from told_by_lines
  verdict_end n t [] rest = let e : n ≡ n + 0 = omega arith in ap (λ (m : ℕ). end_verdict single m t rest) e
  verdict_end n t (line ∷ more) rest =
      let e : n + 1 + length more ≡ n + suc (length more) = omega arith in
      verdict_end (n + 1) (told_with t (frame_of line)) more rest
      ∙ ap (λ (m : ℕ). end_verdict single m (told_by_lines (told_with t (frame_of line)) more) rest) e

  -- beyond the end there is none
  verdict_none : (n : ℕ) (t : Told) (lines : List (List ℕ)) (rest : List ℕ) (i : ℕ) → length lines < i → get_or (verdicts_from single n t lines rest) i (Ok tt) ≡ Ok tt
  unfolding verdicts_from
  verdict_none n t [] rest zero h = absurd (omega arith)
  verdict_none n t [] rest (suc i) h = refl
  verdict_none n t (line ∷ more) rest zero h = absurd (omega arith)
  verdict_none n t (line ∷ more) rest (suc i) h = verdict_none (n + 1) (told_with t (frame_of line)) more rest i (omega arith)

-- ---- what lines print
-- lines that are taken, up to one that is refused or to the end: their queries are answered, and no other
taken_print : (single : Bool) (n : ℕ) (t : Told) (lines : List (List ℕ)) (rest : List ℕ) (i : ℕ)
    → ((j : ℕ) → j < i → get_or (verdicts_from single n t lines rest) j (Ok tt) ≡ Ok tt)
    → (get_or (verdicts_from single n t lines rest) i (Ok tt) ≡ Ok tt → length lines ≤ i)
    → (read_lines single n t lines rest).answers ≡ printed_by_lines t (take i lines)
unfolding read_lines verdicts_from printed_by_lines
taken_print single n t [] rest i before here = rw (take-nil i)
taken_print single n t (line ∷ more) rest zero before here =
    then_none (frame_verdict single n t (frame_of line)) _ _ (λ e. omega (arith, here e))
taken_print single n t (line ∷ more) rest (suc i) before here =
    rw (before 0 (omega arith), taken_print single (n + 1) (told_with t (frame_of line)) more rest i (λ j h. before (suc j) (omega arith)) (λ e. omega (arith, here e)))

-- ---- what lines tell
told_last : (t : Told) (lines : List (List ℕ)) (line : List ℕ) → told_by_lines t (lines ++ (line ∷ [])) ≡ told_with (told_by_lines t lines) (frame_of line)
unfolding told_by_lines
told_last t [] line = refl
told_last t (l ∷ lines) line = told_last (told_with t (frame_of l)) lines line

-- after a line that is taken the 01 is read
size_read_lem : (single : Bool) (t : Told) (g : Option Frame) → may_stand single t g ≡ true → size_verdict g ≡ Ok tt → size_owed (told_with t g) ≡ false
unfolding may_stand told_with first_refusal
size_read_lem single t (Some (Size a b)) m s = by_bool (eqb a 0) (λ z. absurd (refused≢accepted {c = NodeCount} (rw z at s))) (λ z. z)
size_read_lem single t (Some (Arc a b w)) m s = by_bool (size_owed t) (λ z. absurd (true≢false (rw z at m) refl)) (λ z. z)
size_read_lem single t (Some (TwoWay a b w)) m s = by_bool (size_owed t) (λ z. absurd (true≢false (rw z at m) refl)) (λ z. z)
size_read_lem single t (Some (Potentials v a b)) m s = by_bool (size_owed t) (λ z. absurd (true≢false (rw z at m) refl)) (λ z. z)
size_read_lem single t (Some (QueryFrame a b c k)) m s = by_bool (size_owed t) (λ z. absurd (true≢false (rw z at m) refl)) (λ z. z)
size_read_lem single t None m s = absurd (true≢false m refl)

-- ---- the lines of a file
module _ (single : Bool) (first : ℕ) (bytes : List ℕ) where
  -- the verdicts on this file's lines and its end
  abbrev rows : List Verdict
  rows = verdicts_from single first nothing_told (lines_of bytes).whole (lines_of bytes).rest

  verdict_is : (outcome_of single first bytes).verdict ≡ first_refusal rows
  unfolding outcome_of
  verdict_is = verdict_first single first nothing_told (lines_of bytes).whole (lines_of bytes).rest

  row_line : (i : ℕ) → i < line_count bytes → get_or rows i (Ok tt) ≡ frame_verdict single (first + i) (told_after bytes i) (frame_after bytes i)
  row_line i h = verdict_at single first nothing_told (lines_of bytes).whole (lines_of bytes).rest i h

  row_end : (i : ℕ) → i ≡ line_count bytes → get_or rows i (Ok tt) ≡ end_verdict single (first + i) (told_after bytes i) (lines_of bytes).rest
  row_end i e = rw (e, take-length (lines_of bytes).whole) (verdict_end single first nothing_told (lines_of bytes).whole (lines_of bytes).rest)

  -- a line whose verdict accepts it is taken, and the other way round
  pub accepted_taken : (i : ℕ) → frame_verdict single (first + i) (told_after bytes i) (frame_after bytes i) ≡ Ok tt → TakenAfter single first bytes i
  accepted_taken i e =
      by_eq (first + i) last_line (λ l. absurd (refused≢accepted (sym (verdict_last single _ _ _ l) ∙ e)))
      (λ l. by_bool (may_stand single (told_after bytes i) (frame_after bytes i))
      (λ m. record { numbered = l; may_stand_lem = m; good_counts = sym (verdict_counts single _ _ _ l m) ∙ e })
      (λ m. absurd (refused≢accepted (sym (verdict_wrong single _ _ _ l m) ∙ e))))

  pub taken_accepted : (i : ℕ) → TakenAfter single first bytes i → frame_verdict single (first + i) (told_after bytes i) (frame_after bytes i) ≡ Ok tt
  taken_accepted i t = verdict_counts single _ _ _ t.numbered t.may_stand_lem ∙ t.good_counts

  -- what one line more tells
  pub told_next : (i : ℕ) → i < line_count bytes → told_after bytes (suc i) ≡ told_with (told_after bytes i) (frame_after bytes i)
  told_next i h = rw (take-suc (lines_of bytes).whole i [] h) (told_last nothing_told (take i (lines_of bytes).whole) (get_or (lines_of bytes).whole i []))

  -- so a 01 is owed at the first line only
  size_once : (i : ℕ) → i ≤ line_count bytes → ((j : ℕ) → j < i → TakenAfter single first bytes j) → size_owed (told_after bytes i) ≡ true → i ≡ 0
  size_once zero h taken owed = refl
  size_once (suc i) h taken owed =
      let t : TakenAfter single first bytes i = taken i (omega arith) in
      absurd (true≢false owed (ap size_owed (told_next i h) ∙ size_read_lem single (told_after bytes i) (frame_after bytes i) t.may_stand_lem t.good_counts))

  -- ---- from a refusal to what gives it
  module _ (i : ℕ) (taken : (j : ℕ) → j < i → TakenAfter single first bytes j) where
    abbrev come : i ≤ line_count bytes → ComesTo single first bytes (first + i)
    come h = record { before = i; its_number = refl; within = h; taken = taken }

    -- a line that is refused
    module _ (h : i < line_count bytes) where
      wrong_given : first + i ≢ last_line → may_stand single (told_after bytes i) (frame_after bytes i) ≡ false → GivenByCause single first bytes (wrong_cause (frame_after bytes i) (first + i))
      wrong_given l m =
          by_sound (frame_after bytes i)
          (λ u. rw u (record { comes = come (omega arith); numbered = l; no_frame = unsound h u }))
          (λ s. rw (sound_misplaced (frame_after bytes i) s (first + i)) (record { comes = come (omega arith); misplaced = not_there h s m }))

      counts_given : (c : Cause) (g : Option Frame) → frame_after bytes i ≡ g → first + i ≢ last_line → may_stand single (told_after bytes i) g ≡ true → size_verdict g ≡ Err c → GivenByCause single first bytes c
      unfolding may_stand first_refusal
      counts_given c (Some (Size a b)) e l m s =
          let z : i ≡ 0 = size_once i (omega arith) taken m in
          let size : FirstSize first bytes = record {
            there = omega arith;
            numbered = λ q. l (omega (arith, z, q));
            nodes = a;
            arcs = b;
            frame = subst (λ (k : ℕ). frame_after bytes k ≡ Some (Size a b)) z e;
          } in
          by_bool (bad_nodes a) (λ p. subst (λ (x : Cause). GivenByCause single first bytes x) (same_cause {c = NodeCount} (rw p at s)) (record { size = size; bad = p }))
          (λ p. by_bool (bad_arcs b)
          (λ q. subst (λ (x : Cause). GivenByCause single first bytes x) (same_cause {c = ArcLists} (rw (p, q) at s)) (record { size = size; good = p; bad = q }))
          (λ q. absurd (refused≢accepted (sym (rw (p, q) at s)))))
      counts_given c (Some (Arc a b w)) e l m s = absurd (refused≢accepted (sym s))
      counts_given c (Some (TwoWay a b w)) e l m s = absurd (refused≢accepted (sym s))
      counts_given c (Some (Potentials v a b)) e l m s = absurd (refused≢accepted (sym s))
      counts_given c (Some (QueryFrame a b d k)) e l m s = absurd (refused≢accepted (sym s))
      counts_given c None e l m s = absurd (refused≢accepted (sym s))

      line_given : (c : Cause) → frame_verdict single (first + i) (told_after bytes i) (frame_after bytes i) ≡ Err c → GivenByCause single first bytes c
      line_given c e =
          by_eq (first + i) last_line
          (λ l. subst (λ (x : Cause). GivenByCause single first bytes x) (same_cause (sym (verdict_last single _ _ _ l) ∙ e))
          (record { comes = come (omega arith); misplaced = last l (whole h) }))
          (λ l. by_bool (may_stand single (told_after bytes i) (frame_after bytes i))
          (λ m. counts_given c (frame_after bytes i) refl l m (sym (verdict_counts single _ _ _ l m) ∙ e))
          (λ m. subst (λ (x : Cause). GivenByCause single first bytes x) (same_cause (sym (verdict_wrong single _ _ _ l m) ∙ e)) (wrong_given l m)))

    -- the end of input
    end_given : (c : Cause) → i ≡ line_count bytes → (rest : List ℕ) → (lines_of bytes).rest ≡ rest → end_verdict single (first + i) (told_after bytes i) rest ≡ Err c → GivenByCause single first bytes c
    unfolding end_verdict may_stand
    end_given c h [] r e =
        by_bool (owing (told_after bytes i))
        (λ o. subst (λ (x : Cause). GivenByCause single first bytes x) (same_cause {c = MisplacedLine (first + i)} (rw o at e)) (record { comes = come (omega arith); misplaced = owed_there h r o }))
        (λ o. absurd (refused≢accepted (sym (rw o at e))))
    end_given c h (b ∷ rest) r e =
        let some : (lines_of bytes).rest ≢ [] = λ z. omega (arith, ap length r, ap length z) in
        by_eq (first + i) last_line
        (λ l. subst (λ (x : Cause). GivenByCause single first bytes x) (same_cause (sym (verdict_last single _ _ _ l) ∙ e)) (record { comes = come (omega arith); misplaced = last l (part h some) }))
        (λ l. subst (λ (x : Cause). GivenByCause single first bytes x) (same_cause (sym (verdict_wrong single _ _ None l refl) ∙ e)) (record { comes = come (omega arith); numbered = l; no_frame = cut h some }))

  refused_given : (c : Cause) → (outcome_of single first bytes).verdict ≡ Err c → GivenByCause single first bytes c
  refused_given c e = go (first_row rows (sym verdict_is ∙ e))
    where
      go : FirstRow rows c → GivenByCause single first bytes c
      go r =
          let taken : r.index ≤ line_count bytes → (j : ℕ) → j < r.index → TakenAfter single first bytes j = λ w j h. accepted_taken j (sym (row_line j (omega arith)) ∙ r.before j h) in
          by_lt r.index (line_count bytes) (λ h. line_given r.index (taken (omega arith)) h c (sym (row_line r.index h) ∙ r.refuses))
          (λ h. by_eq r.index (line_count bytes)
          (λ q. end_given r.index (taken (omega arith)) c q (lines_of bytes).rest refl (sym (row_end r.index q) ∙ r.refuses))
          (λ q. absurd (refused≢accepted (sym r.refuses ∙ verdict_none single first nothing_told (lines_of bytes).whole (lines_of bytes).rest r.index (omega arith)))))

  -- ---- from what gives a refusal to the refusal
  -- the first refusal among the verdicts, with as many lines before it as its place says
  record GivenRow (c : Cause) : Type 0 where
    pub row : FirstRow rows c
    pub its_place : row.index ≡ place_of c - first

  -- where all lines before are taken, the verdict there is the first refusal
  come_row : {n : ℕ} (c : Cause) (k : ComesTo single first bytes n) → place_of c ≡ n → get_or rows k.before (Ok tt) ≡ Err c → GivenRow c
  come_row c k p e =
      let w = k.within in
      record {
        row = record { index = k.before; refuses = e; before = λ j h. row_line j (omega arith) ∙ taken_accepted j (k.taken j h) };
        its_place = omega (arith, p, k.its_number);
      }

  -- the first line is a 01: its counts decide
  size_row : (c : Cause) (s : FirstSize first bytes) → place_of c ≡ 0 → size_verdict (Some (Size s.nodes s.arcs)) ≡ Err c → GivenRow c
  unfolding may_stand told_by_lines
  size_row c s p e =
      let stands : may_stand single (told_after bytes 0) (frame_after bytes 0) ≡ true = rw s.frame in
      let numbered : first + 0 ≢ last_line = λ q. s.numbered (omega (arith, q)) in
      record {
        row =
            record {
              index = 0;
              refuses = row_line 0 s.there ∙ (verdict_counts single (first + 0) _ _ numbered stands ∙ (ap size_verdict s.frame ∙ e));
              before = λ j h. absurd (omega arith);
            };
        its_place = omega (arith, p);
      }

  -- 10
  unwhole_row : {n : ℕ} (k : ComesTo single first bytes n) → n ≢ last_line → NoFrame bytes k.before → get_or rows k.before (Ok tt) ≡ Err (UnsoundLine n)
  unfolding may_stand
  unwhole_row {n} k l (unsound h e) =
      let stands : may_stand single (told_after bytes k.before) (frame_after bytes k.before) ≡ false = rw e in
      row_line k.before h ∙ (verdict_wrong single _ _ _ (λ q. l (k.its_number ∙ q)) stands ∙ rw (e, k.its_number))
  unwhole_row {n} k l (cut h r) =
      row_end k.before h ∙ (cut_verdict single _ _ _ r ∙ (verdict_wrong single _ _ None (λ q. l (k.its_number ∙ q)) refl ∙ rw k.its_number))

  -- 11
  misplaced_row : {n : ℕ} (k : ComesTo single first bytes n) → Misplaced single bytes n k.before → get_or rows k.before (Ok tt) ≡ Err (MisplacedLine n)
  unfolding end_verdict
  misplaced_row {n} k (last l (whole h)) = row_line k.before h ∙ (verdict_last single _ _ _ (sym k.its_number ∙ l) ∙ rw k.its_number)
  misplaced_row {n} k (last l (part h r)) =
      row_end k.before h
      ∙ (cut_verdict single _ (told_after bytes k.before) _ r
      ∙ (verdict_last single _ (told_after bytes k.before) None (sym k.its_number ∙ l) ∙ rw k.its_number))
  misplaced_row {n} k (not_there h u m) =
      row_line k.before h
      ∙ by_eq (first + k.before) last_line (λ l. verdict_last single _ _ _ l ∙ rw k.its_number)
      (λ l. verdict_wrong single _ _ _ l m ∙ rw (sound_misplaced (frame_after bytes k.before) u (first + k.before), k.its_number))
  misplaced_row {n} k (owed_there h r o) = row_end k.before h ∙ rw (r, o, k.its_number)

  given_row : (c : Cause) → GivenByCause single first bytes c → GivenRow c
  unfolding first_refusal
  given_row NodeCount g = size_row NodeCount g.size refl (rw g.bad)
  given_row ArcLists g = size_row ArcLists g.size refl (rw (g.good, g.bad))
  given_row (UnsoundLine n) g = come_row (UnsoundLine n) g.comes refl (unwhole_row g.comes g.numbered g.no_frame)
  given_row (MisplacedLine n) g = come_row (MisplacedLine n) g.comes refl (misplaced_row g.comes g.misplaced)
  given_row PotentialLists g = absurd g
  given_row StartOrEnd g = absurd g
  given_row Pattern g = absurd g
  given_row Room g = absurd g
  given_row (BadArc a) g = absurd g
  given_row (BadPotential v) g = absurd g
  given_row (Inconsistent a) g = absurd g
  given_row (NoSuchArc a) g = absurd g
  given_row WrongIndex g = absurd g

  given_refused : (c : Cause) → GivenByCause single first bytes c → (outcome_of single first bytes).verdict ≡ Err c
  given_refused c g = let r : FirstRow rows c = (given_row c g).row in verdict_is ∙ row_first rows r.index r.refuses r.before

  -- ---- exactly when
  -- a file is refused exactly when the rules give the refusal
  pub file_refused_exactly_when : (c : Cause) → ((outcome_of single first bytes).verdict ≡ Err c) ↔ GivenByCause single first bytes c
  file_refused_exactly_when c = (refused_given c, given_refused c)

  -- the same by number and place, which are those of the cause
  condition_of : (c : Cause) → GivenByCause single first bytes c → FileCondition single first bytes (number_of c) (place_of c)
  condition_of NodeCount g = of_bad_nodes g
  condition_of ArcLists g = of_bad_arcs g
  condition_of (UnsoundLine n) g = of_unsound_line g
  condition_of (MisplacedLine n) g = of_misplaced_line g
  condition_of PotentialLists g = absurd g
  condition_of StartOrEnd g = absurd g
  condition_of Pattern g = absurd g
  condition_of Room g = absurd g
  condition_of (BadArc a) g = absurd g
  condition_of (BadPotential v) g = absurd g
  condition_of (Inconsistent a) g = absurd g
  condition_of (NoSuchArc a) g = absurd g
  condition_of WrongIndex g = absurd g

  refuses_condition : {v : Verdict} {number place : ℕ} → Refuses v number place → (outcome_of single first bytes).verdict ≡ v → FileCondition single first bytes number place
  refuses_condition (by_cause c) e = condition_of c (refused_given c e)

  condition_refuses : {number place : ℕ} → FileCondition single first bytes number place → Refuses (outcome_of single first bytes).verdict number place
  condition_refuses (of_bad_nodes g) = rw (given_refused NodeCount g) (by_cause NodeCount)
  condition_refuses (of_bad_arcs g) = rw (given_refused ArcLists g) (by_cause ArcLists)
  condition_refuses (of_unsound_line {n} g) = rw (given_refused (UnsoundLine n) g) (by_cause (UnsoundLine n))
  condition_refuses (of_misplaced_line {n} g) = rw (given_refused (MisplacedLine n) g) (by_cause (MisplacedLine n))

  pub file_given_exactly_when : (number place : ℕ) → Refuses (outcome_of single first bytes).verdict number place ↔ FileCondition single first bytes number place
  file_given_exactly_when number place = (λ r. refuses_condition r refl, condition_refuses)

  -- a file is read to its end exactly when the rules give none
  pub file_accepted_exactly_when : ((outcome_of single first bytes).verdict ≡ Ok tt) ↔ ((c : Cause) → GivenByCause single first bytes c → ⊥)
  file_accepted_exactly_when = (λ e c g. refused≢accepted (sym (given_refused c g) ∙ e), λ none. go none (outcome_of single first bytes).verdict refl)
    where
      go : ((c : Cause) → GivenByCause single first bytes c → ⊥) → (v : Verdict) → (outcome_of single first bytes).verdict ≡ v → (outcome_of single first bytes).verdict ≡ Ok tt
      go none (Ok _) e = e
      go none (Err c) e = absurd (none c (refused_given c e))

  -- that is, exactly when each line is taken, the last one has its line feed, and no frame is owed
  accepted_end : (rest : List ℕ) → (lines_of bytes).rest ≡ rest → end_verdict single (first + line_count bytes) (told_after bytes (line_count bytes)) rest ≡ Ok tt
      → ((lines_of bytes).rest ≡ []) × (owing (told_after bytes (line_count bytes)) ≡ false)
  unfolding end_verdict may_stand
  accepted_end [] r e = (r, given_accepted _ _ e)
  accepted_end (b ∷ rest) r e =
      by_eq (first + line_count bytes) last_line (λ l. absurd (refused≢accepted (sym (verdict_last single _ _ _ l) ∙ e)))
      (λ l. absurd (refused≢accepted (sym (verdict_wrong single _ _ None l refl) ∙ e)))

  accepted_whole : (outcome_of single first bytes).verdict ≡ Ok tt → TakenWhole single first bytes
  accepted_whole e =
      let all : (i : ℕ) → get_or rows i (Ok tt) ≡ (Ok tt) = rows_accepted rows (sym verdict_is ∙ e) in
      let end : ((lines_of bytes).rest ≡ []) × (owing (told_after bytes (line_count bytes)) ≡ false) = accepted_end (lines_of bytes).rest refl (sym (row_end (line_count bytes) refl) ∙ all (line_count bytes)) in
      record { taken = λ i h. accepted_taken i (sym (row_line i h) ∙ all i); ended = end.0; none_owed = end.1 }

  whole_row : TakenWhole single first bytes → (i : ℕ) → get_or rows i (Ok tt) ≡ Ok tt
  unfolding end_verdict
  whole_row s i =
      by_lt i (line_count bytes) (λ h. row_line i h ∙ taken_accepted i (s.taken i h))
      (λ h. by_eq i (line_count bytes) (λ q. row_end i q ∙ rw (s.ended, q, s.none_owed))
      (λ q. verdict_none single first nothing_told (lines_of bytes).whole (lines_of bytes).rest i (omega arith)))

  whole_accepted : TakenWhole single first bytes → (outcome_of single first bytes).verdict ≡ Ok tt
  whole_accepted s = file_accepted_exactly_when.1 (λ c g. let r : FirstRow rows c = (given_row c g).row in refused≢accepted (sym r.refuses ∙ whole_row s r.index))

  pub file_taken_whole : ((outcome_of single first bytes).verdict ≡ Ok tt) ↔ TakenWhole single first bytes
  file_taken_whole = (accepted_whole, whole_accepted)

  -- no file has two refusals
  pub file_refused_once : (c d : Cause) → GivenByCause single first bytes c → GivenByCause single first bytes d → c ≡ d
  file_refused_once c d g h = same_cause (sym (given_refused c g) ∙ given_refused d h)

  -- ---- what is printed
  prints_before : (i : ℕ) → ((j : ℕ) → j < i → get_or rows j (Ok tt) ≡ Ok tt) → (get_or rows i (Ok tt) ≡ Ok tt → line_count bytes ≤ i)
      → (outcome_of single first bytes).answers ≡ printed_after bytes i
  unfolding outcome_of
  prints_before i before here = taken_print single first nothing_told (lines_of bytes).whole (lines_of bytes).rest i before here

  refused_answers : (c : Cause) → GivenRow c → (outcome_of single first bytes).answers ≡ printed_after bytes (place_of c - first)
  refused_answers c r =
      rw (← r.its_place) (prints_before r.row.index r.row.before (λ e. absurd (refused≢accepted (sym r.row.refuses ∙ e))))

  accepted_answers : (outcome_of single first bytes).verdict ≡ Ok tt → (outcome_of single first bytes).answers ≡ printed_after bytes (line_count bytes)
  accepted_answers e = prints_before (line_count bytes) (λ j h. rows_accepted rows (sym verdict_is ∙ e) j) (λ z. omega arith)

  -- where a refusal is given: the answers of the queries on the lines before it, and then its FF line
  pub file_refused_prints : (c : Cause) → GivenByCause single first bytes c → answer_from single first bytes ≡ printed_after bytes (place_of c - first) ++ answer_lines (Refusal c) []
  file_refused_prints c g = file_by_lines single first bytes ∙ rw (given_refused c g, refused_answers c (given_row c g))

  -- where none is: the answers of all queries
  pub file_accepted_prints : ((c : Cause) → GivenByCause single first bytes c → ⊥) → answer_from single first bytes ≡ printed_after bytes (line_count bytes)
  file_accepted_prints none =
      let e : (outcome_of single first bytes).verdict ≡ (Ok tt) = file_accepted_exactly_when.1 none in
      file_by_lines single first bytes ∙ rw (e, append-nil, accepted_answers e)
