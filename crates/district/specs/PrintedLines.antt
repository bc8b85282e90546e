-- The lines that a file prints: digits between line feeds, those of its queries' answers and, behind them, the FF line of the
-- refusal that ended it, if one did. An FF line that is printed for a query has the number of a query's refusal. Assumes nothing.
use Rattle.std.specs.Prelude.{◌≡◌, refl, Bool, true, not, ◌&&◌, eqb, ltb, length, take, replicate, get_or, Ok, Err, Some, Option, None, List, [], ◌∷◌, ◌++◌, ℕ, zero, suc, ◌+◌, ◌-◌, ◌/◌, ◌%◌, ◌≤◌, ◌<◌}
use Rattle.std.proofs.Math.Path.{sym, ap}
use Rattle.std.proofs.Common.{◌∙◌, arith, take-suc, ne_eqb, append-nil, append_assoc}
use Rattle.std.proofs.lemmas.Bool.{not-true}
use Rattle.network.specs.Cap.{Cap}
use Rattle.network.specs.declared.Cause.{Cause}
use Rattle.network.specs.declared.Answer.{Answer}
use Rattle.network.specs.declared.Answer.TheVariants.{Route, NoRoute, Refused as Refusal, Provisional, Undecided}
use Rattle.network.specs.Verdict.{Verdict}
use Rattle.network.specs.Answer.{number_of, place_of, kind_of, values_of}
use Rattle.network.specs.CaseSplit.{cases, both_true}
use Rattle.network.specs.Query.{Query}
use Rattle.network.specs.Refusal.{query_verdict}
use Rattle.nba.specs.Search.{state_at}
use Rattle.nba.specs.Result.{path_of, refused_or, found_at, answer_to_at, turns_given}
use Rattle.frames.specs.declared.Frame.{Frame}
use Rattle.frames.specs.declared.Frame.TheVariants.{Size, Arc, TwoWay, Potentials, Query as QueryFrame}
use Rattle.frames.specs.Digits.{digit_of, number_from, number_at, digits_of, spelled}
use Rattle.frames.specs.FieldLaws.{length_digits, field_roundtrip}
use Rattle.frames.specs.Frame.{frame_of, pattern_of}
use Rattle.frames.specs.AnswerLines.{line_feed, line_of, widths_of, answer_line, path_line, answer_lines}
use Rattle.frames.specs.AnswerLaws.{number_below_256}
use Rattle.district.specs.File.{Told, nothing_told, work_room, query_lines, query_on, answer_from}
use Rattle.nba.specs.Why.ReadLaws.{by_found}
use Rattle.district.specs.CappedLaws.{capped_lines}
use Rattle.district.specs.Lines.{lines_of, without_feed, told_with, printed_for, outcome_of}
use Rattle.district.specs.FileGiven.{line_count, frame_after, told_by_lines, told_after, printed_by_lines, TakenAfter, QueryNumber}
use Rattle.district.specs.FileGivenLaws.{GivenByCause, file_accepted_exactly_when, file_refused_prints, file_accepted_prints}
use Rattle.district.specs.QueryRefusals.{query_refused_with}

-- ---- digits have no line feed in them
free_append : (a b : List ℕ) → without_feed a ≡ true → without_feed b ≡ true → without_feed (a ++ b) ≡ true
unfolding without_feed
free_append [] b p q = q
free_append (x ∷ a) b p q = both_true (not (eqb x line_feed)) (without_feed a) p (λ h k. rw (h, free_append a b k q))

digit_free : (n : ℕ) → without_feed (digit_of n ∷ []) ≡ true
unfolding without_feed digit_of
digit_free n = cases (λ (b : ℕ). (not (eqb b line_feed) && true) ≡ true) (ltb n 10) (λ _. rw (ne_eqb (48 + n) line_feed (λ e. omega arith))) (λ _. rw (ne_eqb (55 + n) line_feed (λ e. omega arith)))

digits_free : (d n : ℕ) → without_feed (digits_of d n) ≡ true
unfolding digits_of without_feed
digits_free zero n = refl
digits_free (suc d) n = free_append (digits_of d (n / 16)) _ (digits_free d (n / 16)) (digit_free (n % 16))

spelled_free : (ws vs : List ℕ) → without_feed (spelled ws vs) ≡ true
unfolding spelled without_feed
spelled_free [] vs = refl
spelled_free (w ∷ ws) [] = refl
spelled_free (w ∷ ws) (v ∷ vs) = free_append (digits_of w v) (spelled ws vs) (digits_free w v) (spelled_free ws vs)

-- bytes without a line feed, and then one: the first line
line_first : (x y : List ℕ) → without_feed x ≡ true → (lines_of (x ++ (line_feed ∷ y))).whole ≡ x ∷ (lines_of y).whole
unfolding lines_of without_feed
line_first [] y h = refl
line_first (b ∷ x) y h = both_true (not (eqb b line_feed)) (without_feed x) h (λ p q. rw (not-true (eqb b line_feed) p, line_first x y q))

-- ---- the lines of an answer
-- without their line feeds: the line of its kind and values, and that of a path
abbrev pub own_text : Answer → List ℕ
own_text a = spelled (widths_of a) (kind_of a ∷ values_of a)

abbrev path_text : List ℕ → List ℕ
path_text nodes = digits_of 2 130 ++ spelled (replicate (length nodes) 4) nodes

abbrev texts : Answer → List ℕ → List (List ℕ)
texts (Route l n f) path = own_text (Route l n f) ∷ path_text (take n path) ∷ []
texts (Provisional l x n f) path = own_text (Provisional l x n f) ∷ path_text (take n path) ∷ []
texts (NoRoute f) path = own_text (NoRoute f) ∷ []
texts (Undecided f) path = own_text (Undecided f) ∷ []
texts (Refusal c) path = own_text (Refusal c) ∷ []

own_first : (a : Answer) (y : List ℕ) → (lines_of (answer_line a ++ y)).whole ≡ own_text a ∷ (lines_of y).whole
unfolding line_of
own_first a y = rw append_assoc (line_first (own_text a) y (spelled_free (widths_of a) (kind_of a ∷ values_of a)))

path_first : (nodes y : List ℕ) → (lines_of (path_line nodes ++ y)).whole ≡ path_text nodes ∷ (lines_of y).whole
unfolding line_of
path_first nodes y =
    let free : without_feed (path_text nodes) ≡ true = free_append (digits_of 2 130) _ (digits_free 2 130) (spelled_free (replicate (length nodes) 4) nodes) in
    let parts : path_line nodes ++ y ≡ path_text nodes ++ (line_feed ∷ y) = simp append_assoc in
    ap (λ (s : List ℕ). (lines_of s).whole) parts ∙ line_first (path_text nodes) y free

both_first : (a : Answer) (nodes y : List ℕ) → (lines_of ((answer_line a ++ path_line nodes) ++ y)).whole ≡ own_text a ∷ path_text nodes ∷ (lines_of y).whole
both_first a nodes y =
    ap (λ (s : List ℕ). (lines_of s).whole) (append_assoc (answer_line a) (path_line nodes) y)
    ∙ (own_first a (path_line nodes ++ y) ∙ ap (λ (ls : List (List ℕ)). own_text a ∷ ls) (path_first nodes y))

answer_texts : (a : Answer) (path y : List ℕ) → (lines_of (answer_lines a path ++ y)).whole ≡ texts a path ++ (lines_of y).whole
answer_texts (Route l n f) path y = both_first (Route l n f) (take n path) y
answer_texts (Provisional l x n f) path y = both_first (Provisional l x n f) (take n path) y
answer_texts (NoRoute f) path y = own_first (NoRoute f) y
answer_texts (Undecided f) path y = own_first (Undecided f) y
answer_texts (Refusal c) path y = own_first (Refusal c) y

-- ---- which line is an FF line of a file
-- if it is an FF line, its number is that of a query's refusal
pub record NoFile (text : List ℕ) : Type 0 where
  pub law : number_at text 0 2 ≡ 255 → QueryNumber (number_at text 2 2)

pub record NoFiles (lines : List (List ℕ)) : Type 0 where
  pub each : (i : ℕ) → NoFile (get_or lines i [])

empty_none : NoFile []
unfolding number_at number_from
empty_none = record { law = λ e. absurd (omega arith) }

nothing_none : NoFiles []
nothing_none = record { each = λ i. empty_none }

one_none : {text : List ℕ} {lines : List (List ℕ)} → NoFile text → NoFiles lines → NoFiles (text ∷ lines)
one_none {text} {lines} h k = record { each = λ i. elim i as (λ n. NoFile (get_or (text ∷ lines) n [])) [ zero ↦ h | suc j ↦ k.each j ] }

append_none : (a b : List (List ℕ)) → NoFiles a → NoFiles b → NoFiles (a ++ b)
append_none [] b h k = k
append_none (x ∷ a) b h k = one_none (h.each 0) (append_none a b (record { each = λ i. h.each (suc i) }) k)

-- a line of another kind
kind_none : (k : ℕ) (rest : List ℕ) → k < 255 → NoFile (digits_of 2 k ++ rest)
kind_none k rest h = record { law = λ e. absurd (omega (arith, field_roundtrip [] 2 k rest 0 refl (omega arith), e)) }

-- an FF line has its number in the second field
pub refusal_number : (c : Cause) → number_at (spelled (2 ∷ 2 ∷ 8 ∷ []) (255 ∷ number_of c ∷ place_of c ∷ [])) 2 2 ≡ number_of c
unfolding spelled
refusal_number c = field_roundtrip (digits_of 2 255) 2 (number_of c) _ 2 (length_digits 2 255) (number_below_256 c)

pub refusal_kind : (c : Cause) → number_at (spelled (2 ∷ 2 ∷ 8 ∷ []) (255 ∷ number_of c ∷ place_of c ∷ [])) 0 2 ≡ 255
unfolding spelled
refusal_kind c = field_roundtrip [] 2 255 _ 0 refl (omega arith)

refused_none : (c : Cause) (path : List ℕ) → QueryNumber (number_of c) → NoFiles (texts (Refusal c) path)
refused_none c path q = one_none (record { law = λ _. rw (refusal_number c) q }) nothing_none

-- a search's answer is no refusal
found_none : (q : Query) (cap : ℕ) (path : List ℕ) → NoFiles (texts (found_at q cap) path)
unfolding spelled
found_none q cap path =
    let on_path : NoFiles (path_text (take (length (path_of q (state_at q cap))) path) ∷ []) = one_none (kind_none 130 _ (omega arith)) nothing_none in
    by_found q cap (λ (a : Answer). NoFiles (texts a path))
    (λ t h. one_none (kind_none 129 _ (omega arith)) on_path)
    (λ t h. one_none (kind_none 132 _ (omega arith)) on_path)
    (λ t h. one_none (kind_none 128 _ (omega arith)) nothing_none)
    (λ t h. one_none (kind_none 133 _ (omega arith)) nothing_none)

-- the answer of a query whose refusals are 4, 5, 7, 8 or 9
answer_none : (q : Query) (cap : ℕ) (path : List ℕ) → ((c : Cause) → query_verdict q work_room ≡ Err c → QueryNumber (number_of c)) → NoFiles (texts (answer_to_at q cap work_room) path)
unfolding answer_to_at
answer_none q cap path h = go (query_verdict q work_room) refl
  where
    go : (v : Verdict) → query_verdict q work_room ≡ v → NoFiles (texts (refused_or v (found_at q cap)) path)
    go (Ok _) e = found_none q cap path
    go (Err c) e = refused_none c path (h c e)

-- ---- the lines of a file's queries
-- of a query that is given so many turns
abbrev texts_at : Query → ℕ → List (List ℕ)
texts_at q cap = texts (answer_to_at q cap work_room) (path_of q (state_at q cap))

texts_at_lem : (q : Query) (cap : ℕ) (y : List ℕ) → (lines_of (query_lines (Some cap) q ++ y)).whole ≡ texts_at q cap ++ (lines_of y).whole
unfolding query_lines
texts_at_lem q cap y = answer_texts (answer_to_at q cap work_room) (path_of q (state_at q cap)) y

query_texts : (c : Cap) (q : Query) (y : List ℕ) → (lines_of (query_lines c q ++ y)).whole ≡ texts_at q (turns_given c q) ++ (lines_of y).whole
query_texts c q y = rw (capped_lines c q) (texts_at_lem q (turns_given c q) y)

abbrev texts_for : Told → List ℕ → Option Frame → List (List ℕ)
texts_for t line (Some (QueryFrame s e c n)) = texts_at (query_on t s e (pattern_of line)) (turns_given c (query_on t s e (pattern_of line)))
texts_for t line (Some (Size n m)) = []
texts_for t line (Some (Arc a b w)) = []
texts_for t line (Some (TwoWay a b w)) = []
texts_for t line (Some (Potentials v h k)) = []
texts_for t line None = []

frame_texts : (t : Told) (line : List ℕ) (g : Option Frame) (y : List ℕ) → (lines_of (printed_for t line g ++ y)).whole ≡ texts_for t line g ++ (lines_of y).whole
unfolding printed_for
frame_texts t line (Some (QueryFrame s e c n)) y = query_texts c (query_on t s e (pattern_of line)) y
frame_texts t line (Some (Size n m)) y = refl
frame_texts t line (Some (Arc a b w)) y = refl
frame_texts t line (Some (TwoWay a b w)) y = refl
frame_texts t line (Some (Potentials v h k)) y = refl
frame_texts t line None y = refl

-- of lines one after the other
unfoldable pub texts_by : Told → List (List ℕ) → List (List ℕ)
texts_by t [] = []
texts_by t (line ∷ more) = texts_for t line (frame_of line) ++ texts_by (told_with t (frame_of line)) more

lines_texts : (t : Told) (lines : List (List ℕ)) (y : List ℕ) → (lines_of (printed_by_lines t lines ++ y)).whole ≡ texts_by t lines ++ (lines_of y).whole
unfolding printed_by_lines texts_by
lines_texts t [] y = refl
lines_texts t (line ∷ more) y =
    rw (append_assoc (printed_for t line (frame_of line)), append_assoc (texts_for t line (frame_of line)))
    (frame_texts t line (frame_of line) (printed_by_lines (told_with t (frame_of line)) more ++ y)
    ∙ ap (λ (ls : List (List ℕ)). texts_for t line (frame_of line) ++ ls) (lines_texts (told_with t (frame_of line)) more y))

texts_last : (t : Told) (lines : List (List ℕ)) (line : List ℕ) → texts_by t (lines ++ (line ∷ [])) ≡ texts_by t lines ++ texts_for (told_by_lines t lines) line (frame_of line)
unfolding texts_by told_by_lines
texts_last t [] line = append-nil (texts_for t line (frame_of line))
texts_last t (l ∷ lines) line = rw (texts_last (told_with t (frame_of l)) lines line, append_assoc)

module _ (single : Bool) (first : ℕ) (bytes : List ℕ) where
  -- a query that is taken prints no FF line of a file
  frame_none : (i : ℕ) → i < line_count bytes → ((j : ℕ) → j ≤ i → TakenAfter single first bytes j) → (line : List ℕ) (g : Option Frame) → frame_after bytes i ≡ g → NoFiles (texts_for (told_after bytes i) line g)
  frame_none i h taken line (Some (QueryFrame s e d n)) f = answer_none _ _ _ (λ c v. query_refused_with single first bytes i h taken f (pattern_of line) c v)
  frame_none i h taken line (Some (Size a b)) f = nothing_none
  frame_none i h taken line (Some (Arc a b w)) f = nothing_none
  frame_none i h taken line (Some (TwoWay a b w)) f = nothing_none
  frame_none i h taken line (Some (Potentials v a b)) f = nothing_none
  frame_none i h taken line None f = nothing_none

  pub lines_none : (i : ℕ) → i ≤ line_count bytes → ((j : ℕ) → j < i → TakenAfter single first bytes j) → NoFiles (texts_by nothing_told (take i (lines_of bytes).whole))
  unfolding texts_by
  lines_none zero h taken = nothing_none
  lines_none (suc i) h taken =
      rw (take-suc (lines_of bytes).whole i [] h, texts_last nothing_told (take i (lines_of bytes).whole) (get_or (lines_of bytes).whole i []))
      (append_none _ _ (lines_none i (omega arith) (λ j l. taken j (omega arith)))
      (frame_none i h (λ j l. taken j (omega arith)) (get_or (lines_of bytes).whole i []) (frame_after bytes i) refl))

  -- the lines of a file that is taken whole are those of its queries
  pub accepted_texts : (outcome_of single first bytes).verdict ≡ Ok tt → (lines_of (answer_from single first bytes)).whole ≡ texts_by nothing_told (take (line_count bytes) (lines_of bytes).whole)
  unfolding lines_of
  accepted_texts e =
      let none = (file_accepted_exactly_when single first bytes).0 e in
      ap (λ (s : List ℕ). (lines_of s).whole) (file_accepted_prints single first bytes none ∙ sym (append-nil _))
      ∙ (lines_texts nothing_told (take (line_count bytes) (lines_of bytes).whole) [] ∙ append-nil _)

  -- and a refusal's line stands behind those of the queries before it
  pub refused_texts : (c : Cause) → GivenByCause single first bytes c
      → (lines_of (answer_from single first bytes)).whole ≡ texts_by nothing_told (take (place_of c - first) (lines_of bytes).whole) ++ (own_text (Refusal c) ∷ [])
  unfolding lines_of
  refused_texts c g =
      let before : List (List ℕ) = texts_by nothing_told (take (place_of c - first) (lines_of bytes).whole) in
      let own : (lines_of (answer_lines (Refusal c) [])).whole ≡ own_text (Refusal c) ∷ [] = ap (λ (s : List ℕ). (lines_of s).whole) (sym (append-nil (answer_lines (Refusal c) []))) ∙ answer_texts (Refusal c) [] [] in
      ap (λ (s : List ℕ). (lines_of s).whole) (file_refused_prints single first bytes c g)
      ∙ (lines_texts nothing_told (take (place_of c - first) (lines_of bytes).whole) (answer_lines (Refusal c) []) ∙ ap (λ (ls : List (List ℕ)). before ++ ls) own)
