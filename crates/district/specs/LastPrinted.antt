-- The last line that a file prints is the FF line of 1, 2, 10 or 11 exactly when the rules (docs/RULES.md, "Input order") give
-- that refusal of the file. The argument: no line that is printed for a query is an FF line with such a number, and the FF line of
-- a refusal determines it. Assumes nothing.
use Rattle.std.specs.Prelude.{◌≡◌, ◌↔◌, Bool, take, Ok, Err, List, [], ◌∷◌, ◌++◌, ℕ, ◌-◌, ◌≤◌}
use Rattle.std.proofs.Math.Path.{refl, subst}
use Rattle.std.proofs.Common.{sym, ap, ◌∙◌, arith, take_at}
use Rattle.std.proofs.Math.ListN.{length, length-append}
use Rattle.std.proofs.Math.Seq.{get_or-append_seam}
use Rattle.network.specs.declared.Cause.{Cause}
use Rattle.network.specs.declared.Cause.TheVariants.{NodeCount, ArcLists, PotentialLists, StartOrEnd, Pattern, Room, BadArc, BadPotential, Inconsistent, UnsoundLine, MisplacedLine, NoSuchArc, WrongIndex}
use Rattle.network.specs.declared.Answer.TheVariants.{Refused as Refusal}
use Rattle.network.specs.Verdict.{Verdict}
use Rattle.network.specs.Answer.{number_of, place_of}
use Rattle.network.specs.CaseSplit.{by_lt}
use Rattle.frames.specs.AnswerLines.{line_feed, line_of, answer_lines}
use Rattle.frames.specs.AnswerLaws.{answer_determined}
use Rattle.district.specs.File.{nothing_told, last_line, answer_from}
use Rattle.district.specs.Lines.{lines_of, outcome_of}
use Rattle.district.specs.FileGiven.{line_count, last_printed, TakenWhole, ComesTo, QueryNumber}
use Rattle.district.specs.FileGivenLaws.{GivenByCause, file_refused_exactly_when, file_taken_whole}
use Rattle.district.specs.PrintedLines.{own_text, NoFile, refusal_number, refusal_kind, texts_by, lines_none, accepted_texts, refused_texts}

-- texts that are the same with a line feed behind them are the same
same_text : (x y : List ℕ) → x ++ (line_feed ∷ []) ≡ y ++ (line_feed ∷ []) → x ≡ y
same_text x y e =
    let n : length x ≡ length y = omega (arith, ap length e, length-append x (line_feed ∷ []), length-append y (line_feed ∷ [])) in
    sym (take_at x (line_feed ∷ []) (length x) refl) ∙ (ap (take (length x)) e ∙ take_at y (line_feed ∷ []) (length x) (sym n))

module _ (single : Bool) (first : ℕ) (bytes : List ℕ) where
  -- a file that is refused ends in its FF line
  last_refused : (c : Cause) → GivenByCause single first bytes c → last_printed (answer_from single first bytes) ++ (line_feed ∷ []) ≡ answer_lines (Refusal c) []
  unfolding last_printed line_of
  last_refused c g =
      let text : List ℕ = own_text (Refusal c) in
      let before : List (List ℕ) = texts_by nothing_told (take (place_of c - first) (lines_of bytes).whole) in
      let at : length (before ++ (text ∷ [])) - 1 ≡ length before = omega (arith, length-append before (text ∷ [])) in
      rw (refused_texts single first bytes c g, at, get_or-append_seam before text [] [])

  -- a line that a file comes to has no higher number than 4,294,967,295
  comes_low : first ≤ last_line → {n : ℕ} → ComesTo single first bytes n → n ≤ last_line
  comes_low low {n} k =
      by_lt last_line n
      (λ h. absurd ((k.taken (last_line - first) (omega (arith, k.its_number))).numbered (omega arith)))
      (λ h. h)

  given_low : first ≤ last_line → (c : Cause) → GivenByCause single first bytes c → place_of c ≤ last_line
  given_low low NodeCount g = omega arith
  given_low low ArcLists g = omega arith
  given_low low (UnsoundLine n) g = comes_low low g.comes
  given_low low (MisplacedLine n) g = comes_low low g.comes
  given_low low PotentialLists g = absurd g
  given_low low StartOrEnd g = absurd g
  given_low low Pattern g = absurd g
  given_low low Room g = absurd g
  given_low low (BadArc a) g = absurd g
  given_low low (BadPotential v) g = absurd g
  given_low low (Inconsistent a) g = absurd g
  given_low low (NoSuchArc a) g = absurd g
  given_low low WrongIndex g = absurd g

  -- a file that is taken whole ends in no such line
  last_accepted : (outcome_of single first bytes).verdict ≡ Ok tt → NoFile (last_printed (answer_from single first bytes))
  unfolding last_printed
  last_accepted e =
      let whole : TakenWhole single first bytes = (file_taken_whole single first bytes).0 e in
      rw (accepted_texts single first bytes e) ((lines_none single first bytes (line_count bytes) (omega arith) (λ j h. whole.taken j h)).each _)

  module _ (low : first ≤ last_line) (c : Cause) (own : QueryNumber (number_of c) → ⊥) (place : place_of c ≤ last_line) where
    last_given : last_printed (answer_from single first bytes) ++ (line_feed ∷ []) ≡ answer_lines (Refusal c) [] → GivenByCause single first bytes c
    unfolding line_of
    last_given h = go (outcome_of single first bytes).verdict refl
      where
        go : (v : Verdict) → (outcome_of single first bytes).verdict ≡ v → GivenByCause single first bytes c
        go (Err d) e =
            let g : GivenByCause single first bytes d = (file_refused_exactly_when single first bytes d).0 e in
            let same : Refusal d ≡ Refusal c = answer_determined (Refusal d) (Refusal c) [] [] (omega (arith, given_low low d g)) (omega arith) (sym (last_refused d g) ∙ h) in
            let cause : d ≡ c = cc in
            subst (λ (x : Cause). GivenByCause single first bytes x) cause g
        go (Ok _) e =
            let text : last_printed (answer_from single first bytes) ≡ own_text (Refusal c) = same_text _ _ h in
            let none : NoFile (own_text (Refusal c)) = subst (λ (x : List ℕ). NoFile x) text (last_accepted e) in
            absurd (own (subst (λ (n : ℕ). QueryNumber n) (refusal_number c) (none.law (refusal_kind c))))

    -- the last line printed is the FF line of c exactly when the rules give c of the file
    pub file_ends_in_refusal : (last_printed (answer_from single first bytes) ++ (line_feed ∷ []) ≡ answer_lines (Refusal c) []) ↔ GivenByCause single first bytes c
    file_ends_in_refusal = (last_given, last_refused c)
