-- The numbers of the FF lines that a file prints, as a program and for the display: 1, 2, 10 or 11 for the file itself, and 4, 5,
-- 7, 8 or 9 for a query in it. So 19 and 20, which are refusals of an index (docs/RULES.md, "The index"), never come from a file.
-- Assumes nothing.
use Rattle.std.specs.Prelude.{◌≡◌, refl, ◌≢◌, Bool, List, [], ◌∷◌, ◌++◌, ℕ, zero, suc, ◌-◌, ◌≤◌, ◌<◌, get_or, Ok, Err}
use Rattle.std.proofs.Common.{arith}
use Rattle.network.specs.declared.Cause.{Cause}
use Rattle.network.specs.declared.Cause.TheVariants.{NodeCount, ArcLists, PotentialLists, StartOrEnd, Pattern, Room, BadArc, BadPotential, Inconsistent, UnsoundLine, MisplacedLine, NoSuchArc, WrongIndex}
use Rattle.network.specs.declared.Answer.TheVariants.{Refused as Refusal}
use Rattle.network.specs.Verdict.{Verdict}
use Rattle.network.specs.Answer.{number_of, place_of}
use Rattle.district.specs.File.{answer_from}
use Rattle.district.specs.Lines.{outcome_of}
use Rattle.district.specs.FileGiven.{line_count, TakenAfter, TakenWhole, ComesTo, printed_line, kind_in, number_in, FileNumber, by_bad_nodes, by_bad_arcs, unsound_line, misplaced_line, PrintedNumber, of_file, of_query}
use Rattle.district.specs.FileGivenLaws.{GivenByCause, file_refused_exactly_when, file_taken_whole}
use Rattle.district.specs.PrintedLines.{own_text, NoFiles, refusal_number, lines_none, accepted_texts, refused_texts}

-- if it is an FF line, its number is one of them
record Numbered (line : List ℕ) : Type 0 where
  pub law : kind_in line ≡ 255 → PrintedNumber (number_in line)

-- lines of queries, and then one more line
then_one : (lines : List (List ℕ)) (line : List ℕ) → NoFiles lines → Numbered line → (i : ℕ) → Numbered (get_or (lines ++ (line ∷ [])) i [])
then_one [] line h k zero = k
then_one [] line h k (suc i) = record { law = λ e. of_query ((h.each i).law e) }
then_one (first ∷ lines) line h k zero = record { law = λ e. of_query ((h.each 0).law e) }
then_one (first ∷ lines) line h k (suc i) = then_one lines line (record { each = λ j. h.each (suc j) }) k i

other_numbers : {n : ℕ} → PrintedNumber n → (n ≢ 19) × (n ≢ 20)
other_numbers (of_file by_bad_nodes) = ((λ e. omega arith), (λ e. omega arith))
other_numbers (of_file by_bad_arcs) = ((λ e. omega arith), (λ e. omega arith))
other_numbers (of_file unsound_line) = ((λ e. omega arith), (λ e. omega arith))
other_numbers (of_file misplaced_line) = ((λ e. omega arith), (λ e. omega arith))
other_numbers (of_query q) = ((λ e. omega (arith, q.most)), (λ e. omega (arith, q.most)))

module _ (single : Bool) (first : ℕ) (bytes : List ℕ) where
  -- the refusal of a file has such a number, and the lines before its own are there and are taken
  record Ending (c : Cause) : Type 0 where
    pub its_number : FileNumber (number_of c)
    pub within : place_of c - first ≤ line_count bytes
    pub taken : (j : ℕ) → j < place_of c - first → TakenAfter single first bytes j

  at_line : {c : Cause} → FileNumber (number_of c) → ComesTo single first bytes (place_of c) → Ending c
  at_line n k =
      record {
        its_number = n;
        within = omega (arith, k.its_number, k.within);
        taken = λ j h. k.taken j (omega (arith, k.its_number));
      }

  given_ending : (c : Cause) → GivenByCause single first bytes c → Ending c
  given_ending NodeCount g = record { its_number = by_bad_nodes; within = omega arith; taken = λ j h. absurd (omega arith) }
  given_ending ArcLists g = record { its_number = by_bad_arcs; within = omega arith; taken = λ j h. absurd (omega arith) }
  given_ending (UnsoundLine n) g = at_line unsound_line g.comes
  given_ending (MisplacedLine n) g = at_line misplaced_line g.comes
  given_ending PotentialLists g = absurd g
  given_ending StartOrEnd g = absurd g
  given_ending Pattern g = absurd g
  given_ending Room g = absurd g
  given_ending (BadArc a) g = absurd g
  given_ending (BadPotential v) g = absurd g
  given_ending (Inconsistent a) g = absurd g
  given_ending (NoSuchArc a) g = absurd g
  given_ending WrongIndex g = absurd g

  lines_numbered : (v : Verdict) → (outcome_of single first bytes).verdict ≡ v → (i : ℕ) → Numbered (printed_line (answer_from single first bytes) i)
  lines_numbered (Ok _) e i =
      let whole : TakenWhole single first bytes = (file_taken_whole single first bytes).0 e in
      rw (accepted_texts single first bytes e)
      (record { law = λ k. of_query (((lines_none single first bytes (line_count bytes) (omega arith) (λ j h. whole.taken j h)).each i).law k) })
  lines_numbered (Err c) e i =
      let g : GivenByCause single first bytes c = (file_refused_exactly_when single first bytes c).0 e in
      let end : Ending c = given_ending c g in
      rw (refused_texts single first bytes c g)
      (then_one _ (own_text (Refusal c)) (lines_none single first bytes (place_of c - first) end.within end.taken)
      (record { law = λ _. rw (refusal_number c) (of_file end.its_number) }) i)

  -- every FF line of a file's answer has one of these numbers
  pub printed_numbers : (i : ℕ) → kind_in (printed_line (answer_from single first bytes) i) ≡ 255 → PrintedNumber (number_in (printed_line (answer_from single first bytes) i))
  printed_numbers i k = (lines_numbered (outcome_of single first bytes).verdict refl i).law k

  -- so none has the number 19 or 20
  pub never_of_an_index : (i : ℕ) → kind_in (printed_line (answer_from single first bytes) i) ≡ 255
      → (number_in (printed_line (answer_from single first bytes) i) ≢ 19) × (number_in (printed_line (answer_from single first bytes) i) ≢ 20)
  never_of_an_index i k = other_numbers (printed_numbers i k)
