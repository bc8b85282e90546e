-- The lines of a file are its bytes parted at the line feeds, and a file read byte by byte prints what its lines print, for all
-- bytes. The argument for the second: within a line the byte reading holds what the line has so far, and what it still prints is
-- what the rest of the file prints by lines with the held bytes ahead of it; a line feed judges the line as the frame's verdict
-- does; and a line that is broken for its length is no sound frame, however it goes on. Assumes nothing.
use Rattle.std.specs.Prelude.{◌≡◌, refl, Bool, true, false, not, ◌&&◌, List, [], ◌∷◌, ◌++◌, ℕ, zero, suc, ◌+◌, ◌≤◌, ◌<◌, eqb, ltb, leb, length, get_or, Ok, Err, Option, None, Some}
use Rattle.std.proofs.Common.{sym, ap, ◌∙◌, append-nil, append_assoc, arith, length-append, eqb-true, ne_eqb, ltb-true, ltb-false}
use Rattle.std.proofs.lemmas.Bool.{lt-leb}
use Rattle.network.specs.declared.Cause.{Cause}
use Rattle.network.specs.declared.Cause.TheVariants.{MisplacedLine}
use Rattle.network.specs.Verdict.{Verdict}
use Rattle.network.specs.declared.Answer.TheVariants.{Refused as Refusal}
use Rattle.network.specs.CaseSplit.{by_bool, tests}
use Rattle.network.specs.Refusal.{given, first_refusal}
use Rattle.frames.specs.declared.Frame.{Frame}
use Rattle.frames.specs.declared.Frame.TheVariants.{Size, Arc, TwoWay, Potentials, Query as QueryFrame}
use Rattle.frames.specs.Frame.{most_digits, frame_of}
use Rattle.frames.specs.FrameCases.{too_long}
use Rattle.frames.specs.AnswerLines.{line_feed, answer_lines}
use Rattle.district.specs.File.{Told, File, FileStep, nothing_told, last_line, refused, taken, wrong_cause, size_owed, arcs_owed, potentials_owed, take_size, take_arcs, take_potentials, take_query, take_frame, take_line, broken_line, take_byte, owing, end_of_input, answer_from}
use Rattle.district.specs.FileLaws.{rest_of, rest_whole, rest_none, rest_byte, rest_ended}
use Rattle.district.specs.Lines.{Lines, began_with, lines_of, joined, without_feed, owed_arcs, may_stand, bad_nodes, bad_arcs, size_verdict, frame_verdict, end_verdict, told_with, printed_for, Outcome, then_on, read_lines, outcome_of, refusal_line, printed_of}

-- ---- the lines of a file
-- lines put together again are the file
pub lines_joined : (bytes : List ℕ) → joined (lines_of bytes).whole (lines_of bytes).rest ≡ bytes
unfolding lines_of joined
lines_joined [] = refl
lines_joined (b ∷ bytes) =
    by_bool (eqb b line_feed) (λ e. rw (e, lines_joined bytes, eqb-true b line_feed e))
    (λ e. rw e (began (lines_of bytes).whole (lines_of bytes).rest ∙ ap (λ (l : List ℕ). b ∷ l) (lines_joined bytes)))
  where
    began : (whole : List (List ℕ)) (rest : List ℕ) → joined (began_with (b ∷ []) whole rest).whole (began_with (b ∷ []) whole rest).rest ≡ b ∷ joined whole rest
    began [] rest = refl
    began (line ∷ more) rest = refl

-- no line has a line feed in it
record FeedsBetween (whole : List (List ℕ)) (rest : List ℕ) : Type 0 where
  pub in_whole : (i : ℕ) → without_feed (get_or whole i []) ≡ true
  pub in_rest : without_feed rest ≡ true

feed_between : (whole : List (List ℕ)) (rest : List ℕ) → FeedsBetween whole rest → FeedsBetween ([] ∷ whole) rest
unfolding without_feed
feed_between whole rest p = record {
  in_whole = λ i. elim i as (λ k. without_feed (get_or ([] ∷ whole) k []) ≡ true) [ zero ↦ refl | suc j ↦ p.in_whole j ];
  in_rest = p.in_rest;
}

began_between : (b : ℕ) → eqb b line_feed ≡ false → (whole : List (List ℕ)) (rest : List ℕ) → FeedsBetween whole rest
    → FeedsBetween (began_with (b ∷ []) whole rest).whole (began_with (b ∷ []) whole rest).rest
unfolding without_feed
began_between b e [] rest p = record { in_whole = λ i. refl; in_rest = rw e p.in_rest }
began_between b e (line ∷ more) rest p = record {
  in_whole = λ i.
      elim i as (λ k. without_feed (get_or ((b ∷ line) ∷ more) k []) ≡ true) [ zero ↦ rw e (p.in_whole 0) | suc j ↦ p.in_whole (suc j) ];
  in_rest = p.in_rest;
}

feeds_between : (bytes : List ℕ) → FeedsBetween (lines_of bytes).whole (lines_of bytes).rest
unfolding lines_of without_feed
feeds_between [] = record { in_whole = λ i. refl; in_rest = refl }
feeds_between (b ∷ bytes) =
    by_bool (eqb b line_feed) (λ e. rw e (feed_between (lines_of bytes).whole (lines_of bytes).rest (feeds_between bytes)))
    (λ e. rw e (began_between b e (lines_of bytes).whole (lines_of bytes).rest (feeds_between bytes)))

pub lines_without_feed : (bytes : List ℕ) (i : ℕ) → without_feed (get_or (lines_of bytes).whole i []) ≡ true
lines_without_feed bytes i = (feeds_between bytes).in_whole i

pub rest_without_feed : (bytes : List ℕ) → without_feed (lines_of bytes).rest ≡ true
rest_without_feed bytes = (feeds_between bytes).in_rest

-- ---- after a refusal
-- a refusal is the last that a file prints
refused_rest : (f : File) (c : Cause) (bytes : List ℕ) → (refused f c).printed ++ rest_of (refused f c).file bytes ≡ answer_lines (Refusal c) []
unfolding refused
refused_rest f c bytes = rw (rest_ended (refused f c).file bytes refl, append-nil)

-- ---- one line
-- a file in the midst of line n
abbrev reading : Bool → ℕ → Told → List ℕ → File
reading single n t held = record { told = t; line = n; held = held; single = single; going = true }

-- the step that a verdict on a line's frame asks for
abbrev step_by : File → Option Frame → Verdict → FileStep
step_by f g (Ok _) = taken f (told_with f.told g) (printed_for f.told f.held g)
step_by f g (Err c) = refused f c

module _ (single : Bool) (n : ℕ) (t : Told) (held : List ℕ) where
  no_arcs_owed : (k : ℕ) → arcs_owed t ≡ false → 0 < k → leb k (owed_arcs t) ≡ false
  no_arcs_owed k e h = lt-leb k (owed_arcs t) (omega (arith, tests))

  -- a frame where line 4,294,967,295 is not
  frame_step : (g : Option Frame) → take_frame (reading single n t held) g ≡ step_by (reading single n t held) g (first_refusal (given (not (may_stand single t g)) (wrong_cause g n) ∷ size_verdict g ∷ []))
  unfolding take_frame take_size take_arcs take_potentials take_query may_stand told_with printed_for first_refusal
  frame_step (Some (Size a b)) =
      by_bool (size_owed t)
      (λ e. rw e (by_bool (bad_nodes a) (λ p. rw p) (λ p. rw p (by_bool (bad_arcs b) (λ q. rw q) (λ q. rw q)))))
      (λ e. rw e (by_bool (arcs_owed t) (λ p. rw p) (λ p. rw p (by_bool (potentials_owed t) (λ q. rw q) (λ q. rw q)))))
  frame_step (Some (Arc a b w)) =
      by_bool (size_owed t) (λ e. rw e)
      (λ e. rw e
      (by_bool (arcs_owed t) (λ p. rw p (by_bool (leb 1 (owed_arcs t)) (λ q. rw q) (λ q. rw q)))
      (λ p. rw (p, no_arcs_owed 1 p (omega arith)) (by_bool (potentials_owed t) (λ q. rw q) (λ q. rw q)))))
  frame_step (Some (TwoWay a b w)) =
      by_bool (size_owed t) (λ e. rw e)
      (λ e. rw e
      (by_bool (arcs_owed t) (λ p. rw p (by_bool (leb 2 (owed_arcs t)) (λ q. rw q) (λ q. rw q)))
      (λ p. rw (p, no_arcs_owed 2 p (omega arith)) (by_bool (potentials_owed t) (λ q. rw q) (λ q. rw q)))))
  frame_step (Some (Potentials v h k)) =
      by_bool (size_owed t) (λ e. rw e)
      (λ e. rw e
      (by_bool (arcs_owed t) (λ p. rw p)
      (λ p. rw p
      (by_bool (potentials_owed t) (λ q. rw q (by_bool (eqb v (length t.forward)) (λ r. rw r) (λ r. rw r))) (λ q. rw q)))))
  frame_step (Some (QueryFrame s e c k)) =
      by_bool (size_owed t) (λ p. rw p)
      (λ p. rw p
      (by_bool (arcs_owed t) (λ q. rw q)
      (λ q. rw q
      (by_bool (potentials_owed t) (λ r. rw r) (λ r. rw r (by_bool (single && t.asked) (λ x. rw x) (λ x. rw x)))))))
  frame_step None =
      by_bool (size_owed t) (λ p. rw p)
      (λ p. rw p (by_bool (arcs_owed t) (λ q. rw q) (λ q. rw q (by_bool (potentials_owed t) (λ r. rw r) (λ r. rw r)))))

  -- a whole line is taken or refused as the verdict on its frame says
  line_step : take_line (reading single n t held) ≡ step_by (reading single n t held) (frame_of held) (frame_verdict single n t (frame_of held))
  unfolding take_line frame_verdict first_refusal
  line_step =
      by_bool (eqb n last_line)
      (λ e. rw e (ap (λ (m : ℕ). refused (reading single n t held) (MisplacedLine m)) (sym (eqb-true n last_line e))))
      (λ e. rw e (frame_step (frame_of held)))

  -- a broken line is refused as no sound frame is
  broken_step : broken_line (reading single n t held) ≡ step_by (reading single n t held) None (frame_verdict single n t None)
  unfolding broken_line frame_verdict first_refusal may_stand
  broken_step =
      by_bool (eqb n last_line)
      (λ e. rw e (ap (λ (m : ℕ). refused (reading single n t held) (MisplacedLine m)) (sym (eqb-true n last_line e))))
      (λ e. rw e)

  -- no sound frame ends the file, whatever follows
  broken_ends : (printed : List ℕ) (later : Outcome) → printed_of (then_on (frame_verdict single n t None) printed later) ≡ refusal_line (frame_verdict single n t None)
  unfolding frame_verdict first_refusal may_stand
  broken_ends printed later = by_bool (eqb n last_line) (λ e. rw e) (λ e. rw e)

  broken_printed : (broken_line (reading single n t held)).printed ≡ refusal_line (frame_verdict single n t None)
  unfolding refused frame_verdict first_refusal may_stand
  broken_printed = rw broken_step (by_bool (eqb n last_line) (λ e. rw e) (λ e. rw e))

  broken_rest : (bytes : List ℕ) → (broken_line (reading single n t held)).printed ++ rest_of (broken_line (reading single n t held)).file bytes ≡ refusal_line (frame_verdict single n t None)
  unfolding frame_verdict first_refusal may_stand
  broken_rest bytes =
      rw broken_step
      (by_bool (eqb n last_line) (λ e. rw e (refused_rest (reading single n t held) _ bytes)) (λ e. rw e (refused_rest (reading single n t held) _ bytes)))

-- the end of input
end_step : (single : Bool) (n : ℕ) (t : Told) (held : List ℕ) → end_of_input (reading single n t held) ≡ refusal_line (end_verdict single n t held)
unfolding end_of_input end_verdict refused
end_step single n t [] = by_bool (owing t) (λ e. rw e) (λ e. rw e)
end_step single n t (b ∷ held) = rw (ne_eqb (length (b ∷ held)) 0 (λ e. omega arith)) (broken_printed single n t (b ∷ held))

-- ---- lines that begin with the bytes that are held
began_empty : (whole : List (List ℕ)) (rest : List ℕ) → began_with [] whole rest ≡ record { whole = whole; rest = rest }
began_empty [] rest = refl
began_empty (line ∷ more) rest = refl

began_twice : (held : List ℕ) (b : ℕ) (whole : List (List ℕ)) (rest : List ℕ)
    → began_with held (began_with (b ∷ []) whole rest).whole (began_with (b ∷ []) whole rest).rest ≡ began_with (held ++ (b ∷ [])) whole rest
began_twice held b [] rest = rw (append_assoc held (b ∷ []) rest)
began_twice held b (line ∷ more) rest = rw (append_assoc held (b ∷ []) line)

-- what is printed for some lines
abbrev printed_by : Bool → ℕ → Told → Lines → List ℕ
printed_by single n t l = printed_of (read_lines single n t l.whole l.rest)

-- lines of which the first is longer than any frame
overlong : (single : Bool) (n : ℕ) (t : Told) (long : List ℕ) (whole : List (List ℕ)) (rest : List ℕ) → most_digits < length long
    → printed_by single n t (began_with long whole rest) ≡ refusal_line (frame_verdict single n t None)
unfolding read_lines end_verdict
overlong single n t [] [] rest h = absurd (omega arith)
overlong single n t (x ∷ long) [] rest h = refl
overlong single n t long (line ∷ more) rest h =
    let unsound : None ≡ frame_of (long ++ line) = too_long (long ++ line) (omega (arith, length-append long line)) in
    rw (← unsound) (broken_ends single n t [] _ _)

-- ---- the whole file
-- a line that ends here, and then the file by lines
line_by_lines : (single : Bool) (n : ℕ) (t : Told) (held bytes : List ℕ) (whole : List (List ℕ)) (rest : List ℕ)
    → ((told : Told) → rest_of (reading single (n + 1) told []) bytes ≡ printed_by single (n + 1) told (record { whole = whole; rest = rest }))
    → (take_line (reading single n t held)).printed ++ rest_of (take_line (reading single n t held)).file bytes
    ≡ printed_by single n t (record { whole = held ∷ whole; rest = rest })
unfolding read_lines taken
line_by_lines single n t held bytes whole rest later = rw (line_step single n t held) (go (frame_verdict single n t (frame_of held)))
  where
    go : (v : Verdict) → (step_by (reading single n t held) (frame_of held) v).printed ++ rest_of (step_by (reading single n t held) (frame_of held) v).file bytes
        ≡ printed_of (then_on v (printed_for t held (frame_of held)) (read_lines single (n + 1) (told_with t (frame_of held)) whole rest))
    go (Err c) = refused_rest (reading single n t held) c bytes
    go (Ok _) =
        rw (later (told_with t (frame_of held)))
        (sym (append_assoc (printed_for t held (frame_of held)) _ _))

by_lines : (bytes : List ℕ) (single : Bool) (n : ℕ) (t : Told) (held : List ℕ) → length held ≤ most_digits
    → rest_of (reading single n t held) bytes ≡ printed_by single n t (began_with held (lines_of bytes).whole (lines_of bytes).rest)
unfolding take_byte lines_of read_lines
by_lines [] single n t held h = rest_none (reading single n t held) ∙ (end_step single n t held ∙ rw append-nil)
by_lines (b ∷ bytes) single n t held h =
    rest_byte (reading single n t held) b bytes
    ∙ by_bool (eqb b line_feed)
    (λ e. rw (e, append-nil held)
    (line_by_lines single n t held bytes (lines_of bytes).whole (lines_of bytes).rest
    (λ told. by_lines bytes single (n + 1) told [] (omega arith) ∙ ap (printed_by single (n + 1) told) (began_empty (lines_of bytes).whole (lines_of bytes).rest))))
    (λ e. rw (e, began_twice held b (lines_of bytes).whole (lines_of bytes).rest)
    (by_bool (ltb (length held) most_digits)
    (λ l. rw l (by_lines bytes single n t (held ++ (b ∷ [])) (omega (arith, ltb-true (length held) most_digits l, length-append held (b ∷ [])))))
    (λ l. rw l
    (broken_rest single n t held bytes
    ∙ sym (overlong single n t (held ++ (b ∷ [])) (lines_of bytes).whole (lines_of bytes).rest (omega (arith, ltb-false (length held) most_digits l, length-append held (b ∷ []))))))))

-- what a file prints byte by byte is what it prints by lines
pub file_by_lines : (single : Bool) (first : ℕ) (bytes : List ℕ) → answer_from single first bytes ≡ printed_of (outcome_of single first bytes)
unfolding outcome_of
file_by_lines single first bytes =
    sym (rest_whole single first bytes) ∙ (by_lines bytes single first nothing_told [] (omega arith) ∙ ap (printed_by single first nothing_told) (began_empty (lines_of bytes).whole (lines_of bytes).rest))
