-- Laws of a file's answer: bytes may come in any pieces; a step prints no more than the lines of one answer, and the display's
-- file no more than those and a refusal's line. Assumes nothing.
use Rattle.std.specs.Prelude.{◌≡◌, refl, Bool, true, false, cond, ℕ, ◌+◌, ◌≤◌, length, take, Ok, Err, Some, List, [], ◌∷◌, ◌++◌}
use Rattle.std.proofs.Common.{ap, ◌∙◌, arith, length-append, length-take, ltb-true, append_assoc}
use Rattle.network.specs.Cap.{Cap}
use Rattle.network.specs.declared.Cause.{Cause}
use Rattle.network.specs.declared.Answer.{Answer}
use Rattle.network.specs.declared.Figures.{Figures}
use Rattle.network.specs.Verdict.{Verdict}
use Rattle.network.specs.CaseSplit.{by_bool}
use Rattle.network.specs.Network.{most_nodes}
use Rattle.network.specs.Query.{Query}
use Rattle.network.specs.Refusal.{query_verdict}
use Rattle.network.specs.Given.{Sound}
use Rattle.network.specs.SoundLaws.{accepted_sound}
use Rattle.nba.specs.State.{missing, present, State}
use Rattle.nba.specs.Search.{state_at}
use Rattle.nba.specs.Result.{path_of, figures_in, excess, refused_or, found_at, answer_to_at, turns_given}
use Rattle.nba.proofs.Why.Theorems.{path_fits_at}
use Rattle.frames.specs.AnswerLines.{answer_lines}
use Rattle.frames.specs.AnswerLaws.{length_refused, length_no_route, length_route, length_provisional, length_undecided}
use Rattle.nba.specs.Why.ReadLaws.{by_found}
use Rattle.district.specs.CappedLaws.{capped_lines}
use Rattle.district.specs.StepCases.{by_line, by_broken, by_byte, by_end}
use Rattle.district.specs.File.{Told, File, FileStep, step, beginning, refused, taken, work_room, query_lines, take_byte, end_of_input, feed, answer_from}
use Rattle.district.specs.Reader.{most_bytes, refusal_bytes}

-- ---- pieces
-- feeding two pieces is feeding the first and then the second
abbrev pub after : FileStep → (File → FileStep) → FileStep
after s f = step (f s.file).file (s.printed ++ (f s.file).printed)

pub feed_append : (f : File) (a b : List ℕ) → feed f (a ++ b) ≡ after (feed f a) (λ g. feed g b)
unfolding feed
feed_append f [] b = refl
feed_append f (x ∷ a) b = rw (feed_append (take_byte f x).file a b, append_assoc)

-- what a file prints from here on
unfoldable pub rest_of : File → List ℕ → List ℕ
rest_of f bytes = (feed f bytes).printed ++ end_of_input (feed f bytes).file

pub rest_whole : (single : Bool) (line : ℕ) (bytes : List ℕ) → rest_of (beginning single line) bytes ≡ answer_from single line bytes
unfolding rest_of answer_from
rest_whole single line bytes = refl

pub rest_none : (f : File) → rest_of f [] ≡ end_of_input f
unfolding rest_of feed
rest_none f = refl

pub rest_byte : (f : File) (b : ℕ) (bytes : List ℕ) → rest_of f (b ∷ bytes) ≡ (take_byte f b).printed ++ rest_of (take_byte f b).file bytes
unfolding rest_of feed
rest_byte f b bytes = append_assoc (take_byte f b).printed _ _

-- bytes that print nothing
pub rest_fed : (f g : File) (a b : List ℕ) → feed f a ≡ step g [] → rest_of f (a ++ b) ≡ rest_of g b
unfolding rest_of
rest_fed f g a b e = rw (feed_append f a b, e)

-- a file that a refusal has ended prints nothing more, whatever its bytes: they need not be looked at
pub rest_ended : (f : File) (bytes : List ℕ) → f.going ≡ false → rest_of f bytes ≡ []
unfolding take_byte end_of_input
rest_ended f [] ended = rest_none f ∙ rw ended
rest_ended f (b ∷ bytes) ended =
    let same : take_byte f b ≡ step f [] = rw ended in
    rest_byte f b bytes ∙ rw same (rest_ended f bytes ended)

-- ---- how much is printed
found_short : (q : Query) → Sound q → (cap : ℕ) → length (answer_lines (found_at q cap) (path_of q (state_at q cap))) ≤ most_bytes
found_short q sound cap =
    let st : State = state_at q cap in
    let path : List ℕ = path_of q st in
    let f : Figures = figures_in st.states in
    let nodes : length (take (length path) path) ≤ length path = rw length-take (omega arith) in
    let few : present st.best ≡ true → length path ≤ most_nodes = λ here. omega (arith, (path_fits_at sound cap (ltb-true st.best missing here)).few, sound.sized.few_nodes) in
    by_found q cap (λ (a : Answer). length (answer_lines a path) ≤ most_bytes)
    (λ t here. omega (arith, length_route st.best (length path) f path, nodes, few here))
    (λ t here. omega (arith, length_provisional st.best (excess q st) (length path) f path, nodes, few here))
    (λ t h. omega (arith, length_no_route f path))
    (λ t h. omega (arith, length_undecided f path))

capped_short : (q : Query) (cap : ℕ) → length (query_lines (Some cap) q) ≤ most_bytes
unfolding query_lines answer_to_at
capped_short q cap = go (query_verdict q work_room) refl
  where
    go : (v : Verdict) → query_verdict q work_room ≡ v → length (answer_lines (refused_or v (found_at q cap)) (path_of q (state_at q cap))) ≤ most_bytes
    go (Err c) e = omega (arith, length_refused c (path_of q (state_at q cap)))
    go (Ok _) e = found_short q (accepted_sound q work_room e) cap

-- no query's answer has more bytes than a route over 2,048 nodes
pub query_short : (c : Cap) (q : Query) → length (query_lines c q) ≤ most_bytes
query_short c q = rw (capped_lines c q) (capped_short q (turns_given c q))

-- the most that a file with one query still prints: the answer and a refusal, a refusal, or nothing
unfoldable pub at_most : File → ℕ
at_most f = cond f.going (cond f.told.asked refusal_bytes (most_bytes + refusal_bytes)) 0

-- a step of a file with one query prints out of what is left to it
pub record Spends (f : File) (s : FileStep) : Type 0 where
  pub still_single : s.file.single ≡ true
  pub out_of : length s.printed + at_most s.file ≤ at_most f

module _ (f : File) (one : f.single ≡ true) (goes : f.going ≡ true) where
  some_left : refusal_bytes ≤ at_most f
  unfolding at_most
  some_left = rw goes (by_bool f.told.asked (λ e. rw e (omega arith)) (λ e. rw e (omega arith)))

  refused_spends : (c : Cause) → Spends f (refused f c)
  unfolding refused at_most
  refused_spends c = record { still_single = one; out_of = omega (arith, length_refused c [], some_left) }

  told_spends : (t : Told) → t.asked ≡ f.told.asked → Spends f (taken f t [])
  unfolding taken at_most
  told_spends t e = record { still_single = one; out_of = rw e (omega arith) }

  query_spends : (t : Told) (c : Cap) (q : Query) → t.asked ≡ true → f.told.asked ≡ false → Spends f (taken f t (query_lines c q))
  unfolding taken at_most
  query_spends t c q e none = record { still_single = one; out_of = rw (e, none, goes) (omega (arith, query_short c q)) }

byte_spends : (f : File) (b : ℕ) → f.single ≡ true → Spends f (take_byte f b)
unfolding at_most
byte_spends f b one =
    by_byte f b (Spends f)
    (λ goes. by_line f (Spends f) (refused_spends f one goes) (told_spends f one goes) (λ t c q e none. query_spends f one goes t c q e (rw one at none)))
    (record { still_single = one; out_of = omega arith })
    (λ goes. by_broken f (Spends f) (refused_spends f one goes))
    (record { still_single = one; out_of = omega arith })

end_spends : (f : File) → f.single ≡ true → length (end_of_input f) ≤ at_most f
end_spends f one =
    by_end f (λ (l : List ℕ). length l ≤ at_most f) (omega arith) (λ goes c. omega (arith, (refused_spends f one goes c).out_of))

rest_spends : (f : File) (bytes : List ℕ) → f.single ≡ true → length (rest_of f bytes) ≤ at_most f
rest_spends f [] one = rw rest_none (end_spends f one)
rest_spends f (b ∷ bytes) one =
    let s : Spends f (take_byte f b) = byte_spends f b one in
    let n : length (rest_of f (b ∷ bytes)) ≡ length (take_byte f b).printed + length (rest_of (take_byte f b).file bytes) = ap length (rest_byte f b bytes) ∙ length-append (take_byte f b).printed _ in
    omega (arith, n, s.out_of, rest_spends (take_byte f b).file bytes s.still_single)

-- the display's answer has no more bytes than one answer's lines and a refusal's
pub display_short : (line : ℕ) (bytes : List ℕ) → length (rest_of (beginning true line) bytes) ≤ most_bytes + refusal_bytes
unfolding at_most
display_short line bytes = rest_spends (beginning true line) bytes refl
