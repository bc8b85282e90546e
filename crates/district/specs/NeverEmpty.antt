-- No answer is empty: every file prints at least the bytes of an undecided's line, whoever reads it. The argument: a file that goes
-- on and has no query answered still owes one, so a query's lines or a refusal's are still to come. Assumes nothing.
use Rattle.std.specs.Prelude.{◌≡◌, refl, Bool, true, false, ◌||◌, List, [], ◌∷◌, ◌++◌, ℕ, ◌≤◌, eqb, length}
use Rattle.std.proofs.Math.Bool.{or-true}
use Rattle.std.proofs.Common.{arith, length-append}
use Rattle.network.specs.Cap.{Cap}
use Rattle.network.specs.declared.Cause.{Cause}
use Rattle.network.specs.declared.Cause.TheVariants.{MisplacedLine}
use Rattle.network.specs.declared.Answer.{Answer}
use Rattle.network.specs.declared.Answer.TheVariants.{Route, NoRoute, Refused, Provisional, Undecided}
use Rattle.network.specs.CaseSplit.{cases, true≢false}
use Rattle.network.specs.Query.{Query}
use Rattle.nba.specs.Search.{state_at}
use Rattle.nba.specs.Result.{path_of, answer_under, turns_given}
use Rattle.frames.specs.AnswerLines.{answer_lines}
use Rattle.frames.specs.AnswerLaws.{length_refused, length_no_route, length_route, length_provisional, length_undecided}
use Rattle.district.specs.StepCases.{by_line, by_broken, by_byte}
use Rattle.district.specs.File.{File, FileStep, beginning, refused, taken, work_room, query_lines, holding, size_owed, arcs_owed, potentials_owed, owing, end_of_input, answer_from}
use Rattle.district.specs.FileLaws.{rest_of, rest_whole, rest_none, rest_byte}
use Rattle.district.specs.Reader.{fewest_bytes}

-- the shortest line is an undecided's
lines_least : (a : Answer) (p : List ℕ) → fewest_bytes ≤ length (answer_lines a p)
lines_least (Route l n f) p = omega (arith, length_route l n f p)
lines_least (NoRoute f) p = omega (arith, length_no_route f p)
lines_least (Refused c) p = omega (arith, length_refused c p)
lines_least (Provisional l x n f) p = omega (arith, length_provisional l x n f p)
lines_least (Undecided f) p = omega (arith, length_undecided f p)

query_least : (c : Cap) (q : Query) → fewest_bytes ≤ length (query_lines c q)
unfolding query_lines
query_least c q = lines_least (answer_under c q work_room) (path_of q (state_at q (turns_given c q)))

refused_least : (f : File) (c : Cause) → fewest_bytes ≤ length (refused f c).printed
unfolding refused
refused_least f c = lines_least (Refused c) []

-- what is printed first is printed
with_rest : (first rest : List ℕ) → fewest_bytes ≤ length first → fewest_bytes ≤ length (first ++ rest)
with_rest first rest h = simp length-append (omega arith)

-- at the end of input a file without a query owes one
end_least : (f : File) → f.going ≡ true → f.told.asked ≡ false → fewest_bytes ≤ length (end_of_input f)
unfolding end_of_input
end_least f goes none =
    let owed : owing f.told ≡ true = rw (none, or-true (size_owed f.told || arcs_owed f.told || potentials_owed f.told)) in
    cases (λ (l : List ℕ). fewest_bytes ≤ length l) f.going
    (λ _. cases (λ (l : List ℕ). fewest_bytes ≤ length l) (eqb (length f.held) 0)
    (λ _. cases (λ (l : List ℕ). fewest_bytes ≤ length l) (owing f.told) (λ _. refused_least f (MisplacedLine f.line)) (λ e. absurd (true≢false owed e)))
    (λ _. by_broken f (λ (s : FileStep). fewest_bytes ≤ length s.printed) (refused_least f)))
    (λ e. absurd (true≢false goes e))

rest_least : (f : File) (bytes : List ℕ) → f.going ≡ true → f.told.asked ≡ false → fewest_bytes ≤ length (rest_of f bytes)
unfolding taken
rest_least f [] goes none = rw rest_none (end_least f goes none)
rest_least f (b ∷ bytes) goes none =
    let refusal : (c : Cause) → fewest_bytes ≤ length ((refused f c).printed ++ rest_of (refused f c).file bytes) = λ c. with_rest (refused f c).printed (rest_of (refused f c).file bytes) (refused_least f c) in
    rw rest_byte
    (by_byte f b (λ (s : FileStep). fewest_bytes ≤ length (s.printed ++ rest_of s.file bytes))
    (λ _. by_line f (λ (s : FileStep). fewest_bytes ≤ length (s.printed ++ rest_of s.file bytes)) refusal
    (λ t e. rest_least (taken f t []).file bytes goes (rw e none))
    (λ t c q e o. with_rest (query_lines c q) (rest_of (taken f t (query_lines c q)).file bytes) (query_least c q)))
    (rest_least (holding f b) bytes goes none)
    (λ _. by_broken f (λ (s : FileStep). fewest_bytes ≤ length (s.printed ++ rest_of s.file bytes)) refusal)
    (rest_least f bytes goes none))

-- every file's answer has at least as many bytes as an undecided's line
pub answer_least : (single : Bool) (line : ℕ) (bytes : List ℕ) → fewest_bytes ≤ length (answer_from single line bytes)
answer_least single line bytes = rw (← rest_whole single line bytes) (rest_least (beginning single line) bytes refl refl)
