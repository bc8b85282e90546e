-- A step prints no more than the lines of one answer, and so does the end of input: a room of that many bytes always suffices.
-- Assumes nothing.
use Rattle.std.proofs.Common.{arith}
use Rattle.std.specs.Prelude.{List, [], ℕ, ◌≤◌, length}
use Rattle.network.specs.declared.Cause.{Cause}
use Rattle.frames.specs.AnswerLaws.{length_refused}
use Rattle.district.specs.File.{File, FileStep, refused, taken, take_byte, end_of_input}
use Rattle.district.specs.Reader.{most_bytes}
use Rattle.district.specs.FileLaws.{query_short}
use Rattle.district.specs.StepCases.{by_line, by_broken, by_byte, by_end}

-- a step prints at most one answer's lines
pub record Short (s : FileStep) : Type 0 where
  pub bytes : length s.printed ≤ most_bytes

module _ (f : File) where
  refused_short : (c : Cause) → Short (refused f c)
  unfolding refused
  refused_short c = record { bytes = omega (arith, length_refused c []) }

  pub printed_fits : (b : ℕ) → Short (take_byte f b)
  unfolding taken
  printed_fits b =
      by_byte f b Short
      (λ _. by_line f Short refused_short (λ t e. record { bytes = omega arith }) (λ t c q e none. record { bytes = query_short c q }))
      (record { bytes = omega arith })
      (λ _. by_broken f Short refused_short)
      (record { bytes = omega arith })

  pub end_fits : length (end_of_input f) ≤ most_bytes
  end_fits = by_end f (λ (l : List ℕ). length l ≤ most_bytes) (omega arith) (λ _ c. (refused_short c).bytes)
