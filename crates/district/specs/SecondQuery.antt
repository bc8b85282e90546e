-- The second query line of a file (docs/RULES.md, "The display": it hands over a file with exactly one query, and a second
-- query line is 11): which line that is, and the bytes of the file before it. Definitions only; SecondQueryLaws says what the
-- display is answered. Assumes nothing.
use Rattle.std.specs.Prelude.{◌≡◌, Bool, true, false, cond, List, [], ◌∷◌, ℕ, zero, suc, ◌<◌, eqb, Option, None, Some}
use Rattle.frames.specs.declared.Frame.{Frame}
use Rattle.frames.specs.declared.Frame.TheVariants.{Size, Arc, TwoWay, Potentials, Query as QueryFrame}
use Rattle.frames.specs.AnswerLines.{line_feed}
use Rattle.district.specs.FileGiven.{line_count, frame_after, told_after, TakenAfter, ComesTo}

-- the frame is a sound query, 04 or 07
abbrev pub is_query : Option Frame → Bool
is_query (Some (QueryFrame s e c n)) = true
is_query (Some (Size n m)) = false
is_query (Some (Arc a b w)) = false
is_query (Some (TwoWay a b w)) = false
is_query (Some (Potentials v h k)) = false
is_query None = false

-- the line after i line feeds asks again: it is a sound query, and one of the lines before it was taken as a query
pub record AsksAgain (bytes : List ℕ) (i : ℕ) : Type 0 where
  pub there : i < line_count bytes
  pub query : is_query (frame_after bytes i) ≡ true
  pub asked : (told_after bytes i).asked ≡ true

-- line n is the second query line: `routeline` comes to it, taking every line before it, and it is the lowest that asks again
pub record SecondQueryAt (bytes : List ℕ) (n : ℕ) : Type 0 where
  pub comes : ComesTo false 1 bytes n
  pub again : AsksAgain bytes comes.before
  pub lowest : (j : ℕ) → j < comes.before → AsksAgain bytes j → ⊥

-- a file refusal comes before the line after i line feeds: one of the lines before it is not taken
pub record RefusedBefore (bytes : List ℕ) (i : ℕ) : Type 0 where
  pub line : ℕ
  pub before : line < i
  pub not_taken : TakenAfter false 1 bytes line → ⊥

-- the first lines of a file, so many of them, each with its line feed
unfoldable pub first_lines : ℕ → List ℕ → List ℕ
first_lines zero bytes = []
first_lines (suc i) [] = []
first_lines (suc i) (b ∷ bytes) = b ∷ cond (eqb b line_feed) (first_lines i bytes) (first_lines (suc i) bytes)
