-- The fields of a line: how many digits each has, and its number. Definitions only. Assumes nothing.
use Rattle.std.specs.Prelude.{List, map, ℕ}
use Rattle.frames.specs.AnswerLines.{line_of}
use Rattle.answers.specs.declared.Field.{Field}
use Rattle.answers.specs.declared.Field.TheVariants.{Two, Four, Eight}

-- how many digits a field has
abbrev pub width_of : Field → ℕ
width_of (Two n) = 2
width_of (Four n) = 4
width_of (Eight n) = 8

-- the number of a field
abbrev pub number_held : Field → ℕ
number_held (Two n) = n
number_held (Four n) = n
number_held (Eight n) = n

-- a field is written as itself
abbrev pub itself : Field → Field
itself f = f

-- a node is written as a field of four digits
abbrev pub four_digits : ℕ → Field
four_digits n = Four n

-- the line of a list of items, each written as the field that `spells` says
abbrev pub line_by : {X : Type 0} → (X → Field) → List X → List ℕ
line_by spells items = line_of (map (λ x. width_of (spells x)) items) (map (λ x. number_held (spells x)) items)

-- the line of a list of fields
abbrev pub line_with : List Field → List ℕ
line_with fields = line_by itself fields
