-- How many turns a query gives its search: at most so many, or, with none, as many as the search needs. Assumes nothing.
use Rattle.std.specs.Prelude.{Option, ℕ}

abbrev pub Cap : Type 0
Cap = Option ℕ
