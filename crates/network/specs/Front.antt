-- Entries at the front of a list: a caller may lend a list that is longer than what is kept in it. Assumes nothing.
use Rattle.std.specs.Prelude.{Bool, true, false, ◌&&◌, List, [], ◌∷◌, ◌++◌, ℕ, eqb, length, drop}

-- entries from a list's first entry on; the entries beyond them keep their old values
unfoldable pub at_front : List ℕ → List ℕ → List ℕ
at_front entries old = entries ++ drop (length entries) old

-- the list begins with these entries
unfoldable pub begins_with : List ℕ → List ℕ → Bool
begins_with [] l = true
begins_with (x ∷ wanted) [] = false
begins_with (x ∷ wanted) (y ∷ l) = eqb x y && begins_with wanted l
