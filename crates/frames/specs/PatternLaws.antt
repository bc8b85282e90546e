-- The entries of a query's pattern: one more is read, how many there are, and that they are the line's last digits.
-- Assumes nothing.
use Rattle.std.specs.Prelude.{◌≡◌, List, [], ◌∷◌, ℕ, suc, Option, Some, ◌+◌, ◌-◌, ◌<◌, ◌≤◌, get_or}
use Rattle.std.proofs.Common.{arith, length-drop, drop_of_length-le, drop-cons}
use Rattle.std.proofs.Math.ListN.{length}
use Rattle.std.proofs.lemmas.List.{length-map}
use Rattle.network.specs.Cap.{Cap}
use Rattle.frames.specs.Digits.{value_of}
use Rattle.frames.specs.FieldLaws.{number_below}
use Rattle.frames.specs.Frame.{frame_of, digits_before, entries_from, entries_of, pattern_of}
use Rattle.frames.specs.FrameCases.{frame_cases, query_length}
use Rattle.frames.specs.declared.Frame.{Frame}
use Rattle.frames.specs.declared.Frame.TheVariants.{Query}

-- the entries that are left of those from a place on
pub entries_more : (at : ℕ) (s : List ℕ) (i : ℕ) → at + i < length s → entries_from (at + i) s ≡ value_of (get_or s (at + i) 0) ∷ entries_from (at + (i + 1)) s
unfolding entries_from
entries_more at s i h =
    let next : at + (i + 1) ≡ suc (at + i) = omega arith in
    rw (next, drop-cons s (at + i) 0)

pub entries_all_read : (at : ℕ) (s : List ℕ) → length s ≤ at → entries_from at s ≡ []
unfolding entries_from
entries_all_read at s h = rw (drop_of_length-le s h)

-- how many entries a line has from a place on
pub length_entries : (at : ℕ) (s : List ℕ) → length (entries_from at s) ≡ length s - at
unfolding entries_from
length_entries at s = simp (length-map, length-drop)

-- the pattern of a query's line: its last digits, as many as its length says
module _ (s : List ℕ) {a b n : ℕ} {cap : Cap} (e : frame_of s ≡ Some (Query a b cap n)) where
  pub query_pattern : entries_from (length s - n) s ≡ pattern_of s
  unfolding pattern_of
  query_pattern =
      let at : length s - n ≡ digits_before cap = omega (arith, query_length s e) in
      rw (e, at)

  pub length_pattern : length (entries_from (length s - n) s) ≡ n
  length_pattern = omega (arith, length_entries (length s - n) s, query_length s e)

-- a line's pattern has at most as many entries as two digits can say
pub pattern_short : (s : List ℕ) → length (pattern_of s) ≤ 255
unfolding pattern_of
pattern_short s =
    frame_cases s (λ (f : Option Frame). length (entries_of f s) ≤ 255)
    (omega arith)
    (λ d k l. omega arith)
    (λ d k l. omega arith)
    (λ d k l. omega arith)
    (λ d k l. omega arith)
    (λ d k l. omega (arith, length_entries 12 s, number_below s 10 2 d (omega arith)))
    (λ d k l. omega (arith, length_entries 16 s, number_below s 14 2 d (omega arith)))
