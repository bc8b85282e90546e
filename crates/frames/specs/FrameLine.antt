-- The line that spells a frame: the writer's side of the table of input kinds (docs/RULES.md, "District frames"). No contract
-- cites it; the laws use it to say that nothing is lost between a frame and its line. Definitions only. Assumes nothing.
use Rattle.std.specs.Prelude.{◌≡◌, List, [], ◌∷◌, ◌++◌, map, ℕ, ◌<◌, length, get_or, None, Some}
use Rattle.std.specs.Int.Signed.{mag}
use Rattle.frames.specs.Digits.{digit_of, spelled}
use Rattle.frames.specs.Signed.{bits_of}
use Rattle.frames.specs.declared.Frame.{Frame}
use Rattle.frames.specs.declared.Frame.TheVariants.{Size, Arc, TwoWay, Potentials, Query}

-- the widths of a frame's fields, its kind's first
abbrev pub frame_widths : Frame → List ℕ
frame_widths (Size n m) = 2 ∷ 4 ∷ 4 ∷ []
frame_widths (Arc t h w) = 2 ∷ 4 ∷ 4 ∷ 8 ∷ []
frame_widths (TwoWay t h w) = 2 ∷ 4 ∷ 4 ∷ 8 ∷ []
frame_widths (Potentials n h k) = 2 ∷ 4 ∷ 8 ∷ 8 ∷ []
frame_widths (Query a b None n) = 2 ∷ 4 ∷ 4 ∷ 2 ∷ []
frame_widths (Query a b (Some c) n) = 2 ∷ 4 ∷ 4 ∷ 4 ∷ 2 ∷ []

-- the values of a frame's fields, its kind first
abbrev pub frame_values : Frame → List ℕ
frame_values (Size n m) = 1 ∷ n ∷ m ∷ []
frame_values (Arc t h w) = 2 ∷ t ∷ h ∷ w ∷ []
frame_values (TwoWay t h w) = 5 ∷ t ∷ h ∷ w ∷ []
frame_values (Potentials n h k) = 3 ∷ n ∷ bits_of h ∷ bits_of k ∷ []
frame_values (Query a b None n) = 4 ∷ a ∷ b ∷ n ∷ []
frame_values (Query a b (Some c) n) = 7 ∷ a ∷ b ∷ c ∷ n ∷ []

-- the line of a frame and its pattern: the fields, then one digit an entry
unfoldable pub frame_line : Frame → List ℕ → List ℕ
frame_line f pattern = spelled (frame_widths f) (frame_values f) ++ map digit_of pattern

-- every entry of a list is below m
pub record Below (m : ℕ) (l : List ℕ) : Type 0 where
  pub law : (i : ℕ) → i < length l → get_or l i 0 < m

-- a frame and its pattern are such as a line can spell: each field is in the range of its type, and only a query has
-- entries, as many as it says and each below 16
abbrev pub Spellable : Frame → List ℕ → Type 0
Spellable (Size n m) p = (n < 65536) × (m < 65536) × (p ≡ [])
Spellable (Arc t h w) p = (t < 65536) × (h < 65536) × (w < 4294967296) × (p ≡ [])
Spellable (TwoWay t h w) p = (t < 65536) × (h < 65536) × (w < 4294967296) × (p ≡ [])
Spellable (Potentials n h k) p = (n < 65536) × (mag h < 2147483648) × (mag k < 2147483648) × (p ≡ [])
Spellable (Query a b None n) p = (a < 65536) × (b < 65536) × (n < 256) × (length p ≡ n) × Below 16 p
Spellable (Query a b (Some c) n) p = (a < 65536) × (b < 65536) × (c < 65536) × (n < 256) × (length p ≡ n) × Below 16 p
