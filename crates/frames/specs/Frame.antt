-- What an input line says (docs/RULES.md, "District frames"): a kind of two digits, then fields of fixed width, highest digit
-- first, in a line of upper-case digits and of exactly the length that its kind has. Any other line is no sound frame.
-- Definitions only; their laws are in FrameCases and FrameLaws. Assumes nothing.
use Rattle.std.specs.Prelude.{Bool, cond, true, false, List, [], map, ℕ, ◌+◌, eqb, length, drop, Option, None, Some}
use Rattle.network.specs.Cap.{Cap}
use Rattle.frames.specs.Digits.{value_of, are_digits, number_at}
use Rattle.frames.specs.Signed.{signed_of}
use Rattle.frames.specs.declared.Frame.{Frame}
use Rattle.frames.specs.declared.Frame.TheVariants.{Size, Arc, TwoWay, Potentials, Query}

-- a frame where a test holds, and no sound frame where it does not
abbrev pub sound_if : Bool → Option Frame → Option Frame
sound_if t f = cond t f None

-- 01 size: nodes 4, arcs 4
unfoldable pub size_of : List ℕ → Option Frame
size_of s = sound_if (eqb (length s) (2 + 4 + 4)) (Some (Size (number_at s 2 4) (number_at s 6 4)))

-- an arc, or a two-way link
abbrev pub arc_frame : Bool → ℕ → ℕ → ℕ → Frame
arc_frame true t h w = TwoWay t h w
arc_frame false t h w = Arc t h w

-- 02 arc: tail 4, head 4, weight 8; 05 two-way link: as 02
unfoldable pub arc_of : Bool → List ℕ → Option Frame
arc_of two-way s = sound_if (eqb (length s) (2 + 4 + 4 + 8)) (Some (arc_frame two-way (number_at s 2 4) (number_at s 6 4) (number_at s 10 8)))

-- 03 potentials: node 4, h 8, k 8, in two's complement
unfoldable pub potentials_of : List ℕ → Option Frame
potentials_of s =
    sound_if (eqb (length s) (2 + 4 + 8 + 8))
    (Some (Potentials (number_at s 2 4) (signed_of (number_at s 6 8)) (signed_of (number_at s 14 8))))

-- 04 query: start 4, end 4, pattern length 2, then one digit an entry
unfoldable pub query_of : List ℕ → Option Frame
query_of s =
    sound_if (eqb (length s) (2 + 4 + 4 + 2 + number_at s 10 2))
    (Some (Query (number_at s 2 4) (number_at s 6 4) None (number_at s 10 2)))

-- 07 capped query: start 4, end 4, cap 4, pattern length 2, then one digit an entry
unfoldable pub capped_of : List ℕ → Option Frame
capped_of s =
    sound_if (eqb (length s) (2 + 4 + 4 + 4 + 2 + number_at s 14 2))
    (Some (Query (number_at s 2 4) (number_at s 6 4) (Some (number_at s 10 4)) (number_at s 14 2)))

-- a query, with a cap or without
abbrev pub sought_of : Bool → List ℕ → Option Frame
sought_of true s = capped_of s
sought_of false s = query_of s

-- the most digits that an input frame has: a capped query whose pattern is as long as two digits can say
abbrev pub most_digits : ℕ
most_digits = 2 + 4 + 4 + 4 + 2 + 255

-- the frame of a kind
unfoldable pub of_kind : ℕ → List ℕ → Option Frame
of_kind kind s =
    cond (eqb kind 1) (size_of s)
    (cond (eqb kind 2) (arc_of false s)
    (cond (eqb kind 3) (potentials_of s)
    (cond (eqb kind 4) (query_of s)
    (cond (eqb kind 5) (arc_of true s)
    (sound_if (eqb kind 7) (capped_of s))))))

-- the frame that a line spells, the line taken without its line feed
unfoldable pub frame_of : List ℕ → Option Frame
frame_of s = sound_if (are_digits s) (of_kind (number_at s 0 2) s)

-- the digits that a query's line has before its entries: 4 more where it has a cap
abbrev pub digits_before : Cap → ℕ
digits_before None = 2 + 4 + 4 + 2
digits_before (Some cap) = 2 + 4 + 4 + 4 + 2

-- the values of the digits that a line has from a place on
unfoldable pub entries_from : ℕ → List ℕ → List ℕ
entries_from at s = map value_of (drop at s)

-- the entries of a query's line, and nothing where the line's frame is no query
abbrev pub entries_of : Option Frame → List ℕ → List ℕ
entries_of (Some (Query a b c n)) s = entries_from (digits_before c) s
entries_of (Some (Size n m)) s = []
entries_of (Some (Arc t h w)) s = []
entries_of (Some (TwoWay t h w)) s = []
entries_of (Some (Potentials n h k)) s = []
entries_of None s = []

-- the pattern that a line spells: one entry a digit
unfoldable pub pattern_of : List ℕ → List ℕ
pattern_of s = entries_of (frame_of s) s
