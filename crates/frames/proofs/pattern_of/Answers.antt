-- `frames::pattern_of` meets its contract: only a query has entries, and its line ends with one digit for each. Assumes nothing.
use Rattle.std.proofs.Common.{◌≡◌, refl, sym, ap, List, [], ℕ, ◌-◌, length, map, take, drop, le_refl, length-drop, take_all, arith, ◌∙◌}
use Rattle.std.specs.Prelude.{Some}
use Rattle.frames.specs.Digits.{value_of, value_table}
use Rattle.frames.specs.Frame.{frame_of, entries_from, entries_of, pattern_of}
use Rattle.frames.specs.FrameCases.{query_length}
use Rattle.frames.specs.Room.{laid}
use Rattle.frames.specs.RoomLaws.{length_rest, laid_placed, too_little_room, nothing_placed}
use Rattle.frames.specs.PatternLaws.{query_pattern, length_pattern}
use Rattle.frames.specs.declared.Frame.{Frame}
use Rattle.frames.specs.declared.Frame.TheVariants.{Size, Arc, TwoWay, Potentials, Query}
use Rattle.network.specs.Cap.{Cap}
use Rattle.frames.proofs.pattern_of.Goals as goal
use Rattle.frames.proofs.pattern_of.Goals.{In-Query}

-- a frame that is no query has no entries
no_entries : (f : Frame) (s : List ℕ) → ((a b : ℕ) (c : Cap) (n : ℕ) → f ≡ Query a b c n → ⊥) → entries_of (Some f) s ≡ []
no_entries (Query a b c n) s h = absurd (h a b c n refl)
no_entries (Size n m) s h = refl
no_entries (Arc t a w) s h = refl
no_entries (TwoWay t a w) s h = refl
no_entries (Potentials n a k) s h = refl

-- the line is a query's
is_query : (c : In-Query) → frame_of c.args.line.now ≡ Some (Query c.in-Query.start c.in-Query.end c.in-Query.cap c.in-Query.count)
is_query c = sym c.requires ∙ c.in-Some.is ∙ ap Some c.in-Query.is

-- bytes of a line that are read from a place to another: those of its pattern, if they are the line's last
the_last : (s old : List ℕ) {from to at : ℕ} {new : List ℕ} → new ≡ laid (map value_of (take (to - from) (drop from s))) old → from ≡ at → to ≡ length s
    → new ≡ laid (map value_of (drop at s)) old
the_last s old {from} {to} {at} read first last =
    let all : take (length s - at) (drop at s) ≡ drop at s = take_all (length s - at) (drop at s) (rw length-drop (le_refl _)) in
    rw (first, last, all) at read

pub returns-in_default : goal.returns-in_default
unfolding pattern_of
returns-in_default c = rw (sym c.requires ∙ c.in_default.is) (nothing_placed c.args.entries.now)

pub returns-in_default-sound : goal.returns-in_default-sound
unfolding pattern_of
returns-in_default-sound c =
    rw (sym c.requires ∙ c.in-Some.is, no_entries c.in-Some.sound c.args.line.now c.in_default-sound.not-Query) (nothing_placed c.args.entries.now)

pub returns-then-entries-n : goal.returns-then-entries-n
returns-then-entries-n c =
    let e = is_query (goal.at.returns-then-entries-n c).In-Query in
    rw (← query_pattern c.args.line.now e)
    (too_little_room _ c.args.entries.now (omega (arith, length_pattern c.args.line.now e)))

pub overflow_sub-line : goal.overflow_sub-line
overflow_sub-line c =
    let e = is_query (goal.at.overflow_sub-line c).In-Query in omega (arith, query_length c.args.line.now e)

pub write_entries-requires : goal.write_entries-requires
unfolding value_table value_of
write_entries-requires c =
    let s = c.args.line.now in
    let e = is_query (goal.at.write_entries-requires c).In-Query in
    (refl, omega (arith, c.from-n.ensures, length_rest s (length s - c.from-n.result), query_length s e))

pub returns : goal.returns
unfolding entries_from
returns c =
    let s = c.args.line.now in
    let count : c.from-n.result ≡ c.in-Query.count = c.from-n.ensures in
    let at = length s - c.in-Query.count in
    let e = is_query (goal.at.returns c).In-Query in
    let n = length_pattern s e in
    let inside = query_length s e in
    let room = the_last s c.args.entries.now {at = at} c.write_entries.ensures (omega (arith, count)) (omega (arith, count, inside)) in
    rw (← query_pattern s e)
    (laid_placed _ c.args.entries.now _ _ (omega (arith, n)) (record { count_is = count ∙ sym n; room_is = room }))
