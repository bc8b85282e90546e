-- Laws of readers and steps: how a reader begins, what a step that changes no list has to show, and what a reader's counts say
-- of the file that it stands for. Assumes nothing.
use Rattle.std.proofs.lemmas.Bool.{eqb-true, ltb-true, eq-eqb, ne_eqb, lt-ltb, le-ltb}
use Rattle.std.specs.Prelude.{◌≡◌, refl, Bool, true, false, ◌&&◌, List, [], ℕ, zero, suc, ◌≤◌, ◌<◌, eqb, ltb, ℤ, length, take, Ok, Option, None}
use Rattle.std.proofs.Math.Path.{sym}
use Rattle.std.proofs.Common.{subst, ◌∙◌, arith}
use Rattle.std.proofs.Math.Seq.{length-take-le}
use Rattle.network.specs.declared.Cause.TheVariants.{MisplacedLine}
use Rattle.network.specs.CaseSplit.{cases, by_lt, both_true, true≢false}
use Rattle.network.specs.Refusal.{network_verdict}
use Rattle.index.specs.Index.{Index}
use Rattle.frames.specs.declared.Frame.{Frame}
use Rattle.frames.specs.Frame.{most_digits, frame_of}
use Rattle.frames.specs.AnswerLines.{line_feed}
use Rattle.frames.specs.RoomLaws.{nothing_placed}
use Rattle.district.specs.declared.Reader.{Reader}
use Rattle.district.specs.declared.Taken.{Taken}
use Rattle.district.specs.declared.FileLists.{FileLists}
use Rattle.district.specs.File.{File, FileStep, step, beginning, last_line, refused, wrong, size_owed, arcs_owed, potentials_owed, take_size, take_arcs, take_potentials, take_query, take_frame, take_line, broken_line, holding, take_byte, owing, end_of_input}
use Rattle.district.specs.Reader.{Lists, lists, told_by, file_of, Counted, RoomyIndex, Roomy, Kept, Beyond, Stepped, start_reader, network_read, own_verdict, index_kept}
use Rattle.district.specs.Lists.{lists_beside}
use Rattle.district.specs.Inner.{SteppedOver, SteppedLine, SteppedArcs, NotLast, AllRead, ends_line, owes_by, SteppedPotentials, PotentialsOpen}

-- ---- the beginning
pub start_file : (single : Bool) (line : ℕ) (l : Lists) → file_of (start_reader single line) l ≡ beginning single line
unfolding file_of told_by start_reader
start_file single line l = refl

pub start_counted : (single : Bool) (line : ℕ) → Counted (start_reader single line)
unfolding start_reader
start_counted single line =
    record {
      arcs_within = omega arith;
      few_arcs = omega arith;
      nodes_within = omega arith;
      few_nodes = omega arith;
      size_first = λ h. refl;
      arcs_first = λ h. refl;
      held_within_lem = omega arith;
    }

pub start_kept : (single : Bool) (line : ℕ) (l : Lists) → Roomy l → Kept (start_reader single line) l
unfolding start_reader own_verdict index_kept told_by
start_kept single line l h = record { counted = start_counted single line; roomy = h; judged = refl; indexed = refl }

-- ---- the network's own verdict
pub positive : (n : ℕ) → (n ≡ 0 → ⊥) → 0 < n
positive zero h = absurd (h refl)
positive (suc n) h = omega arith

module _ (r : Reader) (tails heads weights : List ℕ) (forward backward : List ℤ) where
  -- nothing speaks against it while the 01 or a potential is owed
  pub without_size : r.nodes ≡ 0 → own_verdict r tails heads weights forward backward ≡ Ok tt
  unfolding own_verdict
  without_size none = rw (eq-eqb _ _ none)

  pub without_potentials : r.nodes_read < r.nodes → own_verdict r tails heads weights forward backward ≡ Ok tt
  unfolding own_verdict
  without_potentials owed = rw (ne_eqb r.nodes 0 (λ e. omega arith), lt-ltb _ _ owed)

  -- with the last potentials it is what the table says of the network
  pub with_all : AllRead r → own_verdict r tails heads weights forward backward
      ≡ network_verdict (network_read r tails heads weights) (take r.nodes_read forward) (take r.nodes_read backward)
  unfolding own_verdict
  with_all all = rw (ne_eqb r.nodes 0 (λ e. omega (arith, all.some)), le-ltb _ _ all.each)

-- ---- steps that change no list
pub beyond_same : (r : Reader) (l : Lists) → Beyond r l l
beyond_same r l = record { line = refl; tails = refl; heads = refl; weights = refl; forward = refl; backward = refl }

-- what is promised of a step is promised of one that is equal to it
pub stepped_as : {s s' : FileStep} {t : Taken} {l after : Lists} {room room' : List ℕ} → s ≡ s' → Stepped s t l after room room' → Stepped s' t l after room room'
stepped_as {s} {s'} {t} {l} {after} {room} {room'} e h = subst (λ (x : FileStep). Stepped x t l after room room') e h

pub over_as : {s s' : File → FileStep} {r : Reader} {t : Taken} {room room' : List ℕ} → ((l : Lists) → Kept r l → s (file_of r l) ≡ s' (file_of r l))
    → SteppedOver s r t room room' → SteppedOver s' r t room room'
over_as e h = record { law = λ l k. stepped_as (e l k) (h.law l k) }

pub over_line : {s : File → FileStep} {r : Reader} {t : Taken} {room room' : List ℕ} (line : List ℕ) → SteppedOver s r t room room'
    → SteppedLine s r t line line room room'
over_line line h = record { law = λ tails heads weights ix f b k. h.law (lists line tails heads weights ix f b) k }

pub over_arcs : {s : File → FileStep} {r : Reader} {t : Taken} {room room' : List ℕ} (l : FileLists) → SteppedOver s r t room room'
    → SteppedArcs s r t l l room room'
over_arcs l h = record { law = λ ix k. h.law (lists_beside l ix) k }

pub over_potentials : {s : File → FileStep} {r : Reader} {t : Taken} {room room' : List ℕ} (tails heads weights : List ℕ) (ix : Index) (f b : List ℤ) → SteppedOver s r t room room'
    → SteppedPotentials s r t tails heads weights ix ix f b f b room room'
over_potentials tails heads weights ix f b h = record { law = λ line k. h.law (lists line tails heads weights ix f b) k }

-- ---- counts
module _ (r : Reader) (l : Lists) (k : Kept r l) where
  pub count_tails : length (told_by r l).tails ≡ r.arcs_read
  unfolding told_by
  count_tails = length-take-le _ _ (omega arith)

  pub count_forward : length (told_by r l).forward ≡ r.nodes_read
  unfolding told_by
  count_forward = length-take-le _ _ (omega arith)

  pub count_held : length (file_of r l).held ≡ r.held
  unfolding file_of
  count_held = length-take-le _ _ (omega arith)

  -- a frame is owed by the file exactly where it is by the reader's counts
  pub owing_by : owing (told_by r l) ≡ owes_by r
  unfolding owes_by told_by
  owing_by = rw (count_tails, count_forward)

-- ---- which step is taken
-- where potentials are owed, they can be taken
pub potentials_open : (r : Reader) (l : Lists) → Kept r l → NotLast r → r.arcs ≤ r.arcs_read → r.nodes_read < r.nodes
    → PotentialsOpen r l.tails l.heads l.weights l.index l.forward l.backward
potentials_open r l k not_last all owed =
    let c : Counted r = k.counted in
    let y : Roomy l = k.roomy in
    record {
      not_last = not_last;
      arcs_read_lem = all;
      owed = owed;
      few = c.few_nodes;
      few_arcs = omega arith;
      in_tails = omega arith;
      in_heads = omega arith;
      in_weights = omega arith;
      for_index = y.for_index;
      for_forward = y.for_forward;
      for_backward = y.for_backward;
    }

-- a line that spells no sound frame is refused, whatever is owed
pub unsound_frame : (f : File) → wrong f None ≡ take_frame f None
unfolding take_frame take_size take_arcs take_potentials take_query
unsound_frame f =
    cases (λ x. wrong f None ≡ x) (size_owed f.told) (λ _. refl)
    (λ _. cases (λ x. wrong f None ≡ x) (arcs_owed f.told) (λ _. refl) (λ _. cases (λ x. wrong f None ≡ x) (potentials_owed f.told) (λ _. refl) (λ _. refl)))

module _ (r : Reader) (l : Lists) (k : Kept r l) (g : Option Frame) where
  pub where_size_owed : r.nodes ≡ 0 → take_size (file_of r l) g ≡ take_frame (file_of r l) g
  unfolding take_frame file_of told_by
  where_size_owed none = rw (eq-eqb _ _ none)

  pub where_arcs_owed : (r.nodes ≡ 0 → ⊥) → r.arcs_read < r.arcs → take_arcs (file_of r l) g ≡ take_frame (file_of r l) g
  unfolding take_frame file_of told_by
  where_arcs_owed some owed = rw (ne_eqb _ _ some, count_tails r l k, lt-ltb _ _ owed)

  pub where_potentials_owed : (r.nodes ≡ 0 → ⊥) → r.arcs ≤ r.arcs_read → r.nodes_read < r.nodes → take_potentials (file_of r l) g ≡ take_frame (file_of r l) g
  unfolding take_frame file_of told_by
  where_potentials_owed some all owed = rw (ne_eqb _ _ some, count_tails r l k, le-ltb _ _ all, count_forward r l k, lt-ltb _ _ owed)

  pub where_none_owed : (r.nodes ≡ 0 → ⊥) → r.arcs ≤ r.arcs_read → r.nodes ≤ r.nodes_read → take_query (file_of r l) g ≡ take_frame (file_of r l) g
  unfolding take_frame file_of told_by
  where_none_owed some all each = rw (ne_eqb _ _ some, count_tails r l k, le-ltb _ _ all, count_forward r l k, le-ltb _ _ each)

-- when a byte ends a line whose frame is taken
pub record LineEnds (r : Reader) (b : ℕ) : Type 0 where
  pub goes : r.going ≡ true
  pub feed : b ≡ line_feed
  pub not_last : NotLast r

pub line_ends : (r : Reader) (b : ℕ) → ends_line r b ≡ true → LineEnds r b
unfolding ends_line
line_ends r b ends =
    both_true (r.going && eqb b line_feed) (ltb r.line last_line) ends
    (λ a m. both_true r.going (eqb b line_feed) a (λ g f. record { goes = g; feed = eqb-true b line_feed f; not_last = ltb-true _ _ m }))

module _ (r : Reader) (l : Lists) where
  -- what a byte is: nothing once the file has ended, the end of a line, the end of the last line, one more of the line, or one
  -- too many
  pub ended_byte : (b : ℕ) → r.going ≡ false → step (file_of r l) [] ≡ take_byte (file_of r l) b
  unfolding take_byte file_of
  ended_byte b e = rw e

  pub line_byte : (b : ℕ) {g : Option Frame} → ends_line r b ≡ true → g ≡ frame_of (take r.held l.line) → take_frame (file_of r l) g ≡ take_byte (file_of r l) b
  unfolding take_byte take_line file_of
  line_byte b ends e =
      let m = line_ends r b ends in
      rw (e, m.goes, eq-eqb _ _ m.feed, ne_eqb r.line last_line (λ h. omega (arith, m.not_last)))

  pub last_line_byte : (b : ℕ) → r.going ≡ true → b ≡ line_feed → ends_line r b ≡ false → r.line ≤ last_line → refused (file_of r l) (MisplacedLine last_line) ≡ take_byte (file_of r l) b
  unfolding take_byte take_line file_of ends_line
  last_line_byte b e h ends most =
      let last : r.line ≡ last_line = by_lt r.line last_line (λ short. absurd (true≢false (rw (e, eq-eqb _ _ h, lt-ltb _ _ short)) ends)) (λ long. omega arith) in
      rw (e, eq-eqb _ _ h, eq-eqb _ _ last)

  pub held_byte : (b : ℕ) → Kept r l → r.going ≡ true → (b ≡ line_feed → ⊥) → r.held < most_digits → step (holding (file_of r l) b) [] ≡ take_byte (file_of r l) b
  unfolding take_byte file_of
  held_byte b k e h short = rw (ne_eqb _ _ h, count_held r l k, lt-ltb _ _ short) (rw e)

  pub byte_too_many : (b : ℕ) → Kept r l → r.going ≡ true → (b ≡ line_feed → ⊥) → most_digits ≤ r.held → broken_line (file_of r l) ≡ take_byte (file_of r l) b
  unfolding take_byte file_of
  byte_too_many b k e h long = rw (ne_eqb _ _ h, count_held r l k, le-ltb _ _ long) (rw e)

  -- nothing is done
  pub stepped_nothing : (room : List ℕ) → Kept r l → Stepped (step (file_of r l) []) (record { reader = r; written = 0 }) l l room room
  unfolding file_of
  stepped_nothing room k =
      record { file_is = refl; beyond = beyond_same r l; index_is = sym k.indexed; room_is = nothing_placed room; kept = k }

  -- the end of input, in its four cases
  pub end_of_ended : r.going ≡ false → [] ≡ end_of_input (file_of r l)
  unfolding end_of_input file_of
  end_of_ended e = rw e

  pub end_in_line : Kept r l → r.going ≡ true → (r.held ≡ 0 → ⊥) → (broken_line (file_of r l)).printed ≡ end_of_input (file_of r l)
  unfolding end_of_input file_of
  end_in_line k e h = rw (count_held r l k, ne_eqb _ _ h) (rw e)

  pub end_owing : Kept r l → r.going ≡ true → r.held ≡ 0 → owes_by r ≡ true → (refused (file_of r l) (MisplacedLine r.line)).printed ≡ end_of_input (file_of r l)
  unfolding end_of_input file_of
  end_owing k e h owes = rw (count_held r l k, eq-eqb _ _ h, owing_by r l k, owes) (rw e)

  pub end_of_whole : Kept r l → r.going ≡ true → r.held ≡ 0 → owes_by r ≡ false → [] ≡ end_of_input (file_of r l)
  unfolding end_of_input file_of
  end_of_whole k e h owes = rw (count_held r l k, eq-eqb _ _ h, owing_by r l k, owes) (rw e)

-- ---- lengths
-- the lists of an index that are as long as they were
pub record AsLongIndex (ix after : Index) : Type 0 where
  pub out_arcs : length after.out.arcs ≡ length ix.out.arcs
  pub out_begins : length after.out.begins ≡ length ix.out.begins
  pub in_arcs : length after.into.arcs ≡ length ix.into.arcs
  pub in_begins : length after.into.begins ≡ length ix.into.begins

-- which then have as much room
pub as_roomy : {ix after : Index} → RoomyIndex ix → AsLongIndex ix after → RoomyIndex after
as_roomy y e =
    record {
      for_out_arcs = omega (arith, e.out_arcs, y.for_out_arcs);
      for_out_begins = omega (arith, e.out_begins, y.for_out_begins);
      for_in_arcs = omega (arith, e.in_arcs, y.for_in_arcs);
      for_in_begins = omega (arith, e.in_begins, y.for_in_begins);
    }

-- lists that are as long as they were, which steps one after the other keep
pub record AsLong (l after : Lists) : Type 0 where
  pub line : length after.line ≡ length l.line
  pub tails : length after.tails ≡ length l.tails
  pub heads : length after.heads ≡ length l.heads
  pub weights : length after.weights ≡ length l.weights
  pub index : AsLongIndex l.index after.index
  pub forward : length after.forward ≡ length l.forward
  pub backward : length after.backward ≡ length l.backward

pub as_long_same : (l : Lists) → AsLong l l
as_long_same l =
    record {
      line = refl;
      tails = refl;
      heads = refl;
      weights = refl;
      index = record { out_arcs = refl; out_begins = refl; in_arcs = refl; in_begins = refl };
      forward = refl;
      backward = refl;
    }

pub as_long_then : {l m n : Lists} → AsLong l m → AsLong m n → AsLong l n
as_long_then a b =
    record {
      line = b.line ∙ a.line;
      tails = b.tails ∙ a.tails;
      heads = b.heads ∙ a.heads;
      weights = b.weights ∙ a.weights;
      index =
          record {
            out_arcs = b.index.out_arcs ∙ a.index.out_arcs;
            out_begins = b.index.out_begins ∙ a.index.out_begins;
            in_arcs = b.index.in_arcs ∙ a.index.in_arcs;
            in_begins = b.index.in_begins ∙ a.index.in_begins;
          };
      forward = b.forward ∙ a.forward;
      backward = b.backward ∙ a.backward;
    }
