-- What the inner functions of this crate ask and promise: steps that change no list or some of them, and what is known of a
-- reader where each kind of frame is taken. Nothing outside the crate rests on it. Definitions only. Assumes nothing.
use Rattle.std.specs.Prelude.{◌≡◌, Bool, false, cond, not, ◌&&◌, ◌||◌, List, ℕ, ◌+◌, ◌≤◌, ◌<◌, eqb, ltb, ℤ, length, set, Ok}
use Rattle.network.specs.Verdict.{Verdict}
use Rattle.network.specs.Network.{Network, most_arcs, most_nodes}
use Rattle.network.specs.Refusal.{list_verdict, network_verdict}
use Rattle.index.specs.Index.{Index, short_index, wrong_index}
use Rattle.index.specs.Table.{build_verdict}
use Rattle.frames.specs.declared.Frame.{Frame}
use Rattle.frames.specs.declared.Frame.TheVariants.{Arc}
use Rattle.frames.specs.AnswerLines.{line_feed}
use Rattle.district.specs.declared.Reader.{Reader}
use Rattle.district.specs.declared.Taken.{Taken}
use Rattle.district.specs.declared.FileLists.{FileLists}
use Rattle.district.specs.File.{File, FileStep, last_line}
use Rattle.district.specs.Reader.{Lists, lists, file_of, network_read, built_under, Kept, Stepped, RoomyIndex}
use Rattle.district.specs.Lists.{lists_beside}

-- ---- readers
-- the reader at the beginning of the next line
unfoldable pub next_reader : Reader → Reader
next_reader r =
    record {
      line = r.line + 1;
      held = 0;
      single = r.single;
      going = r.going;
      nodes = r.nodes;
      arcs = r.arcs;
      arcs_read = r.arcs_read;
      nodes_read = r.nodes_read;
      verdict = r.verdict;
      asked = r.asked;
    }

-- the reader with this verdict on its network
abbrev pub with_verdict : Reader → Verdict → Reader
with_verdict r verdict =
    record {
      line = r.line;
      held = r.held;
      single = r.single;
      going = r.going;
      nodes = r.nodes;
      arcs = r.arcs;
      arcs_read = r.arcs_read;
      nodes_read = r.nodes_read;
      verdict = verdict;
      asked = r.asked;
    }

-- ---- steps
-- what a step that changes no list promises (`Stepped`), whatever the lists are
pub record SteppedOver (s : File → FileStep) (r : Reader) (t : Taken) (room room_after : List ℕ) : Type 0 where
  pub law : (l : Lists) → Kept r l → Stepped (s (file_of r l)) t l l room room_after

-- the same of a step that changes the line only
pub record SteppedLine (s : File → FileStep) (r : Reader) (t : Taken) (line line' room room_after : List ℕ) : Type 0 where
  pub law : (tails heads weights : List ℕ) (ix : Index) (h k : List ℤ) → Kept r (lists line tails heads weights ix h k)
      → Stepped (s (file_of r (lists line tails heads weights ix h k))) t (lists line tails heads weights ix h k) (lists line' tails heads weights ix h k) room room_after

-- the same of a step that leaves the index alone
pub record SteppedArcs (s : File → FileStep) (r : Reader) (t : Taken) (l after : FileLists) (room room_after : List ℕ) : Type 0 where
  pub law : (ix : Index) → Kept r (lists_beside l ix)
      → Stepped (s (file_of r (lists_beside l ix))) t (lists_beside l ix) (lists_beside after ix) room room_after

-- the same of a step that changes the potential lists and the index only
pub record SteppedPotentials (s : File → FileStep) (r : Reader) (t : Taken) (tails heads weights : List ℕ) (ix ix' : Index) (h k h' k' : List ℤ) (room room_after : List ℕ) : Type 0 where
  pub law : (line : List ℕ) → Kept r (lists line tails heads weights ix h k)
      → Stepped (s (file_of r (lists line tails heads weights ix h k))) t (lists line tails heads weights ix h k) (lists line tails heads weights ix' h' k') room room_after

-- ---- what is known where a frame is taken
-- a further line can be counted
abbrev pub NotLast : Reader → Type 0
NotLast r = r.line < last_line

-- an arc more can be taken: the reader counts fewer than the 01 states, and the lists have room for all of them
pub record ArcsOpen (r : Reader) (l : FileLists) : Type 0 where
  pub not_last : r.line < last_line
  pub owed : r.arcs_read < r.arcs
  pub few : r.arcs ≤ most_arcs
  pub for_tails : most_arcs ≤ length l.tails.now
  pub for_heads : most_arcs ≤ length l.heads.now
  pub for_weights : most_arcs ≤ length l.weights.now

-- the lists of arcs get an arc's entries, and the other lists stay
pub record ArcPut (l after : FileLists) (at tail head weight : ℕ) : Type 0 where
  pub tails : after.tails.now ≡ set l.tails.now at tail
  pub heads : after.heads.now ≡ set l.heads.now at head
  pub weights : after.weights.now ≡ set l.weights.now at weight
  pub line : after.line.now ≡ l.line.now
  pub forward : after.forward.now ≡ l.forward.now
  pub backward : after.backward.now ≡ l.backward.now

-- a node's potentials can be taken
pub record PotentialsOpen (r : Reader) (tails heads weights : List ℕ) (ix : Index) (forward backward : List ℤ) : Type 0 where
  pub not_last : r.line < last_line
  pub arcs_read_lem : r.arcs ≤ r.arcs_read
  pub owed : r.nodes_read < r.nodes
  pub few : r.nodes ≤ most_nodes
  pub few_arcs : r.arcs_read ≤ most_arcs
  pub in_tails : r.arcs_read ≤ length tails
  pub in_heads : r.arcs_read ≤ length heads
  pub in_weights : r.arcs_read ≤ length weights
  pub for_index : RoomyIndex ix
  pub for_forward : most_nodes ≤ length forward
  pub for_backward : most_nodes ≤ length backward

-- as many entries of each list as the reader counts are there, and at least one node's
pub record Read (r : Reader) (l : FileLists) : Type 0 where
  pub some : 0 < r.nodes
  pub in_tails : r.arcs_read ≤ length l.tails.now
  pub in_heads : r.arcs_read ≤ length l.heads.now
  pub in_weights : r.arcs_read ≤ length l.weights.now
  pub in_forward : r.nodes_read ≤ length l.forward.now
  pub in_backward : r.nodes_read ≤ length l.backward.now

-- the network and all potentials are read
pub record AllRead (r : Reader) : Type 0 where
  pub some : 0 < r.nodes
  pub each : r.nodes ≤ r.nodes_read

-- an index can be built where it is to be
pub record Indexable (r : Reader) (tails heads weights : List ℕ) (ix : Index) : Type 0 where
  pub in_tails : r.arcs_read ≤ length tails
  pub in_heads : r.arcs_read ≤ length heads
  pub in_weights : r.arcs_read ≤ length weights
  pub sound : r.nodes ≤ r.nodes_read → r.verdict ≡ Ok tt → build_verdict (network_read r tails heads weights) ix ≡ Ok tt

-- what the index lists hold, by the reader's counts and its network's own verdict
unfoldable pub index_by : Reader → List ℕ → List ℕ → List ℕ → Index → Index
index_by r tails heads weights ix =
    cond (ltb r.nodes_read r.nodes) ix (built_under r.verdict (network_read r tails heads weights) ix)

-- a verdict is the own verdict of a network with sound lists; its index lists are long enough, and where it is accepted they hold
-- what its arcs build
pub record Known (own : Verdict) (g : Network) (ix : Index) (h k : List ℤ) : Type 0 where
  pub lists_sound : list_verdict g h k ≡ Ok tt
  pub own_is : own ≡ network_verdict g h k
  pub index_long : short_index g ix ≡ false
  pub index_right : own ≡ Ok tt → wrong_index g ix ≡ false

-- a frame is not of kind 02
pub record NoArc (g : Frame) : Type 0 where
  pub law : (t h w : ℕ) → g ≡ Arc t h w → ⊥

-- a byte ends a line whose frame is taken: a line feed, in a file that goes on, after any line but 4,294,967,295
unfoldable pub ends_line : Reader → ℕ → Bool
ends_line r b = r.going && eqb b line_feed && ltb r.line last_line

-- a frame is still owed, by the reader's counts
unfoldable pub owes_by : Reader → Bool
owes_by r = eqb r.nodes 0 || ltb r.arcs_read r.arcs || ltb r.nodes_read r.nodes || not r.asked
