-- What the code's reader and the lists that it is lent stand for, and what a step of the code promises: what the definition
-- says of the file, and the printed bytes placed in the room. Definitions only; their laws are in ReaderLaws. Assumes nothing.
use Rattle.std.specs.Prelude.{◌≡◌, Bool, true, false, cond, ◌||◌, List, [], ◌∷◌, ℕ, zero, suc, ◌+◌, ◌-◌, ◌*◌, ◌≤◌, ◌<◌, eqb, ltb, ℤ, length, take, drop, Ok, Err}
use Rattle.network.specs.Verdict.{Verdict}
use Rattle.network.specs.Network.{Network, network, most_nodes, most_arcs}
use Rattle.network.specs.Refusal.{network_verdict}
use Rattle.index.specs.Index.{Index, built_on}
use Rattle.frames.specs.AnswerLines.{line_feed}
use Rattle.frames.specs.Frame.{most_digits}
use Rattle.frames.specs.Room.{Placed}
use Rattle.district.specs.declared.Reader.{Reader}
use Rattle.district.specs.declared.Taken.{Taken}
use Rattle.district.specs.File.{Told, File, FileStep, step, size_owed, potentials_owed, end_of_input, feed}

-- the lists that a reader is lent and that are kept from byte to byte
pub record Lists : Type 0 where
  pub line : List ℕ
  pub tails : List ℕ
  pub heads : List ℕ
  pub weights : List ℕ
  pub index : Index
  pub forward : List ℤ
  pub backward : List ℤ

abbrev pub lists : List ℕ → List ℕ → List ℕ → List ℕ → Index → List ℤ → List ℤ → Lists
lists line t h w ix f b = record { line = line; tails = t; heads = h; weights = w; index = ix; forward = f; backward = b }

-- what a reader and its lists have been told: as many entries of each list as the reader counts
unfoldable pub told_by : Reader → Lists → Told
told_by r l =
    record {
      nodes = r.nodes;
      arcs = r.arcs;
      tails = take r.arcs_read l.tails;
      heads = take r.arcs_read l.heads;
      weights = take r.arcs_read l.weights;
      forward = take r.nodes_read l.forward;
      backward = take r.nodes_read l.backward;
      asked = r.asked;
    }

-- the file that a reader and its lists stand for
unfoldable pub file_of : Reader → Lists → File
file_of r l =
    record { told = told_by r l; line = r.line; held = take r.held l.line; single = r.single; going = r.going }

-- a reader's counts fit together
pub record Counted (r : Reader) : Type 0 where
  -- no more is counted than the 01 states, nothing is stated before it, and what it states is within the bounds of a network
  pub arcs_within : r.arcs_read ≤ r.arcs
  pub few_arcs : r.arcs ≤ most_arcs
  pub nodes_within : r.nodes_read ≤ r.nodes
  pub few_nodes : r.nodes ≤ most_nodes
  pub size_first : r.nodes ≡ 0 → r.arcs ≡ 0
  pub arcs_first : r.arcs_read < r.arcs → r.nodes_read ≡ 0
  -- the line so far is no longer than an input frame can be
  pub held_within_lem : r.held ≤ most_digits

-- the network that a reader counts in its lists
abbrev pub network_read : Reader → List ℕ → List ℕ → List ℕ → Network
network_read r tails heads weights =
    network r.nodes (take r.arcs_read tails) (take r.arcs_read heads) (take r.arcs_read weights)

-- what the network itself is refused for (7, 8 or 9): it is known once the last potentials are read, and until then nothing
-- speaks against it
unfoldable pub own_verdict : Reader → List ℕ → List ℕ → List ℕ → List ℤ → List ℤ → Verdict
own_verdict r tails heads weights forward backward =
    cond (eqb r.nodes 0 || ltb r.nodes_read r.nodes) (Ok tt)
    (network_verdict (network_read r tails heads weights) (take r.nodes_read forward) (take r.nodes_read backward))

-- the network that is told
abbrev pub network_told : Told → Network
network_told t = network t.nodes t.tails t.heads t.weights

-- the index of a network whose own verdict is known, in lent lists: an accepted network's is built there, from their first
-- entries on; any other's is not, and they stay as they are
abbrev pub built_under : Verdict → Network → Index → Index
built_under (Ok _) g ix = built_on g ix
built_under (Err c) g ix = ix

-- what lent index lists hold: once all potentials are read, the index of a network that is accepted; until then they are as lent
unfoldable pub index_kept : Told → Index → Index
index_kept t ix =
    cond (size_owed t || potentials_owed t) ix (built_under (network_verdict (network_told t) t.forward t.backward) (network_told t) ix)

-- each list of an index has room for the most entries that a file can give it
pub record RoomyIndex (ix : Index) : Type 0 where
  pub for_out_arcs : most_arcs ≤ length ix.out.arcs
  pub for_out_begins : most_nodes < length ix.out.begins
  pub for_in_arcs : most_arcs ≤ length ix.into.arcs
  pub for_in_begins : most_nodes < length ix.into.begins

-- and so has each list that a reader is lent
pub record Roomy (l : Lists) : Type 0 where
  pub for_line : most_digits ≤ length l.line
  pub for_tails : most_arcs ≤ length l.tails
  pub for_heads : most_arcs ≤ length l.heads
  pub for_weights : most_arcs ≤ length l.weights
  pub for_index : RoomyIndex l.index
  pub for_forward : most_nodes ≤ length l.forward
  pub for_backward : most_nodes ≤ length l.backward

-- what every step asks of a reader and its lists, and leaves: `start` begins so with lists that have room
pub record Kept (r : Reader) (l : Lists) : Type 0 where
  pub counted : Counted r
  pub roomy : Roomy l
  -- the reader carries its network's own verdict
  pub judged : r.verdict ≡ own_verdict r l.tails l.heads l.weights l.forward l.backward
  -- the index is built already where it is to be
  pub indexed : index_kept (told_by r l) l.index ≡ l.index

-- a reader that a step has left, with some lists
pub record Reached (r : Reader) : Type 0 where
  pub over : Lists
  pub kept : Kept r over

-- the reader of a file of which nothing is read; its first line has this number
unfoldable pub start_reader : Bool → ℕ → Reader
start_reader single line =
    record {
      line = line;
      held = 0;
      single = single;
      going = true;
      nodes = 0;
      arcs = 0;
      arcs_read = 0;
      nodes_read = 0;
      verdict = Ok tt;
      asked = false;
    }

-- the entries of each list beyond those that the reader counts are what they were
pub record Beyond (r : Reader) (l after : Lists) : Type 0 where
  pub line : drop r.held after.line ≡ drop r.held l.line
  pub tails : drop r.arcs_read after.tails ≡ drop r.arcs_read l.tails
  pub heads : drop r.arcs_read after.heads ≡ drop r.arcs_read l.heads
  pub weights : drop r.arcs_read after.weights ≡ drop r.arcs_read l.weights
  pub forward : drop r.nodes_read after.forward ≡ drop r.nodes_read l.forward
  pub backward : drop r.nodes_read after.backward ≡ drop r.nodes_read l.backward

-- what a step promises: reader and lists stand for the file that the definition says, with no entry beyond it changed; the index
-- is built with the last potentials of an accepted network, and else left alone; the bytes that the step prints are placed in the
-- room; and the next step may follow
pub record Stepped (s : FileStep) (t : Taken) (l after : Lists) (room room_after : List ℕ) : Type 0 where
  pub file_is : file_of t.reader after ≡ s.file
  pub beyond : Beyond t.reader l after
  pub index_is : after.index ≡ index_kept s.file.told l.index
  pub room_is : Placed s.printed room room_after t.written
  pub kept : Kept t.reader after

-- how many bytes at the front of some find room in a line that can hold so many more: up to the first line feed
unfoldable pub held_within : ℕ → List ℕ → ℕ
held_within zero bytes = 0
held_within (suc room) [] = 0
held_within (suc room) (b ∷ bytes) = cond (eqb b line_feed) 0 (suc (held_within room bytes))

-- how many bytes at the front of some a reader holds: none where a refusal has ended the file
unfoldable pub held_of : Reader → List ℕ → ℕ
held_of r bytes = cond r.going (held_within (most_digits - r.held) bytes) 0

-- the reader with so many bytes more of its line
abbrev pub holding_more : Reader → ℕ → Reader
holding_more r n =
    record {
      line = r.line;
      held = r.held + n;
      single = r.single;
      going = r.going;
      nodes = r.nodes;
      arcs = r.arcs;
      arcs_read = r.arcs_read;
      nodes_read = r.nodes_read;
      verdict = r.verdict;
      asked = r.asked;
    }

-- these bytes are held: the reader that counts so many more stands for the file after taking them one after the other, which
-- prints nothing; no entry beyond is changed, and the next step may follow
pub record HeldAll (r : Reader) (n : ℕ) (bytes : List ℕ) (l after : Lists) : Type 0 where
  pub file_is : feed (file_of r l) bytes ≡ step (file_of (holding_more r n) after) []
  pub beyond : Beyond (holding_more r n) l after
  pub kept : Kept (holding_more r n) after

-- what holding bytes promises: how many of them are held, and that they are, with no list changed but the line
pub record Held (r : Reader) (n : ℕ) (bytes line line' : List ℕ) : Type 0 where
  pub count_is : n ≡ held_of r bytes
  pub law : (tails heads weights : List ℕ) (ix : Index) (h k : List ℤ) → Kept r (lists line tails heads weights ix h k)
      → HeldAll r n (take n bytes) (lists line tails heads weights ix h k) (lists line' tails heads weights ix h k)

-- what the end of input promises: the bytes that it prints are placed in the room
pub record Ended (r : Reader) (room after : List ℕ) (written : ℕ) : Type 0 where
  pub law : (l : Lists) → Kept r l → Placed (end_of_input (file_of r l)) room after written

-- the most bytes of an answer: a route's line, and the line of a path over as many nodes as there can be
abbrev pub most_bytes : ℕ
most_bytes = 31 + 3 + 4 * most_nodes

-- the bytes of a refusal's line
abbrev pub refusal_bytes : ℕ
refusal_bytes = 13

-- the fewest bytes of an answer: an undecided's line
abbrev pub fewest_bytes : ℕ
fewest_bytes = 7
