-- Each public function's contract admits a single answer: whatever two runs on the same input return and leave in the lent
-- lists, they are the same. Assumes nothing.
use Rattle.std.specs.Prelude.{◌≡◌, Bool, ◌||◌, List, ℕ, ◌+◌, ◌≤◌, eqb, take, drop, Ok}
use Rattle.std.proofs.Math.Path.{sym, ap}
use Rattle.std.proofs.Common.{◌∙◌, take-append-drop}
use Rattle.std.proofs.Math.Bool.{cond}
use Rattle.std.proofs.Math.Dec.{ltb}
use Rattle.std.proofs.Math.ListN.{length}
use Rattle.network.specs.Network.{network}
use Rattle.network.specs.Refusal.{network_verdict}
use Rattle.frames.specs.Frame.{most_digits}
use Rattle.district.specs.declared.Reader.{Reader}
use Rattle.district.specs.declared.Taken.{Taken}
use Rattle.district.specs.File.{File, FileStep, feed}
use Rattle.district.specs.Reader.{Lists, lists, told_by, file_of, Roomy, Kept, Reached, Stepped, Held, Ended, start_reader, own_verdict}
use Rattle.district.specs.ReaderLaws.{count_tails, count_forward, count_held}

-- `start`
pub start_one_answer : (single : Bool) (line : ℕ) (r s : Reader) → r ≡ start_reader single line → s ≡ start_reader single line → r ≡ s
start_one_answer single line r s p q = p ∙ sym q

-- two lists that agree up to a count and beyond it are the same
same_list : {A : Type 0} (n m : ℕ) (x y z : List A) → n ≡ m → take n x ≡ take m y → drop n x ≡ drop n z → drop m y ≡ drop m z → x ≡ y
same_list n m x y z e p q r = sym (take-append-drop n x) ∙ (rw (p, q, e, ← r) (take-append-drop m y))

-- `take_byte`: the results, the lists and the room
module _ (s : FileStep) (l : Lists) (room : List ℕ) (t u : Taken) (a b : Lists) (x y : List ℕ) (p : Stepped s t l a room x) (q : Stepped s u l b room y) where
  same_file : file_of t.reader a ≡ file_of u.reader b
  same_file = p.file_is ∙ sym q.file_is

  same_arcs_read : t.reader.arcs_read ≡ u.reader.arcs_read
  unfolding file_of
  same_arcs_read = sym (count_tails t.reader a p.kept) ∙ (ap (λ (f : File). length f.told.tails) same_file ∙ count_tails u.reader b q.kept)

  same_nodes_read : t.reader.nodes_read ≡ u.reader.nodes_read
  unfolding file_of
  same_nodes_read = sym (count_forward t.reader a p.kept) ∙ (ap (λ (f : File). length f.told.forward) same_file ∙ count_forward u.reader b q.kept)

  same_held : t.reader.held ≡ u.reader.held
  same_held = sym (count_held t.reader a p.kept) ∙ (ap (λ (f : File). length f.held) same_file ∙ count_held u.reader b q.kept)

  pub take_byte_one_answer : (t ≡ u) × (a ≡ b) × (x ≡ y)
  unfolding file_of told_by own_verdict
  take_byte_one_answer =
      let line : t.reader.line ≡ u.reader.line = ap (λ (f : File). f.line) same_file in
      let single : t.reader.single ≡ u.reader.single = ap (λ (f : File). f.single) same_file in
      let going : t.reader.going ≡ u.reader.going = ap (λ (f : File). f.going) same_file in
      let nodes : t.reader.nodes ≡ u.reader.nodes = ap (λ (f : File). f.told.nodes) same_file in
      let arcs : t.reader.arcs ≡ u.reader.arcs = ap (λ (f : File). f.told.arcs) same_file in
      let asked : t.reader.asked ≡ u.reader.asked = ap (λ (f : File). f.told.asked) same_file in
      let written : t.written ≡ u.written = p.room_is.count_is ∙ sym q.room_is.count_is in
      let held : a.line ≡ b.line = same_list _ _ _ _ l.line same_held (ap (λ (f : File). f.held) same_file) p.beyond.line q.beyond.line in
      let tails : a.tails ≡ b.tails = same_list _ _ _ _ l.tails same_arcs_read (ap (λ (f : File). f.told.tails) same_file) p.beyond.tails q.beyond.tails in
      let heads : a.heads ≡ b.heads = same_list _ _ _ _ l.heads same_arcs_read (ap (λ (f : File). f.told.heads) same_file) p.beyond.heads q.beyond.heads in
      let weights : a.weights ≡ b.weights = same_list _ _ _ _ l.weights same_arcs_read (ap (λ (f : File). f.told.weights) same_file) p.beyond.weights q.beyond.weights in
      let index : a.index ≡ b.index = p.index_is ∙ sym q.index_is in
      let forward : a.forward ≡ b.forward = same_list _ _ _ _ l.forward same_nodes_read (ap (λ (f : File). f.told.forward) same_file) p.beyond.forward q.beyond.forward in
      let backward : a.backward ≡ b.backward = same_list _ _ _ _ l.backward same_nodes_read (ap (λ (f : File). f.told.backward) same_file) p.beyond.backward q.beyond.backward in
      let own : own_verdict t.reader a.tails a.heads a.weights a.forward a.backward ≡ own_verdict u.reader b.tails b.heads b.weights b.forward b.backward = λ i.
      cond (eqb (nodes i) 0 || ltb (same_nodes_read i) (nodes i)) (Ok tt)
      (network_verdict (network (nodes i) (take (same_arcs_read i) (tails i)) (take (same_arcs_read i) (heads i)) (take (same_arcs_read i) (weights i))) (take (same_nodes_read i) (forward i)) (take (same_nodes_read i) (backward i))) in
      let verdict : t.reader.verdict ≡ u.reader.verdict = p.kept.judged ∙ (own ∙ sym q.kept.judged) in (
        λ i. record {
          reader = record {
            line = line i;
            held = same_held i;
            single = single i;
            going = going i;
            nodes = nodes i;
            arcs = arcs i;
            arcs_read = same_arcs_read i;
            nodes_read = same_nodes_read i;
            verdict = verdict i;
            asked = asked i;
          };
          written = written i;
        },
        λ i. record { line = held i; tails = tails i; heads = heads i; weights = weights i; index = index i; forward = forward i; backward = backward i },
        p.room_is.room_is ∙ sym q.room_is.room_is,
      )

-- `hold`: a reader that a step has left is kept with any line that has room
with_line : (r : Reader) (l : Lists) (line : List ℕ) → Kept r l → most_digits ≤ length line → Kept r (lists line l.tails l.heads l.weights l.index l.forward l.backward)
unfolding told_by
with_line r l line k long =
    let y : Roomy l = k.roomy in
    record {
      counted = k.counted;
      roomy =
          record {
            for_line = long;
            for_tails = y.for_tails;
            for_heads = y.for_heads;
            for_weights = y.for_weights;
            for_index = y.for_index;
            for_forward = y.for_forward;
            for_backward = y.for_backward;
          };
      judged = k.judged;
      indexed = k.indexed;
    }

pub hold_one_answer : (r : Reader) → Reached r → (bytes line after after' : List ℕ) → most_digits ≤ length line → (n n' : ℕ) → Held r n bytes line after → Held r n' bytes line after' → (n ≡ n') × (after ≡ after')
unfolding file_of
hold_one_answer r left bytes line after after' long n n' p q =
    let l : Lists = left.over in
    let kept = with_line r l line left.kept long in
    let f : File = file_of r (lists line l.tails l.heads l.weights l.index l.forward l.backward) in
    let a = p.law _ _ _ _ _ _ kept in
    let b = q.law _ _ _ _ _ _ kept in
    let same : n ≡ n' = p.count_is ∙ sym q.count_is in
    let held : take (r.held + n) after ≡ take (r.held + n') after' = ap (λ (s : FileStep). s.file.held) (sym a.file_is ∙ (ap (λ m. feed f (take m bytes)) same ∙ b.file_is)) in
    (same, same_list _ _ after after' line (ap (λ m. r.held + m) same) held a.beyond.line b.beyond.line)

-- `end_of_input`
pub end_of_input_one_answer : (r : Reader) → Reached r → (room after after' : List ℕ) (n n' : ℕ) → Ended r room after n → Ended r room after' n' → (n ≡ n') × (after ≡ after')
end_of_input_one_answer r left room after after' n n' p q =
    let a = p.law left.over left.kept in
    let b = q.law left.over left.kept in
    (a.count_is ∙ sym b.count_is, a.room_is ∙ sym b.room_is)
