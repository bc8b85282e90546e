-- What the code does when it takes a line or a byte is what the definition says: lists that have grown by what was given stand
-- for a file that was told it. Assumes nothing.
use Rattle.std.proofs.lemmas.Bool.{eq-eqb, ne_eqb, lt-ltb, le-ltb, le-leb, lt-leb}
use Rattle.std.specs.Prelude.{◌≡◌, refl, true, false, List, [], ◌∷◌, ◌++◌, map, ℕ, ◌+◌, ◌-◌, ◌≤◌, ◌<◌, ℤ, take, drop, set, Option, Some}
use Rattle.std.proofs.Common.{sym, ap, ◌∙◌, append_assoc, add-one, length-set, take-suc-set, drop-set-lt, length-take-le, arith}
use Rattle.std.proofs.Math.ListN.{length}
use Rattle.network.specs.declared.Cause.{Cause}
use Rattle.network.specs.declared.Answer.TheVariants.{Refused}
use Rattle.network.specs.Verdict.{Verdict}
use Rattle.network.specs.Network.{most_nodes, most_arcs}
use Rattle.index.specs.Index.{Index}
use Rattle.frames.specs.declared.Frame.{Frame}
use Rattle.frames.specs.declared.Frame.TheVariants.{Size, Potentials}
use Rattle.frames.specs.Frame.{most_digits}
use Rattle.frames.specs.AnswerLines.{answer_lines}
use Rattle.frames.specs.Room.{Placed}
use Rattle.frames.specs.RoomLaws.{nothing_placed}
use Rattle.district.specs.declared.Reader.{Reader}
use Rattle.district.specs.declared.FileLists.{FileLists}
use Rattle.district.specs.File.{File, refused, GivenArc, added_arcs, wrong, taken, take_size, take_arcs, take_potentials, with_query, step, holding}
use Rattle.district.specs.Reader.{Lists, lists, told_by, file_of, Counted, Roomy, Kept, Beyond, Stepped, RoomyIndex, own_verdict, index_kept, holding_more}
use Rattle.district.specs.Inner.{SteppedOver, SteppedArcs, PotentialsOpen, Read, Indexable, index_by, next_reader, with_verdict}
use Rattle.district.specs.ReaderLaws.{positive, without_size, without_potentials, with_all, beyond_same, count_tails, count_forward}
use Rattle.district.specs.IndexLaws.{can_be_built, index_waits, index_stays, index_by_lem, still_roomy}

-- ---- lists that grow
-- n entries of a list were counted; with `more` after them, m entries further, nothing beyond has changed
pub record Grown {A : Type 0} (l after : List A) (n m : ℕ) (more : List A) : Type 0 where
  pub front : take (n + m) after ≡ take n l ++ more
  pub back : drop (n + m) after ≡ drop (n + m) l
  pub size : length after ≡ length l

module _ {A : Type 0} (l : List A) (n : ℕ) (a : A) where
  one_more : n < length l → take (n + 1) (set l n a) ≡ take n l ++ (a ∷ [])
  one_more h = rw add-one (take-suc-set l n a h)

  pub grown_one : {after : List A} → after ≡ set l n a → n < length l → Grown l after n 1 (a ∷ [])
  grown_one e h =
      record {
        front = rw e (one_more h);
        back = rw e (drop-set-lt (n + 1) l n a (omega arith));
        size = ap length e ∙ simp length-set;
      }

module _ {A : Type 0} (l : List A) (n : ℕ) (a b : A) where
  pub grown_two : {mid after : List A} → mid ≡ set l n a → after ≡ set mid (n + 1) b → n + 1 < length l → Grown l after n 2 (a ∷ b ∷ [])
  grown_two {mid} {after} d e h =
      let both : after ≡ set (set l n a) (n + 1) b = rw (← d) e in
      let next : n + 2 ≡ n + 1 + 1 = omega arith in
      let room : n + 1 < length (set l n a) = simp length-set (omega arith) in
      record {
        front = rw (both, next, one_more (set l n a) (n + 1) b room, one_more l n a (omega arith), append_assoc);
        back = rw both (drop-set-lt (n + 2) (set l n a) (n + 1) b (omega arith) ∙ drop-set-lt (n + 2) l n a (omega arith));
        size = ap length both ∙ simp (length-set);
      }

-- ---- a file refusal
-- the reader, which does not go on
abbrev pub reader_ended : Reader → Reader
reader_ended r =
    record {
      line = r.line;
      held = r.held;
      single = r.single;
      going = false;
      nodes = r.nodes;
      arcs = r.arcs;
      arcs_read = r.arcs_read;
      nodes_read = r.nodes_read;
      verdict = r.verdict;
      asked = r.asked;
    }

-- its line is placed, and nothing changes but that the file has ended
pub file_refused : (c : Cause) {room after : List ℕ} {n : ℕ} (r : Reader) → Placed (answer_lines (Refused c) []) room after n
    → SteppedOver (λ f. refused f c) r (record { reader = reader_ended r; written = n }) room after
unfolding refused file_of told_by own_verdict
file_refused c r p =
    record {
      law = λ l k.
          let counts : Counted r = k.counted in
          record {
            file_is = refl;
            beyond = beyond_same _ l;
            index_is = sym k.indexed;
            room_is = p;
            kept =
                record {
                  counted =
                      record {
                        arcs_within = counts.arcs_within;
                        few_arcs = counts.few_arcs;
                        nodes_within = counts.nodes_within;
                        few_nodes = counts.few_nodes;
                        size_first = counts.size_first;
                        arcs_first = counts.arcs_first;
                        held_within_lem = counts.held_within_lem;
                      };
                  roomy = k.roomy;
                  judged = k.judged;
                  indexed = k.indexed;
                };
          };
    }

-- ---- 01
abbrev pub sized : Reader → ℕ → ℕ → Reader
sized r n m =
    record {
      line = r.line;
      held = r.held;
      single = r.single;
      going = r.going;
      nodes = n;
      arcs = m;
      arcs_read = r.arcs_read;
      nodes_read = r.nodes_read;
      verdict = r.verdict;
      asked = r.asked;
    }

pub size_taken : (r next : Reader) (n m : ℕ) (room : List ℕ) → next ≡ next_reader r → r.nodes ≡ 0 → (n ≡ 0 → ⊥) → n ≤ most_nodes → m ≤ most_arcs
    → SteppedOver (λ f. take_size f (Some (Size n m))) r (record { reader = sized next n m; written = 0 }) room room
unfolding take_size taken file_of told_by next_reader
size_taken r next n m room e none some few fewer =
    record {
      law = λ l k.
          let owed : length (told_by r l).forward < n = omega (arith, count_forward r l k, k.counted, positive n some) in
          rw (ne_eqb n 0 some, le-ltb most_nodes n few, le-ltb most_arcs m fewer, e)
          (record {
            file_is = refl;
            beyond = beyond_same _ l;
            index_is = sym (index_waits _ l.index owed);
            room_is = nothing_placed room;
            kept =
                let no_arcs : r.arcs ≡ 0 = k.counted.size_first none in
                let c : Counted r = k.counted in
                record {
                  counted =
                      record {
                        arcs_within = omega arith;
                        few_arcs = fewer;
                        nodes_within = omega arith;
                        few_nodes = few;
                        size_first = λ z. absurd (some z);
                        arcs_first = λ h. omega arith;
                        held_within_lem = omega arith;
                      };
                  roomy = k.roomy;
                  judged =
                      k.judged ∙ (without_size r _ _ _ _ _ none
                      ∙ sym (without_potentials (sized (next_reader r) n m) _ _ _ _ _ (omega (arith, positive n some))));
                  indexed = index_waits _ l.index owed;
                };
          });
    }

-- ---- 02 and 05
abbrev pub reader_with_arcs : Reader → ℕ → Reader
reader_with_arcs r n =
    record {
      line = r.line;
      held = r.held;
      single = r.single;
      going = r.going;
      nodes = r.nodes;
      arcs = r.arcs;
      arcs_read = n;
      nodes_read = r.nodes_read;
      verdict = r.verdict;
      asked = r.asked;
    }

-- where an arc is owed the 01 was read
sized_before_arcs : (r : Reader) → Counted r → 0 < r.arcs → 0 < r.nodes
sized_before_arcs r c h = positive r.nodes (λ none. let no_arcs : r.arcs ≡ 0 = c.size_first none in omega arith)

-- a frame that adds m arcs, as many as are owed or fewer
pub arcs_grown : (r next : Reader) (g : Option Frame) (m : ℕ) {tails heads weights tails' heads' weights' : List ℕ} (room line : List ℕ) (ix : Index) (f b : List ℤ)
    → next ≡ next_reader r
    → length (added_arcs g) ≡ m
    → 0 < m
    → m ≤ r.arcs - r.arcs_read
    → Grown tails tails' r.arcs_read m (map (λ (a : GivenArc). a.tail) (added_arcs g))
    → Grown heads heads' r.arcs_read m (map (λ (a : GivenArc). a.head) (added_arcs g))
    → Grown weights weights' r.arcs_read m (map (λ (a : GivenArc). a.weight) (added_arcs g))
    → Kept r (lists line tails heads weights ix f b)
    → Stepped (take_arcs (file_of r (lists line tails heads weights ix f b)) g) (record { reader = reader_with_arcs next (r.arcs_read + m); written = 0 }) (lists line tails heads weights ix f b) (lists line tails' heads' weights' ix f b) room room
unfolding take_arcs taken file_of told_by next_reader
arcs_grown r next g m {tails} {heads} {weights} {tails'} {heads'} {weights'} room line ix f b e count some owed t h w k =
    let l : Lists = lists line tails heads weights ix f b in
    let c : Counted r = k.counted in
    let y : Roomy l = k.roomy in
    let any : 0 < length (added_arcs g) = omega arith in
    let unread : r.nodes_read < r.nodes = omega (arith, c.arcs_first (omega arith), sized_before_arcs r c (omega arith)) in
    let waits : length (told_by r l).forward < r.nodes = omega (arith, count_forward r l k) in
    let fit : length (added_arcs g) ≤ r.arcs - length (told_by r l).tails = omega (arith, count_tails r l k) in
    rw (lt-ltb _ _ any, le-leb _ _ fit, e)
    (record {
      file_is = rw (t.front, h.front, w.front);
      beyond = record { line = refl; tails = t.back; heads = h.back; weights = w.back; forward = refl; backward = refl };
      index_is = sym (index_waits _ ix waits);
      room_is = nothing_placed room;
      kept =
          record {
            counted =
                record {
                  arcs_within = omega arith;
                  few_arcs = omega arith;
                  nodes_within = omega arith;
                  few_nodes = omega arith;
                  size_first = c.size_first;
                  arcs_first = λ h. c.arcs_first (omega arith);
                  held_within_lem = omega arith;
                };
            roomy =
                record {
                  for_line = y.for_line;
                  for_tails = omega (arith, t.size, y.for_tails);
                  for_heads = omega (arith, h.size, y.for_heads);
                  for_weights = omega (arith, w.size, y.for_weights);
                  for_index = y.for_index;
                  for_forward = y.for_forward;
                  for_backward = y.for_backward;
                };
            judged =
                k.judged ∙ (without_potentials r _ _ _ _ _ unread
                ∙ sym (without_potentials (reader_with_arcs (next_reader r) (r.arcs_read + m)) _ _ _ _ _ unread));
            indexed = index_waits _ ix waits;
          };
    })

-- which are those of lists that else stay
pub arcs_taken : (r next : Reader) (g : Option Frame) (m : ℕ) {l after : FileLists} (room : List ℕ)
    → next ≡ next_reader r
    → length (added_arcs g) ≡ m
    → 0 < m
    → m ≤ r.arcs - r.arcs_read
    → Grown l.tails.now after.tails.now r.arcs_read m (map (λ (a : GivenArc). a.tail) (added_arcs g))
    → Grown l.heads.now after.heads.now r.arcs_read m (map (λ (a : GivenArc). a.head) (added_arcs g))
    → Grown l.weights.now after.weights.now r.arcs_read m (map (λ (a : GivenArc). a.weight) (added_arcs g))
    → after.line.now ≡ l.line.now
    → after.forward.now ≡ l.forward.now
    → after.backward.now ≡ l.backward.now
    → SteppedArcs (λ f. take_arcs f g) r (record { reader = reader_with_arcs next (r.arcs_read + m); written = 0 }) l after room room
arcs_taken r next g m {l} {after} room e count some owed t h w line forward backward =
    record {
      law = λ ix k.
          rw (line, forward, backward)
          (arcs_grown r next g m {tails' = after.tails.now} {heads' = after.heads.now} {weights' = after.weights.now} room l.line.now ix l.forward.now l.backward.now e count some owed t h w k);
    }

-- ---- 03
abbrev pub with_nodes : Reader → ℕ → Reader
with_nodes r n =
    record {
      line = r.line;
      held = r.held;
      single = r.single;
      going = r.going;
      nodes = r.nodes;
      arcs = r.arcs;
      arcs_read = r.arcs_read;
      nodes_read = n;
      verdict = r.verdict;
      asked = r.asked;
    }

-- with a node's potentials put, as many entries as are counted are still there
pub read_next : (r next : Reader) {tails heads weights : List ℕ} {ix : Index} {forward backward : List ℤ} {after : FileLists}
    → next ≡ next_reader r
    → PotentialsOpen r tails heads weights ix forward backward
    → length after.tails.now ≡ length tails
    → length after.heads.now ≡ length heads
    → length after.weights.now ≡ length weights
    → length after.forward.now ≡ length forward
    → length after.backward.now ≡ length backward
    → Read (with_nodes next (r.nodes_read + 1)) after
unfolding next_reader
read_next r next e owing t h w f b =
    rw e
    (record {
      some = omega (arith, owing.owed);
      in_tails = omega (arith, t, owing.in_tails);
      in_heads = omega (arith, h, owing.in_heads);
      in_weights = omega (arith, w, owing.in_weights);
      in_forward = omega (arith, f, owing.owed, owing.few, owing.for_forward);
      in_backward = omega (arith, b, owing.owed, owing.few, owing.for_backward);
    })

-- a network is judged: its index can be built if it is whole and accepted
indexable_judged : (r : Reader) (own : Verdict) (tails heads weights : List ℕ) (ix : Index) (forward backward : List ℤ)
    → 0 < r.nodes
    → r.nodes ≤ most_nodes
    → r.arcs_read ≤ most_arcs
    → r.arcs_read ≤ length tails
    → r.arcs_read ≤ length heads
    → r.arcs_read ≤ length weights
    → RoomyIndex ix
    → own ≡ own_verdict r tails heads weights forward backward
    → Indexable (with_verdict r own) tails heads weights ix
indexable_judged r own tails heads weights ix forward backward some few few_arcs in_tails in_heads in_weights for_index own_is =
    record {
      in_tails = in_tails;
      in_heads = in_heads;
      in_weights = in_weights;
      sound = λ each accepted.
          can_be_built _ ix few (omega (arith, length-take-le r.arcs_read tails in_tails, few_arcs)) for_index _ _
          (sym (with_all r tails heads weights forward backward (record { some = some; each = each })) ∙ (sym own_is ∙ accepted));
    }

-- so it is where a node's potentials are put
pub indexable_next : (r next : Reader) (own : Verdict) (tails heads weights : List ℕ) (ix : Index) (forward backward forward' backward' : List ℤ)
    → next ≡ next_reader r
    → PotentialsOpen r tails heads weights ix forward backward
    → own ≡ own_verdict (with_nodes next (r.nodes_read + 1)) tails heads weights forward' backward'
    → Indexable (with_verdict (with_nodes next (r.nodes_read + 1)) own) tails heads weights ix
unfolding next_reader
indexable_next r next own tails heads weights ix forward backward forward' backward' e owing own_is =
    rw e
    (indexable_judged (with_nodes (next_reader r) (r.nodes_read + 1)) own tails heads weights ix forward' backward' (omega (arith, owing.owed)) owing.few owing.few_arcs owing.in_tails owing.in_heads owing.in_weights owing.for_index (rw e at own_is))

-- the index lists then hold what they are to hold
index_next : (r : Reader) (own : Verdict) (line tails heads weights : List ℕ) (ix ix' : Index) (forward backward : List ℤ)
    → r.nodes_read + 1 ≤ length forward
    → 0 < r.nodes
    → own ≡ own_verdict (with_nodes (next_reader r) (r.nodes_read + 1)) tails heads weights forward backward
    → ix' ≡ index_by (with_verdict (with_nodes (next_reader r) (r.nodes_read + 1)) own) tails heads weights ix
    → ix' ≡ index_kept (told_by (with_verdict (with_nodes (next_reader r) (r.nodes_read + 1)) own) (lists line tails heads weights ix' forward backward)) ix
unfolding next_reader own_verdict
index_next r own line tails heads weights ix ix' forward backward long some judged built =
    built ∙ index_by_lem (with_verdict (with_nodes (next_reader r) (r.nodes_read + 1)) own) (lists line tails heads weights ix' forward backward) (length-take-le _ _ long) judged ix some

pub potentials_taken : (r next : Reader) (v : ℕ) (h k : ℤ) (own : Verdict) {line tails heads weights : List ℕ} {ix ix' : Index} {forward backward forward' backward' : List ℤ} (room : List ℕ)
    → next ≡ next_reader r
    → v ≡ r.nodes_read
    → r.arcs ≤ r.arcs_read
    → r.nodes_read < r.nodes
    → Grown forward forward' r.nodes_read 1 (h ∷ [])
    → Grown backward backward' r.nodes_read 1 (k ∷ [])
    → own ≡ own_verdict (with_nodes next (r.nodes_read + 1)) tails heads weights forward' backward'
    → ix' ≡ index_by (with_verdict (with_nodes next (r.nodes_read + 1)) own) tails heads weights ix
    → Kept r (lists line tails heads weights ix forward backward)
    → Stepped (take_potentials (file_of r (lists line tails heads weights ix forward backward)) (Some (Potentials v h k))) (record { reader = with_verdict (with_nodes next (r.nodes_read + 1)) own; written = 0 }) (lists line tails heads weights ix forward backward) (lists line tails heads weights ix' forward' backward') room room
unfolding take_potentials taken file_of told_by next_reader own_verdict
potentials_taken r next v h k own {line} {tails} {heads} {weights} {ix} {ix'} {forward} {backward} {forward'} {backward'} room e same all owed p q judged built kept =
    let l : Lists = lists line tails heads weights ix forward backward in
    let c : Counted r = kept.counted in
    let y : Roomy l = kept.roomy in
    let its : v ≡ length (told_by r l).forward = same ∙ sym (count_forward r l kept) in
    let kept_index = index_next r own line tails heads weights ix ix' forward' backward' (omega (arith, p.size, c.few_nodes, y.for_forward)) (omega arith) (rw e at judged) (rw e at built) in
    let indexable = indexable_judged (with_nodes (next_reader r) (r.nodes_read + 1)) own tails heads weights ix forward' backward' (omega arith) c.few_nodes (omega arith) (omega arith) (omega arith) (omega arith) y.for_index (rw e at judged) in
    rw (eq-eqb _ _ its, e)
    (record {
      file_is = rw (p.front, q.front);
      beyond = record { line = refl; tails = refl; heads = refl; weights = refl; forward = p.back; backward = q.back };
      index_is = rw (← p.front, ← q.front) kept_index;
      room_is = nothing_placed room;
      kept =
          record {
            counted =
                record {
                  arcs_within = omega arith;
                  few_arcs = omega arith;
                  nodes_within = omega arith;
                  few_nodes = omega arith;
                  size_first = c.size_first;
                  arcs_first = λ h. absurd (omega arith);
                  held_within_lem = omega arith;
                };
            roomy =
                record {
                  for_line = y.for_line;
                  for_tails = y.for_tails;
                  for_heads = y.for_heads;
                  for_weights = y.for_weights;
                  for_index = rw (built, e) (still_roomy _ tails heads weights ix indexable y.for_index);
                  for_forward = omega (arith, p.size, y.for_forward);
                  for_backward = omega (arith, q.size, y.for_backward);
                };
            judged = judged ∙ ap (λ (x : Reader). own_verdict (with_nodes x (r.nodes_read + 1)) tails heads weights forward' backward') e;
            indexed = index_stays _ ix ix' kept_index;
          };
    })

-- ---- 04 and 07
abbrev pub reader_with_query : Reader → Reader
reader_with_query r =
    record {
      line = r.line;
      held = r.held;
      single = r.single;
      going = r.going;
      nodes = r.nodes;
      arcs = r.arcs;
      arcs_read = r.arcs_read;
      nodes_read = r.nodes_read;
      verdict = r.verdict;
      asked = true;
    }

pub query_taken : (r next : Reader) (l : Lists) (printed room after : List ℕ) (written : ℕ) → next ≡ next_reader r → Kept r l → Placed printed room after written
    → Stepped (taken (file_of r l) (with_query (told_by r l)) printed) (record { reader = reader_with_query next; written = written }) l l room after
unfolding taken file_of told_by next_reader own_verdict index_kept
query_taken r next l printed room after written e k p =
    let c : Counted r = k.counted in
    rw e
    (record {
      file_is = refl;
      beyond = beyond_same _ l;
      index_is = sym k.indexed;
      room_is = p;
      kept =
          record {
            counted =
                record {
                  arcs_within = omega arith;
                  few_arcs = omega arith;
                  nodes_within = omega arith;
                  few_nodes = omega arith;
                  size_first = c.size_first;
                  arcs_first = c.arcs_first;
                  held_within_lem = omega arith;
                };
            roomy = k.roomy;
            judged = k.judged;
            indexed = k.indexed;
          };
    })

-- ---- bytes of a line
-- the line is so many bytes longer
abbrev pub holding_all : File → List ℕ → File
holding_all f bytes = record { told = f.told; line = f.line; held = f.held ++ bytes; single = f.single; going = f.going }

module _ (r : Reader) (n : ℕ) (bytes line line' tails heads weights : List ℕ) (ix : Index) (f k : List ℤ) (kept : Kept r (lists line tails heads weights ix f k)) (short : r.held + n ≤ most_digits)
    (grown : Grown line line' r.held n bytes) where
  pub grown_file : file_of (holding_more r n) (lists line' tails heads weights ix f k) ≡ holding_all (file_of r (lists line tails heads weights ix f k)) bytes
  unfolding file_of told_by
  grown_file = rw grown.front

  pub grown_beyond : Beyond (holding_more r n) (lists line tails heads weights ix f k) (lists line' tails heads weights ix f k)
  grown_beyond = record { line = grown.back; tails = refl; heads = refl; weights = refl; forward = refl; backward = refl }

  pub grown_kept : Kept (holding_more r n) (lists line' tails heads weights ix f k)
  unfolding told_by own_verdict
  grown_kept =
      let c : Counted r = kept.counted in
      let y : Roomy (lists line tails heads weights ix f k) = kept.roomy in
      record {
        counted =
            record {
              arcs_within = omega arith;
              few_arcs = omega arith;
              nodes_within = omega arith;
              few_nodes = omega arith;
              size_first = c.size_first;
              arcs_first = c.arcs_first;
              held_within_lem = short;
            };
        roomy =
            record {
              for_line = omega (arith, grown.size, y.for_line);
              for_tails = y.for_tails;
              for_heads = y.for_heads;
              for_weights = y.for_weights;
              for_index = y.for_index;
              for_forward = y.for_forward;
              for_backward = y.for_backward;
            };
        judged = kept.judged;
        indexed = kept.indexed;
      }

pub byte_held : (r : Reader) (b : ℕ) (line line' tails heads weights : List ℕ) (ix : Index) (f k : List ℤ) (room : List ℕ)
    → Kept r (lists line tails heads weights ix f k)
    → r.held < most_digits
    → Grown line line' r.held 1 (b ∷ [])
    → Stepped (step (holding (file_of r (lists line tails heads weights ix f k)) b) []) (record { reader = holding_more r 1; written = 0 }) (lists line tails heads weights ix f k) (lists line' tails heads weights ix f k) room room
unfolding file_of
byte_held r b line line' tails heads weights ix f k room kept short grown =
    record {
      file_is = grown_file r 1 (b ∷ []) line line' tails heads weights ix f k kept (omega arith) grown;
      beyond = grown_beyond r 1 (b ∷ []) line line' tails heads weights ix f k kept (omega arith) grown;
      index_is = sym kept.indexed;
      room_is = nothing_placed room;
      kept = grown_kept r 1 (b ∷ []) line line' tails heads weights ix f k kept (omega arith) grown;
    }

-- ---- frames that are not taken where their kind is owed
module _ (r : Reader) (l : Lists) (kept : Kept r l) where
  -- a frame that adds more arcs than are owed
  pub too_many_arcs : (g : Option Frame) → r.arcs - r.arcs_read < length (added_arcs g) → wrong (file_of r l) g ≡ take_arcs (file_of r l) g
  unfolding take_arcs file_of told_by
  too_many_arcs g h =
      let any : 0 < length (added_arcs g) = omega arith in
      let over : r.arcs - length (told_by r l).tails < length (added_arcs g) = omega (arith, count_tails r l kept) in
      rw (lt-ltb _ _ any, lt-leb _ _ over)

  -- the potentials of another node than the next
  pub other_node : (v : ℕ) (h k : ℤ) → (v ≡ r.nodes_read → ⊥) → wrong (file_of r l) (Some (Potentials v h k)) ≡ take_potentials (file_of r l) (Some (Potentials v h k))
  unfolding take_potentials file_of
  other_node v h k differs =
      let its : v ≡ length (told_by r l).forward → ⊥ = λ e. differs (e ∙ count_forward r l kept) in
      rw (ne_eqb _ _ its)
