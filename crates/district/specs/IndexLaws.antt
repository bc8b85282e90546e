-- The index that a reader keeps: until all potentials are read its lists are as lent, with the last potentials of a network that is
-- accepted it is built, and from then on it is left alone, so that a query finds there what it asks for. Assumes nothing.
use Rattle.std.proofs.lemmas.Bool.{ne_eqb, lt-ltb, le-ltb, lt-leb}
use Rattle.std.specs.Prelude.{◌≡◌, refl, Bool, true, false, cond, ◌||◌, List, ◌++◌, ℕ, ◌≤◌, ◌<◌, ℤ, length, take, Ok, Err}
use Rattle.std.specs.Result.{is_err}
use Rattle.std.proofs.Common.{sym, ◌∙◌, arith}
use Rattle.std.proofs.Math.Path.{ap}
use Rattle.network.specs.Verdict.{Verdict}
use Rattle.network.specs.CaseSplit.{by_lt, true≢false}
use Rattle.network.specs.Network.{Side, start, end, Network, arc_count, most_nodes, most_arcs}
use Rattle.network.specs.Refusal.{first_refusal, list_rows, map_rows, network_verdict, arcs_rows}
use Rattle.network.specs.RefusalLaws.{rows_accepted}
use Rattle.network.specs.FrontLaws.{front_twice}
use Rattle.index.specs.Index.{OneWay, Index, build_of, built_way, built_on, wrong_index, short_way, short_index}
use Rattle.index.specs.Table.{build_rows, build_verdict}
use Rattle.index.specs.Kept.{IndexLeft, builds, BuildKept}
use Rattle.index.specs.HeldLaws.{built_right, arcs_as_long, begins_as_long}
use Rattle.district.specs.declared.Reader.{Reader}
use Rattle.district.specs.File.{Told, size_owed, potentials_owed}
use Rattle.district.specs.Reader.{Lists, told_by, own_verdict, network_told, network_read, built_under, index_kept, RoomyIndex}
use Rattle.district.specs.Inner.{AllRead, Indexable, index_by}
use Rattle.district.specs.ReaderLaws.{with_all, as_roomy}

-- ---- an index that is built
-- where it is built already, building it changes nothing
way_twice : (s : Side) (g : Network) (w : OneWay) → built_way s g (built_way s g w) ≡ built_way s g w
unfolding built_way
way_twice s g w = λ i. record { arcs = front_twice (build_of s g).arcs w.arcs i; begins = front_twice (build_of s g).begins w.begins i }

built_twice : (g : Network) (ix : Index) → built_on g (built_on g ix) ≡ built_on g ix
unfolding built_on
built_twice g ix = λ i. record { out = way_twice start g ix.out i; into = way_twice end g ix.into i }

-- lists with room for the most entries are long enough for any network
module _ (g : Network) (ix : Index) (few : g.nodes ≤ most_nodes) (fewer : arc_count g ≤ most_arcs) (room : RoomyIndex ix) where
  pub index_long : short_index g ix ≡ false
  unfolding short_index short_way
  index_long =
      rw (
        le-ltb (length ix.out.arcs) (arc_count g) (omega (arith, room.for_out_arcs)),
        lt-leb (length ix.out.begins) g.nodes (omega (arith, room.for_out_begins)),
        le-ltb (length ix.into.arcs) (arc_count g) (omega (arith, room.for_in_arcs)),
        lt-leb (length ix.into.begins) g.nodes (omega (arith, room.for_in_begins)),
      )

  -- so the index of an accepted network can be built there
  pub can_be_built : (h k : List ℤ) → network_verdict g h k ≡ Ok tt → build_verdict g ix ≡ Ok tt
  unfolding network_verdict list_rows map_rows build_verdict build_rows arcs_rows first_refusal
  can_be_built h k e =
      let row = rows_accepted (list_rows g h k ++ map_rows g h k) e in
      rw (row 0, row 1, index_long, row 3)

-- ---- the index that is kept
-- potentials are still owed
pub index_waits : (t : Told) (ix : Index) → length t.forward < t.nodes → index_kept t ix ≡ ix
unfolding index_kept
index_waits t ix owed = rw (ne_eqb t.nodes 0 (λ e. omega arith), lt-ltb _ _ owed)

under_twice : (v : Verdict) (g : Network) (ix : Index) → built_under v g (built_under v g ix) ≡ built_under v g ix
under_twice (Ok _) g ix = built_twice g ix
under_twice (Err c) g ix = refl

index_twice : (t : Told) (ix : Index) → index_kept t (index_kept t ix) ≡ index_kept t ix
unfolding index_kept
index_twice t ix = go (size_owed t || potentials_owed t)
  where
    v : Verdict
    v = network_verdict (network_told t) t.forward t.backward

    go : (b : Bool) → cond b (cond b ix (built_under v (network_told t) ix)) (built_under v (network_told t) (cond b ix (built_under v (network_told t) ix)))
        ≡ cond b ix (built_under v (network_told t) ix)
    go true = refl
    go false = under_twice v (network_told t) ix

-- what is kept is kept from then on
pub index_stays : (t : Told) (ix ix' : Index) → ix' ≡ index_kept t ix → index_kept t ix' ≡ ix'
index_stays t ix ix' e = ap (index_kept t) e ∙ (index_twice t ix ∙ sym e)

-- a verdict that is no refusal accepts
not_refused : (v : Verdict) → is_err v ≡ false → v ≡ Ok tt
not_refused (Ok _) h = refl
not_refused (Err c) h = absurd (true≢false refl h)

-- ---- the same by the reader's counts
module _ (r : Reader) (tails heads weights : List ℕ) (ix : Index) where
  -- potentials are still owed, or the network is not accepted: nothing is built
  pub index_not_yet : r.nodes_read < r.nodes → ix ≡ index_by r tails heads weights ix
  unfolding index_by
  index_not_yet owed = rw (lt-ltb _ _ owed)

  pub index_of_refused : r.nodes ≤ r.nodes_read → is_err r.verdict ≡ true → ix ≡ index_by r tails heads weights ix
  unfolding index_by
  index_of_refused each refused = rw (le-ltb _ _ each) (go r.verdict refused)
    where
      go : (v : Verdict) → is_err v ≡ true → ix ≡ built_under v (network_read r tails heads weights) ix
      go (Ok _) h = absurd (true≢false h refl)
      go (Err c) h = refl

  -- else what a build leaves
  pub index_built : {after : Index} {v : Verdict} → Indexable r tails heads weights ix → r.nodes ≤ r.nodes_read → is_err r.verdict ≡ false
      → BuildKept (network_read r tails heads weights) ix after v → after ≡ index_by r tails heads weights ix
  unfolding index_by builds
  index_built {after} can each passed kept =
      let accepted : r.verdict ≡ Ok tt = not_refused r.verdict passed in
      let leaves : after ≡ (builds (network_read r tails heads weights) ix).index = ap (λ (x : IndexLeft). x.index) kept.leaves in
      rw (le-ltb _ _ each, accepted) (leaves ∙ rw (can.sound each accepted))

  -- which leaves lists that have as much room
  pub still_roomy : Indexable r tails heads weights ix → RoomyIndex ix → RoomyIndex (index_by r tails heads weights ix)
  unfolding index_by built_on
  still_roomy can room =
      by_lt r.nodes_read r.nodes
      (λ owed. rw (lt-ltb _ _ owed) room)
      (λ each. rw (le-ltb _ _ each) (go each r.verdict refl))
    where
      g : Network
      g = network_read r tails heads weights

      go : r.nodes ≤ r.nodes_read → (v : Verdict) → r.verdict ≡ v → RoomyIndex (built_under v g ix)
      go each (Err c) e = room
      go each (Ok _) e =
          let accepted = can.sound each e in
          as_roomy room
          (record {
            out_arcs = arcs_as_long g ix accepted start;
            out_begins = begins_as_long g ix accepted start;
            in_arcs = arcs_as_long g ix accepted end;
            in_begins = begins_as_long g ix accepted end;
          })

module _ (r : Reader) (l : Lists) (counted : length (take r.nodes_read l.forward) ≡ r.nodes_read)
    (judged : r.verdict ≡ own_verdict r l.tails l.heads l.weights l.forward l.backward) where
  -- with all potentials read, it is by the verdict that the reader carries
  index_whole : (ix : Index) → AllRead r → index_kept (told_by r l) ix ≡ built_under r.verdict (network_read r l.tails l.heads l.weights) ix
  unfolding index_kept told_by
  index_whole ix all =
      let own = judged ∙ with_all r l.tails l.heads l.weights l.forward l.backward all in
      rw (ne_eqb r.nodes 0 (λ e. omega (arith, all.some)), counted, le-ltb _ _ all.each, own)

  -- what the reader's counts say of it is what the file says
  pub index_by_lem : (ix : Index) → 0 < r.nodes → index_by r l.tails l.heads l.weights ix ≡ index_kept (told_by r l) ix
  unfolding index_by told_by
  index_by_lem ix some =
      by_lt r.nodes_read r.nodes
      (λ owed. rw (lt-ltb _ _ owed) (sym (index_waits (told_by r l) ix (omega (arith, counted)))))
      (λ each. rw (le-ltb _ _ each) (sym (index_whole ix (record { some = some; each = each }))))

  -- a query on an accepted network finds the index that its arcs build
  pub kept_right : index_kept (told_by r l) l.index ≡ l.index → AllRead r → r.verdict ≡ Ok tt → wrong_index (network_read r l.tails l.heads l.weights) l.index ≡ false
  kept_right kept all accepted =
      let g = network_read r l.tails l.heads l.weights in
      let built : built_on g l.index ≡ l.index = sym (ap (λ v. built_under v g l.index) accepted) ∙ (sym (index_whole l.index all) ∙ kept) in
      sym (ap (wrong_index g) built) ∙ built_right g l.index
