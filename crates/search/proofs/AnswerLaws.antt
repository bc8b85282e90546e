-- What is read off the tables of a search at a cap is the answer that `nba` defines; and a query whose lists are accepted can be
-- searched on their first entries. Assumes nothing.
use Rattle.std.proofs.Common.{◌≡◌, refl, Ok, Err, sym, ◌∙◌, List, ◌++◌, ℕ, ◌≤◌, ◌<◌, length, drop, arith, length-take-le}
use Rattle.network.specs.declared.Answer.{Answer}
use Rattle.network.specs.declared.Answer.TheVariants.{Refused}
use Rattle.network.specs.declared.Cause.{Cause}
use Rattle.network.specs.declared.Lent.{Lent}
use Rattle.network.specs.CaseSplit.{by_bool}
use Rattle.network.specs.Given.{Enough, Sound}
use Rattle.network.specs.Network.{start, end}
use Rattle.network.specs.Query.{Query}
use Rattle.network.specs.SoundLaws.{accepted_enough}
use Rattle.network.specs.Verdict.{Verdict}
use Rattle.nba.specs.State.{missing, present}
use Rattle.nba.specs.Search.{state_at}
use Rattle.nba.specs.Result.{path_of, answer_at, excess, unended_at, found_at}
use Rattle.nba.proofs.Why.TablesKept.{state_at_tabled}
use Rattle.nba.proofs.Why.Theorems.{path_fits_at}
use Rattle.network.specs.Front.{at_front}
use Rattle.index.specs.Index.{Index}
use Rattle.index.specs.IndexedLaws.{accepted_plain, accepted_right}
use Rattle.index.specs.Table.{indexed_verdict}
use Rattle.tables.specs.Tables.{Long, PathRoom}
use Rattle.tables.specs.TablesLaws.{nodes_by_entry}
use Rattle.cap.specs.Stop.{with_length, without_length}
use Rattle.run.specs.declared.Stop.{Stop}
use Rattle.run.specs.Run.{standing, Searchable, StoppedAt}
use Rattle.search.specs.CappedLaws.{refused_left, accepted_left, capped_kept}
use Rattle.search.specs.DemandLaws.{indexed_sound}
use Rattle.search.specs.Demands.{CappedKept}
use Rattle.search.specs.Promise.{LentLists, lent_lists, lengths, shown_path, lists_at, left, search_leaves_at}
use Rattle.search.specs.Answered.{answer_read, path_read, ToBeAnswered, Filled, SearchedInPlace}

module _ {q : Query} (sound : Sound q) {cap : ℕ} {sl sn el en states : List ℕ} {r : Stop} (t : StoppedAt q cap (standing sl sn el en states r.progress) r) where
  -- the lists have one entry a node, as the tables of the state at the cap
  long_at : Long q.network.nodes sl sn el en states
  long_at =
      let k = rw (sym t.here) at (state_at_tabled q cap) in
      record {
        labels_long = k.labels_long start;
        neighbours_long = k.neighbours_long start;
        theirs_long = k.labels_long end;
        beyond_long = k.neighbours_long end;
        states_long = k.states_long;
      }

  -- the answer that is read off is the search's
  answer_read_lem : answer_read q sn en states r ≡ found_at q cap
  unfolding answer_read found_at answer_at unended_at with_length without_length path_of excess
  answer_read_lem =
      by_bool (present r.progress.best.length)
      (λ h. rw (t.whether_over, sym t.here, h))
      (λ h. rw (t.whether_over, sym t.here, h))

  -- and so is the path
  path_read_lem : path_read q sn en r ≡ shown_path q (state_at q cap)
  unfolding path_read shown_path path_of
  path_read_lem = rw (sym t.here)

  -- a path has room: it is of nodes, and no more than there are
  path_room : {path : List ℕ} → q.network.nodes ≤ length path → r.progress.best.length < missing → PathRoom path sn en q.start q.end r.progress.best.node
  unfolding path_of
  path_room h here =
      let fit = path_fits_at sound cap (rw (sym t.here) here) in
      record {
        as_many = long_at.beyond_long ∙ sym long_at.neighbours_long;
        few = omega (arith, long_at.neighbours_long, sound.sized.few_nodes);
        room = omega (arith, long_at.neighbours_long);
        short = rw long_at.neighbours_long (rw (sym t.here) at fit.few);
        nodes = rw long_at.neighbours_long (nodes_by_entry q.network.nodes _ (rw (sym t.here) at fit.inside));
      }

  -- the lists are the tables of the state at the cap
  filled_at : Filled (state_at q cap) sl sn el en states
  filled_at = rw (sym t.here) (record { start_labels_there = refl; start_neighbours_there = refl; end_labels_there = refl; end_neighbours_there = refl; states = refl })

  -- lists that hold the same can be read off, and what is answered is the search, in its place
  pub readable : {sn' en' path : List ℕ} → sn' ≡ sn → en' ≡ en → q.network.nodes ≤ length path → ToBeAnswered q sn' en' states path r
  readable a b h = rw (a, b) (record {
    few = omega (arith, long_at.states_long, sound.sized.few_nodes);
    end_in = omega (arith, sound.source_in end, sound.sized.forward_long);
    start_in = omega (arith, sound.source_in start, sound.sized.backward_long);
    floors = t.floors;
    room = path_room h;
  })

  pub searched_lem : {sl' sn' el' en' old path : List ℕ} {a : Answer} → sl' ≡ sl → sn' ≡ sn → el' ≡ el → en' ≡ en → a ≡ answer_read q sn' en' states r → path ≡ at_front (path_read q sn' en' r) old
      → SearchedInPlace q cap old a (lent_lists sl' sn' el' en' states path)
  searched_lem a b c d e p = rw (a, b, c, d) (record {
    answer = rw (b, d) at e ∙ answer_read_lem;
    tables = filled_at;
    path_shown_lem = rw path_read_lem at (rw (b, d) at p);
  })

-- ---- the first entries of longer lists
-- the state at the cap before what stood beyond it is what the search leaves
pub cut_left : (q : Query) (cap : ℕ) (before : LentLists) {r : Answer} {after : LentLists} → SearchedInPlace q cap before.path r after → let n = q.network.nodes in
    left r (lent_lists (after.start_labels_there ++ drop n before.start_labels_there) (after.start_neighbours_there ++ drop n before.start_neighbours_there) (after.end_labels_there ++ drop n before.end_labels_there) (after.end_neighbours_there ++ drop n before.end_neighbours_there) (after.states ++ drop n before.states) after.path)
    ≡ search_leaves_at q cap before
unfolding lists_at at_front
cut_left q cap before h =
    let t = state_at_tabled q cap in
    let f = h.tables in
    rw (h.answer, f.start_labels_there, f.start_neighbours_there, f.end_labels_there, f.end_neighbours_there, f.states, h.path_shown_lem, t.labels_long start, t.neighbours_long start, t.labels_long end, t.neighbours_long end, t.states_long)

-- ---- what the verdict decides
-- a query that is accepted can be searched, and each lent list has room for an entry a node
module _ (q : Query) (ix : Index) (l : Lent) (v : indexed_verdict q ix l ≡ Ok tt) where
  pub searchable_if : Searchable q ix
  searchable_if = record { sound = indexed_sound q ix l v; right = accepted_right q ix l v }

  enough : Enough q.network.nodes l
  enough = accepted_enough q l (accepted_plain q ix l v)

  pub start_labels_if : q.network.nodes ≤ l.start_labels
  start_labels_if = enough.for_start_labels

  pub start_neighbours_if : q.network.nodes ≤ l.start_neighbours
  start_neighbours_if = enough.for_start_neighbours

  pub end_labels_if : q.network.nodes ≤ l.end_labels
  end_labels_if = enough.for_end_labels

  pub end_neighbours_if : q.network.nodes ≤ l.end_neighbours
  end_neighbours_if = enough.for_end_neighbours

  pub states_if : q.network.nodes ≤ l.states
  states_if = enough.for_states

  pub path_if : q.network.nodes ≤ l.path
  path_if = enough.for_path

-- so the first entries of a list, one a node, are as many as there are nodes
pub ruleset room_if = (start_labels_if, start_neighbours_if, end_labels_if, end_neighbours_if, states_if, path_if, length-take-le)

-- a refusal leaves the lists as they are
pub kept_refused : {q : Query} {ix : Index} (cap : ℕ) {l : LentLists} {c : Cause} {lent : Lent} {v : Verdict} → lent ≡ lengths l → v ≡ indexed_verdict q ix lent → v ≡ Err c
    → CappedKept q ix cap l l (Refused c)
kept_refused {q} {ix} cap {l} {c} long e v = capped_kept q ix cap l l (Refused c) (sym (refused_left q ix cap l (rw long at (sym e ∙ v))))

-- an accepted query leaves what its search leaves
pub kept_accepted : {q : Query} {ix : Index} {cap : ℕ} {before after : LentLists} {r : Answer} {lent : Lent} {v : Verdict} → lent ≡ lengths before → v ≡ indexed_verdict q ix lent → v ≡ Ok tt
    → left r after ≡ search_leaves_at q cap before → CappedKept q ix cap before after r
kept_accepted {q} {ix} {cap} {before} {after} {r} long e v f = capped_kept q ix cap before after r (f ∙ sym (accepted_left q ix cap before (rw long at (sym e ∙ v))))
