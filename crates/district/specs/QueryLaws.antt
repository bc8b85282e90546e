-- What the code prints for a query is what the definition says: the path that the search leaves at the front of its list is the
-- path of the answer, and a list of 255 entries takes a line's pattern whole. Assumes nothing.
use Rattle.std.specs.Prelude.{◌≡◌, true, false, ◌&&◌, ℤ, length, take, drop, Ok, Err, None, Some, unwrap_or, List, [], ◌∷◌, ◌++◌, ℕ, ◌≤◌, ◌<◌}
use Rattle.std.proofs.Math.Path.{refl, sym, ap}
use Rattle.std.proofs.Common.{subst, ◌∙◌, le_refl, arith, take_at, take_all, length-take-le, eq-eqb, ne_eqb, le-ltb}
use Rattle.network.specs.declared.Answer.{Answer}
use Rattle.network.specs.declared.Answer.TheVariants.{Route, Refused, Provisional}
use Rattle.network.specs.Cap.{Cap}
use Rattle.network.specs.declared.Cause.{Cause}
use Rattle.network.specs.Verdict.{Verdict}
use Rattle.network.specs.Network.{Network, most_nodes, most_arcs}
use Rattle.network.specs.Query.{Query, query}
use Rattle.network.specs.Refusal.{first_refusal, bad_node_count, bad_arc_lists, bad_potential_lists, list_rows, list_verdict, trip_verdict, map_verdict, query_verdict}
use Rattle.network.specs.RefusalLaws.{rows_accepted, query_of_sound_lists, network_of_sound_lists}
use Rattle.nba.specs.State.{State, present}
use Rattle.nba.specs.Search.{state_at}
use Rattle.nba.specs.Result.{path_of, figures_in, excess, found_at, answer_to_at, turns_given}
use Rattle.network.specs.Front.{at_front}
use Rattle.index.specs.Index.{Index, wrong_index}
use Rattle.index.specs.Table.{indexed_verdict}
use Rattle.index.specs.IndexedLaws.{indexed_same, accepted_plain}
use Rattle.search.specs.Promise.{LentLists, shown_path, lists_at, Left, left, search_leaves_at}
use Rattle.frames.specs.Frame.{pattern_of}
use Rattle.frames.specs.PatternLaws.{pattern_short}
use Rattle.frames.specs.declared.Frame.TheVariants.{Query as QueryFrame}
use Rattle.frames.specs.AnswerLines.{answer_line, path_line, answer_lines}
use Rattle.frames.specs.Room.{laid, Laid, Placed}
use Rattle.frames.specs.RoomLaws.{placed_laid}
use Rattle.district.specs.declared.Reader.{Reader}
use Rattle.district.specs.File.{work_room, query_lines, query_on, with_query, wrong, taken, take_query}
use Rattle.district.specs.Reader.{Lists as DistrictLists, told_by, file_of, network_read, Counted, Roomy, Kept}
use Rattle.district.specs.Inner.{AllRead, Known}
use Rattle.nba.specs.Why.ReadLaws.{by_found}
use Rattle.district.specs.CappedLaws.{capped_lines}
use Rattle.district.specs.ReaderLaws.{with_all}
use Rattle.district.specs.IndexLaws.{index_long, kept_right}

module _ (q : Query) (cap : ℕ) where
  -- where there is a best length, the path is at the front of the list that the search leaves
  path_in_front : (old : List ℕ) → present (state_at q cap).best ≡ true
      → take (length (path_of q (state_at q cap))) (at_front (shown_path q (state_at q cap)) old) ≡ take (length (path_of q (state_at q cap))) (path_of q (state_at q cap))
  unfolding at_front shown_path
  path_in_front old here =
      let path : List ℕ = path_of q (state_at q cap) in
      rw here (take_at path (drop (length path) old) (length path) refl ∙ sym (take_all (length path) path (le_refl (length path))))

  -- so the lines of what it found, from that list, are those from the path
  found_lines : (old : List ℕ) → answer_lines (found_at q cap) (at_front (shown_path q (state_at q cap)) old) ≡ answer_lines (found_at q cap) (path_of q (state_at q cap))
  found_lines old =
      let n : ℕ = length (path_of q (state_at q cap)) in
      let st : State = state_at q cap in
      by_found q cap (λ (a : Answer). answer_lines a (at_front (shown_path q st) old) ≡ answer_lines a (path_of q st))
      (λ t here. ap (λ (p : List ℕ). answer_line (Route st.best n (figures_in st.states)) ++ path_line p) (path_in_front old here))
      (λ t here. ap (λ (p : List ℕ). answer_line (Provisional st.best (excess q st) n (figures_in st.states)) ++ path_line p) (path_in_front old here))
      (λ t h. refl)
      (λ t h. refl)

  searched_lines : (l : LentLists) → answer_lines (found_at q cap) (lists_at q cap l).path ≡ answer_lines (found_at q cap) (path_of q (state_at q cap))
  unfolding lists_at
  searched_lines l = found_lines l.path

  -- what the search of an accepted query leaves is printed as the definition says
  pub left_lines : (ix : Index) (l : LentLists) (a : Answer) (after : LentLists) → indexed_verdict q ix work_room ≡ Ok tt → left a after ≡ search_leaves_at q cap l → answer_lines a after.path ≡ query_lines (Some cap) q
  unfolding query_lines answer_to_at
  left_lines ix l a after e h =
      let x : a ≡ found_at q cap = ap (λ (y : Left). y.answer) h in
      let p : after.path ≡ (lists_at q cap l).path = ap (λ (y : Left). y.lists.path) h in
      rw (accepted_plain q ix work_room e, x, p) (searched_lines l)

  -- a refused query prints its refusal
  pub refused_lines : (c : Cause) → query_verdict q work_room ≡ Err c → answer_lines (Refused c) [] ≡ query_lines (Some cap) q
  unfolding query_lines answer_to_at
  refused_lines c e = rw e

-- a query prints what it prints with the turns that it gives: as many as its cap says, and without one as many as there are nodes
given_turns : (c : Cap) (q : Query) → unwrap_or c q.network.nodes ≡ turns_given c q
given_turns None q = refl
given_turns (Some n) q = refl

pub given_lines : (c : Cap) (q : Query) → query_lines (Some (unwrap_or c q.network.nodes)) q ≡ query_lines c q
given_lines c q = ap (λ (n : ℕ). query_lines (Some n) q) (given_turns c q) ∙ sym (capped_lines c q)

-- ---- the verdict on a query, from the trip's and the network's own
pub verdict_parts : {own : Verdict} {g : Network} {ix : Index} {h k : List ℤ} → Known own g ix h k → (s e : ℕ) (p : List ℕ)
    → first_refusal (trip_verdict g.nodes s e p work_room ∷ own ∷ []) ≡ query_verdict (query g h k s e p) work_room
verdict_parts {own} {g} {ix} {h} {k} known s e p =
    let map : own ≡ map_verdict g h k = known.own_is ∙ network_of_sound_lists g h k known.lists_sound in
    rw map (sym (query_of_sound_lists (query g h k s e p) work_room known.lists_sound))

-- an accepted one is accepted over the index too: its network is accepted, so the index was built
pub query_by_parts : {own : Verdict} {g : Network} {ix : Index} {h k : List ℤ} → Known own g ix h k → (s e : ℕ) (p : List ℕ)
    → first_refusal (trip_verdict g.nodes s e p work_room ∷ own ∷ []) ≡ Ok tt → indexed_verdict (query g h k s e p) ix work_room ≡ Ok tt
query_by_parts {own} {g} {ix} {h} {k} known s e p accepted =
    let right : wrong_index g ix ≡ false = known.index_right (rows_accepted (trip_verdict g.nodes s e p work_room ∷ own ∷ []) accepted 1) in
    indexed_same (query g h k s e p) ix work_room known.index_long right ∙ (sym (verdict_parts known s e p) ∙ accepted)

-- lists as long as they are to be are sound
lists_accepted : (g : Network) (h k : List ℤ) → 0 < g.nodes → g.nodes ≤ most_nodes → length g.heads ≡ length g.tails → length g.weights ≡ length g.tails
    → length g.tails ≤ most_arcs → length h ≡ g.nodes → length k ≡ g.nodes → list_verdict g h k ≡ Ok tt
unfolding list_verdict list_rows first_refusal bad_node_count bad_arc_lists bad_potential_lists
lists_accepted g h k some few heads weights fewer forward backward =
    rw (ne_eqb g.nodes 0 (λ e. omega arith), le-ltb _ _ few, eq-eqb _ _ heads, eq-eqb _ _ weights, le-ltb _ _ fewer, eq-eqb _ _ forward, eq-eqb _ _ backward)

-- a reader that has read its network carries its own verdict
pub known_by : (r : Reader) (l : DistrictLists) → Kept r l → AllRead r
    → Known r.verdict (network_read r l.tails l.heads l.weights) l.index (take r.nodes_read l.forward) (take r.nodes_read l.backward)
known_by r l kept all =
    let c : Counted r = kept.counted in
    let y : Roomy l = kept.roomy in
    let tails : length (take r.arcs_read l.tails) ≡ r.arcs_read = length-take-le _ _ (omega arith) in
    let heads : length (take r.arcs_read l.heads) ≡ r.arcs_read = length-take-le _ _ (omega arith) in
    let weights : length (take r.arcs_read l.weights) ≡ r.arcs_read = length-take-le _ _ (omega arith) in
    let forward : length (take r.nodes_read l.forward) ≡ r.nodes_read = length-take-le _ _ (omega arith) in
    let backward : length (take r.nodes_read l.backward) ≡ r.nodes_read = length-take-le _ _ (omega arith) in
    record {
      lists_sound = lists_accepted _ _ _ all.some c.few_nodes (heads ∙ sym tails) (weights ∙ sym tails) (omega arith) (omega (arith, all.each)) (omega (arith, all.each));
      own_is = kept.judged ∙ with_all r _ _ _ _ _ all;
      index_long = index_long _ l.index c.few_nodes (omega arith) y.for_index;
      index_right = kept_right r l forward kept.judged kept.indexed all;
    }

-- a line's pattern has at most 255 entries, so a list of 255 takes it whole
pub pattern_whole : (s entries after : List ℕ) (n : ℕ) → length entries ≡ 255 → Placed (pattern_of s) entries after n → Laid (pattern_of s) entries after n
pattern_whole s entries after n room p = placed_laid (pattern_of s) entries after n (omega (arith, pattern_short s)) p

-- the first entries of a list at whose front a text is laid are the text
pub laid_front : (text room after : List ℕ) (n : ℕ) → Laid text room after n → take n after ≡ text
unfolding laid
laid_front text room after n h = rw h.room_is (take_at text (drop (length text) room) n (sym h.count_is))

pub placed_as : {text text' room after : List ℕ} {n : ℕ} → text ≡ text' → Placed text room after n → Placed text' room after n
placed_as {text} {text'} {room} {after} {n} e h = subst (λ (t : List ℕ). Placed t room after n) e h

-- a query that may be asked, and one too many
module _ (r : Reader) (l : DistrictLists) (s e : ℕ) (c : Cap) (n : ℕ) where
  pub one_too_many : (r.single && r.asked) ≡ true → wrong (file_of r l) (Some (QueryFrame s e c n)) ≡ take_query (file_of r l) (Some (QueryFrame s e c n))
  unfolding take_query file_of told_by
  one_too_many h = rw h

  pub may_be_asked : (r.single && r.asked) ≡ false
      → taken (file_of r l) (with_query (told_by r l)) (query_lines c (query_on (told_by r l) s e (pattern_of (take r.held l.line))))
      ≡ take_query (file_of r l) (Some (QueryFrame s e c n))
  unfolding take_query file_of told_by
  may_be_asked h = rw h
