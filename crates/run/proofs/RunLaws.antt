-- A turn of one side, made on the side's own lists with its arcs turned its way, is the turn that `nba` defines. Proved once,
-- over the side. And where no more turns are made, the lists stand for the state at the cap. Assumes nothing.
use Rattle.std.specs.Prelude.{◌≡◌, ◌≢◌, refl, true, false, List, [], ◌∷◌, Option, ℕ, zero, suc, ◌+◌, ◌%◌, ◌^◌, ◌≤◌, ◌<◌, ℤ, pos, ◌+ℤ◌, length, get_or, replicate}
use Rattle.std.specs.Int.Signed.{mag}
use Rattle.std.proofs.Common.{sym, ap, ◌∙◌, arith, add-one}
use Rattle.std.proofs.lemmas.Bool.{eq-eqb, ne_eqb}
use Rattle.std.proofs.lemmas.List.{length-replicate}
use Rattle.network.specs.CaseSplit.{cases, twice}
use Rattle.network.specs.Given.{Sound}
use Rattle.network.specs.Network.{Side, start, end, other, Network, network, arc_count}
use Rattle.network.specs.Potential.{potential_at}
use Rattle.network.specs.Query.{Query, potentials, source, side_of_turn}
use Rattle.nba.specs.State.{missing, State, half, undecided, opened_by}
use Rattle.nba.specs.Search.{Chosen, none, node, least_below, candidate, rejected, Reach, floor_after, half_after, after_reach, reach_of, rejecting, ended, at_beginning, beginning_half, at_once, state_at}
use Rattle.nba.specs.Result.{over}
use Rattle.nba.specs.Why.ByMark.{look_by_mark, look_each_by_mark, opening_by_mark, takes_by_mark, turn_by_mark, after_turns_by_mark}
use Rattle.network.specs.Shift.{mag_add}
use Rattle.network.specs.SoundLaws.{range_fine}
use Rattle.nba.specs.Why.StateLaws.{both_sides, half_own, half_theirs}
use Rattle.nba.proofs.Why.LeastLaws.{LeastAt, Choice, no_node_lem, least_node, choice_is}
use Rattle.nba.specs.Why.MeasureLaws.{shiftable}
use Rattle.nba.specs.Why.Tabled.{Tabled}
use Rattle.nba.specs.Why.CodeLaws.{beginning_tabled, turn_by_mark_tabled, goes_on_by_mark, stays_ended_by_mark}
use Rattle.nba.proofs.Why.ByMarkLaws.{same_at}
use Rattle.nba.proofs.Why.EndLaws.{going_few}
use Rattle.steps.specs.declared.Candidate.{Candidate}
use Rattle.steps.specs.Steps.{meant}
use Rattle.queue.specs.Queue.{BegunQueue, next_in, first_labels}
use Rattle.queue.specs.QueueLaws.{queue_begins}
use Rattle.queue.specs.LeastLaws.{next_is_least}
use Rattle.turn.specs.declared.Progress.{Progress}
use Rattle.turn.specs.Turn.{Took, took, node_taken, best_in, Ahead, Openable, Matched, Queues}
use Rattle.cap.specs.declared.Course.{Course}
use Rattle.cap.specs.declared.Course.TheVariants.{Turn, Ended, UsedUp}
use Rattle.cap.specs.Stop.{course_of}
use Rattle.cap.specs.StopLaws.{Turning, turn_says, ended_says, used_up_says}
use Rattle.steps.specs.StepsLaws.{rejected_is_rejects}
use Rattle.index.specs.Index.{Index, way_of, is_built}
use Rattle.index.specs.IndexedLaws.{right_built}
use Rattle.index.specs.SidewaysLaws.{sideways, arcs_of_sideways, built_sideways}
use Rattle.tables.specs.Tables.{Long, FirstTables}
use Rattle.run.specs.Run.{standing, standing_of, KnowsNext, Floors, Searchable, swapped_of, turn_of, Foreseen, Taking, QueueRoom, Beginning, Begun, FirstProgress, TurnsMade, StoppedAt}

look_sideways : (s : Side) (g : Network) (theirs states : List ℕ) (u : ℕ) (arcs : List ℕ) (r : Reach)
    → look_each_by_mark start (sideways s g) theirs states u arcs r ≡ look_each_by_mark s g theirs states u arcs r
unfolding look_each_by_mark look_by_mark
look_sideways start g theirs states u arcs r = refl
look_sideways end g theirs states u [] r = refl
look_sideways end g theirs states u (a ∷ arcs) r = look_sideways end g theirs states u arcs (look_by_mark end g theirs states u a r)

-- what taking a node changes, of a state
abbrev took_of : Side → State → Took
took_of s st = record { reached = reach_of s st; states = st.states }

-- side s takes node u, on its own lists
abbrev pub taken_by : Query → Side → State → ℕ → Took
taken_by q s st u =
    node_taken (sideways s q.network) (potentials s q) (potentials (other s) q) (half (other s) st).labels u (source (other s) q)
    (half (other s) st).floor (opened_by s) (took_of s st)

abbrev pub after_took : Query → Side → State → Took → State
after_took q s st t = after_reach q s st t.states t.reached

-- the mark of a rejected node is the next number after that of an opened one
rejected_mark : (s : Side) → opened_by s + 1 ≡ suc (opened_by s)
rejected_mark start = refl
rejected_mark end = refl

-- a turn of `nba` is a node taken on the side's own lists
turn_is_taken : (q : Query) (s : Side) (st : State) (u : ℕ) (k : ℤ) → length q.network.heads ≡ arc_count q.network → candidate q s st ≡ node u k
    → turn_by_mark q s st ≡ after_took q s st (taken_by q s st u)
unfolding turn_by_mark node_taken rejecting opening_by_mark
turn_is_taken q s st u k e c =
    rw (c, rejected_mark s, arcs_of_sideways s q.network u e, look_sideways s q.network, ← rejected_is_rejects q s st u)
    (twice (λ a b. a ≡ after_took q s st b) (rejected q s st u) (λ h. refl) (λ h. refl))

-- ---- what `side_turn` leaves is the state after the turn
module _ (q : Query) (labels neighbours theirs beyond states labels' neighbours' states' : List ℕ) (p r : Progress) (u : ℕ) where
  taken_here : (s : Side)
      → taken_by q s (standing_of s labels neighbours theirs beyond states p) u
      ≡ node_taken (sideways s q.network) (potentials s q) (potentials (other s) q) theirs u (source (other s) q) p.beyond (opened_by s) (took labels neighbours states (best_in p))
  taken_here start = refl
  taken_here end = refl

  settled : (s : Side) → floor_after p.floor (least_below labels' states' (potentials s q) q.network.nodes) ≡ r.floor → p.beyond ≡ r.beyond
      → after_took q s (standing_of s labels neighbours theirs beyond states p) (took labels' neighbours' states' (best_in r)) ≡ standing_of s labels' neighbours' theirs beyond states' r
  unfolding after_reach half_after
  settled start e f = rw (e, f)
  settled end e f = rw (e, f)

  own_candidate : (s : Side) → candidate q s (standing_of s labels neighbours theirs beyond states p) ≡ least_below labels states (potentials s q) q.network.nodes
  unfolding candidate
  own_candidate start = refl
  own_candidate end = refl

  other_candidate : (s : Side) → candidate q (other s) (standing_of s labels neighbours theirs beyond states p) ≡ least_below theirs states (potentials (other s) q) q.network.nodes
  unfolding candidate
  other_candidate start = refl
  other_candidate end = refl

pub record AfterTurn (q : Query) (s : Side) (before after : State) (r : Progress) : Type 0 where
  pub turned : after ≡ turn_by_mark q s before
  pub known : KnowsNext q s after r

-- the arcs turned the way of a side, with n nodes
abbrev pub sideways_of : Side → ℕ → Network → Network
sideways_of s n g = network n (sideways s g).tails (sideways s g).heads g.weights

same_sideways : (s : Side) (g : Network) → sideways_of s g.nodes g ≡ sideways s g
same_sideways start g = refl
same_sideways end g = refl

-- `before` is the progress as the side was handed it
pub side_turn_is : (q : Query) (s : Side) (labels neighbours theirs beyond states labels' neighbours' states' : List ℕ) (before p r : Progress) (u : ℕ) (k : ℤ)
    → Sound q
    → before ≡ p
    → length labels ≡ q.network.nodes
    → length states' ≡ q.network.nodes
    → candidate q s (standing_of s labels neighbours theirs beyond states p) ≡ node u k
    → took labels' neighbours' states' (best_in r) ≡ node_taken (sideways_of s (length labels) q.network) (potentials s q) (potentials (other s) q) theirs u (source (other s) q) before.beyond (opened_by s) (took labels neighbours states (best_in before))
    → Ahead labels' (potentials s q) theirs (potentials (other s) q) states' before r
    → AfterTurn q s (standing_of s labels neighbours theirs beyond states p) (standing_of s labels' neighbours' theirs beyond states' r) r
side_turn_is q s labels neighbours theirs beyond states labels' neighbours' states' before p r u k sound same labels_long long c t ahead =
    let st = standing_of s labels neighbours theirs beyond states p in
    let a = rw same at ahead in
    let f : floor_after p.floor (least_below labels' states' (potentials s q) q.network.nodes) ≡ r.floor = sym (a.floor ∙ ap (floor_after p.floor) (a.mine ∙ ap (least_below labels' states' (potentials s q)) long)) in
    record {
      turned =
          sym
          (turn_is_taken q s st u k sound.sized.heads_long c
          ∙ ap (after_took q s st) (taken_here q labels neighbours theirs beyond states labels' neighbours' states' p r u s ∙ sym (rw (same, labels_long, same_sideways s q.network) at t))
          ∙ settled q labels neighbours theirs beyond states labels' neighbours' states' p r u s f (sym a.beyond));
      known = record {
        mine = a.mine ∙ ap (least_below labels' states' (potentials s q)) long ∙ sym (own_candidate q labels' neighbours' theirs beyond states' labels' neighbours' states' r r u s);
        yours = a.yours ∙ ap (least_below theirs states' (potentials (other s) q)) long ∙ sym (other_candidate q labels' neighbours' theirs beyond states' labels' neighbours' states' r r u s);
      };
    }

-- ---- the potentials of a side: one for each node, of 32 bits
potentials_long : {q : Query} → Sound q → (s : Side) → length (potentials s q) ≡ q.network.nodes
potentials_long sound start = sound.sized.forward_long
potentials_long sound end = sound.sized.backward_long

potentials_small : {q : Query} → Sound q → (s : Side) (v : ℕ) → mag (potential_at (potentials s q) v) < 2 ^ 31
potentials_small sound s v = omega (arith, range_fine _ (sound.in_range s v))

-- ---- what a turn asks of the lists, over the side
module _ {q : Query} {ix : Index} (asked : Searchable q ix) {labels neighbours theirs beyond states : List ℕ} (long : Long q.network.nodes labels neighbours theirs beyond states) where
  abbrev sound : Sound q
  sound = asked.sound

  pub side_openable : (s : Side) (u : ℕ) → u < q.network.nodes
      → Openable (sideways s q.network).tails (sideways s q.network).heads q.network.weights (way_of s ix).arcs (way_of s ix).begins labels neighbours theirs states u
  side_openable s u h = record {
    few = omega (arith, sound.sized.few_nodes, long.labels_long);
    far_long = both_sides (λ t. length (sideways t q.network).heads ≡ length (sideways t q.network).tails) start sound.sized.heads_long (sym sound.sized.heads_long) s;
    weights_long = both_sides (λ t. length q.network.weights ≡ length (sideways t q.network).tails) start sound.sized.weights_long (sound.sized.weights_long ∙ sym sound.sized.heads_long) s;
    far_in = both_sides (λ t. (a : ℕ) → a < length (sideways t q.network).tails → get_or (sideways t q.network).heads a 0 < length labels) start
        (λ a i. rw long.labels_long (sound.ends_in end a i))
        (λ a i. rw long.labels_long (sound.ends_in start a (omega (arith, sound.sized.heads_long)))) s;
    built =
        rw long.labels_long (both_sides
        (λ t. is_built start (network q.network.nodes (sideways t q.network).tails (sideways t q.network).heads q.network.weights) (way_of t ix) ≡ true)
        start (right_built q.network ix asked.right start)
        (built_sideways end q.network ix.into sound.sized.heads_long ∙ right_built q.network ix asked.right end) s);
    neighbours_long = long.neighbours_long ∙ sym long.labels_long;
    theirs_long = long.theirs_long ∙ sym long.labels_long;
    states_long = long.states_long ∙ sym long.labels_long;
    node_in = rw long.labels_long h;
  }

  pub side_matched : (s : Side) → Matched (length states) labels (potentials s q) theirs (potentials (other s) q)
  side_matched s = record {
    few = rw long.states_long sound.sized.few_nodes;
    labels_long = long.labels_long ∙ sym long.states_long;
    own_long = potentials_long sound s ∙ sym long.states_long;
    own_small = potentials_small sound s;
    theirs_long = long.theirs_long ∙ sym long.states_long;
    other_long = potentials_long sound (other s) ∙ sym long.states_long;
    other_small = potentials_small sound (other s);
  }

-- ---- the node that a side takes
least_node_is : {labels states : List ℕ} {p : List ℤ} {n u : ℕ} {k : ℤ} {c : Chosen} → Choice labels states p n c → c ≡ node u k → LeastAt labels states p n u k
least_node_is {u} {k} (no_node_lem f) e = let z : ◌≡◌ {A = ℕ} 0 1 = cc in absurd (omega arith)
least_node_is {u} {k} (least_node {u = v} {k = j} a) e =
    let i : v ≡ u = cc in
    let l : j ≡ k = cc in
    rw (i, l) at a

pub taken_least : {q : Query} → Sound q → (s : Side) (st : State) {u : ℕ} {k : ℤ} → candidate q s st ≡ node u k
    → LeastAt (half s st).labels st.states (potentials s q) q.network.nodes u k
unfolding candidate
taken_least {q} sound s st e = least_node_is (choice_is (shiftable sound s) (half s st).labels st.states q.network.nodes) e

-- ---- the side that the pattern names
pub start_named : (p : List ℕ) (i : ℕ) → get_or p (i % length p) 0 ≡ 0 → side_of_turn p i ≡ start
unfolding side_of_turn
start_named p i e = rw (eq-eqb _ _ e)

pub end_named : (p : List ℕ) (i : ℕ) → (get_or p (i % length p) 0 ≡ 0 → ⊥) → side_of_turn p i ≡ end
unfolding side_of_turn
end_named p i e = rw (ne_eqb _ _ e)

-- the turn of the side that the pattern names is turn number i
pub turn_named : {q : Query} {s : Side} {before after : State} {r : Progress} (i : ℕ) → side_of_turn q.pattern i ≡ s → AfterTurn q s before after r → after ≡ turn_of q i before
turn_named i e a = rw e a.turned

-- what the end side knows, the start side knows turned round
pub known_swapped : {q : Query} {st : State} {r : Progress} → KnowsNext q end st r → KnowsNext q start st (swapped_of r)
known_swapped k = record { mine = k.yours; yours = k.mine }

-- the lists seen from the other side
pub long_swapped : {n : ℕ} {labels neighbours theirs beyond states : List ℕ} → Long n labels neighbours theirs beyond states → Long n theirs beyond labels neighbours states
long_swapped l = record {
  labels_long = l.theirs_long;
  neighbours_long = l.beyond_long;
  theirs_long = l.labels_long;
  beyond_long = l.neighbours_long;
  states_long = l.states_long;
}

-- the queues seen from the other side
pub queues_swapped : {labels theirs states own_queue other_queue : List ℕ} {own other : List ℤ} → Queues labels own theirs other states own_queue other_queue
    → Queues theirs other labels own states other_queue own_queue
queues_swapped s = record { mine = s.yours; yours = s.mine }

-- ---- floors are far within 64 bits
module _ {q : Query} (sound : Sound q) where
  key_small : (s : Side) (l u : ℕ) → l < missing → mag (pos l +ℤ potential_at (potentials s q) u) < 2 ^ 40
  key_small s l u h = omega (arith, mag_add (2 ^ 32) (2 ^ 31) (pos l) (potential_at (potentials s q) u) (omega arith) (potentials_small sound s u))

  floor_after_small : (s : Side) (old : ℤ) (labels states : List ℕ) → mag old < 2 ^ 40
      → mag (floor_after old (least_below labels states (potentials s q) q.network.nodes)) < 2 ^ 40
  floor_after_small s old labels states h = by (choice_is (shiftable sound s) labels states q.network.nodes)
    where
      by : {c : Chosen} → Choice labels states (potentials s q) q.network.nodes c → mag (floor_after old c) < 2 ^ 40
      by (no_node_lem f) = h
      by (least_node {u} a) = rw a.is_key (key_small s (get_or labels u missing) u a.here.labelled)

  -- both floors of a state
  pub record SmallFloors (st : State) : Type 0 where
    pub small : (s : Side) → mag (half s st).floor < 2 ^ 40

  after_reach_small : (s : Side) (st : State) (states : List ℕ) (r : Reach) → SmallFloors st → SmallFloors (after_reach q s st states r)
  unfolding after_reach half_after
  after_reach_small s st states r h = record {
    small = both_sides (λ t. mag (half t (after_reach q s st states r)).floor < 2 ^ 40) s
        (rw half_own (floor_after_small s (half s st).floor r.labels states (h.small s)))
        (rw half_theirs (h.small (other s)));
  }

  takes_small : (s : Side) (c : Chosen) (st : State) → SmallFloors st → SmallFloors (takes_by_mark q s c st)
  unfolding rejecting opening_by_mark
  takes_small s none st h = h
  takes_small s (node u k) st h = cases SmallFloors (rejected q s st u) (λ t. after_reach_small s st _ _ h) (λ t. after_reach_small s st _ _ h)

  pub floors_small : (i : ℕ) → SmallFloors (after_turns_by_mark q i)
  unfolding after_turns_by_mark turn_by_mark at_beginning beginning_half
  floors_small zero = record { small = both_sides (λ t. mag (half t (at_beginning q)).floor < 2 ^ 40) start (omega (arith, potentials_small sound start q.start)) (omega (arith, potentials_small sound end q.end)) }
  floors_small (suc i) = cases SmallFloors (ended q (after_turns_by_mark q i)) (λ h. floors_small i) (λ h. takes_small (side_of_turn q.pattern i) (candidate q (side_of_turn q.pattern i) (after_turns_by_mark q i)) (after_turns_by_mark q i) (floors_small i))

-- ---- a search under way
module _ {q : Query} (sound : Sound q) {i : ℕ} {st : State} {p : Progress} (way : TurnsMade q i st p) where
  -- the two floors of the progress are those of the state
  floors_of : p.floor ≡ (half start st).floor → p.beyond ≡ (half end st).floor → Floors p
  floors_of e f = record {
    floor = rw (e ∙ ap (λ s. (half start s).floor) way.here) ((floors_small sound i).small start);
    beyond = rw (f ∙ ap (λ s. (half end s).floor) way.here) ((floors_small sound i).small end);
  }

module _ {q : Query} (sound : Sound q) {i : ℕ} {st : State} {p : Progress} (way : TurnsMade q i st p) (cap : ℕ)
    {course : Course} (told : course ≡ course_of (meant p.own) (meant p.other) i cap) where
  -- step 2, of the state
  courses : {c : Course} → course ≡ c → course_of (candidate q start st) (candidate q end st) i cap ≡ c
  courses e = sym (told ∙ rw (way.foreseen.mine, way.foreseen.yours)) ∙ e

  module _ {a b : ℕ} (c : course ≡ Turn a b) where
    turning : Turning (candidate q start st) (candidate q end st) i cap a b
    turning = turn_says (candidate q start st) (candidate q end st) i cap (courses c)

    -- both sides have a node to take
    pub both_take : p.floor ≡ (half start st).floor → p.beyond ≡ (half end st).floor → Taking q st a b p
    both_take e f = record {
      start_key = turning.own_key;
      start_takes = turning.own_takes;
      end_key = turning.other_key;
      end_takes = turning.other_takes;
      floors = floors_of sound way e f;
    }

    going : ended q (after_turns_by_mark q i) ≡ false
    unfolding ended
    going = rw (sym way.here) (rw (turning.own_takes, turning.other_takes) refl)

    -- so there are turns left
    pub turns_left : i < q.network.nodes
    turns_left = going_few sound i going

    -- and within the cap
    within_cap : i < cap
    within_cap = turning.turns_left

    -- and the state after the next one is the next
    underway_next : {after : State} {r : Progress} → after ≡ turn_of q i st → Foreseen q after r → TurnsMade q (i + 1) after r
    underway_next t f = record { here = t ∙ rw way.here (sym (rw (add-one i) (goes_on_by_mark q i going))); foreseen = f }

  -- a side has none: the search has ended, and this is its state at every later cap
  ended_here : course ≡ Ended → ended q st ≡ true
  unfolding ended
  ended_here e = ended_says (candidate q start st) (candidate q end st) i cap (courses e)

  stopped_ended : q.start ≢ q.end → i ≤ cap → course ≡ Ended → (st ≡ state_at q cap) × (true ≡ over q (state_at q cap))
  stopped_ended d h e =
      let o = ended_here e in
      let s : st ≡ state_at q cap = way.here ∙ sym (same_at sound d cap ∙ stays_ended_by_mark q i cap (ap (ended q) (sym way.here) ∙ o) h) in
      (s, sym (rw (sym s) (rw (ne_eqb q.start q.end d) o)))

  -- the turns are used up: this is the state at the cap, and the search has not ended
  stopped_used_up : q.start ≢ q.end → i ≤ cap → course ≡ UsedUp → (st ≡ state_at q cap) × (false ≡ over q (state_at q cap))
  unfolding ended
  stopped_used_up d h e =
      let o = used_up_says (candidate q start st) (candidate q end st) i cap (courses e) in
      let n : i ≡ cap = omega (arith, o.no_turns) in
      let s : st ≡ state_at q cap = way.here ∙ ap (after_turns_by_mark q) n ∙ sym (same_at sound d cap) in
      (s, sym (rw (sym s) (rw (ne_eqb q.start q.end d) o.both)))

-- ---- a side at the beginning
pub side_beginning : {q : Query} → Sound q → (s : Side) {list : List ℕ} → QueueRoom q.network.nodes list → Beginning q.network.nodes (potentials s q) (source s q) list
side_beginning sound s room = record {
  few = sound.sized.few_nodes;
  potentials_long = potentials_long sound s;
  potentials_small = potentials_small sound s;
  source_in = sound.source_in s;
  room = room;
}

module _ {n v : ℕ} {p : List ℤ} {before : List ℕ} (b : Beginning n p v before) where
  -- the queue has the source alone, and what it has as its least is what the side takes first
  pub side_begun : {list : List ℕ} {z floor : ℤ} (first : Option Candidate) → z ≡ potential_at p v
      → BegunQueue v z before list
      → floor ≡ potential_at p v
      → meant first ≡ next_in list → Begun n p v list floor first
  side_begun first e s f t =
      let long = length-replicate n undecided in
      let queue = queue_begins n v before b.room.long b.source_in (rw e at s) in
      record {
        queue_is = queue;
        floor_is = f;
        first_is = t ∙ next_is_least (first_labels n v) (replicate n undecided) p b.potentials_small (rw long b.few) queue ∙ ap (least_below (first_labels n v) (replicate n undecided) p) long;
      }

-- ---- from the beginning to the end
module _ {q : Query} (sound : Sound q) {sl sn el en states sq eq : List ℕ} {p : Progress}
    (tables : FirstTables q.network.nodes q.start q.end sl sn el en states)
    (first : FirstProgress q.network.nodes q.forward q.backward q.start q.end sq eq p) where
  begun : standing_of start sl sn el en states p ≡ at_beginning q
  unfolding at_beginning beginning_half
  begun = rw (tables.start_labels_are, tables.start_neighbours_are, tables.end_labels_are, tables.end_neighbours_are, tables.states_are, first.no_length, first.no_meeting, first.start_begun.floor_is, first.end_begun.floor_is)

  -- a search that has begun is under way, with no turn made
  begun_underway : TurnsMade q 0 (standing_of start sl sn el en states p) p
  unfolding after_turns_by_mark candidate
  begun_underway = record {
    here = begun;
    foreseen = record {
      mine = rw (tables.start_labels_are, tables.states_are) first.start_begun.first_is;
      yours = rw (tables.end_labels_are, tables.states_are) first.end_begun.first_is;
    };
  }

  -- and the queues are those of its tables
  begun_queued : Queues sl q.forward el q.backward states sq eq
  begun_queued = rw (tables.start_labels_are, tables.end_labels_are, tables.states_are) (record { mine = first.start_begun.queue_is; yours = first.end_begun.queue_is })

  -- start equal to end: it is over at once
  pub over_at_once : (cap : ℕ) {s : ℕ} {r : Progress} → s ≡ q.start → q.start ≡ q.end → r.best.length ≡ 0 → r.best.node ≡ s → r.floor ≡ p.floor → r.beyond ≡ p.beyond → r.own ≡ p.own → r.other ≡ p.other
      → StoppedAt q cap (standing_of start sl sn el en states r) (record { progress = r; over = true })
  unfolding state_at at_once at_beginning candidate
  over_at_once cap {r = r} e h l m f g a b =
      let w = floors_of sound begun_underway refl refl in
      record {
        here = rw (eq-eqb _ _ h, l, m, e, f, g) (ap (λ (t : State). record { start_half = t.start_half; end_half = t.end_half; states = t.states; best = 0; meeting = q.start }) begun);
        foreseen = record { mine = ap meant a ∙ begun_underway.foreseen.mine; yours = ap meant b ∙ begun_underway.foreseen.yours };
        whether_over = rw (eq-eqb _ _ h);
        floors = record { floor = rw f w.floor; beyond = rw g w.beyond };
      }

-- ---- the loop of turns
-- before a turn: i turns were made, no more than the cap allows, the lists stand for the state after them, and each side has its
-- queue
pub record Going (q : Query) (ix : Index) (cap i : ℕ) (sl sn el en states sq eq : List ℕ) (p : Progress) : Type 0 where
  pub few : i ≤ cap
  pub asked : Searchable q ix
  pub long : Long q.network.nodes sl sn el en states
  pub queued : Queues sl q.forward el q.backward states sq eq
  pub way : TurnsMade q i (standing_of start sl sn el en states p) p

-- the lists that stand for a state have one entry a node if the state's have
tabled_long : {q : Query} {sl sn el en states : List ℕ} (p : Progress) {st : State} → standing sl sn el en states p ≡ st → Tabled q st → Long q.network.nodes sl sn el en states
tabled_long p e k =
    let t = rw (sym e) at k in
    record {
      labels_long = t.labels_long start;
      neighbours_long = t.neighbours_long start;
      theirs_long = t.labels_long end;
      beyond_long = t.neighbours_long end;
      states_long = t.states_long;
    }

long_tabled : {q : Query} {sl sn el en states : List ℕ} (p : Progress) → Long q.network.nodes sl sn el en states → Tabled q (standing sl sn el en states p)
long_tabled {q} {sl} {sn} {el} {en} {states} p l = record {
  labels_long = both_sides (λ s. length (half s (standing sl sn el en states p)).labels ≡ q.network.nodes) start l.labels_long l.theirs_long;
  neighbours_long = both_sides (λ s. length (half s (standing sl sn el en states p)).neighbours ≡ q.network.nodes) start l.neighbours_long l.beyond_long;
  states_long = l.states_long;
}

-- before the first turn
pub begun_going : {q : Query} {ix : Index} {sl sn el en states sq eq : List ℕ} {p : Progress} (cap : ℕ) → Searchable q ix
    → FirstTables q.network.nodes q.start q.end sl sn el en states
    → FirstProgress q.network.nodes q.forward q.backward q.start q.end sq eq p
    → Going q ix cap 0 sl sn el en states sq eq p
begun_going {p = p} cap asked tables first =
    record {
      few = omega arith;
      asked = asked;
      long = tabled_long p (begun asked.sound tables first) (beginning_tabled _);
      queued = begun_queued asked.sound tables first;
      way = begun_underway asked.sound tables first;
    }

module _ {q : Query} {ix : Index} {cap i : ℕ} {sl sn el en states sq eq : List ℕ} {p : Progress} (g : Going q ix cap i sl sn el en states sq eq p)
    {course : Course} (told : course ≡ course_of (meant p.own) (meant p.other) i cap) where
  -- both sides take a node: after the turn one turn more was made
  pub going_on : {a b : ℕ} → course ≡ Turn a b → {sl' sn' el' en' states' sq' eq' : List ℕ} {r : Progress}
      → standing sl' sn' el' en' states' r ≡ turn_of q i (standing sl sn el en states p)
      → Foreseen q (standing sl' sn' el' en' states' r) r
      → Queues sl' q.forward el' q.backward states' sq' eq'
      → Going q ix cap (i + 1) sl' sn' el' en' states' sq' eq' r
  going_on c {r = r} t f queued = record {
    few = omega (arith, within_cap g.asked.sound g.way cap told c);
    asked = g.asked;
    long = tabled_long r t (turn_by_mark_tabled (side_of_turn q.pattern i) (long_tabled p g.long));
    queued = queued;
    way = underway_next g.asked.sound g.way cap told c t f;
  }

  -- no more turns are made, and the search has stopped at the cap: it has ended, or the turns are used up
  module _ (apart : q.start ≢ q.end) where
    pub stops_ended : course ≡ Ended → StoppedAt q cap (standing sl sn el en states p) (record { progress = p; over = true })
    stops_ended c =
        let s = stopped_ended g.asked.sound g.way cap told apart g.few c in
        record { here = s.0; foreseen = g.way.foreseen; whether_over = s.1; floors = floors_of g.asked.sound g.way refl refl }

    pub stops_used_up : course ≡ UsedUp → StoppedAt q cap (standing sl sn el en states p) (record { progress = p; over = false })
    stops_used_up c =
        let s = stopped_used_up g.asked.sound g.way cap told apart g.few c in
        record { here = s.0; foreseen = g.way.foreseen; whether_over = s.1; floors = floors_of g.asked.sound g.way refl refl }
