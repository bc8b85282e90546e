-- A queue stays one: at the beginning the source waits alone, a node that gets a label waits with it, and a node that is taken
-- does not wait any more. One number changes each time. Assumes nothing.
use Rattle.std.specs.Prelude.{◌≡◌, refl, ◌≢◌, true, false, List, ℕ, ◌+◌, ◌<◌, ℤ, length, get_or, set, replicate}
use Rattle.std.proofs.Common.{sym, ap, ◌∙◌, arith, length-set, length-drop, get_or-set_same, get_or-set_other, ext_get_or, lt-ltb, eq-eqb, ne_eqb}
use Rattle.std.proofs.lemmas.List.{length-replicate, get_or-replicate}
use Rattle.network.specs.CaseSplit.{by_eq}
use Rattle.network.specs.Potential.{potential_at}
use Rattle.nba.specs.State.{missing, undecided}
use Rattle.least.specs.Tournament.{no_number, numbers_in, TournamentOf, Tournament, Putting}
use Rattle.least.specs.TournamentLaws.{own_last, one_list}
use Rattle.steps.specs.Steps.{key_for}
use Rattle.queue.specs.Code.{code}
use Rattle.queue.specs.Queue.{waits, waiting_number, QueueOf, Entered, LeftQueue, BegunQueue, first_labels, Spacious}
use Rattle.queue.specs.LeastLaws.{number_waits, number_absent}

-- ---- a list that stands for the numbers of the nodes is a queue
queue_of : {labels states : List ℕ} {p : List ℤ} {numbers list : List ℕ} → TournamentOf numbers list → length numbers ≡ length states
    → ((v : ℕ) → v < length states → get_or numbers v 0 ≡ waiting_number labels states p v) → QueueOf labels states p list
queue_of s l f = record {
  tournament = own_last s;
  long = ap length s.last ∙ l;
  numbers = λ v h. ap (λ x. get_or x v 0) s.last ∙ f v h;
}

-- what entering and leaving ask
pub queue_putting : {labels states : List ℕ} {p : List ℤ} {list : List ℕ} → QueueOf labels states p list → (v : ℕ) → v < length states → Putting list v
queue_putting q v h = record { tournament = q.tournament; there = omega (arith, q.long) }

-- labels, states and potentials settle a queue
pub one_queue : {labels states : List ℕ} {p : List ℤ} {list list' : List ℕ} → QueueOf labels states p list → QueueOf labels states p list' → list ≡ list'
one_queue {list = list} {list' = list'} q r =
    let same : numbers_in list ≡ numbers_in list' =
    ext_get_or 0 (numbers_in list) (numbers_in list') (q.long ∙ sym r.long) (λ v h. let i = rw q.long at h in q.numbers v i ∙ sym (r.numbers v i)) in
    one_list q.tournament (rw same r.tournament)

-- ---- a node's number follows its own label and state alone
number_same : (labels states labels' states' : List ℕ) (p : List ℤ) (u : ℕ) → get_or labels' u missing ≡ get_or labels u missing → get_or states' u 0 ≡ get_or states u 0
    → waiting_number labels' states' p u ≡ waiting_number labels states p u
unfolding waiting_number
number_same labels states labels' states' p u e f = rw (e, f)

-- one number changes
changed : {labels states labels' states' : List ℕ} {p : List ℤ} {list list' : List ℕ} (v x : ℕ) → v < length states → length states' ≡ length states
    → x ≡ waiting_number labels' states' p v
    → ((u : ℕ) → u ≢ v → waiting_number labels' states' p u ≡ waiting_number labels states p u)
    → QueueOf labels states p list → TournamentOf (set (numbers_in list) v x) list' → QueueOf labels' states' p list'
changed {labels' = labels'} {states' = states'} {p = p} {list = list} v x h l e same q s =
    queue_of s (length-set (numbers_in list) v x ∙ q.long ∙ sym l)
    (λ u i.
    by_eq u v
    (λ w. ap (λ j. get_or (set (numbers_in list) v x) j 0) w ∙ get_or-set_same (numbers_in list) v x 0 (omega (arith, q.long)) ∙ e ∙ sym (ap (waiting_number labels' states' p) w))
    (λ d. get_or-set_other (numbers_in list) v u x 0 d ∙ q.numbers u (omega arith) ∙ sym (same u d)))

module _ {labels states : List ℕ} {p : List ℤ} {list list' : List ℕ} (q : QueueOf labels states p list) (v : ℕ) (h : v < length states) where
  -- undecided node v gets label l
  pub queue_enters : (l : ℕ) → v < length labels → get_or states v 0 ≡ undecided → l < missing
      → Entered v l (potential_at p v) list list' → QueueOf (set labels v l) states p list'
  queue_enters l j e w =
      let g : get_or (set labels v l) v missing ≡ l = get_or-set_same labels v l missing j in
      let f : waits (set labels v l) states v ≡ true = rw (g, eq-eqb _ _ e, lt-ltb l missing w) in
      changed v _ h refl
      (sym (number_waits (set labels v l) states p v f ∙ ap (λ a. code (key_for a (potential_at p v)) v) g))
      (λ u d. number_same labels states (set labels v l) states p u (get_or-set_other labels v u l missing d) refl) q

  -- node v gets a state other than undecided
  pub queue_leaves : (s : ℕ) → s ≢ undecided → LeftQueue v list list' → QueueOf labels (set states v s) p list'
  queue_leaves s e =
      let g : get_or (set states v s) v 0 ≡ s = get_or-set_same states v s 0 h in
      let f : waits labels (set states v s) v ≡ false = rw (g, ne_eqb _ _ e) in
      changed v no_number h (length-set states v s) (sym (number_absent labels (set states v s) p v f))
      (λ u d. number_same labels states labels (set states v s) p u refl (get_or-set_other states v u s 0 d)) q

-- ---- the beginning
-- what it asks
pub spacious : (n v : ℕ) {list : List ℕ} → length list + 1 ≡ n + n → v < n → Spacious list v
spacious n v {list} l h =
    let as_many : length (numbers_in list) ≡ n = simp length-drop (omega arith) in
    record { long = rw as_many l; there = rw as_many h }

-- what it leaves, as what entering and leaving leave, is a tournament
pub left_tournament : {numbers list : List ℕ} → TournamentOf numbers list → Tournament list
left_tournament = own_last

-- the source has label 0, no other node has one, and none is taken
pub queue_begins : (n v : ℕ) {p : List ℤ} (before : List ℕ) {list : List ℕ} → length before + 1 ≡ n + n → v < n → BegunQueue v (potential_at p v) before list
    → QueueOf (first_labels n v) (replicate n undecided) p list
queue_begins n v {p} before {list} l h b =
    queue_of stands (length-set (replicate n no_number) v _ ∙ length-replicate n no_number ∙ sym (length-replicate n undecided))
    (λ u i. by_eq u v (λ w. rw w source) (λ d. get_or-set_other (replicate n no_number) v u _ 0 d ∙ alone u (rw (length-replicate n undecided) at i) d))
  where
    as_many : length (numbers_in before) ≡ n
    as_many = simp length-drop (omega arith)

    stands : TournamentOf (set (replicate n no_number) v (code (key_for 0 (potential_at p v)) v)) list
    stands = rw as_many at b

    labels : List ℕ
    labels = first_labels n v

    states : List ℕ
    states = replicate n undecided

    source : get_or (set (replicate n no_number) v (code (key_for 0 (potential_at p v)) v)) v 0 ≡ waiting_number labels states p v
    source =
        let g : get_or labels v missing ≡ 0 = get_or-set_same (replicate n missing) v 0 missing (rw (length-replicate n missing) h) in
        let f : waits labels states v ≡ true = rw (g, get_or-replicate n v undecided 0 h) refl in
        get_or-set_same (replicate n no_number) v _ 0 (rw (length-replicate n no_number) h)
        ∙ sym (number_waits labels states p v f ∙ ap (λ a. code (key_for a (potential_at p v)) v) g)

    alone : (u : ℕ) → u < n → u ≢ v → get_or (replicate n no_number) u 0 ≡ waiting_number labels states p u
    alone u i d =
        let g : get_or labels u missing ≡ missing = get_or-set_other (replicate n missing) v u 0 missing d ∙ get_or-replicate n u missing missing i in
        let f : waits labels states u ≡ false = rw (g, get_or-replicate n u undecided 0 i) refl in
        get_or-replicate n u no_number 0 i ∙ sym (number_absent labels states p u f)
