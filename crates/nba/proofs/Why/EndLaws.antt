-- The state at a cap and at the end: how an answer reads it, and what it is worth, start equal to end included. Assumes nothing.
use Rattle.std.specs.Prelude.{◌≡◌, refl, ◌≢◌, true, false, ℕ, ◌+◌, ◌≤◌, ◌<◌, eqb, length}
use Rattle.std.proofs.Common.{sym, ap, ◌∙◌, arith, lt-ltb, le-ltb, ltb-true, ltb-false, eqb-true, eq-eqb, ne_eqb}
use Rattle.std.proofs.lemmas.Bool.{eqb-false}
use Rattle.network.specs.declared.Figures.{Figures}
use Rattle.network.specs.declared.Answer.TheVariants.{Route, NoRoute}
use Rattle.network.specs.Network.{Side, start, end}
use Rattle.network.specs.Query.{Query, source}
use Rattle.network.specs.Given.{Sound}
use Rattle.network.specs.CaseSplit.{by_bool, by_lt, true≢false}
use Rattle.nba.specs.State.{missing, present, State, half, label_of}
use Rattle.nba.specs.Search.{ended, at_once, state_at, end_state}
use Rattle.nba.specs.Why.ByMark.{after_turns_by_mark}
use Rattle.nba.specs.Result.{path_of, figures_in, answer_at, over}
use Rattle.nba.specs.Demands.{WalkOfLength, Joined, NoneTwice}
use Rattle.nba.specs.Why.CodeLaws.{at_once_tabled, stays_ended_by_mark, unsearched_at}
use Rattle.nba.specs.Why.BeginningLaws.{at_once_begun, begun_source}
use Rattle.nba.specs.Why.Trails.{Trail, at_source, HasTrail, trail_short}
use Rattle.nba.specs.Why.PathLaws.{path_joined, path_none_twice}
use Rattle.nba.specs.Why.ShortWalk.{walk_beside}
use Rattle.nba.specs.Why.Ways.{walk_inside}
use Rattle.nba.specs.Why.Invariant.{Orderly, Invariant}
use Rattle.nba.proofs.Why.RunLaws.{ends, begun_orderly, invariant, ended_least}
use Rattle.nba.proofs.Why.ByMarkLaws.{same_at}

-- ---- reading an answer
-- a route answered: the best length is present, and is its length
pub record RouteRead (q : Query) (st : State) (l n : ℕ) : Type 0 where
  pub here : st.best < missing
  pub length_is : st.best ≡ l
  pub nodes_are : length (path_of q st) ≡ n

pub route_read : (q : Query) (st : State) (l n : ℕ) (f : Figures) → answer_at q st ≡ Route l n f → RouteRead q st l n
unfolding answer_at
route_read q st l n f =
    by_bool (present st.best)
    (λ t. rw t (λ e. record { here = ltb-true st.best missing t; length_is = cc; nodes_are = cc }))
    (λ t. rw t (λ e. absurd (let z : ◌≡◌ {A = ℕ} 0 1 = cc in omega arith)))

pub no_route_read : (q : Query) (st : State) (f : Figures) → answer_at q st ≡ NoRoute f → missing ≤ st.best
unfolding answer_at
no_route_read q st f =
    by_bool (present st.best)
    (λ t. rw t (λ e. absurd (let z : ◌≡◌ {A = ℕ} 0 1 = cc in omega arith)))
    (λ t e. ltb-false st.best missing t)

pub route_answered : (q : Query) (st : State) → st.best < missing → answer_at q st ≡ Route st.best (length (path_of q st)) (figures_in st.states)
unfolding answer_at
route_answered q st h = rw (lt-ltb st.best missing h)

pub no_route_answered : (q : Query) (st : State) → missing ≤ st.best → answer_at q st ≡ NoRoute (figures_in st.states)
unfolding answer_at
no_route_answered q st h = rw (le-ltb st.best missing h)

-- ---- the meeting node
-- the meeting node is a node, with a trail on each side of fewer arcs than the side has neighbours; the labels sum to the best
-- length
pub record Meeting (q : Query) (st : State) : Type 0 where
  pub inside : st.meeting < q.network.nodes
  pub arcs : Side → ℕ
  pub short : (s : Side) → arcs s < length (half s st).neighbours
  pub trail : (s : Side) → Trail q st s st.meeting (arcs s)
  pub sum : label_of start st st.meeting + label_of end st st.meeting ≡ st.best

-- before every turn: where the best length is present
has_meeting : {q : Query} {st : State} → Sound q → Invariant q st → st.best < missing → Meeting q st
has_meeting {q} {st} sound inv h =
    let m = ((inv.worth start).met h).sum in
    let o = inv.orderly in
    let labelled : (s : Side) → label_of s st st.meeting < missing = λ s. by s m in
    let i = walk_inside sound ((inv.worth start).walk st.meeting (labelled start)) (sound.source_in start) in
    let has : (s : Side) → HasTrail q st s st.meeting = λ s. (o.trails s).trails st.meeting (labelled s) in
    record {
      inside = i;
      arcs = λ s. (has s).arcs;
      short = λ s. omega (arith, trail_short sound o.tabled (o.trails s) i (has s), o.tabled.neighbours_long s);
      trail = λ s. (has s).trail;
      sum = m;
    }
  where
    by : (s : Side) → label_of start st st.meeting + label_of end st st.meeting ≡ st.best → label_of s st st.meeting < missing
    by start e = omega arith
    by end e = omega arith

-- start equal to end
at_once_best : (q : Query) → (at_once q).best ≡ 0
unfolding at_once
at_once_best q = refl

at_once_meeting : (q : Query) → (at_once q).meeting ≡ q.start
unfolding at_once
at_once_meeting q = refl

meeting_at_once : {q : Query} → Sound q → q.start ≡ q.end → Meeting q (at_once q)
meeting_at_once {q} sound e =
    let b = at_once_begun q in
    let home : (s : Side) → (at_once q).meeting ≡ source s q = by in
    let zero_label : (s : Side) → label_of s (at_once q) (at_once q).meeting ≡ 0 = λ s. ap (label_of s (at_once q)) (home s) ∙ begun_source b sound s in
    record {
      inside = rw (at_once_meeting q) (sound.source_in start);
      arcs = λ s. 0;
      short = λ s. omega (arith, sound.sized.some_nodes, (at_once_tabled q).neighbours_long s);
      trail = λ s. at_source (home s) (zero_label s);
      sum = omega (arith, zero_label start, zero_label end, at_once_best q);
    }
  where
    by : (s : Side) → (at_once q).meeting ≡ source s q
    by start = at_once_meeting q
    by end = at_once_meeting q ∙ e

-- ---- the state at a cap
-- what it is worth: a present best length has a meeting node with its trails
pub record AtCap (q : Query) (st : State) : Type 0 where
  pub orderly : Orderly q st
  pub meeting : st.best < missing → Meeting q st

module _ {q : Query} (sound : Sound q) where
  pub at_once_at : q.start ≡ q.end → (cap : ℕ) → state_at q cap ≡ at_once q
  at_once_at e cap = unsearched_at q cap (eq-eqb q.start q.end e)

  -- what holds at once, and after so many turns of the search by marks, holds of the state at the cap
  pub by_start : (P : State → Type 0) (cap : ℕ) → (q.start ≡ q.end → P (at_once q)) → (q.start ≢ q.end → P (after_turns_by_mark q cap)) → P (state_at q cap)
  by_start P cap f g =
      by_bool (eqb q.start q.end)
      (λ t. let e = eqb-true q.start q.end t in rw (at_once_at e cap) (f e))
      (λ t. let d = eqb-false q.start q.end t in rw (same_at sound d cap) (g d))

  pub at_cap : (cap : ℕ) → AtCap q (state_at q cap)
  at_cap cap =
      by_start (AtCap q) cap
      (λ e. record {
        orderly = begun_orderly sound (at_once_begun q) (at_once_tabled q) (omega (arith, at_once_best q));
        meeting = λ h. meeting_at_once sound e;
      })
      (λ d. let inv = invariant sound d cap in record { orderly = inv.orderly; meeting = λ h. has_meeting sound inv h })

  -- ---- once no more turns are needed
  over_at_once : q.start ≡ q.end → (st : State) → over q st ≡ true
  over_at_once e st = rw (eq-eqb q.start q.end e)

  pub over_searched : q.start ≢ q.end → (st : State) → over q st ≡ ended q st
  over_searched d st = rw (ne_eqb q.start q.end d)

  -- the state is the same at every larger cap
  pub ended_stays : (c d : ℕ) → c ≤ d → over q (state_at q c) ≡ true → state_at q d ≡ state_at q c
  ended_stays c d l h =
      by_bool (eqb q.start q.end)
      (λ t. unsearched_at q d t ∙ sym (unsearched_at q c t))
      (λ t. let f = eqb-false q.start q.end t in
      let here : ended q (after_turns_by_mark q c) ≡ true = ap (ended q) (sym (same_at sound f c)) ∙ sym (over_searched f (state_at q c)) ∙ h in
      same_at sound f d ∙ stays_ended_by_mark q c d here l ∙ sym (same_at sound f c))

  -- and as many turns as there are nodes always suffice
  pub over_at_end : over q (end_state q) ≡ true
  over_at_end =
      let n = q.network.nodes in
      let e = ends sound in
      by_start (λ st. over q st ≡ true) n
      (λ h. over_at_once h (at_once q))
      (λ d. over_searched d (after_turns_by_mark q n) ∙ ap (ended q) (stays_ended_by_mark q e.turns n e.over e.few) ∙ e.over)

  -- before the search has ended, fewer turns are over than there are nodes
  pub going_few : (i : ℕ) → ended q (after_turns_by_mark q i) ≡ false → i < q.network.nodes
  going_few i h =
      let e = ends sound in
      by_lt i e.turns (λ l. omega (arith, e.few))
      (λ l. absurd (true≢false (ap (ended q) (stays_ended_by_mark q e.turns i e.over l) ∙ e.over) h))

  -- a bound for walks below the missing mark is one for all
  all_walks : {b : ℕ} → ((l : ℕ) → l < missing → WalkOfLength q l → b ≤ l) → (l : ℕ) → WalkOfLength q l → b ≤ l
  all_walks f l p =
      let r = walk_beside sound (sound.source_in start) p in
      omega (arith, r.no_longer, f r.total (omega (arith, r.small)) r.walk)

  -- no walk is shorter than the best length then
  over_least : (cap : ℕ) → over q (state_at q cap) ≡ true → (l : ℕ) → WalkOfLength q l → (state_at q cap).best ≤ l
  over_least cap =
      by_start (λ st. over q st ≡ true → (l : ℕ) → WalkOfLength q l → st.best ≤ l) cap
      (λ e h l p. omega (arith, at_once_best q))
      (λ d h. all_walks (ended_least sound (invariant sound d cap) (sym (over_searched d (after_turns_by_mark q cap)) ∙ h)))

  pub least_at_end : (l : ℕ) → WalkOfLength q l → (end_state q).best ≤ l
  least_at_end = over_least q.network.nodes over_at_end

-- the path over the meeting node
pub path_real : {q : Query} {st : State} → Meeting q st → Joined q.network (path_of q st) q.start q.end st.best
path_real {q} {st} m =
    let i = m.short start in
    let j = m.short end in
    rw m.sum at (path_joined {q = q} {st = st} (m.trail start) (m.trail end) (omega arith) (omega arith))

pub path_once : {q : Query} {st : State} → Meeting q st → NoneTwice (path_of q st)
path_once {q} {st} m =
    let i = m.short start in
    let j = m.short end in
    path_none_twice {q = q} {st = st} (m.trail start) (m.trail end) (omega arith) (omega arith)
