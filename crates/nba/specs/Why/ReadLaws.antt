-- How an answer at a cap (docs/RULES.md, "Capped queries") reads the state there: it is one of four, by whether the search is over
-- and whether there is a best length. Assumes nothing.
use Rattle.std.specs.Prelude.{◌≡◌, refl, ◌≢◌, true, false, ℕ, ◌≤◌, ◌<◌, eqb, length}
use Rattle.std.proofs.Common.{arith, ltb-true, ltb-false}
use Rattle.std.proofs.lemmas.Bool.{eqb-false}
use Rattle.network.specs.declared.Figures.{Figures}
use Rattle.network.specs.declared.Answer.{Answer}
use Rattle.network.specs.declared.Answer.TheVariants.{Route, NoRoute, Provisional, Undecided}
use Rattle.network.specs.Query.{Query}
use Rattle.network.specs.CaseSplit.{cases, neither_true}
use Rattle.nba.specs.State.{present, missing, State}
use Rattle.nba.specs.Search.{ended, state_at}
use Rattle.nba.specs.Result.{answer_at, over, unended_at, path_of, figures_in, excess, found_at}
use Rattle.nba.specs.Demands.{path_at}

-- what is shown with a provisional answer: the search has not ended, and its best length is present
pub record ProvisionalRead (q : Query) (st : State) (l x n : ℕ) : Type 0 where
  pub going : over q st ≡ false
  pub here : st.best < missing
  pub length_is : st.best ≡ l
  pub excess_is : excess q st ≡ x
  pub nodes_are : length (path_of q st) ≡ n

-- an answer at a cap is one of four, by whether the search is over and whether there is a best length
pub data ReadAt (q : Query) (st : State) (a : Answer) : Type 0 where
  ended_with : over q st ≡ true → st.best < missing → a ≡ Route st.best (length (path_of q st)) (figures_in st.states) → ReadAt q st a
  ended_without : over q st ≡ true → missing ≤ st.best → a ≡ NoRoute (figures_in st.states) → ReadAt q st a
  going_with : over q st ≡ false → st.best < missing → a ≡ Provisional st.best (excess q st) (length (path_of q st)) (figures_in st.states) → ReadAt q st a
  going_without : over q st ≡ false → missing ≤ st.best → a ≡ Undecided (figures_in st.states) → ReadAt q st a

-- what holds of each of the four holds of the answer
pub by_found : (q : Query) (cap : ℕ) (P : Answer → Type 0)
    → (over q (state_at q cap) ≡ true → present (state_at q cap).best ≡ true → P (Route (state_at q cap).best (length (path_at q cap)) (figures_in (state_at q cap).states)))
    → (over q (state_at q cap) ≡ false → present (state_at q cap).best ≡ true → P (Provisional (state_at q cap).best (excess q (state_at q cap)) (length (path_at q cap)) (figures_in (state_at q cap).states)))
    → (over q (state_at q cap) ≡ true → present (state_at q cap).best ≡ false → P (NoRoute (figures_in (state_at q cap).states)))
    → (over q (state_at q cap) ≡ false → present (state_at q cap).best ≡ false → P (Undecided (figures_in (state_at q cap).states)))
    → P (found_at q cap)
unfolding found_at answer_at unended_at
by_found q cap P on-route on-provisional on-no-route on-undecided =
    let st = state_at q cap in
    cases P (over q st) (λ t. cases P (present st.best) (on-route t) (on-no-route t)) (λ t. cases P (present st.best) (on-provisional t) (on-undecided t))

pub read_at : (q : Query) (cap : ℕ) → ReadAt q (state_at q cap) (found_at q cap)
read_at q cap =
    let b = (state_at q cap).best in
    by_found q cap (ReadAt q (state_at q cap))
    (λ t h. ended_with t (ltb-true b missing h) refl)
    (λ t h. going_with t (ltb-true b missing h) refl)
    (λ t h. ended_without t (ltb-false b missing h) refl)
    (λ t h. going_without t (ltb-false b missing h) refl)

-- where the search is over, the answer is read as at the end
pub over_found : (q : Query) (cap : ℕ) → over q (state_at q cap) ≡ true → found_at q cap ≡ answer_at q (state_at q cap)
unfolding found_at
over_found q cap h = rw h

pub provisional_read : (q : Query) (cap : ℕ) {l x n : ℕ} {f : Figures} → found_at q cap ≡ Provisional l x n f → ProvisionalRead q (state_at q cap) l x n
provisional_read q cap {l} {x} {n} {f} e = by (read_at q cap)
  where
    by : ReadAt q (state_at q cap) (found_at q cap) → ProvisionalRead q (state_at q cap) l x n
    by (ended_with t h r) = absurd (let z : ◌≡◌ {A = ℕ} 0 1 = cc in omega arith)
    by (ended_without t h r) = absurd (let z : ◌≡◌ {A = ℕ} 0 1 = cc in omega arith)
    by (going_with t h r) = record { going = t; here = h; length_is = cc; excess_is = cc; nodes_are = cc }
    by (going_without t h r) = absurd (let z : ◌≡◌ {A = ℕ} 0 1 = cc in omega arith)

-- a route or a "no route" at a cap: the search is over
pub data Decided : Answer → Type 0 where
  route_decided : {l n : ℕ} {f : Figures} → Decided (Route l n f)
  none_decided : {f : Figures} → Decided (NoRoute f)

pub decided_over : (q : Query) (cap : ℕ) {a : Answer} → Decided a → found_at q cap ≡ a → over q (state_at q cap) ≡ true
decided_over q cap k e = by k e (read_at q cap)
  where
    by : {a : Answer} → Decided a → found_at q cap ≡ a → ReadAt q (state_at q cap) (found_at q cap) → over q (state_at q cap) ≡ true
    by d e (ended_with t h r) = t
    by d e (ended_without t h r) = t
    by route_decided e (going_with t h r) = absurd (let z : ◌≡◌ {A = ℕ} 0 1 = cc in omega arith)
    by none_decided e (going_with t h r) = absurd (let z : ◌≡◌ {A = ℕ} 0 1 = cc in omega arith)
    by route_decided e (going_without t h r) = absurd (let z : ◌≡◌ {A = ℕ} 0 1 = cc in omega arith)
    by none_decided e (going_without t h r) = absurd (let z : ◌≡◌ {A = ℕ} 0 1 = cc in omega arith)

-- a search that is not over has a start and an end that are different
pub going_apart : (q : Query) (cap : ℕ) → over q (state_at q cap) ≡ false → q.start ≢ q.end
going_apart q cap h = neither_true (eqb q.start q.end) (ended q (state_at q cap)) h (λ a b. eqb-false q.start q.end a)
