-- The public function's contract admits a single answer: whatever two runs on the same input return and leave in the lent lists,
-- they are the same. Assumes nothing.
use Rattle.std.specs.Prelude.{◌≡◌, List, ℕ}
use Rattle.std.proofs.Common.{sym, ap, ◌∙◌}
use Rattle.network.specs.Network.{start, end}
use Rattle.network.specs.Query.{Query}
use Rattle.nba.specs.State.{State}
use Rattle.nba.specs.Search.{candidate}
use Rattle.steps.specs.OneAnswer.{same_candidate}
use Rattle.run.specs.declared.Stop.{Stop}
use Rattle.run.specs.Run.{standing, StoppedAt}

-- `find`
pub find_one_answer : (q : Query) (cap : ℕ) (r r' : Stop) (sl sl' sn sn' el el' en en' states states' : List ℕ)
    → StoppedAt q cap (standing sl sn el en states r.progress) r
    → StoppedAt q cap (standing sl' sn' el' en' states' r'.progress) r'
    → (r ≡ r') × (sl ≡ sl') × (sn ≡ sn') × (el ≡ el') × (en ≡ en') × (states ≡ states')
find_one_answer q cap r r' sl sl' sn sn' el el' en en' states states' t u =
    let same : standing sl sn el en states r.progress ≡ standing sl' sn' el' en' states' r'.progress = t.here ∙ sym u.here in
    let length : r.progress.best.length ≡ r'.progress.best.length = ap (λ (x : State). x.best) same in
    let meeting : r.progress.best.node ≡ r'.progress.best.node = ap (λ (x : State). x.meeting) same in
    let floor : r.progress.floor ≡ r'.progress.floor = ap (λ (x : State). x.start_half.floor) same in
    let beyond : r.progress.beyond ≡ r'.progress.beyond = ap (λ (x : State). x.end_half.floor) same in
    let own : r.progress.own ≡ r'.progress.own = same_candidate _ _ (t.foreseen.mine ∙ (ap (candidate q start) same ∙ sym u.foreseen.mine)) in
    let other : r.progress.other ≡ r'.progress.other = same_candidate _ _ (t.foreseen.yours ∙ (ap (candidate q end) same ∙ sym u.foreseen.yours)) in
    let over : r.over ≡ r'.over = t.whether_over ∙ sym u.whether_over in (
      λ i. record { progress = record { best = record { length = length i; node = meeting i }; floor = floor i; beyond = beyond i; own = own i; other = other i }; over = over i },
      ap (λ (x : State). x.start_half.labels) same,
      ap (λ (x : State). x.start_half.neighbours) same,
      ap (λ (x : State). x.end_half.labels) same,
      ap (λ (x : State). x.end_half.neighbours) same,
      ap (λ (x : State). x.states) same,
    )
