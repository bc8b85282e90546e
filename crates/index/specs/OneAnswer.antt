-- Each public function's contract admits a single answer: whatever two runs on the same input return and leave in the lent
-- lists, they are the same. Assumes nothing.
use Rattle.std.specs.Prelude.{◌≡◌, ℕ, List}
use Rattle.std.specs.Borrow.{MutBor}
use Rattle.std.proofs.Common.{Bor, sym, ap, ◌∙◌}
use Rattle.index.specs.declared.IndexLists.{IndexLists}
use Rattle.index.specs.Lists.{index_of, index_in}
use Rattle.network.specs.declared.Lent.{Lent}
use Rattle.network.specs.Verdict.{Verdict}
use Rattle.network.specs.Network.{Network}
use Rattle.network.specs.Query.{Query}
use Rattle.index.specs.Index.{Index}
use Rattle.index.specs.Kept.{IndexLeft, index_left, BuildKept, EditKept}
use Rattle.index.specs.declared.Change.{Change}
use Rattle.index.specs.Table.{indexed_verdict}

pub build_one_answer : (g : Network) (before after after' : Index) (r s : Verdict)
    → BuildKept g before after r
    → BuildKept g before after' s
    → (r ≡ s) × (after ≡ after')
build_one_answer g before after after' r s a b =
    let same : index_left r g after ≡ index_left s g after' = a.leaves ∙ sym b.leaves in
    (ap (λ (x : IndexLeft). x.verdict) same, ap (λ (x : IndexLeft). x.index) same)

module _ (c : Change) (g : Network) (ix : Index) (g' g'' : Network) (ix' ix'' : Index) (r s : Verdict) where
  pub edit_one_answer : EditKept c g ix g' ix' r → EditKept c g ix g'' ix'' s → (r ≡ s) × (g' ≡ g'') × (ix' ≡ ix'')
  edit_one_answer a b =
      let same : index_left r g' ix' ≡ index_left s g'' ix'' = a.leaves ∙ sym b.leaves in
      (ap (λ (x : IndexLeft). x.verdict) same, ap (λ (x : IndexLeft). x.network) same, ap (λ (x : IndexLeft). x.index) same)

  pub edit_known_one_answer : EditKept c g ix g' ix' r → EditKept c g ix g'' ix'' s → (r ≡ s) × (g' ≡ g'') × (ix' ≡ ix'')
  edit_known_one_answer = edit_one_answer

pub check_query_one_answer : (q : Query) (ix : Index) (lent : Lent) (r s : Verdict)
    → r ≡ indexed_verdict q ix lent
    → s ≡ indexed_verdict q ix lent
    → r ≡ s
check_query_one_answer q ix lent r s e f = e ∙ sym f

-- `IndexLists::shown`
pub shown_one_answer : (ix : IndexLists (MutBor (List ℕ))) (r s : IndexLists (Bor (List ℕ)))
    → index_of r ≡ index_in ix
    → index_of s ≡ index_in ix
    → index_of r ≡ index_of s
shown_one_answer ix r s e f = e ∙ sym f
