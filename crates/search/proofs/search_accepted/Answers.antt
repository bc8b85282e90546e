-- `search_accepted` meets its contract: the first entries of each list, one a node, are lent to `searched`, and what stands
-- beyond them stays. Assumes nothing.
use Rattle.search.specs.Lists.{lists_of}
use Rattle.search.proofs.AnswerLaws.{cut_left}
use Rattle.search.proofs.search_accepted.Goals as goal

pub returns-clause-kept : goal.returns-clause-kept
returns-clause-kept c = cut_left _ c.args.cap (lists_of c.args.work.now) c.searched.ensures
