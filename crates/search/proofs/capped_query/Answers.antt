-- `capped_query` meets its contract: the verdict picks what the query leaves, and the demands follow from that. Assumes nothing.
use Rattle.search.proofs.AnswerLaws.{kept_refused, kept_accepted}
use Rattle.search.proofs.capped_query.Goals as goal

pub returns-in-Err-clause-kept : goal.returns-in-Err-clause-kept
returns-in-Err-clause-kept c = kept_refused c.args.cap c.lent.ensures c.check_query.ensures c.in-Err.is

pub returns-clause-kept : goal.returns-clause-kept
returns-clause-kept c = kept_accepted c.lent.ensures c.check_query.ensures c.in_default.is c.search_accepted.ensures.kept
