-- `counted` meets its contract: each figure grows by the 1 or 0 that the definition counts for the node's state. Assumes
-- nothing.
use Rattle.std.proofs.Common.{rules}
use Rattle.nba.specs.Result.{figures_in, count_of}
use Rattle.tables.specs.Tables.{together}
use Rattle.tables.proofs.counted.Goals as goal

pub returns : goal.returns
unfolding together figures_in count_of
returns c = search rules
