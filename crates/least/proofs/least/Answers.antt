-- `least` meets its contract: the first entry is the least of the numbers. Assumes nothing.
use Rattle.std.proofs.Common.{arith}
use Rattle.least.specs.TournamentLaws.{first_is_least}
use Rattle.least.proofs.least.Goals as goal

pub returns : goal.returns
returns c = first_is_least c.requires (omega (arith, c.type_inv.list 0))
