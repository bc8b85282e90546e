-- A query with a cap or without one is answered in one way: without one it prints what it prints with a cap of as many turns as
-- there are nodes. Assumes nothing.
use Rattle.std.specs.Prelude.{◌≡◌, Some}
use Rattle.std.proofs.Common.{ap}
use Rattle.network.specs.declared.Answer.{Answer}
use Rattle.network.specs.Cap.{Cap}
use Rattle.network.specs.Query.{Query}
use Rattle.nba.specs.Search.{state_at}
use Rattle.nba.specs.Result.{path_of, turns_given}
use Rattle.nba.proofs.Why.Capped.{answer_under_lem}
use Rattle.frames.specs.AnswerLines.{answer_lines}
use Rattle.district.specs.File.{work_room, query_lines}

-- a query prints what it prints at a cap
pub capped_lines : (c : Cap) (q : Query) → query_lines c q ≡ query_lines (Some (turns_given c q)) q
unfolding query_lines
capped_lines c q = ap (λ (a : Answer). answer_lines a (path_of q (state_at q (turns_given c q)))) (answer_under_lem c q work_room)
