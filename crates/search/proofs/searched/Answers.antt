-- `searched` meets its contract: `find` leaves the tables of the state at the cap, and what is read off them is the search's
-- answer. Assumes nothing.
use Rattle.std.proofs.Common.{rules}
use Rattle.search.proofs.AnswerLaws.{readable, searched_lem}
use Rattle.search.proofs.searched.Goals as goal

pub answered-requires : goal.answered-requires
answered-requires c = readable c.requires.searchable.sound c.find-stop.ensures.stopped (search rules) (search rules) c.requires.path_long

pub returns : goal.returns
returns c =
    searched_lem c.requires.searchable.sound c.find-stop.ensures.stopped (search rules) (search rules) (search rules) (search rules) c.answered.ensures.value c.answered.ensures.path_after
