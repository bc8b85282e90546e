-- `answer::write_found` meets its contract: the answer and the path that the search leaves are written. Assumes nothing.
use Rattle.district.specs.QueryLaws.{left_lines, placed_as}
use Rattle.district.proofs.answer.write_found.Goals as goal

pub returns : goal.returns
returns c =
    placed_as (left_lines _ _ _ _ _ _ c.requires c.search_accepted-answer.ensures.kept) c.write_answer.ensures
