-- `answer::write_lines` meets its contract: the verdict is the table's, and a query that is accepted is searched. Assumes nothing.
use Rattle.std.proofs.Common.{sym, ◌∙◌}
use Rattle.district.specs.QueryLaws.{refused_lines, verdict_parts, query_by_parts, placed_as}
use Rattle.district.proofs.answer.write_lines.Goals as goal

pub returns-in-Err : goal.returns-in-Err
returns-in-Err c =
    placed_as (refused_lines _ _ _ (sym (c.verdict_on.ensures ∙ verdict_parts c.requires _ _ _) ∙ c.in-Err.is)) c.write_refusal.ensures

pub write_found-requires : goal.write_found-requires
write_found-requires c =
    query_by_parts c.requires _ _ _ (sym c.verdict_on.ensures ∙ c.in_default.is)
