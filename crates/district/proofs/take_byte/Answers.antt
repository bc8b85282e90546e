-- `take_byte` meets its contract: a byte that ends a line has its frame taken, and any other byte is a step of the line alone.
-- Assumes nothing.
use Rattle.std.proofs.Common.{sym, ◌∙◌}
use Rattle.district.specs.Reader.{file_of}
use Rattle.district.specs.ReaderLaws.{stepped_as, line_byte, unsound_frame}
use Rattle.district.proofs.take_byte.Goals as goal

pub returns-in_default-clause-stepped : goal.returns-in_default-clause-stepped
unfolding file_of
returns-in_default-clause-stepped c =
    let ends = sym c.ends_line.ensures ∙ c.if-not-ends_line.false in
    stepped_as (unsound_frame _ ∙ line_byte _ _ _ ends (sym c.in_default.is ∙ c.frame.ensures)) (c.refuse.ensures.law _ c.requires)

pub returns-clause-stepped : goal.returns-clause-stepped
returns-clause-stepped c =
    let ends = sym c.ends_line.ensures ∙ c.if-not-ends_line.false in
    stepped_as (line_byte _ _ _ ends (sym c.in-Some.is ∙ c.frame.ensures)) c.take_frame.ensures.stepped
