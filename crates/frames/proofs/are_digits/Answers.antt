-- `frames::are_digits` meets its contract: each byte of a line of digits has a value. Assumes nothing.
use Rattle.std.proofs.Common.{ltb, rules, tests, ◌∙◌}
use Rattle.std.proofs.lemmas.Iterator.{YieldsList-from_slice}
use Rattle.std.proofs.lemmas.Iterator.Search.{all_from_yields_List}
use Rattle.frames.specs.Digits.{value_of}
use Rattle.frames.specs.FieldSteps.{digits_all}
use Rattle.frames.proofs.are_digits.Goals as goal

pub returns : goal.returns
returns c =
    all_from_yields_List (λ b. ltb (value_of b) 16) _ _ c.all.result c.all.ensures.ran (YieldsList-from_slice c.args.line.now cc) (λ x b q k. search (rules, tests))
    ∙ digits_all c.args.line.now
