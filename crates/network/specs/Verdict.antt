-- What the tests of the refusal table find: `Ok tt`, which accepts, or `Err` with the cause of the refusal. Assumes nothing.
use Rattle.std.specs.Prelude.{Result}
use Rattle.network.specs.declared.Cause.{Cause}

abbrev pub Verdict : Type 0
Verdict = Result Unit Cause
