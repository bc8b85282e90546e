-- `frame::refuse` meets its contract: the refusal's line is placed, and nothing changes but that the file has ended. Assumes
-- nothing.
use Rattle.district.specs.TakenLaws.{file_refused}
use Rattle.district.proofs.frame.refuse.Goals as goal

pub returns : goal.returns
returns c = file_refused c.args.cause c.args.reader c.write_refusal-written.ensures
