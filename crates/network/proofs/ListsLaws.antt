-- What a caller reads off a list that came back. Assumes nothing.
use Rattle.std.specs.Prelude.{◌≡◌, List, length}
use Rattle.std.specs.Borrow.{MutBor}
use Rattle.network.specs.Lists.{SameList}

-- it is as long as it was
pub same_length : {A : Type 0} (before after : MutBor (List A)) → SameList before after → length after.now ≡ length before.now
same_length before after same = same.1
