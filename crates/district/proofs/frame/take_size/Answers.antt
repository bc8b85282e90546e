-- `frame::take_size` meets its contract: the tests are the definition's, in its order. Assumes nothing.
use Rattle.std.specs.Prelude.{Some}
use Rattle.std.proofs.Common.{sym, ap}
use Rattle.frames.specs.declared.Frame.{Frame}
use Rattle.district.specs.TakenLaws.{size_taken}
use Rattle.district.specs.File.{take_size}
use Rattle.district.specs.Reader.{file_of}
use Rattle.district.specs.ReaderLaws.{over_as}
use Rattle.district.proofs.frame.take_size.Goals as goal

pub returns : goal.returns
returns c =
    over_as (λ l k. ap (λ (g : Frame). take_size (file_of c.args.reader l) (Some g)) (sym c.in-Size.is))
    (size_taken c.args.reader _ c.in-Size.nodes c.in-Size.arcs _ c.next_line.ensures c.requires.nodes_value c.if-nodes-eq0.false c.if-nodes-gt-MOST_NODES.false c.if-arcs-gt-MOST_ARCS.false)
