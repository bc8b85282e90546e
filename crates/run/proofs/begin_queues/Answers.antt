-- `begin_queues` meets its contract: each queue begins with the side's source alone, whose potential, widened, is the side's floor.
-- Assumes nothing.
use Rattle.std.proofs.Common.{refl}
use Rattle.network.proofs.SignedLocals.{wide_is, back32}
use Rattle.run.proofs.RunLaws.{side_begun}
use Rattle.run.proofs.begin_queues.Goals as goal

pub returns : goal.returns
returns c =
    let own_small = c.requires.start_beginning.potentials_small c.args.query.start in
    let other_small = c.requires.end_beginning.potentials_small c.args.query.end in
    record {
      no_length = refl;
      no_meeting = refl;
      start_begun = side_begun c.requires.start_beginning _ (back32 _ own_small) c.begin_queue.ensures (wide_is (record { sfits = own_small })) c.next_node.ensures;
      end_begun = side_begun c.requires.end_beginning _ (back32 _ other_small) c.begin_queue-2.ensures (wide_is (record { sfits = other_small })) c.next_node-2.ensures;
    }
