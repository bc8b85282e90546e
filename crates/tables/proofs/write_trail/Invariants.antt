-- `write_trail` meets its contract: with the nodes to come written after what is written, the list is always the one
-- promised. The node at hand and every node to come are nodes, so each read is in range. Assumes nothing.
use Rattle.std.proofs.Common.{◌≡◌, ◌+◌, ◌-◌, ◌∷◌, length}
use Rattle.std.proofs.lemmas.List.Edits.{sets}
use Rattle.network.specs.Front.{at_front}
use Rattle.nba.specs.Result.{trail}
use Rattle.tables.specs.Tables.{NodesBelow}
use Rattle.tables.proofs.write_trail.Given as goal

abbrev pub invariant-loop-count : goal.invariant-loop-count
invariant-loop-count l =
    let to_come = trail l.neighbours l.home (length l.neighbours - l.count) l.node in
    let whole = trail l.neighbours l.home (length l.neighbours) l.from in record {
      nodes : NodesBelow (length l.neighbours) (l.node ∷ to_come);
      counted : l.count + length to_come ≡ length whole;
      written : sets l.path l.count to_come ≡ at_front whole l.initial.path;
    }
