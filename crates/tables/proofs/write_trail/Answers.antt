-- `write_trail` meets its contract: with the nodes to come written after what is written, the list is always the one
-- promised. The node at hand and every node to come are nodes, so each read is in range. Assumes nothing.
use Rattle.std.proofs.Common.{arith, add-one, suc, ◌-◌, length}
use Rattle.std.proofs.Math.Nat.{sub-zero}
use Rattle.std.proofs.lemmas.List.{set-get_or}
use Rattle.nba.specs.Why.TrailLaws.{trail_at_source}
use Rattle.tables.specs.TablesLaws.{front_entries, trail_next}
use Rattle.tables.proofs.write_trail.Goals as goal

pub loop-count-init : goal.loop-count-init
loop-count-init c =
    simp sub-zero record {
      nodes = c.requires.nodes_below;
      counted = omega arith;
      written = front_entries _ _ c.requires.room;
    }

pub returns-then-node-home-clause-value : goal.returns-then-node-home-clause-value
returns-then-node-home-clause-value c =
    omega (arith, rw (trail_at_source _ _ _ _ c.if-node-home.true) at c.loop-count.invariant.counted)

pub returns-then-node-home-clause-path_after : goal.returns-then-node-home-clause-path_after
returns-then-node-home-clause-path_after c =
    simp set-get_or (rw (trail_at_source _ _ _ _ c.if-node-home.true) at c.loop-count.invariant.written)

pub loop-count-preserved : goal.loop-count-preserved
loop-count-preserved c =
    let ns = c.args.neighbours.now in
    let i = c.loop-count in
    let next = trail_next ns c.args.home i.node (length ns - i.count) (length ns - suc i.count) c.if-node-home.false (i.invariant.nodes 0 0 (omega arith)) (omega arith) in
    let others = rw next at i.invariant.nodes in
    rw add-one record {
      nodes = λ k d h. others (suc k) d (omega arith);
      counted = omega (arith, rw next at i.invariant.counted);
      written = rw next at i.invariant.written;
    }
