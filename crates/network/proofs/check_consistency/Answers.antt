-- `network::check_consistency` meets its contract: an arc breaks the rule if h or k does there. Assumes nothing.
use Rattle.std.proofs.Common.{rules, arith, lt-ltb}
use Rattle.network.specs.declared.Cause.TheVariants.{Inconsistent}
use Rattle.network.specs.Lists.{network_of}
use Rattle.network.specs.Network.{start, end, arc_count, is_arc}
use Rattle.network.specs.Refusal.{breaks_rule}
use Rattle.network.specs.LowestLaws.{lowest_next}
use Rattle.network.specs.RefusalLaws.{refused_here}
use Rattle.network.proofs.SignedLocals.{rule_of_two}
use Rattle.network.proofs.check_consistency.Goals as goal

pub returns-then-not-keeps_rule-2 : goal.returns-then-not-keeps_rule-2
unfolding breaks_rule is_arc
returns-then-not-keeps_rule-2 c =
    let g = network_of c.args.network in
    let h = c.args.potentials.forward.now in
    let k = c.args.potentials.backward.now in
    let a = c.loop-a.a in
    let of_h = rule_of_two start g h a (search rules) (search rules) c.keeps_rule.ensures c.if-not-keeps_rule.false in
    let of_k = rule_of_two end g k a (search rules) (search rules) c.keeps_rule-in-loop-a.ensures c.if-not-keeps_rule-2.true in
    refused_here Inconsistent (breaks_rule g h k) (arc_count g) a c.loop-a.invariant (omega arith) (simp (lt-ltb a (arc_count g) (omega arith), of_h, of_k))

pub loop-a-preserved : goal.loop-a-preserved
unfolding breaks_rule is_arc
loop-a-preserved c =
    let g = network_of c.args.network in
    let h = c.args.potentials.forward.now in
    let k = c.args.potentials.backward.now in
    let a = c.loop-a.a in
    let of_h = rule_of_two start g h a (search rules) (search rules) c.keeps_rule.ensures c.if-not-keeps_rule.false in
    let of_k = rule_of_two end g k a (search rules) (search rules) c.keeps_rule-in-loop-a.ensures c.if-not-keeps_rule-2.false in
    lowest_next (breaks_rule g h k) a c.loop-a.invariant (simp (lt-ltb a (arc_count g) (omega arith), of_h, of_k))
