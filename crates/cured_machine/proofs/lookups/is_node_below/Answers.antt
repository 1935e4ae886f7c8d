use Rattle.std.proofs.Common.{◌∙◌, sym}
use Rattle.cured_machine.proofs.LookupLaws.{walk-out, walk-step}
use Rattle.cured_machine.proofs.lookups.is_node_below.Goals as goal

pub returns-then-node-eq0 : goal.returns-then-node-eq0
returns-then-node-eq0 c = walk-out _ _ _ _ _ c.requires c.if-node-eq0.true c.loop-step.invariant

pub loop-step-preserved : goal.loop-step-preserved
loop-step-preserved c = walk-step _ _ _ _ _ _ _ c.loop-step-test.true (λ e. c.if-node-from.false (e ∙ sym c.from.ensures)) c.parent-node.ensures c.loop-step.invariant
