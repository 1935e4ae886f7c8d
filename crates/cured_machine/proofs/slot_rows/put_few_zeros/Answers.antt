use Rattle.std.proofs.Common.{◌∙◌}
use Rattle.cured_machine.proofs.SlotLaws.{few-start, few-next, few-kept}
use Rattle.cured_machine.proofs.slot_rows.put_few_zeros.Goals as goal
use Rattle.cured_machine.proofs.slot_rows.put_few_zeros.Goals.{then-i-count, else-i-count}

pub loop-i-init : goal.loop-i-init
loop-i-init c = few-start c.args.frame.now c.args.count

pub loop-i-preserved : goal.loop-i-preserved
loop-i-preserved c = elim c.if-i-count.branch [
  | then-i-count w ↦ w.frame-is ∙ few-next c.loop-i.frame c.args.frame.now c.args.count c.loop-i.i c.loop-i.invariant w.if-i-count.true
  | else-i-count w ↦ w.frame-is ∙ few-kept c.loop-i.frame c.args.frame.now c.args.count c.loop-i.i c.loop-i.invariant w.if-i-count.false
]
