use Rattle.std.proofs.Common.{refl, rules, arith}
use Rattle.lower_statements.proofs.SwitchLaws.{more_labels}
use Rattle.lower_statements.proofs.switching.labels_in.Goals as goal

pub loop-item-init : goal.loop-item-init
loop-item-init c = record { counted = record { count = refl; default = λ other. refl }; few = search rules }

pub loop-item-preserved : goal.loop-item-preserved
loop-item-preserved c = record {
  counted = more_labels c.args.items.now c.loop-item.item-index c.item-item.result _ _ c.loop-item-test.true c.item-item.is
      c.loop-item.invariant.counted c.with_item-labels.ensures.labels;
  few = let a = c.loop-item.invariant.few in let b = c.with_item-labels.ensures.few in omega arith;
}
