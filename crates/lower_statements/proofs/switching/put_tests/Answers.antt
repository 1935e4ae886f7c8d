use Rattle.std.proofs.Common.{arith}
use Rattle.lower_statements.proofs.SwitchLaws.{next_label, next_test, no_test}
use Rattle.lower_statements.proofs.switching.put_tests.Goals as goal

pub loop-i-preserved : goal.loop-i-preserved
loop-i-preserved c = record {
  made = λ d f. c.loop-i.invariant.made d (next_test c.args.items.now c.loop-i.i c.index-items-i.result _ _ _ _ _ _ _ c.loop-i-test.true
      (let h = c.loop-i.auto.i in omega arith) c.index-items-i.is c.loop-i.invariant.number c.put_test.ensures f);
  number = next_label c.args.items.now c.loop-i.i c.index-items-i-in-loop-i.result _ _ c.loop-i-test.true
      (let h = c.loop-i.auto.i in omega arith) c.index-items-i-in-loop-i.is c.loop-i.invariant.number c.before-label.ensures;
}

pub returns : goal.returns
returns c = c.loop-i.invariant.made _ (no_test c.args.items.now c.loop-i.i _ _ _ _ (let h = c.loop-i-test.false in omega arith))
