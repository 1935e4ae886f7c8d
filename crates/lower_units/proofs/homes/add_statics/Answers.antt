use Rattle.lower_units.proofs.Lists.{more_statics}
use Rattle.lower_units.proofs.homes.add_statics.Goals as goal

pub loop-one-preserved : goal.loop-one-preserved
loop-one-preserved c = more_statics c.args.all.now c.loop-one.one-index c.one-item.result c.one-item.result _ _ _ c.loop-one-test.true c.one-item.is c.loop-one.invariant c.in_ok-insert.ensures.keys
