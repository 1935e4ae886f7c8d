use Rattle.std.proofs.Common.{refl}
use Rattle.lower_units.proofs.Lists.{more_planned}
use Rattle.lower_units.proofs.homes.add_planned.Goals as goal

pub loop-one-preserved : goal.loop-one-preserved
loop-one-preserved c = more_planned c.args.all.now c.loop-one.one-index _ _ _ _ _ c.loop-one-test.true refl c.loop-one.invariant c.in_ok-insert.ensures.keys
