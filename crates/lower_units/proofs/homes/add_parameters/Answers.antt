use Rattle.std.proofs.Common.{refl}
use Rattle.lower_units.proofs.Lists.{more_parameters}
use Rattle.lower_units.proofs.homes.add_parameters.Goals as goal

pub loop-one-preserved : goal.loop-one-preserved
loop-one-preserved c = more_parameters c.args.all.now c.loop-one.one-index _ _ _ _ _ c.loop-one-test.true refl c.loop-one.invariant c.in_ok-add_parameter.ensures
