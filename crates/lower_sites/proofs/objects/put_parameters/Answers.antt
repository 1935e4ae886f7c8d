use Rattle.std.proofs.Common.{refl}
use Rattle.lower_sites.specs.Objects.{site_of_parameter}
use Rattle.lower_sites.proofs.SiteLaws.{more_added}
use Rattle.lower_sites.proofs.objects.put_parameters.Goals as goal

pub loop-one-preserved : goal.loop-one-preserved
loop-one-preserved c = more_added site_of_parameter c.args.all.now c.loop-one.one-index _ _ _ _ _ c.loop-one-test.true refl c.loop-one.invariant c.in_ok-put_parameter.ensures
