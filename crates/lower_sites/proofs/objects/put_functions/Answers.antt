use Rattle.lower_sites.specs.Objects.{sites_of_function}
use Rattle.lower_sites.proofs.SiteLaws.{more_added}
use Rattle.lower_sites.proofs.objects.put_functions.Goals as goal

pub loop-one-preserved : goal.loop-one-preserved
loop-one-preserved c = more_added sites_of_function c.args.all.now c.loop-one.one-index c.one-item.result c.one-item.result _ _ _ c.loop-one-test.true c.one-item.is c.loop-one.invariant c.in_ok-put_function.ensures
