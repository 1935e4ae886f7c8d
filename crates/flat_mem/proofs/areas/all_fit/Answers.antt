use Rattle.flat_mem.proofs.AreaCode.{all_fit-no, all_fit-more, all_fit-yes}
use Rattle.flat_mem.proofs.areas.all_fit.Goals as goal

pub returns-in-None : goal.returns-in-None
returns-in-None c = all_fit-no _ _ _ _ _ c.loop-area.invariant c.loop-area-test.true c.in-None.ensures

pub loop-area-preserved : goal.loop-area-preserved
loop-area-preserved c = all_fit-more _ _ _ _ _ _ c.loop-area.invariant c.loop-area-test.true c.in-Some.ensures

pub returns : goal.returns
returns c = all_fit-yes _ _ _ _ c.loop-area.invariant c.loop-area-test.false
