use Rattle.kind_solver.proofs.Offers.{holds_next}
use Rattle.kind_solver.proofs.spreading.offer_all.Goals as goal

pub loop-origin-preserved : goal.loop-origin-preserved
loop-origin-preserved c =
    holds_next c.args.origins.now c.loop-origin.origin-index _ _ c.loop-origin.causes c.offer.new.causes _ c.loop-origin-test.true
    c.requires.within c.loop-origin.auto.causes c.loop-origin.invariant c.offer.ensures
