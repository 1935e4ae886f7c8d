use Rattle.c_printed.proofs.Laws.{one_star, prints_nothing, prints_then}
use Rattle.c_printed.proofs.leaves.put_stars.Goals as goal

pub loop-star-init : goal.loop-star-init
loop-star-init c = record { found = prints_nothing _ }

pub loop-star-preserved : goal.loop-star-preserved
loop-star-preserved c = record {
  found = rw (one_star c.args.all.now c.loop-star.star-index c.star-item.result c.loop-star-test.true c.star-item.is)
      (prints_then _ _ _ _ _ c.loop-star.invariant.found c.put_pointer.ensures);
}
