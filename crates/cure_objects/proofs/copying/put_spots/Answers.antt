use Rattle.std.proofs.Common.{refl}
use Rattle.check_insert.proofs.Laws.{grows_nothing}
use Rattle.cure_objects.proofs.CopyLaws.{kept_more}
use Rattle.cure_objects.proofs.copying.put_spots.Goals as goal

pub loop-spot-init : goal.loop-spot-init
loop-spot-init c = grows_nothing _ _

pub loop-spot-preserved : goal.loop-spot-preserved
loop-spot-preserved c =
    kept_more c.args.k.now c.args.c.from c.args.c.ty c.args.c.source c.args.c.home c.args.c.assignment _ _ _ _ _ _ _ c.loop-spot-test.true refl
    c.loop-spot.invariant c.put_spot.ensures
