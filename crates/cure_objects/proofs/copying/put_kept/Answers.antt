use Rattle.cure_instrs.proofs.PieceLaws.{then_ready}
use Rattle.cure_objects.proofs.copying.put_kept.Goals as goal

pub returns : goal.returns
returns c = then_ready _ _ _ _ _ _ c.put_spots.ensures c.put.ensures
