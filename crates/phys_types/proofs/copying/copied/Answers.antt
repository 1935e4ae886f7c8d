use Rattle.phys_types.proofs.Loops.{copies_of_none, copies_next}
use Rattle.phys_types.proofs.copying.copied.Goals as goal

pub returns-then-is_empty : goal.returns-then-is_empty
returns-then-is_empty c =
    copies_of_none c.args.count c.args.size c.args.spots.now c.new-all.result.items c.is_empty.result c.if-is_empty.true c.is_empty.ensures c.new-all.ensures.items

pub loop-i-preserved : goal.loop-i-preserved
loop-i-preserved c = copies_next c.loop-i.i c.args.size c.args.spots.now _ _ c.in_ok-push_shifted.ensures c.loop-i.invariant
