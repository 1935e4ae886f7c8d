use Rattle.std.proofs.Common.{arith}
use Rattle.cc_base.specs.Kinds.{kind_at}
use Rattle.fat_layouts.proofs.StopLaws.{spot_next, zero_spot}
use Rattle.fat_layouts.proofs.stops.stops_of.Goals as goal

pub overflow_add-cured : goal.overflow_add-cured
overflow_add-cured c =
    let n = spot_next (kind_at c.args.kinds.now) c.args.spots.now c.spots.spot-index zero_spot c.spots.last c.spots.stops.items c.spots-test.true c.spots.invariant in
    let b = n.behind in let s = n.short in let l = n.low in omega arith

pub overflow_add-cured-in-spots : goal.overflow_add-cured-in-spots
overflow_add-cured-in-spots c =
    let n = spot_next (kind_at c.args.kinds.now) c.args.spots.now c.spots.spot-index zero_spot c.spots.last c.spots.stops.items c.spots-test.true c.spots.invariant in
    let b = n.behind in let s = n.short in let l = n.low in let w = n.wide in let e = c.item_width.ensures in omega arith

pub overflow_add-last : goal.overflow_add-last
overflow_add-last c =
    let n = spot_next (kind_at c.args.kinds.now) c.args.spots.now c.spots.spot-index zero_spot c.spots.last c.spots.stops.items c.spots-test.true c.spots.invariant in
    let s = n.short in let e = c.size.ensures in omega arith
