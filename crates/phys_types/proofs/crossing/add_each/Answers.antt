use Rattle.std.proofs.Common.{refl, arith}
use Rattle.phys_types.proofs.Crossed.{each_start, each_more, AreHeldAt, each_one, each_all}
use Rattle.phys_types.proofs.crossing.add_each.Goals as goal

pub pointers-init : goal.pointers-init
pointers-init c = each_start (AreHeldAt c.args.ps.now c.args.qs.now) c.args.found.now

pub pointers-preserved : goal.pointers-preserved
pointers-preserved c =
    each_more (AreHeldAt c.args.ps.now c.args.qs.now) c.pointers.p-index c.args.found.now c.pointers.found c.add_with.new.found c.pointers.invariant
    (each_one c.args.ps.now c.args.qs.now c.pointers.p-index _ _ c.pointers.found c.add_with.new.found (omega arith) refl c.in_ok-add_with.ensures)

pub returns : goal.returns
returns c = each_all c.args.ps.now c.args.qs.now c.pointers.p-index c.args.found.now c.pointers.found (omega arith) c.pointers.invariant
