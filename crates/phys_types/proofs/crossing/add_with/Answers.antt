use Rattle.std.proofs.Common.{refl, arith}
use Rattle.phys_types.specs.Found.{held}
use Rattle.phys_types.proofs.Crossed.{each_start, each_more, IsWithAt, with_one, with_all}
use Rattle.phys_types.proofs.crossing.add_with.Goals as goal

pub others-init : goal.others-init
others-init c = each_start (IsWithAt (held c.args.p) c.args.qs.now) c.args.found.now

pub others-preserved : goal.others-preserved
others-preserved c =
    each_more (IsWithAt (held c.args.p) c.args.qs.now) c.others.q-index c.args.found.now c.others.found c.add.new.self c.others.invariant
    (with_one (held c.args.p) c.args.qs.now c.others.q-index _ _ c.others.found c.add.new.self (omega arith) refl c.in_ok-add.ensures)

pub returns : goal.returns
returns c = with_all (held c.args.p) c.args.qs.now c.others.q-index c.args.found.now c.others.found (omega arith) c.others.invariant
