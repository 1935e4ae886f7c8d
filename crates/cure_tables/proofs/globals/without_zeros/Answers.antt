use Rattle.std.proofs.Common.{◌≡◌, ◌-◌, get_or, rules, arith}
use Rattle.cure_tables.proofs.Statics.{zeros_next}
use Rattle.cure_tables.proofs.globals.without_zeros.Goals as goal

pub zeros-preserved : goal.zeros-preserved
zeros-preserved c =
    let z : get_or c.args.text.now (c.zeros.count - 1) 0 ≡ 0 = search rules in
    record {
      within = omega arith;
      zeros = zeros_next c.args.text.now c.zeros.count (omega arith) c.zeros.invariant.within z c.zeros.invariant.zeros;
    }
