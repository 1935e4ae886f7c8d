use Rattle.std.proofs.Common.{subst, arith}
use Rattle.c_types.specs.Sound.{IsWellFormed}
use Rattle.c_types.proofs.PointerCounts.{pointers_few}
use Rattle.c_types.proofs.table.Types.pointers.Goals as goal

pub returns-clause-small : goal.returns-clause-small
returns-clause-small c =
    let h = pointers_few c.args.self.now (subst IsWellFormed c.self.view_is c.self.invariant.formed) c.args.t in
    let e = c.kept.ensures.kept.pointers in omega (arith, h, e)
