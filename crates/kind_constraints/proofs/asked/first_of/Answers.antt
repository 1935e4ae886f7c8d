use Rattle.std.proofs.Common.{sym, subst}
use Rattle.c_types.specs.Table.{IsType}
use Rattle.phys_types.specs.Firsts.{IsFirstEqual}
use Rattle.phys_types.proofs.FirstEquals.{first_typed}
use Rattle.kind_constraints.proofs.asked.first_of.Goals as goal

pub returns-clause-first : goal.returns-clause-first
returns-clause-first c =
    subst (IsFirstEqual c.args.asked.now.types.now c.args.t) (sym c.index-first.ensures) (c.requires.asked.equal.first c.args.t c.index-first.result.now c.requires.typed)

pub returns-clause-typed : goal.returns-clause-typed
returns-clause-typed c =
    subst (IsType c.args.asked.now.types.now) (sym c.index-first.ensures)
    (first_typed c.args.asked.now.types.now c.args.asked.now.firsts.items c.requires.asked.equal c.args.t c.index-first.result.now c.requires.typed)
