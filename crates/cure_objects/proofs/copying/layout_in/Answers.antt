use Rattle.std.proofs.Common.{subst}
use Rattle.c_types.specs.Sound.{IsWellFormed}
use Rattle.phys_types.specs.Lending.{lent_layout}
use Rattle.cure_objects.proofs.StartLaws.{pointers_told}
use Rattle.cure_objects.proofs.copying.layout_in.Goals as goal

pub returns-in_ok-layout-clause-there : goal.returns-in_ok-layout-clause-there
returns-in_ok-layout-clause-there c =
    pointers_told c.args.known.now c.args.t (lent_layout c.in_ok-layout.field-0) (subst IsWellFormed c.requires c.count-count.ensures.formed) c.in_ok-layout.ensures
