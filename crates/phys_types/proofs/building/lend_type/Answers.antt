use Rattle.std.proofs.Common.{sym, subst}
use Rattle.phys_types.specs.Shown.{IsKeptOf}
use Rattle.phys_types.proofs.Parts.{low_at}
use Rattle.phys_types.proofs.building.lend_type.Goals as goal

pub lend-requires : goal.lend-requires
lend-requires c = low_at c.args.places.now c.args.built.now c.args.t c.kept.result.now c.requires.kept c.requires.low c.kept.ensures

pub returns : goal.returns
returns c table E u h = c.lend.ensures table E u (subst (IsKeptOf table E u) (sym (c.kept.ensures c.kept.result.now)) (h c.kept.result.now))
