use Rattle.c_types.specs.declared.shape.TypeShape.TheVariants.{Union}
use Rattle.c_types.specs.Layouts.{layout_of}
use Rattle.c_types.proofs.Laying.{ArePlacesSoFar}
use Rattle.c_types.proofs.table.Types.union_places.Given as goal

abbrev pub invariant-members : goal.invariant-members
invariant-members l = ArePlacesSoFar (layout_of l.self) (Union 0) l.members l.m-index l.fields.items
