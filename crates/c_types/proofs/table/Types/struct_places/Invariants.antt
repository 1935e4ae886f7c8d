use Rattle.std.proofs.Common.{◌≡◌, take, map}
use Rattle.c_types.specs.declared.shape.TypeShape.TheVariants.{Struct}
use Rattle.c_types.specs.Layouts.{layout_of, members_end}
use Rattle.c_types.proofs.Laying.{ArePlacesSoFar}
use Rattle.c_types.proofs.table.Types.struct_places.Given as goal

abbrev pub invariant-members : goal.invariant-members
invariant-members l =
    ArePlacesSoFar (layout_of l.self) (Struct 0) l.members l.m-index l.fields.items
    × (l.end ≡ members_end (map (layout_of l.self) (take l.m-index l.members)))
