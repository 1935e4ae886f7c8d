use Rattle.c_types.specs.Cells.{Relation}
use Rattle.c_types.specs.Table.{members_at}
use Rattle.phys_types.specs.Shown.{ArePartsShown}
use Rattle.phys_types.proofs.Structs.{StructSoFar}
use Rattle.phys_types.proofs.building.struct_layout.Given as goal

abbrev pub invariant-members : goal.invariant-members
invariant-members l = (E : Relation) → ArePartsShown l.types E l.places l.built l.t → StructSoFar l.types E (members_at l.types l.t) l.i l.spots.items l.holds
