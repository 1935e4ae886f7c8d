use Rattle.std.proofs.Common.{◌≡◌, length, take, map}
use Rattle.c_types.specs.Cells.{Relation}
use Rattle.c_types.specs.Table.{members_at}
use Rattle.phys_types.specs.Lending.{lent_layout}
use Rattle.phys_types.specs.Shown.{ArePartsShown, AreLayoutsOf}
use Rattle.phys_types.proofs.building.member_layouts.Given as goal

abbrev pub invariant-members : goal.invariant-members
invariant-members l =
    ((E : Relation) → ArePartsShown l.types E l.places l.built l.t → AreLayoutsOf l.types E (take l.i (members_at l.types l.t)) (map lent_layout l.parts.items))
    × (length l.parts.items ≡ l.i)
