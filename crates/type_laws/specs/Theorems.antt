-- What the laws of the crate say.
use Rattle.std.specs.Prelude.{◌≡◌, ℤ, IsTrue}
use Rattle.cc_base.specs.declared.number.TypeId.{TypeId}
use Rattle.cc_base.specs.declared.number.NodeId.{NodeId}
use Rattle.cc_base.specs.declared.kind.Kind.{Kind}
use Rattle.c_types.specs.Table.{Table, IsComplete}
use Rattle.c_types.specs.Cells.{Relation}
use Rattle.c_types.specs.Equality.{made_alike, within, physically_equal}
use Rattle.c_types.specs.Flows.{IsOfOneClass}
use Rattle.c_types.specs.Sound.{IsWellFormed}
use Rattle.c_types.specs.Widths.{cured_distance}

abbrev pub EqualityIsTheWidest : Type 0
EqualityIsTheWidest =
    (table : Table) (R : Relation) → IsWellFormed table → ((t u : TypeId) → IsTrue (R t u) → IsTrue (within table (made_alike table R) t u))
    → (t u : TypeId) → IsTrue (R t u) → IsTrue (physically_equal table t u)

abbrev pub TypesOfOneClassMoveAlike : Type 0
TypesOfOneClassMoveAlike =
    (table : Table) (kind : NodeId → Kind) (t u : TypeId) (z : ℤ) → IsWellFormed table → IsComplete table t → IsComplete table u
    → IsOfOneClass table kind t u → cured_distance table kind t z ≡ cured_distance table kind u z
