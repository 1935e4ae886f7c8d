-- What the laws of the crate say.
use Rattle.std.specs.Prelude.{◌≡◌}
use Rattle.std.specs.List.{Contains}
use Rattle.cc_base.specs.declared.number.NodeId.{NodeId}
use Rattle.cc_base.specs.declared.number.TypeId.{TypeId}
use Rattle.cc_base.specs.declared.place.Place.{Place}
use Rattle.c_types.specs.declared.shape.TypeShape.TheVariants.{Pointer}
use Rattle.kind_sites.specs.declared.site.Site.TheVariants.{Flow, Pointee, Home, Union}
use Rattle.c_types.specs.Table.{Table, HasShape, IsUnion, IsComplete}
use Rattle.c_tree.specs.TypedTree.{TypedTranslationUnit}
use Rattle.c_unit_typing.specs.WellTyped.{IsWellTyped}
use Rattle.src_machine.specs.Sites.{sites_of}

abbrev pub PointersAreTold : Type 0
PointersAreTold =
    (table : Table) (unit : TypedTranslationUnit) → IsWellTyped table unit → (t to : TypeId) (node : NodeId) → HasShape table t (Pointer node to)
    → Contains (sites_of unit table) (Pointee node to)

abbrev pub FlowsAreTold : Type 0
FlowsAreTold =
    (table : Table) (unit : TypedTranslationUnit) → IsWellTyped table unit → (m n : NodeId) (t u : TypeId) (place : Place)
    → Contains (sites_of unit table) (Flow m t n u place) → Contains (sites_of unit table) (Pointee m t) × Contains (sites_of unit table) (Pointee n u)

abbrev pub UnionsAreTold : Type 0
UnionsAreTold =
    (table : Table) (unit : TypedTranslationUnit) → IsWellTyped table unit → (v : TypeId) → IsUnion table v → IsComplete table v
    → (place : Place) × Contains (sites_of unit table) (Union v place)

abbrev pub PointeesAreOne : Type 0
PointeesAreOne =
    (table : Table) (unit : TypedTranslationUnit) → IsWellTyped table unit → (n : NodeId) (t u : TypeId) → Contains (sites_of unit table) (Pointee n t)
    → Contains (sites_of unit table) (Pointee n u) → t ≡ u

abbrev pub HomesAreNoPointers : Type 0
HomesAreNoPointers =
    (table : Table) (unit : TypedTranslationUnit) → IsWellTyped table unit → (n : NodeId) (t u : TypeId) → Contains (sites_of unit table) (Pointee n t)
    → Contains (sites_of unit table) (Home n u) → ⊥
