-- What the sites of a program tell: of each pointer that code may hold they say what it points to, or whose address it is.
use Rattle.std.specs.Prelude.{◌≡◌, ◌⊎◌, ◌++◌, Some, List, map, flat_map, IsTrue}
use Rattle.std.specs.List.{Contains}
use Rattle.cc_base.specs.declared.kind.Kind.{Kind}
use Rattle.cc_base.specs.declared.number.NodeId.{NodeId}
use Rattle.cc_base.specs.declared.number.TypeId.{TypeId}
use Rattle.cc_base.specs.declared.place.Place.{Place}
use Rattle.c_types.specs.declared.shape.TypeShape.TheVariants as shape
use Rattle.kind_sites.specs.declared.site.Site.{Site}
use Rattle.kind_sites.specs.declared.site.Site.TheVariants.{Flow, Same, Pointee, Home, Union}
use Rattle.c_types.specs.Table.{Table, HasShape, IsComplete, IsUnion, shape_at}
use Rattle.c_types.specs.Equality.{physically_equal}
use Rattle.kind_sites.specs.Solutions.{IsSolution}
use Rattle.src_mem.specs.Memory.{Planned}
use Rattle.cil_form.specs.declared.number.Temp.{Temp}
use Rattle.cil_form.specs.declared.number.Object.{Object}
use Rattle.cil_form.specs.declared.program.Program.{Program}
use Rattle.cil_form.specs.Machine.{plan, variables_of}
use Rattle.cil_form.specs.Sites.{Each}
use Rattle.cil_form.specs.Typing.{HeldType, IntegerOf, PointerTo, PlaceOf, Typing, Context, IsObject, AreDeclaredAlike}

-- Pointers that code holds

-- a pointer's node points to its type; a place is a part of an object, or a whole one whose home is of its type, or of one that its name was
-- declared with besides
abbrev pub IsAsked : List Site → HeldType → Type 0
IsAsked sites (IntegerOf i) = Unit {0}
IsAsked sites (PointerTo node t) = Contains sites (Pointee node t)
IsAsked sites (PlaceOf node t) = Contains sites (Pointee node t) ⊎ ((u : TypeId) × Contains sites (Home node u) × ((u ≡ t) ⊎ AreDeclaredAlike sites u t))

-- a site says so of each pointer and place that is known
abbrev pub AreAsked : List Site → Typing → Type 0
AreAsked sites types = (t : Temp) (x : HeldType) → types t ≡ Some x → IsAsked sites x

-- the sites tell of the pointer types and of the objects that code may name
pub record TellsOf (sites : List Site) (k : Context) : Type 0 where
  pub pointers : (t : TypeId) (node : NodeId) (u : TypeId) → shape_at k.table t ≡ shape.Pointer node u → Contains sites (Pointee node u)
  pub objects : (o : Object) (home : NodeId) (t : TypeId) → IsObject k o home t → IsAsked sites (PlaceOf home t)

-- A program

-- the objects that a program makes: those that live as long as it, and the variables of its functions
abbrev pub objects_of : Program → List Planned
objects_of p = map (λ s. plan s.planned) p.statics ++ flat_map variables_of p.functions

-- Sites that tell all of a table of types and of the objects that are made, and each thing once.
pub record AreSitesTold (table : Table) (made : List Planned) (sites : List Site) : Type 0 where
  pub pointers : (t : TypeId) (n : NodeId) (u : TypeId) → HasShape table t (shape.Pointer n u) → Contains sites (Pointee n u)
  pub objects : Each (λ o. Contains sites (Home o.node o.type)) made
  pub unions : (v : TypeId) → IsUnion table v → IsComplete table v → (place : Place) × Contains sites (Union v place)
  pub pointees : (n : NodeId) (t u : TypeId) → Contains sites (Pointee n t) → Contains sites (Pointee n u) → t ≡ u
  pub homes : (n : NodeId) (t u : TypeId) → Contains sites (Pointee n t) → Contains sites (Home n u) → ⊥
  pub flows : (m n : NodeId) (t u : TypeId) (place : Place) → Contains sites (Flow m t n u place) → Contains sites (Pointee m t) × Contains sites (Pointee n u)
  pub same : (t u : TypeId) → Contains sites (Same t u) → IsTrue (physically_equal table t u)

abbrev pub IsToldOf : Program → Type 0
IsToldOf p = AreSitesTold p.types (objects_of p) p.sites

-- A map from nodes to kinds is a solution of a program in three-address code where it is one of its sites.
abbrev pub IsSolutionOf : Program → (NodeId → Kind) → Type 0
IsSolutionOf p kind = IsSolution p.types p.sites kind
