-- Which constraints a program with these sites gives (CCured, TOPLAS 2005).
use Rattle.std.specs.Prelude.{◌≡◌, ◌⊎◌, ◌↔◌, List, IsTrue}
use Rattle.std.specs.List.{Contains}
use Rattle.cc_base.specs.declared.number.TypeId.{TypeId}
use Rattle.cc_base.specs.declared.number.NodeId.{NodeId}
use Rattle.cc_base.specs.declared.place.Place.{Place}
use Rattle.kind_sites.specs.declared.site.Site.{Site}
use Rattle.kind_sites.specs.declared.site.Site.TheVariants as site
use Rattle.c_types.specs.Table.{Table, members_at, is_function}
use Rattle.c_types.specs.Flows.{HeldPointer, flow_class, CorrespondInFlow, CorrespondByPlace}
use Rattle.c_types.specs.Contents.{HoldsMixed, Holds, IsLargest}
use Rattle.kind_sites.specs.Solutions.{HasBelow}
use Rattle.kind_solver.specs.declared.constraint.Constraint.{Constraint}
use Rattle.kind_solver.specs.declared.constraint.Constraint.TheVariants.{Flow, Needs, Equal, Inside, Linked, Force, Plain}
use Rattle.kind_solver.specs.declared.constraint.Why.TheVariants as why
use Rattle.phys_types.specs.Pairs.{HaveNodes}

-- a site says that the pointer with the node points to t, or that the node is the home of an object of type t
abbrev pub HasContents : List Site → NodeId → TypeId → Type 0
HasContents sites n t = Contains sites (site.Pointee n t) ⊎ Contains sites (site.Home n t)

-- the pointers with these nodes correspond in a flow, in two declarations of one name, or in a member and the largest member of a union that isn't mixed
pub data AreOfOneCell (table : Table) (sites : List Site) (a b : NodeId) : Type 0 where
  in_flow : (m n : NodeId) (t u : TypeId) (place : Place) → Contains sites (site.Flow m t n u place) → HaveNodes (CorrespondInFlow table t u) a b
      → AreOfOneCell table sites a b
  declared : (t u : TypeId) → Contains sites (site.Same t u) → HaveNodes (CorrespondByPlace table t u) a b → AreOfOneCell table sites a b
  in_union : (v u m : TypeId) (place : Place) → Contains sites (site.Union v place) → (HoldsMixed table v v → ⊥)
      → Contains (members_at table v) u → IsLargest table v m → HaveNodes (CorrespondByPlace table u m) a b → AreOfOneCell table sites a b

-- t holds a pointer with the node
abbrev pub HoldsNode : Table → TypeId → NodeId → Type 0
HoldsNode table t n = (p : HeldPointer) × Holds table t p × (p.node ≡ n)

-- the constraints that a program with these sites gives
abbrev pub IsGiven : Table → List Site → Constraint → Type 0
IsGiven table sites (Flow from to class below place) =
    (t : TypeId) × (u : TypeId) × Contains sites (site.Flow from t to u place) × (class ≡ flow_class table t u) × (IsTrue below ↔ HasBelow table sites t)
IsGiven table sites (Needs n why.Arith place) = Contains sites (site.Arith n place)
IsGiven table sites (Needs n why.Integer place) = Contains sites (site.Integer n place)
IsGiven table sites (Needs n other place) = ⊥
IsGiven table sites (Equal a b) = AreOfOneCell table sites a b × (a ≡ b → ⊥)
IsGiven table sites (Inside outer inner) = (t : TypeId) × HasContents sites outer t × HoldsNode table t inner
IsGiven table sites (Linked a b) = Contains sites (site.Linked a b)
IsGiven table sites (Force n why.Union place) =
    (t : TypeId) × (v : TypeId) × HasContents sites n t × HoldsMixed table t v × Contains sites (site.Union v place)
IsGiven table sites (Force n other place) = ⊥
IsGiven table sites (Plain n) =
    ((t : TypeId) × Contains sites (site.Home n t)) ⊎ ((t : TypeId) × Contains sites (site.Pointee n t) × IsTrue (is_function table t))

-- the list has exactly the program's constraints, in some order
abbrev pub AreGiven : Table → List Site → List Constraint → Type 0
AreGiven table sites list = (c : Constraint) → Contains list c ↔ IsGiven table sites c
