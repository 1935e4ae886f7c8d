-- The constraints of a program, piece by piece: what each site gives.
use Rattle.std.specs.Prelude.{◌≡◌, ◌≢◌, ◌⊎◌, ◌↔◌, Bool, List, slice_index_or, Option, None, Some, IsTrue}
use Rattle.std.specs.List.{Contains, AllByRecursion}
use Rattle.cc_base.specs.declared.number.TypeId.{TypeId}
use Rattle.cc_base.specs.declared.number.NodeId.{NodeId}
use Rattle.cc_base.specs.declared.place.Place.{Place}
use Rattle.kind_sites.specs.declared.site.Site.{Site}
use Rattle.kind_sites.specs.declared.site.Site.TheVariants as site
use Rattle.c_types.specs.declared.flow_class.FlowClass.{FlowClass}
use Rattle.c_types.specs.Table.{Table, members_at, is_function}
use Rattle.c_types.specs.Flows.{HeldPointer, flow_class, StandAlike, CorrespondAtTop}
use Rattle.c_types.specs.Contents.{HoldsMixed, IsLargest}
use Rattle.kind_sites.specs.Solutions.{HasBelow}
use Rattle.kind_solver.specs.declared.constraint.Constraint.{Constraint}
use Rattle.kind_solver.specs.declared.constraint.Constraint.TheVariants.{Flow, Needs, Equal, Inside, Linked, Force, Plain}
use Rattle.kind_solver.specs.declared.constraint.Why.TheVariants as why
use Rattle.constraint_laws.specs.Given.{AreOfOneCell, HoldsNode}
use Rattle.kind_constraints.specs.Adding.{OfSome}

-- What a type holds

-- m is a member of a mixed union that x holds by value
abbrev pub IsMixedMember : Table → TypeId → TypeId → Type 0
IsMixedMember table x m = (v : TypeId) × HoldsMixed table x v × Contains (members_at table v) m

-- the types whose own pointers t holds: t, and the members of the mixed unions that are held
pub data HoldsType (table : Table) (t : TypeId) : TypeId → Type 0 where
  whole : HoldsType table t t
  member : (x m : TypeId) → HoldsType table t x → IsMixedMember table x m → HoldsType table t m

-- the pairs are those of nodes with themselves that t holds
abbrev pub AreNodesIn : Table → TypeId → List (NodeId × NodeId) → Type 0
AreNodesIn table t pairs = (n : NodeId) → ((m : NodeId) × Contains pairs (n, m)) ↔ HoldsNode table t n

-- What a program tells

-- the types that a node points to
abbrev pub IsPointee : List Site → TypeId → Type 0
IsPointee sites t = (n : NodeId) × Contains sites (site.Pointee n t)

abbrev pub pointee_of : Site → Option TypeId
pointee_of (site.Pointee n t) = Some t
pointee_of other = None

abbrev pub union_place_of : Site → Option (TypeId × Place)
union_place_of (site.Union v place) = Some (v, place)
union_place_of other = None

-- the first of the types like t
abbrev pub first_in : List TypeId → TypeId → TypeId
first_in firsts t = slice_index_or firsts t.0 (record { 0 = 0 })

-- q is the first of the types like what the site says that a pointer points to
abbrev pub IsFirstOf : List TypeId → Site → TypeId → Type 0
IsFirstOf firsts site q = (t : TypeId) × (pointee_of site ≡ Some t) × (q ≡ first_in firsts t)

-- the first of the types like each that a node points to, and no others
abbrev pub ArePointees : List TypeId → List Site → List TypeId → Type 0
ArePointees firsts sites pointees = (q : TypeId) → Contains pointees q ↔ ((t : TypeId) × IsPointee sites t × (q ≡ first_in firsts t))

-- the classes of flows between types
abbrev pub AreClasses : Table → List ((TypeId × TypeId) × FlowClass) → Type 0
AreClasses table classes = AllByRecursion (λ e. e.1 ≡ flow_class table e.0.0 e.0.1) classes

-- of types, whether some node's pointee lies strictly below them
abbrev pub AreBelows : Table → List Site → List (TypeId × Bool) → Type 0
AreBelows table sites belows = AllByRecursion (λ e. IsTrue e.1 ↔ HasBelow table sites e.0) belows

-- the unions whose members stand at a place, with it
abbrev pub AreUnionPlaces : List Site → List (TypeId × Place) → Type 0
AreUnionPlaces sites unions = (x : TypeId × Place) → Contains unions x ↔ Contains sites (site.Union x.0 x.1)

-- What a site gives

-- n points to t, or is the home of an object of type t: n forces what it holds
abbrev pub IsOfInner : Table → NodeId → TypeId → Constraint → Type 0
IsOfInner table n t c = (inner : NodeId) × HoldsNode table t inner × (c ≡ Inside n inner)

-- and is forced by what it holds
abbrev pub IsOfMixed : Table → List Site → NodeId → TypeId → Constraint → Type 0
IsOfMixed table sites n t c = (v : TypeId) × (place : Place) × HoldsMixed table t v × Contains sites (site.Union v place) × (c ≡ Force n why.Union place)

abbrev pub IsOfContents : Table → List Site → NodeId → TypeId → Constraint → Type 0
IsOfContents table sites n t c = IsOfInner table n t c ⊎ IsOfMixed table sites n t c

abbrev pub IsOfFlow : Table → List Site → NodeId → TypeId → NodeId → TypeId → Place → Constraint → Type 0
IsOfFlow table sites m t n u place c = (below : Bool) × (IsTrue below ↔ HasBelow table sites t) × (c ≡ Flow m n (flow_class table t u) below place)

-- the constraints other than equalities that a site of the program gives
abbrev pub IsGivenBy : Table → List Site → Site → Constraint → Type 0
IsGivenBy table sites (site.Flow m t n u place) c = IsOfFlow table sites m t n u place c
IsGivenBy table sites (site.Arith n place) c = c ≡ Needs n why.Arith place
IsGivenBy table sites (site.Integer n place) c = c ≡ Needs n why.Integer place
IsGivenBy table sites (site.Linked a b) c = c ≡ Linked a b
IsGivenBy table sites (site.Same t u) c = ⊥
IsGivenBy table sites (site.Pointee n t) c = IsOfContents table sites n t c ⊎ (IsTrue (is_function table t) × (c ≡ Plain n))
IsGivenBy table sites (site.Home n t) c = IsOfContents table sites n t c ⊎ (c ≡ Plain n)
IsGivenBy table sites (site.Union v place) c = ⊥

-- two nodes that differ are of one kind
abbrev pub IsUnlike : NodeId × NodeId → Constraint → Type 0
IsUnlike pair c = (pair.0 ≢ pair.1) × (c ≡ Equal pair.0 pair.1)

-- the equalities
abbrev pub IsEquality : Table → List Site → Constraint → Type 0
IsEquality table sites c = (a : NodeId) × (b : NodeId) × AreOfOneCell table sites a b × (a ≢ b) × (c ≡ Equal a b)

-- two pointers at the same places of a member and the largest member of a union
abbrev pub StandInUnion : Table → TypeId → HeldPointer → HeldPointer → Type 0
StandInUnion table v p q = (u : TypeId) × (m : TypeId) × Contains (members_at table v) u × IsLargest table v m × StandAlike table u m p q

-- the types that a flow goes between
abbrev pub flow_pair_of : Site → Option (TypeId × TypeId)
flow_pair_of (site.Flow m t n u place) = Some (t, u)
flow_pair_of other = None

-- the pairs of types that flows go between
abbrev pub ArePairs : List Site → List (TypeId × TypeId) → Type 0
ArePairs sites pairs = (x : TypeId × TypeId) → Contains pairs x ↔ OfSome sites (λ s y. flow_pair_of s ≡ Some y) x

-- the pointers that correspond in a flow between the types, at the top
abbrev pub IsFlowTop : Table → TypeId × TypeId → HeldPointer → HeldPointer → Type 0
IsFlowTop table x p q = CorrespondAtTop table (flow_class table x.0 x.1) x.0 x.1 p q

-- the pointers that a site other than a flow makes correspond, at the top
abbrev pub IsOtherTop : Table → Site → HeldPointer → HeldPointer → Type 0
IsOtherTop table (site.Flow m t n u place) p q = ⊥
IsOtherTop table (site.Arith n place) p q = ⊥
IsOtherTop table (site.Integer n place) p q = ⊥
IsOtherTop table (site.Linked a b) p q = ⊥
IsOtherTop table (site.Same t u) p q = StandAlike table t u p q
IsOtherTop table (site.Pointee n t) p q = ⊥
IsOtherTop table (site.Home n t) p q = ⊥
IsOtherTop table (site.Union v place) p q = (HoldsMixed table v v → ⊥) × StandInUnion table v p q
