-- What the address of a ready place is: its nodes, and whether it is a pointer or a place.
use Rattle.std.proofs.Common.{ℕ, ◌≡◌, ◌⊎◌, inl, inr, sym, subst, false, List, [], ◌∷◌, ◌++◌, Option, Some, None, IsTrue, map}
use Rattle.std.specs.List.{Contains}
use Rattle.cc_base.specs.declared.number.NodeId.{NodeId}
use Rattle.cc_base.specs.declared.number.TypeId.{TypeId}
use Rattle.c_types.specs.declared.shape.TypeShape.{TypeShape}
use Rattle.c_types.specs.declared.shape.TypeShape.TheVariants as shape
use Rattle.kind_sites.specs.declared.site.Site.{Site}
use Rattle.kind_sites.specs.declared.site.Site.TheVariants as site
use Rattle.c_types.specs.Table.{Table, is_aggregate_shape, shape_at}
use Rattle.c_tree.specs.TypedTree as typed
use Rattle.c_tree.specs.TypedTree.{TypedExpr, TypedPlace}
use Rattle.c_tree.specs.TypedParts.{place_type}
use Rattle.c_ready.specs.Rows.{IsLvalue, pointer_behind}
use Rattle.c_ready.specs.Ready.{Stage, IsReadyPlace}
use Rattle.src_machine.specs.Expressions.{is_through_pointer}
use Rattle.src_machine.specs.Sites.{address_at, addresses_at}
use Rattle.cil_form.specs.Sites.{AreAmong}
use Rattle.cil_form.specs.Typing.{HeldType, PointerTo, PlaceOf}
use Rattle.lower_shape.proofs.Places.{IsAddressOf}

-- membership
abbrev pub In : {X : Type 0} → X → List X → Type 0
In x [] = ⊥
In x (y ∷ ys) = (x ≡ y) ⊎ In x ys

pub in-left : {X : Type 0} (x : X) (xs ys : List X) → In x xs → In x (xs ++ ys)
in-left x [] ys h = absurd h
in-left x (y ∷ xs) ys (inl e) = inl e
in-left x (y ∷ xs) ys (inr h) = inr (in-left x xs ys h)

pub in-right : {X : Type 0} (x : X) (xs ys : List X) → In x ys → In x (xs ++ ys)
in-right x [] ys h = h
in-right x (y ∷ xs) ys h = inr (in-right x xs ys h)

pub in-one : {X : Type 0} (x y : X) → In x (y ∷ []) → x ≡ y
in-one x y (inl e) = e
in-one x y (inr h) = absurd h

pub linked-in : (sites : List Site) (n m : NodeId) (l : List NodeId) → AreAmong sites (map (site.Linked n) l) → In m l
    → Contains sites (site.Linked n m)
linked-in sites n m [] h i = absurd i
linked-in sites n m (x ∷ l) h (inl e) = subst (λ z. Contains sites (site.Linked n z)) (sym e) h.0
linked-in sites n m (x ∷ l) h (inr i) = linked-in sites n m l h.1 i

-- what a place leaves: the address of an object or a part, or a pointer
abbrev pub LeftBy : TypedPlace → TypeId → NodeId → Option HeldType → Type 0
LeftBy (typed.ParenPlace at p) t n y = LeftBy p t n y
LeftBy (typed.Target at e u) t n y = y ≡ Some (PointerTo n t)
LeftBy (typed.Element which a at b u) t n y = y ≡ Some (PointerTo n t)
LeftBy (typed.StructAssign p at q) t n y = LeftBy p t n y
LeftBy (typed.StructConditional c at p q) t n y = LeftBy p t n y ⊎ LeftBy q t n y
LeftBy (typed.StructComma e p) t n y = LeftBy p t n y
LeftBy other t n y = y ≡ Some (PlaceOf n t)

pub left-address : (p : TypedPlace) (t : TypeId) (n : NodeId) (y : Option HeldType) → LeftBy p t n y → IsAddressOf n t y
left-address (typed.Variable name home u) t n y h = inr h
left-address (typed.String pieces home u) t n y h = inr h
left-address (typed.ParenPlace at p) t n y h = left-address p t n y h
left-address (typed.Target at e u) t n y h = inl h
left-address (typed.Element which a at b u) t n y h = inl h
left-address (typed.Member p at name i m u) t n y h = inr h
left-address (typed.MemberAt e at name i m u) t n y h = inr h
left-address (typed.StructAssign p at q) t n y h = left-address p t n y h
left-address (typed.StructConditional c at p q) t n y (inl h) = left-address p t n y h
left-address (typed.StructConditional c at p q) t n y (inr h) = left-address q t n y h
left-address (typed.StructComma e p) t n y h = left-address p t n y h

-- no pointer is behind it
pub left-place : (p : TypedPlace) (t : TypeId) (n : NodeId) (y : Option HeldType) → IsLvalue p → pointer_behind p ≡ None → LeftBy p t n y
    → y ≡ Some (PlaceOf n t)
left-place (typed.Variable name home u) t n y l o h = h
left-place (typed.String pieces home u) t n y l o h = h
left-place (typed.ParenPlace at p) t n y l o h = left-place p t n y l o h
left-place (typed.Target at e u) t n y l o h = absurd (cc (o))
left-place (typed.Element which a at b u) t n y l o h = absurd (cc (o))
left-place (typed.Member p at name i m u) t n y l o h = h
left-place (typed.MemberAt e at name i m u) t n y l o h = h
left-place (typed.StructAssign p at q) t n y l o h = absurd (cc (l))
left-place (typed.StructConditional c at p q) t n y l o h = absurd (cc (l))
left-place (typed.StructComma e p) t n y l o h = absurd (cc (l))

-- a pointer is behind it
pub left-pointer : (p : TypedPlace) (t : TypeId) (n : NodeId) (y : Option HeldType) (e : TypedExpr) → pointer_behind p ≡ Some e → LeftBy p t n y
    → y ≡ Some (PointerTo n t)
left-pointer (typed.ParenPlace at p) t n y e o h = left-pointer p t n y e o h
left-pointer (typed.Target at d u) t n y e o h = h
left-pointer (typed.Element which a at b u) t n y e o h = h
left-pointer other t n y e o h = absurd (cc (o))

pub node-lvalue : (T : Table) (p : TypedPlace) (n : NodeId) → IsLvalue p → In n (addresses_at T p) → n ≡ address_at T p
node-lvalue T (typed.Variable name home u) n l i = in-one n (address_at T (typed.Variable name home u)) i
node-lvalue T (typed.String pieces home u) n l i = in-one n (address_at T (typed.String pieces home u)) i
node-lvalue T (typed.ParenPlace at p) n l i = node-lvalue T p n l i
node-lvalue T (typed.Target at e u) n l i = in-one n (address_at T (typed.Target at e u)) i
node-lvalue T (typed.Element which a at b u) n l i = in-one n (address_at T (typed.Element which a at b u)) i
node-lvalue T (typed.Member p at name j m u) n l i = in-one n (address_at T (typed.Member p at name j m u)) i
node-lvalue T (typed.MemberAt e at name j m u) n l i = in-one n (address_at T (typed.MemberAt e at name j m u)) i
node-lvalue T (typed.StructAssign p at q) n l i = absurd (cc (l))
node-lvalue T (typed.StructConditional c at p q) n l i = absurd (cc (l))
node-lvalue T (typed.StructComma e p) n l i = absurd (cc (l))

-- an array is no struct, so its place is an lvalue or a member of a value
no-array : (x : TypeShape) (e : TypeId) (n : ℕ) → x ≡ shape.Array e n → IsTrue (is_aggregate_shape x) → ⊥
no-array x e n h g = absurd (cc (g, h))

abbrev pub IsPlaceOfArray : Stage → TypedPlace → Type 0
IsPlaceOfArray s p = (e : TypeId) × (n : ℕ) × (shape_at s.table (place_type p) ≡ shape.Array e n)

pub array-left : (s : Stage) (p : TypedPlace) (t : TypeId) (n : NodeId) (y : Option HeldType) → IsReadyPlace s p → IsPlaceOfArray s p
    → is_through_pointer p ≡ false → LeftBy p t n y → y ≡ Some (PlaceOf n t)
array-left s (typed.Variable name home u) t n y r a b h = h
array-left s (typed.String pieces home u) t n y r a b h = h
array-left s (typed.ParenPlace at p) t n y r a b h = array-left s p t n y r a b h
array-left s (typed.Target at e u) t n y r a b h = absurd (cc (b))
array-left s (typed.Element which c at d u) t n y r a b h = absurd (cc (b))
array-left s (typed.Member p at name i m u) t n y r a b h = h
array-left s (typed.MemberAt e at name i m u) t n y r a b h = h
array-left s (typed.StructAssign p at q) t n y r a b h = absurd (no-array (shape_at s.table (place_type p)) a.0 a.1 a.2 r.4)
array-left s (typed.StructConditional c at p q) t n y r a b h = absurd (no-array (shape_at s.table (place_type p)) a.0 a.1 a.2 r.5)
array-left s (typed.StructComma e p) t n y r a b h = absurd (no-array (shape_at s.table (place_type p)) a.0 a.1 a.2 r.3)

pub array-node : (s : Stage) (p : TypedPlace) (n : NodeId) → IsReadyPlace s p → IsPlaceOfArray s p → In n (addresses_at s.table p)
    → n ≡ address_at s.table p
array-node s (typed.Variable name home u) n r a i = in-one n (address_at s.table (typed.Variable name home u)) i
array-node s (typed.String pieces home u) n r a i = in-one n (address_at s.table (typed.String pieces home u)) i
array-node s (typed.ParenPlace at p) n r a i = array-node s p n r a i
array-node s (typed.Target at e u) n r a i = in-one n (address_at s.table (typed.Target at e u)) i
array-node s (typed.Element which c at d u) n r a i = in-one n (address_at s.table (typed.Element which c at d u)) i
array-node s (typed.Member p at name j m u) n r a i = in-one n (address_at s.table (typed.Member p at name j m u)) i
array-node s (typed.MemberAt e at name j m u) n r a i = in-one n (address_at s.table (typed.MemberAt e at name j m u)) i
array-node s (typed.StructAssign p at q) n r a i = absurd (no-array (shape_at s.table (place_type p)) a.0 a.1 a.2 r.4)
array-node s (typed.StructConditional c at p q) n r a i = absurd (no-array (shape_at s.table (place_type p)) a.0 a.1 a.2 r.5)
array-node s (typed.StructComma e p) n r a i = absurd (no-array (shape_at s.table (place_type p)) a.0 a.1 a.2 r.3)
