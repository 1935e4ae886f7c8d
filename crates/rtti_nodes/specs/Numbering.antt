-- Numbers of types that tell their classes: types of one class have one number, and are told apart by what is seen of their pointers.
use Rattle.std.specs.Prelude.{◌≡◌, ℕ, List, ◌∷◌, Option, None, Some, IsTrue}
use Rattle.cc_base.specs.declared.number.TypeId.{TypeId}
use Rattle.cc_base.specs.declared.number.NodeId.{NodeId}
use Rattle.cc_base.specs.declared.kind.Kind.{Kind}
use Rattle.cc_base.specs.declared.kind.Kind.TheVariants.{Safe, Seq, Rtti, Wild}
use Rattle.c_types.specs.declared.shape.TypeShape.{TypeShape}
use Rattle.c_types.specs.declared.shape.TypeShape.TheVariants.{Function}
use Rattle.c_types.specs.Table.{Table, IsType, shape_at}
use Rattle.c_types.specs.Equality.{physically_equal}
use Rattle.c_types.specs.Flows.{HeldPointer, pointer_of_shape, StandAlike, IsOfOneClass}
use Rattle.phys_types.specs.declared.spot.Layout.{Layout}
use Rattle.phys_types.specs.declared.spot.Spot.{Spot}
use Rattle.phys_types.specs.Numbers.{number_in}
use Rattle.phys_types.specs.Signatures.{mixed, mixed_all}
use Rattle.phys_types.specs.Standing.{pointer_of_item}
use Rattle.rtti_nodes.specs.declared.numbering.ClassNumbers.{ClassNumbers}

-- What is seen of types, where pointers have kinds and what they point to has numbers

abbrev pub kind_label : Kind → ℕ
kind_label Safe = 1
kind_label Seq = 2
kind_label Rtti = 3
kind_label Wild = 4

-- of a pointer, if there is one
abbrev pub pointer_label : (NodeId → Kind) → (TypeId → ℕ) → Option HeldPointer → ℕ
pointer_label kind number None = 0
pointer_label kind number (Some p) = mixed (kind_label (kind p.node)) (number p.to)

abbrev pub spot_label : (NodeId → Kind) → (TypeId → ℕ) → Spot → ℕ
spot_label kind number s = pointer_label kind number (pointer_of_item s.item)

abbrev pub slot_label : Table → (NodeId → Kind) → (TypeId → ℕ) → TypeId → ℕ
slot_label table kind number p = pointer_label kind number (pointer_of_shape (shape_at table p))

-- of a type with this shape and layout
abbrev pub label_of_shape : Table → (NodeId → Kind) → (TypeId → ℕ) → TypeShape → Layout → ℕ
label_of_shape table kind number (Function ps r) x = mixed_all 0 (slot_label table kind number) (r ∷ ps)
label_of_shape table kind number shape x = mixed_all 0 (spot_label kind number) x.spots.items

abbrev pub label_at : Table → (NodeId → Kind) → (TypeId → ℕ) → TypeId → Layout → ℕ
label_at table kind number t x = label_of_shape table kind number (shape_at table t) x

-- What numbers tell

-- types of one class have one number
abbrev pub AreCoarse : Table → (NodeId → Kind) → List ℕ → Type 0
AreCoarse table kind numbers = (t u : TypeId) → IsType table t → IsType table u → IsOfOneClass table kind t u → number_in numbers t ≡ number_in numbers u

-- types with one number are of one class
abbrev pub AreFine : Table → (NodeId → Kind) → List ℕ → Type 0
AreFine table kind numbers = (t u : TypeId) → IsType table t → IsType table u → number_in numbers t ≡ number_in numbers u → IsOfOneClass table kind t u

-- pointers at the same places have equal kinds, and what they point to has one number
abbrev pub AgreeAtPlaces : Table → (NodeId → Kind) → List ℕ → TypeId → TypeId → Type 0
AgreeAtPlaces table kind numbers t u =
    (p q : HeldPointer) → StandAlike table t u p q → (kind p.node ≡ kind q.node) × (number_in numbers p.to ≡ number_in numbers q.to)

-- t and u are physically equal, and agree at their places
abbrev pub AreAlikeBy : Table → (NodeId → Kind) → List ℕ → TypeId → TypeId → Type 0
AreAlikeBy table kind numbers t u = IsTrue (physically_equal table t u) × AgreeAtPlaces table kind numbers t u

-- numbers of types that tell their classes, all of them where they are exact
pub record TellClasses (table : Table) (kind : NodeId → Kind) (c : ClassNumbers) : Type 0 where
  pub coarse : AreCoarse table kind c.numbers.items
  pub fine : IsTrue c.are_exact → AreFine table kind c.numbers.items
