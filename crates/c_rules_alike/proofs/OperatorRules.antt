-- The rules of operators, of `sizeof` and of members are over an earlier table what they are over each that goes on from it.
use Rattle.std.proofs.Common.{◌≡◌, Bool, not, ◌&&◌, ◌||◌, [], ◌∷◌, refl, ap, if◌then◌else◌}
use Rattle.cc_base.specs.declared.place.Place.{Place}
use Rattle.cc_base.specs.declared.number.TypeId.{TypeId}
use Rattle.cc_base.specs.declared.fault.Rule.TheVariants as rule
use Rattle.c_types.specs.declared.shape.TypeShape.{TypeShape}
use Rattle.c_types.specs.Table.{Table, IsType}
use Rattle.c_tree.specs.declared.leaf.Identifier.{Identifier}
use Rattle.c_tree.specs.declared.operator.Binary.{Binary}
use Rattle.c_tree.specs.declared.operator.Binary.TheVariants as binary
use Rattle.c_tree.specs.declared.operator.MemberOperator.{MemberOperator}
use Rattle.c_tree.specs.declared.operator.MemberOperator.TheVariants as member
use Rattle.c_tree.specs.declared.operator.Unary.{Unary}
use Rattle.c_tree.specs.declared.operator.Unary.TheVariants as unary
use Rattle.c_typing.specs.Extensions.{IsExtended}
use Rattle.c_typing.specs.Integers.{is_logical, is_order, is_equality}
use Rattle.c_typing.specs.Refusals.{member_shape_tests, type_size_tests}
use Rattle.c_typing.specs.Scopes.{Scopes}
use Rattle.c_typing.specs.Settled.{IsBasic}
use Rattle.c_typing.specs.Shapes.{is_integer_shape, is_pointer_shape, is_scalar_shape}
use Rattle.c_typing.specs.Tests.{Elaborated, broken_at, shape_of, can_be_written, is_index_pair, is_moving, accepts, target_tests, size_tests, step_tests, prefix_tests, index_tests, infix_tests, member_tests}
use Rattle.c_rules_alike.specs.PartsThere.{IsPartThere}
use Rattle.c_rules_alike.proofs.TypesAlike
use Rattle.c_rules_alike.proofs.PartsAlike

module _ (J T : Table) (x : IsExtended J T) (b : IsBasic J) where
  -- one operand

  pub target-over : (s : Scopes) (at : Place) (p : Elaborated) → IsPartThere J p → target_tests J s at p ≡ target_tests T s at p
  target-over s at p h =
      let unknown = PartsAlike.open-over J T x b s p h in
      let shape = PartsAlike.shape_of-over J T x b p h in
      λ i. broken_at rule.Incomplete at (unknown i) ∷ broken_at rule.Mismatch at (not (is_pointer_shape (shape i))) ∷ []

  pub size-over : (s : Scopes) (at : Place) (p : Elaborated) → IsPartThere J p → size_tests J s at p ≡ size_tests T s at p
  size-over s at p h = ap (λ (c : Bool). broken_at rule.Incomplete at (not c) ∷ []) (PartsAlike.complete_part-over J T x b s p h)

  pub type_size-over : (s : Scopes) (at : Place) (t : TypeId) → IsType J t → type_size_tests J s at t ≡ type_size_tests T s at t
  type_size-over s at t h = ap (λ (c : Bool). broken_at rule.Incomplete at (not c) ∷ []) (TypesAlike.complete-over J T x b s t h)

  pub step-over : (s : Scopes) (at : Place) (p : Elaborated) → IsPartThere J p → step_tests J s at p ≡ step_tests T s at p
  step-over s at p h =
      let incomplete = PartsAlike.incomplete-over J T x b s p h in
      let shape = PartsAlike.shape_of-over J T x b p h in
      let array = PartsAlike.array-over J T x b p h in
      λ i. broken_at rule.Incomplete at (incomplete i)
      ∷ broken_at rule.Mismatch at (not (is_scalar_shape (shape i)))
      ∷ broken_at rule.NotPlace at (not (can_be_written p) || array i)
      ∷ []

  one : (f : TypeShape → Bool) (at : Place) (p : Elaborated) → IsPartThere J p
      → broken_at rule.Mismatch at (not (f (shape_of J p))) ∷ [] ≡ broken_at rule.Mismatch at (not (f (shape_of T p))) ∷ []
  one f at p h = ap (λ (y : TypeShape). broken_at rule.Mismatch at (not (f y)) ∷ []) (PartsAlike.shape_of-over J T x b p h)

  pub prefix-over : (operator : Unary) (s : Scopes) (at : Place) (p : Elaborated) → IsPartThere J p
      → prefix_tests J s operator at p ≡ prefix_tests T s operator at p
  prefix-over unary.Increment s at p h = step-over s at p h
  prefix-over unary.Decrement s at p h = step-over s at p h
  prefix-over unary.AddressOf s at p h = refl
  prefix-over unary.Dereference s at p h = target-over s at p h
  prefix-over unary.Plus s at p h = one is_integer_shape at p h
  prefix-over unary.Minus s at p h = one is_integer_shape at p h
  prefix-over unary.Complement s at p h = one is_integer_shape at p h
  prefix-over unary.Not s at p h = one is_scalar_shape at p h
  prefix-over unary.SizeOf s at p h = size-over s at p h

  -- two operands

  pair : (p q : Elaborated) → IsPartThere J p → IsPartThere J q → is_index_pair (shape_of J p) (shape_of J q) ≡ is_index_pair (shape_of T p) (shape_of T q)
  pair = PartsAlike.over_two J T x b (λ U. is_index_pair) (λ y z h k. refl)

  pub index-over : (s : Scopes) (at : Place) (p q : Elaborated) → IsPartThere J p → IsPartThere J q → index_tests J s at p q ≡ index_tests T s at p q
  index-over s at p q h k =
      let both = pair p q h k in
      let left = PartsAlike.incomplete-over J T x b s p h in
      let right = PartsAlike.incomplete-over J T x b s q k in
      λ i. broken_at rule.Incomplete at (both i && (left i || right i)) ∷ broken_at rule.Mismatch at (not (both i)) ∷ []

  pub moving-over : (operator : Binary) (p q : Elaborated) → IsPartThere J p → IsPartThere J q
      → is_moving J operator (shape_of J p) (shape_of J q) ≡ is_moving T operator (shape_of T p) (shape_of T q)
  moving-over binary.Add p q h k = pair p q h k
  moving-over binary.Subtract p q h k =
      let left = PartsAlike.shape_of-over J T x b p h in
      let right = PartsAlike.shape_of-over J T x b q k in
      let alike = PartsAlike.point_alike-over J T x b p q h k in
      λ i. (is_pointer_shape (left i) && is_integer_shape (right i)) || alike i
  moving-over operator p q h k = refl

  pub accepts-over : (operator : Binary) (p q : Elaborated) → IsPartThere J p → IsPartThere J q → accepts J operator p q ≡ accepts T operator p q
  accepts-over operator p q h k =
      let left = PartsAlike.shape_of-over J T x b p h in
      let right = PartsAlike.shape_of-over J T x b q k in
      let moving = moving-over operator p q h k in
      let alike = PartsAlike.point_alike-over J T x b p q h k in
      let objects = PartsAlike.data_part-over J T x b p h in
      let met = PartsAlike.meet-over J T x b p q h k in
      λ i. if is_logical operator then is_scalar_shape (left i) && is_scalar_shape (right i)
      else ((is_integer_shape (left i) && is_integer_shape (right i))
      || (moving i || ((is_order operator && (alike i && objects i)) || (is_equality operator && met i))))

  pub infix-over : (operator : Binary) (s : Scopes) (at begin : Place) (p q : Elaborated) → IsPartThere J p → IsPartThere J q
      → infix_tests J s operator at begin p q ≡ infix_tests T s operator at begin p q
  infix-over operator s at begin p q h k =
      let moving = moving-over operator p q h k in
      let left = PartsAlike.incomplete-over J T x b s p h in
      let right = PartsAlike.incomplete-over J T x b s q k in
      let accepted = accepts-over operator p q h k in
      let divides = PartsAlike.divides-over J T x b operator p q h k in
      λ i. broken_at rule.Incomplete at (moving i && (left i || right i))
      ∷ broken_at rule.Mismatch at (not (accepted i))
      ∷ broken_at rule.NotConstant begin (divides i)
      ∷ []

  -- members

  pub member_shape-over : (operator : MemberOperator) (s : Scopes) (p : Elaborated) (at : Place) (name : Identifier) → IsPartThere J p
      → member_shape_tests J operator s p at name ≡ member_shape_tests T operator s p at name
  member_shape-over member.Dot s p at name h = ap (λ (y : TypeShape). member_tests s y at name.bytes name.place) (PartsAlike.shape_of-over J T x b p h)
  member_shape-over member.Arrow s p at name h = ap (λ (y : TypeShape). member_tests s y at name.bytes name.place) (PartsAlike.pointed-over J T x b p h)
