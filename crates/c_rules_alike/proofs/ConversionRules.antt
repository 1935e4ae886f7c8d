-- The rules of assignments, of `?:`, of casts and of values that become one of a type are over an earlier table what they are over each that
-- goes on from it.
use Rattle.std.proofs.Common.{◌≡◌, Bool, not, ◌&&◌, ◌||◌, [], ◌∷◌, ap}
use Rattle.cc_base.specs.declared.place.Place.{Place}
use Rattle.cc_base.specs.declared.number.TypeId.{TypeId}
use Rattle.cc_base.specs.declared.fault.Rule.TheVariants as rule
use Rattle.c_types.specs.Table.{Table, IsType, is_aggregate_shape}
use Rattle.c_tree.specs.declared.operator.Assignment.{Assignment}
use Rattle.c_tree.specs.declared.operator.Assignment.TheVariants as assignment
use Rattle.c_tree.specs.TypedParts.{place_type}
use Rattle.c_typing.specs.Checking.{becomes, value_tests}
use Rattle.c_typing.specs.Conversions.{cast_between}
use Rattle.c_typing.specs.Extensions.{IsExtended}
use Rattle.c_typing.specs.Integers.{assigning}
use Rattle.c_typing.specs.Rules.{is_compound}
use Rattle.c_typing.specs.Scopes.{Scopes}
use Rattle.c_typing.specs.Settled.{IsBasic}
use Rattle.c_typing.specs.Shapes.{is_integer_shape, is_pointer_shape, is_scalar_shape, is_void_shape}
use Rattle.c_typing.specs.Tests.{Elaborated, AsPlace, AsValue, AsAllocation, broken_at, has_some, can_be_written, is_assignable, assign_tests, choice_tests, cast_tests}
use Rattle.c_rules_alike.specs.PartsThere.{IsPartThere}
use Rattle.c_rules_alike.proofs.TypesAlike
use Rattle.c_rules_alike.proofs.PartsAlike
use Rattle.c_rules_alike.proofs.OperatorRules

module _ (J T : Table) (x : IsExtended J T) (b : IsBasic J) where
  pub assignable-over : (operator : Assignment) (p q : Elaborated) → IsPartThere J p → IsPartThere J q
      → is_assignable J operator p q ≡ is_assignable T operator p q
  assignable-over assignment.Assign p q h k =
      let fit = PartsAlike.fits_part-over J T x b q p k h in
      let struct = PartsAlike.struct-over J T x b p q h k in
      λ i. fit i || struct i
  assignable-over operator p q h k =
      let left = PartsAlike.shape_of-over J T x b p h in
      let right = PartsAlike.shape_of-over J T x b q k in
      let moving = OperatorRules.moving-over J T x b (assigning operator) p q h k in
      λ i. (is_integer_shape (left i) && is_integer_shape (right i)) || ((is_pointer_shape (left i) && is_integer_shape (right i)) && moving i)

  pub assign-over : (operator : Assignment) (s : Scopes) (at : Place) (p q : Elaborated) → IsPartThere J p → IsPartThere J q
      → assign_tests J s operator at p q ≡ assign_tests T s operator at p q
  assign-over operator s at p q h k =
      let same = assignable-over operator p q h k in
      let incomplete = PartsAlike.incomplete-over J T x b s p h in
      let array = PartsAlike.array-over J T x b p h in
      λ i. broken_at rule.Incomplete at (is_compound operator && (same i && incomplete i))
      ∷ broken_at rule.Mismatch at (not (same i))
      ∷ broken_at rule.NotPlace at (not (can_be_written p) || array i)
      ∷ []

  pub choice-over : (at : Place) (c p q : Elaborated) → IsPartThere J c → IsPartThere J p → IsPartThere J q
      → choice_tests J at c p q ≡ choice_tests T at c p q
  choice-over at c p q l h k =
      let condition = PartsAlike.shape_of-over J T x b c l in
      let left = PartsAlike.shape_of-over J T x b p h in
      let right = PartsAlike.shape_of-over J T x b q k in
      let struct = PartsAlike.struct-over J T x b p q h k in
      let met = PartsAlike.meet-over J T x b p q h k in
      λ i. broken_at rule.Mismatch at (not (is_scalar_shape (condition i)
      && ((is_integer_shape (left i) && is_integer_shape (right i))
      || ((is_void_shape (left i) && is_void_shape (right i)) || (struct i || met i))))) ∷ []

  pub cast-over : (at : Place) (p : Elaborated) (t : TypeId) → IsPartThere J p → IsType J t → cast_tests J at p t ≡ cast_tests T at p t
  cast-over at p t h k =
      let to = TypesAlike.shape-over J T x b t k in
      let null = PartsAlike.null-over J T x b p h in
      let shape = PartsAlike.shape_of-over J T x b p h in
      λ i. broken_at rule.Mismatch at (not (is_void_shape (to i) || has_some (cast_between (null i) (shape i) (to i)))) ∷ []

  pub becomes-over : (t : TypeId) (p : Elaborated) → IsType J t → IsPartThere J p → becomes J t p ≡ becomes T t p
  becomes-over t (AsPlace p) k h =
      let fit = PartsAlike.fits-over J T x b (AsPlace p) t h k in
      let shape = TypesAlike.shape-over J T x b t k in
      let same = TypesAlike.same-over J T x b t (place_type p) k h.type in
      λ i. fit i || (is_aggregate_shape (shape i) && same i)
  becomes-over t (AsValue e) k h = PartsAlike.fits-over J T x b (AsValue e) t h k
  becomes-over t (AsAllocation e) k h = PartsAlike.fits-over J T x b (AsAllocation e) t h k

  pub value-over : (t : TypeId) (at : Place) (p : Elaborated) → IsType J t → IsPartThere J p → value_tests J t at p ≡ value_tests T t at p
  value-over t at p k h = ap (λ (c : Bool). broken_at rule.Mismatch at (not c) ∷ []) (becomes-over t p k h)
