-- The rules of statements are over an earlier table what they are over each that goes on from it.
use Rattle.std.proofs.Common.{◌≡◌, ℤ, Bool, not, List, [], ◌∷◌, Option, None, Some, refl, ap, ◌∙◌}
use Rattle.cc_base.specs.declared.number.TypeId.{TypeId}
use Rattle.cc_base.specs.declared.place.Place.{Place}
use Rattle.cc_base.specs.declared.fault.Rule.TheVariants as rule
use Rattle.c_types.specs.declared.shape.TypeShape.{TypeShape}
use Rattle.c_types.specs.Table.{Table, IsType, shape_at}
use Rattle.c_tree.specs.TypedTree.{TypedExpr}
use Rattle.c_tree.specs.TypedParts.{type_of}
use Rattle.integers.specs.Arithmetic.{IntegerType}
use Rattle.c_typing.specs.Constants.{with_value}
use Rattle.c_typing.specs.Extensions.{IsExtended}
use Rattle.c_typing.specs.Settled.{IsBasic}
use Rattle.c_typing.specs.Shapes.{is_integer_shape, is_scalar_shape, is_void_shape, integer_at}
use Rattle.c_typing.specs.Tests.{Elaborated, AsPlace, AsValue, AsAllocation, broken_at}
use Rattle.c_rules_alike.specs.PartsThere.{IsPartThere}
use Rattle.c_rules_alike.proofs.TypesAlike
use Rattle.c_rules_alike.proofs.PartsAlike
use Rattle.c_unit_typing.specs.StatementJudging.{promoted_by, label_as}
use Rattle.c_unit_typing.specs.UnitRefusals.{condition_tests, return_tests, label_tests, converted_label, label_value, promoted_type, switch_type, switch_tests}
use Rattle.c_unit_rules_alike.specs.NamesThere.{IsTypeIf}

module _ (J T : Table) (x : IsExtended J T) (b : IsBasic J) where
  pub condition-over : (at : Place) (p : Elaborated) → IsPartThere J p → condition_tests J at p ≡ condition_tests T at p
  condition-over at p h = ap (λ (y : TypeShape). broken_at rule.Mismatch at (not (is_scalar_shape y)) ∷ []) (PartsAlike.shape_of-over J T x b p h)

  pub switch-over : (at : Place) (p : Elaborated) → IsPartThere J p → switch_tests J at p ≡ switch_tests T at p
  switch-over at p h = ap (λ (y : TypeShape). broken_at rule.Mismatch at (not (is_integer_shape y)) ∷ []) (PartsAlike.shape_of-over J T x b p h)

  pub switch_type-over : (c : TypedExpr) → IsPartThere J (AsValue c) → switch_type J c ≡ switch_type T c
  switch_type-over c h = ap (λ (o : Option IntegerType). promoted_type o (type_of c)) (TypesAlike.integer-over J T x b (type_of c) h.type)

  -- `return` of a value, and of none
  pub return-over : (at : Place) (t : TypeId) (p : Elaborated) → IsType J t → IsPartThere J p → return_tests J at t p ≡ return_tests T at t p
  return-over at t p k h = ap (λ (c : Bool). broken_at rule.Mismatch at (not c) ∷ []) (PartsAlike.fits-over J T x b p t h k)

  pub return_none-over : (at : Place) (t : TypeId) → IsType J t
      → broken_at rule.Mismatch at (not (is_void_shape (shape_at J t))) ∷ [] ≡ broken_at rule.Mismatch at (not (is_void_shape (shape_at T t))) ∷ []
  return_none-over at t k = ap (λ (y : TypeShape). broken_at rule.Mismatch at (not (is_void_shape y)) ∷ []) (TypesAlike.shape-over J T x b t k)

  -- what a `switch` is on
  pub promoted-over : (at : Place) (c : TypedExpr) → IsPartThere J (AsValue c)
      → promoted_by at c (integer_at J (type_of c)) ≡ promoted_by at c (integer_at T (type_of c))
  promoted-over at c h = ap (promoted_by at c) (TypesAlike.integer-over J T x b (type_of c) h.type)

  -- labels
  pub label_as-over : (on : Option TypeId) (z : ℤ) → IsTypeIf J on → label_as J on z ≡ label_as T on z
  label_as-over None z k = refl
  label_as-over (Some t) z k = ap (λ (o : Option IntegerType). Some (converted_label o z)) (TypesAlike.integer-over J T x b t k)

  pub label_value-over : (on : Option TypeId) (p : Elaborated) → IsTypeIf J on → IsPartThere J p → label_value J on p ≡ label_value T on p
  label_value-over None p k h = refl
  label_value-over (Some t) (AsPlace p) k h = refl
  label_value-over (Some t) (AsValue e) k h =
      let kind = TypesAlike.integer-over J T x b t k in
      let value = PartsAlike.constant-over J T x b e h in
      λ i. with_value (value i) (λ (z : ℤ). Some (converted_label (kind i) z))
  label_value-over (Some t) (AsAllocation e) k h = refl

  label_at : (v : Option ℤ) (at begin : Place) (labels : List ℤ) → label_tests J v at begin labels ≡ label_tests T v at begin labels
  label_at None at begin labels = refl
  label_at (Some z) at begin labels = refl

  pub label-over : (on : Option TypeId) (p : Elaborated) (at begin : Place) (labels : List ℤ) → IsTypeIf J on → IsPartThere J p
      → label_tests J (label_value J on p) at begin labels ≡ label_tests T (label_value T on p) at begin labels
  label-over on p at begin labels k h =
      label_at (label_value J on p) at begin labels ∙ ap (λ (v : Option ℤ). label_tests T v at begin labels) (label_value-over on p k h)
