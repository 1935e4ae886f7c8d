-- A value that fits is converted, and what is made of it is well typed; `++`, `--` and `sizeof` where no rule is broken.
use Rattle.std.proofs.Common.{◌≡◌, Bool, true, false, not, ◌||◌, Option, Some, None, refl, ap, sym, subst, ◌∙◌, inl, inr, ◌⊎◌}
use Rattle.cc_base.specs.declared.place.Place.{Place}
use Rattle.cc_base.specs.declared.number.TypeId.{TypeId}
use Rattle.cc_base.specs.declared.fault.Fault.TheVariants.{Refused}
use Rattle.cc_base.specs.declared.fault.Rule.TheVariants as rule
use Rattle.c_types.specs.declared.shape.TypeShape.{TypeShape}
use Rattle.c_types.specs.declared.shape.TypeShape.TheVariants.{Void, Integer, Pointer, Array, Function, Struct, Union}
use Rattle.c_types.specs.Table.{Table, shape_at}
use Rattle.c_types.specs.Layouts.{size_of}
use Rattle.c_tree.specs.declared.operator.Step.{Step}
use Rattle.c_tree.specs.declared.typed_word.Conversion.{Conversion}
use Rattle.c_tree.specs.declared.typed_word.Conversion.TheVariants as conversion
use Rattle.c_tree.specs.TypedTree as typed
use Rattle.c_tree.specs.TypedTree.{TypedExpr, TypedPlace}
use Rattle.c_tree.specs.TypedParts.{type_of, place_type}
use Rattle.integers.specs.Arithmetic.{unsigned_long}
use Rattle.c_typing.specs.Assignments.{converted_by, converted_to}
use Rattle.c_typing.specs.Constants.{is_null_constant}
use Rattle.c_typing.specs.Conversions.{bare, IsPlain, implicit, implicit_between, converting, converting_by, IsConverted}
use Rattle.c_typing.specs.Operations.{size_type}
use Rattle.c_typing.specs.Rules.{IsStep, is_steppable_shape, is_lvalue}
use Rattle.c_typing.specs.Scopes.{Scopes, is_complete_at}
use Rattle.c_typing.specs.Settled.{IsBasic, IsFollowed, IsSettled}
use Rattle.c_typing.specs.Shapes.{is_scalar_shape, is_array_shape}
use Rattle.c_typing.specs.Tests.{AsPlace, AsValue, first_broken, step_tests, size_tests, fits, has_some, decayed, points_to_incomplete, is_array_part}
use Rattle.c_typing.specs.Typing.{IsTyped, IsPlace}
use Rattle.c_typing_laws.proofs.ExtensionLaws.{no_true}
use Rattle.c_typing_laws.proofs.ConstructLaws.{one_unbroken, three_unbroken, not_false, or_left, or_right, to_integer-typed, to_integer-bare}
use Rattle.c_typing_laws.proofs.InfixLaws.{null_plain}

converting-typed : (T : Table) (s0 s : Scopes) (at : Place) (t : TypeId) (e : TypedExpr) (which : Conversion) → IsPlain e → IsTyped T e s0 s
    → IsTyped T (converting which at t e) s0 s
converting-typed T s0 s at t e conversion.IntegerToInteger plain typed_e = to_integer-typed T s0 s at t e plain typed_e
converting-typed T s0 s at t e which plain typed_e = (typed_e, plain)

converting-bare : (at : Place) (t : TypeId) (e : TypedExpr) (which : Conversion) → bare e ≡ e → bare (converting which at t e) ≡ e
converting-bare at t e conversion.IntegerToInteger h = to_integer-bare at t e h
converting-bare at t e which h = refl

converted-by : (T : Table) (at : Place) (t : TypeId) (e : TypedExpr) (o : Option Conversion) → implicit T e t ≡ o → has_some o ≡ true → IsPlain e → bare e ≡ e
    → IsConverted T at t (converted_by o at t e)
converted-by T at t e None same h plain own = no_true h
converted-by T at t e (Some which) same h plain own =
    let again = converting-bare at t e which own in
    record {
      plain = subst IsPlain (sym again) plain;
      made = ap (λ (v : TypedExpr). converting_by (implicit T v t) at t v) again ∙ ap (λ (o : Option Conversion). converting_by o at t e) same;
    }

typed-by : (T : Table) (s0 s : Scopes) (at : Place) (t : TypeId) (e : TypedExpr) (o : Option Conversion) → has_some o ≡ true → IsPlain e → IsTyped T e s0 s
    → IsTyped T (converted_by o at t e) s0 s
typed-by T s0 s at t e None h plain typed_e = no_true h
typed-by T s0 s at t e (Some which) h plain typed_e = converting-typed T s0 s at t e which plain typed_e

-- what fits is a scalar or a null constant
fits_by : (T : Table) (null : Bool) (x y : TypeShape) → has_some (implicit_between T null x y) ≡ true → (is_scalar_shape x ≡ true) ⊎ (null ≡ true)
fits_by T true x y h = inr refl
fits_by T false (Integer bytes signed) y h = inl refl
fits_by T false (Pointer n t) y h = inl refl
fits_by T false x y h = no_true h

module _ (T : Table) (s0 s : Scopes) (at : Place) (t : TypeId) (e : TypedExpr) (k : IsSettled T e) (typed_e : IsTyped T e s0 s) (h : fits T (AsValue e) (shape_at T t) ≡ true) where
  pub fits-plain : IsPlain e
  fits-plain = elim (fits_by T (is_null_constant T e) (shape_at T (type_of e)) (shape_at T t) h) [
    | inl scalar ↦ k.plain scalar
    | inr null ↦ null_plain T s0 s e k.unconverted typed_e null
  ]

  pub fits-converted : IsConverted T at t (converted_to T at t e)
  fits-converted = converted-by T at t e (implicit T e t) refl h fits-plain k.bare

  pub fits-typed : IsTyped T (converted_to T at t e) s0 s
  fits-typed = typed-by T s0 s at t e (implicit T e t) h fits-plain typed_e

-- `++` and `--`

step_by : (T : Table) (s : Scopes) (p : TypedPlace) (x : TypeShape) → shape_at T (place_type p) ≡ x → points_to_incomplete T s (decayed x) ≡ false
    → is_scalar_shape (decayed x) ≡ true → is_array_part T (AsPlace p) ≡ false → is_steppable_shape T s x ≡ true
step_by T s p (Integer bytes signed) e whole scalar array = refl
step_by T s p (Pointer n t) e whole scalar array = not_false (is_complete_at T s t) whole
step_by T s p (Array t n) e whole scalar array = no_true (sym array ∙ ap is_array_shape e)
step_by T s p Void e whole scalar array = no_true scalar
step_by T s p (Function ps r) e whole scalar array = no_true scalar
step_by T s p (Struct n) e whole scalar array = no_true scalar
step_by T s p (Union n) e whole scalar array = no_true scalar

pub step_typed : (T : Table) (s0 s : Scopes) (operator : Step) (at : Place) (p : TypedPlace) → IsPlace T p s0 s
    → first_broken (step_tests T s at (AsPlace p)) ≡ None
    → IsTyped T (typed.StepBefore operator at p) s0 s × IsTyped T (typed.StepAfter p operator at) s0 s
step_typed T s0 s operator at p place h =
    let x : TypeShape = shape_at T (place_type p) in
    let three = three_unbroken (points_to_incomplete T s (decayed x)) (not (is_scalar_shape (decayed x))) (not (is_lvalue p) || is_array_part T (AsPlace p))
    (Refused at rule.Incomplete) (Refused at rule.Mismatch) (Refused at rule.NotPlace) h in
    let step : IsStep T s p = record {
      steps = step_by T s p x refl three.0 (not_false (is_scalar_shape (decayed x)) three.1) (or_right (not (is_lvalue p)) (is_array_part T (AsPlace p)) three.2);
      lvalue = not_false (is_lvalue p) (or_left (not (is_lvalue p)) (is_array_part T (AsPlace p)) three.2);
    } in
    ((place, step), (place, step))

-- `sizeof` of a place

pub size_typed : (T : Table) (s0 s : Scopes) (at : Place) (p : TypedPlace) → IsBasic T → IsFollowed T s → IsPlace T p s0 s → first_broken (size_tests T s at (AsPlace p)) ≡ None
    → IsTyped T (typed.SizeOfPlace at p (size_of T (place_type p)) size_type) s0 s
size_typed T s0 s at p basic followed place h = (
  place,
  record {
    complete = not_false (is_complete_at T s (place_type p)) (one_unbroken (not (is_complete_at T s (place_type p))) (Refused at rule.Incomplete) h);
    known = followed (place_type p) (not_false (is_complete_at T s (place_type p)) (one_unbroken (not (is_complete_at T s (place_type p))) (Refused at rule.Incomplete) h));
    given = refl;
    type = basic.integers unsigned_long (inr (inr (inr refl)));
  },
)
