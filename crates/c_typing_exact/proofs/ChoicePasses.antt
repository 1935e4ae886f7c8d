-- A well typed choice breaks no rule.
use Rattle.std.proofs.Common.{◌≡◌, Bool, true, not, ◌&&◌, ◌||◌, Some, None, refl, ap, sym, ◌∙◌, inl, inr, ◌⊎◌}
use Rattle.cc_base.specs.declared.place.Place.{Place}
use Rattle.cc_base.specs.declared.number.NodeId.{NodeId}
use Rattle.cc_base.specs.declared.number.TypeId.{TypeId}
use Rattle.cc_base.specs.declared.fault.Rule.TheVariants as rule
use Rattle.c_types.specs.declared.shape.TypeShape.{TypeShape}
use Rattle.c_types.specs.declared.shape.TypeShape.TheVariants.{Pointer}
use Rattle.c_types.specs.Table.{Table, shape_at}
use Rattle.c_tree.specs.TypedTree.{TypedExpr, TypedPlace}
use Rattle.c_tree.specs.TypedParts.{type_of}
use Rattle.c_typing.specs.Constants.{is_null_constant}
use Rattle.c_typing.specs.Conversions.{bare}
use Rattle.c_typing.specs.Rules.{IsCondition, IsIntegerChoice, IsVoidChoice, IsPointerChoice, AreOneStruct, Meeting, RightIsNull, LeftIsNull, BothPoint, NeverMeet, meeting, meeting_type}
use Rattle.c_typing.specs.Settled.{IsAlike, flat}
use Rattle.c_typing.specs.Shapes.{is_integer_shape, is_pointer_shape, is_scalar_shape, is_void_shape}
use Rattle.c_typing.specs.Tests.{Elaborated, AsPlace, shape_of, are_one_struct, are_integers, choice_tests, meet, taken_as}
use Rattle.c_typing_unique.proofs.Shapes.{is-integer}
use Rattle.c_typing_unique.proofs.Reading.{plain-bare}
use Rattle.c_typing_exact.specs.Passing.{Passes}
use Rattle.c_typing_exact.proofs.Unbroken.{passes_one, or_on}
use Rattle.c_typing_exact.proofs.InfixPasses.{plain_scalar, meets, is_met}

scalar_flat : (x : TypeShape) → is_scalar_shape x ≡ is_scalar_shape (flat x)
scalar_flat (Pointer n t) = refl
scalar_flat x = refl

integer_flat : (x : TypeShape) → is_integer_shape x ≡ is_integer_shape (flat x)
integer_flat (Pointer n t) = refl
integer_flat x = refl

pointer_flat : (x : TypeShape) → is_pointer_shape x ≡ is_pointer_shape (flat x)
pointer_flat (Pointer n t) = refl
pointer_flat x = refl

void_flat : (x : TypeShape) → is_void_shape x ≡ is_void_shape (flat x)
void_flat (Pointer n t) = refl
void_flat x = refl

taken_flat : (T : Table) (x y : TypeShape) → taken_as T x y ≡ taken_as T (flat x) (flat y)
taken_flat T (Pointer n t) (Pointer m u) = refl
taken_flat T x y = refl

pub alike_by : (T : Table) (x : Elaborated) (v : TypedExpr) → IsAlike T x v → (f : TypeShape → Bool) → ((z : TypeShape) → f z ≡ f (flat z)) → f (shape_of T x) ≡ f (shape_at T (type_of v))
alike_by T x v a f same = same (shape_of T x) ∙ ap f a.shape ∙ sym (same (shape_at T (type_of v)))

pub scalar_alike : (T : Table) (x : Elaborated) (v : TypedExpr) → IsAlike T x v → is_scalar_shape (shape_of T x) ≡ is_scalar_shape (shape_at T (type_of v))
scalar_alike T x v a = alike_by T x v a is_scalar_shape scalar_flat

condition : (T : Table) (c : TypedExpr) (z : Elaborated) → IsCondition T c → IsAlike T z (bare c) → is_scalar_shape (shape_of T z) ≡ true
condition T c z h a = scalar_alike T z (bare c) a ∙ plain_scalar T c h.plain h.scalar

-- where one of the four ways is open
choice_by : (T : Table) (at : Place) (z x y : Elaborated) → is_scalar_shape (shape_of T z) ≡ true
    → (are_integers (shape_of T x) (shape_of T y) || ((is_void_shape (shape_of T x) && is_void_shape (shape_of T y)) || (are_one_struct T x y || meet T x y))) ≡ true
    → Passes (choice_tests T at z x y)
choice_by T at z x y h k =
    passes_one rule.Mismatch at (not (is_scalar_shape (shape_of T z)
    && (are_integers (shape_of T x) (shape_of T y) || ((is_void_shape (shape_of T x) && is_void_shape (shape_of T y)) || (are_one_struct T x y || meet T x y)))))
    (λ i. not (h i && k i))

pub struct-choice-passes : (T : Table) (at : Place) (c : TypedExpr) (z : Elaborated) (p q : TypedPlace) → IsCondition T c → IsAlike T z (bare c) → AreOneStruct T p q
    → Passes (choice_tests T at z (AsPlace p) (AsPlace q))
struct-choice-passes T at c z p q h a k =
    let x : Elaborated = AsPlace p in
    let y : Elaborated = AsPlace q in
    let one : are_one_struct T (AsPlace p) (AsPlace q) ≡ true = (λ i. k.aggregate i && k.same i) in
    choice_by T at z (AsPlace p) (AsPlace q) (condition T c z h a)
    (or_on (are_integers (shape_of T x) (shape_of T y)) ((is_void_shape (shape_of T x) && is_void_shape (shape_of T y)) || (are_one_struct T x y || meet T x y))
    (or_on (is_void_shape (shape_of T x) && is_void_shape (shape_of T y)) (are_one_struct T x y || meet T x y)
    (ap (λ (b : Bool). b || meet T x y) one)))

module _ (T : Table) (at : Place) (c a b : TypedExpr) (z x y : Elaborated) (h : IsCondition T c) (pc : IsAlike T z (bare c)) (pa : IsAlike T x (bare a)) (pb : IsAlike T y (bare b)) where
  integers-pass : is_integer_shape (shape_at T (type_of (bare a))) ≡ true → is_integer_shape (shape_at T (type_of (bare b))) ≡ true → Passes (choice_tests T at z x y)
  integers-pass k l =
      let first = alike_by T x (bare a) pa is_integer_shape integer_flat ∙ k in
      let second = alike_by T y (bare b) pb is_integer_shape integer_flat ∙ l in
      choice_by T at z x y (condition T c z h pc)
      (λ i. (first i && second i) || ((is_void_shape (shape_of T x) && is_void_shape (shape_of T y)) || (are_one_struct T x y || meet T x y)))

  voids-pass : is_void_shape (shape_at T (type_of (bare a))) ≡ true → is_void_shape (shape_at T (type_of (bare b))) ≡ true → Passes (choice_tests T at z x y)
  voids-pass k l =
      let first = alike_by T x (bare a) pa is_void_shape void_flat ∙ k in
      let second = alike_by T y (bare b) pb is_void_shape void_flat ∙ l in
      choice_by T at z x y (condition T c z h pc)
      (or_on (are_integers (shape_of T x) (shape_of T y)) ((is_void_shape (shape_of T x) && is_void_shape (shape_of T y)) || (are_one_struct T x y || meet T x y))
      (λ i. (first i && second i) || (are_one_struct T x y || meet T x y)))

  pub choice-passes : (t : TypeId) → IsIntegerChoice T at a b t ⊎ IsVoidChoice T a b t → Passes (choice_tests T at z x y)
  choice-passes t (inl k) = integers-pass (is-integer T (type_of (bare a)) k.left k.first) (is-integer T (type_of (bare b)) k.right k.second)
  choice-passes t (inr k) =
      voids-pass (ap (λ (w : TypedExpr). is_void_shape (shape_at T (type_of w))) (plain-bare a k.first.0) ∙ ap is_void_shape k.first.1.1)
      (ap (λ (w : TypedExpr). is_void_shape (shape_at T (type_of w))) (plain-bare b k.second.0) ∙ ap is_void_shape k.second.1.1)

  typed_met : (m : Meeting) (t : TypeId) → meeting_type m ≡ Some t → is_met m ≡ true
  typed_met (RightIsNull u) t q = refl
  typed_met (LeftIsNull u) t q = refl
  typed_met (BothPoint u) t q = refl
  typed_met NeverMeet t q = absurd (let w : None ≡ Some t = q in cc)

  pub pointer-choice-passes : (n : NodeId) (t : TypeId) → IsPointerChoice T c at a b n t → Passes (choice_tests T at z x y)
  pointer-choice-passes n t k =
      let met = meets T (is_null_constant T (bare a)) (is_null_constant T (bare b)) (shape_at T (type_of (bare a))) (shape_at T (type_of (bare b))) (typed_met (meeting T (bare a) (bare b)) k.to k.meets) in
      let first = alike_by T x (bare a) pa is_pointer_shape pointer_flat in
      let second = alike_by T y (bare b) pb is_pointer_shape pointer_flat in
      let taken = taken_flat T (shape_of T x) (shape_of T y) ∙ (λ i. taken_as T (pa.shape i) (pb.shape i)) ∙ sym (taken_flat T (shape_at T (type_of (bare a))) (shape_at T (type_of (bare b)))) in
      let there : meet T x y ≡ true = (λ i. (pb.null i && first i) || ((pa.null i && second i) || taken i)) ∙ met in
      choice_by T at z x y (condition T c z h pc)
      (or_on (are_integers (shape_of T x) (shape_of T y)) ((is_void_shape (shape_of T x) && is_void_shape (shape_of T y)) || (are_one_struct T x y || meet T x y))
      (or_on (is_void_shape (shape_of T x) && is_void_shape (shape_of T y)) (are_one_struct T x y || meet T x y)
      (or_on (are_one_struct T x y) (meet T x y) there)))
