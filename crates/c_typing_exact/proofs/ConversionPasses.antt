-- A well typed assignment, cast and choice break no rule.
use Rattle.std.proofs.Common.{◌≡◌, Bool, true, false, not, ◌&&◌, ◌||◌, [], ◌∷◌, Option, Some, None, refl, ap, sym, ◌∙◌, inl, inr, ◌⊎◌, if◌then◌else◌}
use Rattle.cc_base.specs.declared.place.Place.{Place}
use Rattle.cc_base.specs.declared.number.NodeId.{NodeId}
use Rattle.cc_base.specs.declared.number.TypeId.{TypeId}
use Rattle.cc_base.specs.declared.fault.Rule.TheVariants as rule
use Rattle.c_types.specs.declared.shape.TypeShape.{TypeShape}
use Rattle.c_types.specs.declared.shape.TypeShape.TheVariants.{Void, Integer, Pointer, Array, Function, Struct, Union}
use Rattle.c_types.specs.Table.{Table, shape_at}
use Rattle.c_types.specs.Sameness.{is_same_type}
use Rattle.c_tree.specs.declared.operator.Assignment.{Assignment}
use Rattle.c_tree.specs.declared.operator.Assignment.TheVariants as assignment
use Rattle.c_tree.specs.declared.operator.Binary.{Binary}
use Rattle.c_tree.specs.declared.operator.Binary.TheVariants as binary
use Rattle.c_tree.specs.declared.typed_word.Side.TheVariants as side
use Rattle.c_tree.specs.declared.typed_word.Conversion.{Conversion}
use Rattle.c_tree.specs.declared.typed_word.Conversion.TheVariants as conversion
use Rattle.c_tree.specs.TypedTree.{TypedExpr, TypedPlace}
use Rattle.c_tree.specs.TypedParts.{type_of, place_type}
use Rattle.integers.specs.Arithmetic.{IntegerType}
use Rattle.c_typing.specs.Constants.{is_null_constant}
use Rattle.c_typing.specs.Conversions.{bare, IsConverted, IsAssignedBy, implicit, implicit_between, cast_between, cast_conversion, converting_by, takes_over, is_allocation, is_pointer_to_complete, is_pointer_to_complete_shape, is_taken_as, are_data, points_to_void}
use Rattle.c_typing.specs.Integers.{assigning}
use Rattle.c_typing.specs.Rules.{IsAssignment, IsStructAssignment, IsUpdate, IsIntegerUpdate, IsPointerUpdate, IsScalarCast, is_compound, is_lvalue, is_move}
use Rattle.c_typing.specs.Scopes.{Scopes, is_complete_at}
use Rattle.c_typing.specs.Settled.{IsBasic, IsAlike, flat}
use Rattle.c_typing.specs.Shapes.{integer_at, is_integer_shape, is_pointer_shape, is_array_shape, is_void_shape, is_function_shape, is_data, shape_of_integer}
use Rattle.c_typing.specs.Tests.{Elaborated, AsPlace, AsValue, AsAllocation, broken_at, decayed, shape_of, has_some, fits, is_null_part, points_to_incomplete, is_array_part, are_one_struct, are_integers, is_moving, is_assignable, assign_tests, cast_tests, void_type}
use Rattle.c_typing_laws.proofs.SidesAlike.{fits_flat}
use Rattle.c_typing_unique.proofs.Reading.{plain-bare}
use Rattle.c_typing_unique.proofs.Shapes.{no_true, scalar-no-array, aggregate-no-array}
use Rattle.c_typing_exact.specs.Passing.{Passes, IsGivenAs}
use Rattle.c_typing_exact.proofs.Unbroken.{passes_one, passes_and, and_off, or_on, off}
use Rattle.c_typing_exact.proofs.InfixPasses.{integer_shape}
use Rattle.c_typing_exact.proofs.OperatorPasses.{no_array}

-- What is converted fits

conversion_there : (o : Option Conversion) (at : Place) (t : TypeId) (e f : TypedExpr) → converting_by o at t e ≡ Some f → has_some o ≡ true
conversion_there None at t e f h = absurd (let q : None ≡ Some f = h in cc)
conversion_there (Some which) at t e f h = refl

pub fits_alike : (T : Table) (x : Elaborated) (v : TypedExpr) (to : TypeShape) → IsAlike T x v → fits T x to ≡ fits T (AsValue v) to
fits_alike T x v to a =
    fits_flat T (is_null_part T x) (shape_of T x) to
    ∙ (λ i. has_some (implicit_between T (a.null i) (a.shape i) to))
    ∙ sym (fits_flat T (is_null_constant T v) (shape_at T (type_of v)) to)

pub converted-fits : (T : Table) (at : Place) (t : TypeId) (e : TypedExpr) (x : Elaborated) → IsConverted T at t e → IsAlike T x (bare e) → fits T x (shape_at T t) ≡ true
converted-fits T at t e x h a =
    fits_alike T x (bare e) (shape_at T t) a ∙ conversion_there (implicit T (bare e) t) at t (bare e) e h.made

-- an allocation fits a pointer to a complete type
complete_data : (s : Scopes) (T : Table) (t : TypeId) (x : TypeShape) → shape_at T t ≡ x → is_complete_at T s t ≡ true → is_function_shape x ≡ false
complete_data s T t (Function ps r) q h = no_true (sym (rw q refl) ∙ h)
complete_data s T t Void q h = refl
complete_data s T t (Integer b r) q h = refl
complete_data s T t (Pointer n u) q h = refl
complete_data s T t (Array u n) q h = refl
complete_data s T t (Struct n) q h = refl
complete_data s T t (Union n) q h = refl

module _ (T : Table) (basic : IsBasic T) (s : Scopes) where
  void_taken : (t : TypeId) → is_complete_at T s t ≡ true → is_taken_as T void_type t ≡ true
  void_taken t h =
      let void : is_void_shape (shape_at T void_type) ≡ true = ap is_void_shape basic.void.1 in
      let first : is_data T void_type ≡ true = ap (λ (z : TypeShape). not (is_function_shape z)) basic.void.1 in
      let second : is_data T t ≡ true = ap not (complete_data s T t (shape_at T t) refl h) in
      or_on (is_same_type T void_type t) (are_data T void_type t && (points_to_void T void_type || points_to_void T t))
      (λ i. (first i && second i) && (void i || points_to_void T t))

  block_fits : (w : TypedExpr) (y : TypeShape) → is_pointer_to_complete_shape T s y ≡ true → fits T (AsAllocation w) y ≡ true
  block_fits w (Pointer n t) h =
      ap (λ (b : Bool). has_some (if b then Some conversion.PointerToPointer else None)) (void_taken t h)
  block_fits w y h = no_true h

  -- what is assigned to a type fits it: a value like the one in the tree, or an allocation that the type takes over
  pub assigned-fits : (at : Place) (t : TypeId) (e : TypedExpr) (y : Elaborated) (b : Bool) → takes_over T s t e ≡ b → IsAssignedBy b T at t e
      → (b ≡ false → IsAlike T y (bare e)) → (b ≡ true → (w : TypedExpr) × (y ≡ AsAllocation w)) → fits T y (shape_at T t) ≡ true
  assigned-fits at t e y false q h alike block = converted-fits T at t e y h (alike refl)
  assigned-fits at t e y true q h alike block =
      let one = block refl in
      ap (λ (z : Elaborated). fits T z (shape_at T t)) one.1 ∙ block_fits one.0 (shape_at T t) (and_second (is_allocation (bare e)) (is_pointer_to_complete T s t) q)
    where
      and_second : (a c : Bool) → (a && c) ≡ true → c ≡ true
      and_second true c k = k
      and_second false c k = no_true k

-- Assignments

decayed_same : (x : TypeShape) → is_array_shape x ≡ false → decayed x ≡ x
decayed_same (Array t n) h = no_true (sym h)
decayed_same x h = refl

lvalue_passes : (T : Table) (at : Place) (p : TypedPlace) → is_lvalue p ≡ true → is_array_shape (shape_at T (place_type p)) ≡ false
    → Passes (broken_at rule.NotPlace at (not (is_lvalue p) || is_array_part T (AsPlace p)) ∷ [])
lvalue_passes T at p l a =
    let array = no_array T p a in
    passes_one rule.NotPlace at (not (is_lvalue p) || is_array_part T (AsPlace p)) (λ i. not (l i) || array i)

pub assign-passes : (T : Table) (s : Scopes) (at : Place) (p : TypedPlace) (e : TypedExpr) (y : Elaborated) → IsAssignment T s p at e → fits T y (shape_at T (place_type p)) ≡ true
    → Passes (assign_tests T s assignment.Assign at (AsPlace p) y)
assign-passes T s at p e y h fit =
    let array = scalar-no-array (shape_at T (place_type p)) h.scalar in
    let own = decayed_same (shape_at T (place_type p)) array in
    let fitted : fits T y (shape_of T (AsPlace p)) ≡ true = ap (fits T y) own ∙ fit in
    passes_and rule.Mismatch at (not (fits T y (shape_of T (AsPlace p)) || are_one_struct T (AsPlace p) y))
    (broken_at rule.NotPlace at (not (is_lvalue p) || is_array_part T (AsPlace p)) ∷ [])
    (ap (λ (b : Bool). not (b || are_one_struct T (AsPlace p) y)) fitted)
    (lvalue_passes T at p h.lvalue array)

pub struct-assign-passes : (T : Table) (s : Scopes) (at : Place) (p q : TypedPlace) → IsStructAssignment T p q → Passes (assign_tests T s assignment.Assign at (AsPlace p) (AsPlace q))
struct-assign-passes T s at p q h =
    let array = aggregate-no-array (shape_at T (place_type p)) h.types.aggregate in
    let one : are_one_struct T (AsPlace p) (AsPlace q) ≡ true = (λ i. h.types.aggregate i && h.types.same i) in
    passes_and rule.Mismatch at (not (fits T (AsPlace q) (shape_of T (AsPlace p)) || are_one_struct T (AsPlace p) (AsPlace q)))
    (broken_at rule.NotPlace at (not (is_lvalue p) || is_array_part T (AsPlace p)) ∷ [])
    (off (fits T (AsPlace q) (shape_of T (AsPlace p)) || are_one_struct T (AsPlace p) (AsPlace q)) (or_on (fits T (AsPlace q) (shape_of T (AsPlace p))) (are_one_struct T (AsPlace p) (AsPlace q)) one))
    (lvalue_passes T at p h.lvalue array)

-- the shape of an integer is that of its value
flat_integer : (z : TypeShape) (k : IntegerType) → flat z ≡ shape_of_integer k → z ≡ shape_of_integer k
flat_integer (Pointer n t) k h = cc
flat_integer Void k h = h
flat_integer (Integer b r) k h = h
flat_integer (Array t n) k h = h
flat_integer (Function ps r) k h = h
flat_integer (Struct n) k h = h
flat_integer (Union n) k h = h

pub integer_alike : (T : Table) (x : Elaborated) (v : TypedExpr) (k : IntegerType) → IsAlike T x v → integer_at T (type_of v) ≡ Some k → shape_of T x ≡ shape_of_integer k
integer_alike T x v k a h = flat_integer (shape_of T x) k (a.shape ∙ ap flat (integer_shape (shape_at T (type_of v)) k h))

abbrev compound_on : Table → Scopes → Assignment → Place → TypeShape → TypeShape → Bool
compound_on T s operator at x y =
    are_integers x y || ((is_pointer_shape x && is_integer_shape y) && is_moving T (assigning operator) x y)

compound_assignable : (T : Table) (s : Scopes) (operator : Assignment) (at : Place) (x y : Elaborated) → is_compound operator ≡ true
    → is_assignable T operator x y ≡ compound_on T s operator at (shape_of T x) (shape_of T y)
compound_assignable T s assignment.Assign at x y h = no_true h
compound_assignable T s operator at x y h = refl

update_move : (T : Table) (operator : Binary) (n : NodeId) (t : TypeId) (k : IntegerType) → is_move operator side.Left ≡ true
    → is_moving T operator (Pointer n t) (shape_of_integer k) ≡ true
update_move T binary.Add n t k h = refl
update_move T binary.Subtract n t k h = refl
update_move T operator n t k h = no_true h

update_passes : (T : Table) (s : Scopes) (operator : Assignment) (at : Place) (p : TypedPlace) (y : Elaborated) → is_compound operator ≡ true → is_lvalue p ≡ true
    → is_array_shape (shape_at T (place_type p)) ≡ false → points_to_incomplete T s (shape_of T (AsPlace p)) ≡ false → is_assignable T operator (AsPlace p) y ≡ true
    → Passes (assign_tests T s operator at (AsPlace p) y)
update_passes T s operator at p y c l a i g =
    passes_and rule.Incomplete at (is_compound operator && (is_assignable T operator (AsPlace p) y && points_to_incomplete T s (shape_of T (AsPlace p))))
    (broken_at rule.Mismatch at (not (is_assignable T operator (AsPlace p) y)) ∷ broken_at rule.NotPlace at (not (is_lvalue p) || is_array_part T (AsPlace p)) ∷ [])
    (and_off (is_compound operator) (is_assignable T operator (AsPlace p) y && points_to_incomplete T s (shape_of T (AsPlace p)))
    (and_off (is_assignable T operator (AsPlace p) y) (points_to_incomplete T s (shape_of T (AsPlace p))) i))
    (passes_and rule.Mismatch at (not (is_assignable T operator (AsPlace p) y)) (broken_at rule.NotPlace at (not (is_lvalue p) || is_array_part T (AsPlace p)) ∷ [])
    (off (is_assignable T operator (AsPlace p) y) g) (lvalue_passes T at p l a))

pub update-passes : (T : Table) (s : Scopes) (operator : Assignment) (at : Place) (p : TypedPlace) (e : TypedExpr) (t : TypeId) (y : Elaborated) → IsUpdate T s operator p at e t
    → IsAlike T y (bare e) → Passes (assign_tests T s operator at (AsPlace p) y)
update-passes T s operator at p e t y h a = by h.updated
  where
    by : IsIntegerUpdate T (assigning operator) p at e t ⊎ IsPointerUpdate T s (assigning operator) p e t → Passes (assign_tests T s operator at (AsPlace p) y)
    by (inl k) =
        let x = integer_shape (shape_at T (place_type p)) k.left k.first in
        let z = integer_alike T y (bare e) k.right a k.second in
        update_passes T s operator at p y h.compound h.lvalue (ap is_array_shape x) (ap (λ (w : TypeShape). points_to_incomplete T s (decayed w)) x)
        (compound_assignable T s operator at (AsPlace p) y h.compound ∙ (λ i. compound_on T s operator at (decayed (x i)) (z i)))
    by (inr k) =
        let x = k.pointer.1.1 in
        let z = integer_alike T y (bare e) k.kind a (ap (λ (w : TypedExpr). integer_at T (type_of w)) (plain-bare e k.integer.plain) ∙ k.integer.type) in
        update_passes T s operator at p y h.compound h.lvalue (ap is_array_shape x) (ap (λ (w : TypeShape). points_to_incomplete T s (decayed w)) x ∙ ap not k.complete)
        (compound_assignable T s operator at (AsPlace p) y h.compound ∙ (λ i. compound_on T s operator at (decayed (x i)) (z i))
        ∙ update_move T (assigning operator) k.pointer.0 k.to k.kind k.allowed)

-- Casts

cast_flat : (null : Bool) (x y : TypeShape) → has_some (cast_between null x y) ≡ has_some (cast_between null (flat x) y)
cast_flat null (Integer a s) (Integer b r) = refl
cast_flat true x (Pointer n u) = refl
cast_flat false (Integer a s) (Pointer n u) = refl
cast_flat false (Pointer m t) (Pointer n u) = refl
cast_flat null x y = refl

pub void-cast-passes : (T : Table) (at : Place) (x : Elaborated) (t : TypeId) → shape_at T t ≡ Void → Passes (cast_tests T at x t)
void-cast-passes T at x t h =
    passes_one rule.Mismatch at (not (is_void_shape (shape_at T t) || has_some (cast_between (is_null_part T x) (shape_of T x) (shape_at T t))))
    (ap (λ (z : TypeShape). not (is_void_shape z || has_some (cast_between (is_null_part T x) (shape_of T x) (shape_at T t)))) h)

castable : (T : Table) (at : Place) (x : Elaborated) (t : TypeId) → has_some (cast_between (is_null_part T x) (shape_of T x) (shape_at T t)) ≡ true → Passes (cast_tests T at x t)
castable T at x t h =
    passes_one rule.Mismatch at (not (is_void_shape (shape_at T t) || has_some (cast_between (is_null_part T x) (shape_of T x) (shape_at T t))))
    (off (is_void_shape (shape_at T t) || has_some (cast_between (is_null_part T x) (shape_of T x) (shape_at T t)))
    (or_on (is_void_shape (shape_at T t)) (has_some (cast_between (is_null_part T x) (shape_of T x) (shape_at T t))) h))

block_castable : (T : Table) (s : Scopes) (x : TypeShape) → is_pointer_to_complete_shape T s x ≡ true → has_some (cast_between false (Pointer (record { 0 = 0 }) void_type) x) ≡ true
block_castable T s (Pointer n t) h = refl
block_castable T s x h = no_true h

pub scalar-cast-passes : (T : Table) (s : Scopes) (at : Place) (which : Conversion) (t : TypeId) (e : TypedExpr) (x : Elaborated) (b : Bool) → takes_over T s t e ≡ b
    → IsScalarCast b T which t e → (b ≡ false → IsAlike T x (bare e)) → (b ≡ true → (w : TypedExpr) × (x ≡ AsAllocation w)) → Passes (cast_tests T at x t)
scalar-cast-passes T s at which t e x false q h alike block =
    let a = alike refl in
    let same = plain-bare e h.0 in
    castable T at x t (cast_flat (is_null_part T x) (shape_of T x) (shape_at T t)
    ∙ (λ i. has_some (cast_between (a.null i) (a.shape i) (shape_at T t)))
    ∙ sym (cast_flat (is_null_constant T (bare e)) (shape_at T (type_of (bare e))) (shape_at T t))
    ∙ ap (λ (w : TypedExpr). has_some (cast_conversion T w t)) same ∙ ap has_some h.1)
scalar-cast-passes T s at which t e x true q h alike block =
    let one = block refl in
    castable T at x t (ap (λ (z : Elaborated). has_some (cast_between (is_null_part T z) (shape_of T z) (shape_at T t))) one.1
    ∙ block_castable T s (shape_at T t) (and_second (is_allocation (bare e)) (is_pointer_to_complete T s t) q))
  where
    and_second : (a c : Bool) → (a && c) ≡ true → c ≡ true
    and_second true c k = k
    and_second false c k = no_true k

-- in the words of the laws

pub given-assign-passes : (T : Table) (s : Scopes) (at : Place) (p : TypedPlace) (e : TypedExpr) (y : Elaborated) → IsBasic T → IsAssignment T s p at e
    → IsGivenAs T s (place_type p) e y → Passes (assign_tests T s assignment.Assign at (AsPlace p) y)
given-assign-passes T s at p e y basic h g =
    assign-passes T s at p e y h (assigned-fits T basic s at (place_type p) e y (takes_over T s (place_type p) e) refl h.assigned g.alike g.block)

pub given-cast-passes : (T : Table) (s : Scopes) (at : Place) (which : Conversion) (t : TypeId) (e : TypedExpr) (x : Elaborated)
    → IsScalarCast (takes_over T s t e) T which t e → IsGivenAs T s t e x → Passes (cast_tests T at x t)
given-cast-passes T s at which t e x h g = scalar-cast-passes T s at which t e x (takes_over T s t e) refl h g.alike g.block
