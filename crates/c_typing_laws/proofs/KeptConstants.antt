-- What a table that goes on keeps of what is well typed over it: the values of constants, which expressions are null constants, and so
-- the conversions.
use Rattle.std.proofs.Common.{◌≡◌, ℕ, ℤ, Bool, true, false, ◌&&◌, ◌||◌, eqb, Option, Some, None, refl, ap, sym, subst, ◌∙◌, inl, inr, ◌⊎◌, if◌then◌else◌}
use Rattle.std.proofs.lemmas.Bool.Decides.{Decides-eqb}
use Rattle.std.proofs.lemmas.Option.{none-some}
use Rattle.cc_base.specs.declared.place.Place.{Place}
use Rattle.cc_base.specs.declared.number.TypeId.{TypeId}
use Rattle.c_types.specs.declared.shape.TypeShape.{TypeShape}
use Rattle.c_types.specs.declared.shape.TypeShape.TheVariants.{Void, Integer, Pointer, Array, Function, Struct, Union}
use Rattle.c_types.specs.Table.{Table, IsType, shape_at}
use Rattle.c_tree.specs.Arithmetic.{operator_of}
use Rattle.c_tree.specs.declared.operator.Unary.{Unary}
use Rattle.c_tree.specs.declared.operator.Unary.TheVariants as unary
use Rattle.c_tree.specs.declared.typed_word.Conversion.{Conversion}
use Rattle.c_tree.specs.declared.typed_word.Conversion.TheVariants as conversion
use Rattle.c_tree.specs.TypedTree as typed
use Rattle.c_tree.specs.TypedTree.{TypedExpr}
use Rattle.c_tree.specs.TypedParts.{type_of, named_type}
use Rattle.integers.specs.Arithmetic.{IntegerType, converted, computed}
use Rattle.c_typing.specs.Constants.{constant_value, converted_value, is_to_integer, with_type, with_value, alone, cannot_divide, logical, is_true, is_zero_value, is_zero_constant, is_cast_zero, is_null_constant, is_void_pointer, is_void_pointer_shape}
use Rattle.c_typing.specs.Conversions.{bare, IsPlain, IsOperand, is_pointer_to_complete, is_pointer_to_complete_shape, is_allocation, takes_over, cast_between}
use Rattle.c_typing.specs.Extensions.{IsExtended}
use Rattle.c_typing.specs.Rules.{IsCast, IsScalarCast, IsPrefix, IsIntegerChoice, IsVoidChoice, is_made_of_place}
use Rattle.c_typing.specs.Scopes.{Scopes}
use Rattle.c_typing.specs.Settled.{IsBasic}
use Rattle.c_typing.specs.Shapes.{integer_at, integer_of_shape, is_void_shape, is_scalar_shape}
use Rattle.c_typing.specs.Typing.{IsTyped}
use Rattle.c_typing_laws.proofs.ExtensionLaws.{no_true, and_left, and_right, is_in, not_void}
use Rattle.c_typing_laws.proofs.KeptTypes.{void_pointer_exact}

pub same_type : (t u : TypeId) → t.0 ≡ u.0 → t ≡ u
same_type t u h = ap (λ (n : ℕ). record { 0 = n }) h

-- a conversion's type is in the table
abbrev pub Own : Table → TypedExpr → Type 0
Own T (typed.Convert which at t e) = IsType T t
Own T e = Unit {0}

pub own-plain : (T : Table) (e : TypedExpr) → IsPlain e → Own T e
own-plain T (typed.Convert which at t e) h = no_true h
own-plain T e h = tt

pub own-no_place : (T : Table) (e : TypedExpr) → is_made_of_place e ≡ false → Own T e
own-no_place T (typed.Convert which at t e) h = no_true (sym h)
own-no_place T e h = tt

pub own-in : (T : Table) (e : TypedExpr) → IsType T (type_of e) → Own T e
own-in T (typed.Convert which at t e) h = h
own-in T e h = tt

-- integers are in the table
pub integer_in : (T : Table) (t : TypeId) (k : IntegerType) → integer_at T t ≡ Some k → IsType T t
integer_in T t k h = is_in T t (by (shape_at T t) h)
  where
    by : (x : TypeShape) → integer_of_shape x ≡ Some k → is_void_shape x ≡ false
    by (Integer bytes signed) p = refl
    by Void p = cc
    by (Pointer n u) p = refl
    by (Array u n) p = refl
    by (Function ps r) p = refl
    by (Struct n) p = refl
    by (Union n) p = refl

pub scalar_in : (T : Table) (t : TypeId) → is_scalar_shape (shape_at T t) ≡ true → IsType T t
scalar_in T t h = is_in T t (not_void is_scalar_shape (shape_at T t) refl h)

-- an operand has the type that it is converted to
pub operand-type : (T : Table) (at : Place) (k : IntegerType) (e : TypedExpr) (o : IsOperand T at k e) → type_of e ≡ o.type
operand-type T at k e o = ap type_of o.made ∙ by (eqb (type_of (bare e)).0 o.type.0) refl
  where
    by : (b : Bool) → eqb (type_of (bare e)).0 o.type.0 ≡ b
        → type_of (if b then bare e else typed.Convert conversion.IntegerToInteger at o.type (bare e)) ≡ o.type
    by true h = same_type (type_of (bare e)) o.type ((Decides-eqb (type_of (bare e)).0 o.type.0).0 h)
    by false h = refl

pub operand-in : (T : Table) (at : Place) (k : IntegerType) (e : TypedExpr) → IsOperand T at k e → IsType T (type_of e)
operand-in T at k e o = subst (IsType T) (sym (operand-type T at k e o)) o.shape.0

-- what a cast is to is in the table
pub cast-to : (null : Bool) (x y : TypeShape) (which : Conversion) → cast_between null x y ≡ Some which → is_void_shape y ≡ false
cast-to null (Integer a s) (Integer b r) which h = refl
cast-to true x (Pointer n u) which h = refl
cast-to false (Integer a s) (Pointer n u) which h = refl
cast-to false (Pointer m t) (Pointer n u) which h = refl
cast-to null x y which h = absurd (none-some which h)

scalar_cast_in : (T : Table) (s : Scopes) (which : Conversion) (t : TypeId) (e : TypedExpr) (b : Bool) → takes_over T s t e ≡ b → IsScalarCast b T which t e
    → IsType T t
scalar_cast_in T s which t e true h r =
    is_in T t (not_void (is_pointer_to_complete_shape T s) (shape_at T t) refl (and_right (is_allocation (bare e)) (is_pointer_to_complete T s t) h))
scalar_cast_in T s which t e false h r = is_in T t (cast-to (is_null_constant T e) (shape_at T (type_of e)) (shape_at T t) which r.1)

pub cast-in : (T : Table) (s : Scopes) (which : Conversion) (t : TypeId) (e : TypedExpr) → IsCast T s which t e → IsType T t
cast-in T s which t e (inl r) = r.0.0
cast-in T s which t e (inr r) = scalar_cast_in T s which t e (takes_over T s t e) refl r

-- and what it is made of is no conversion
scalar_cast_own : (T : Table) (which : Conversion) (t : TypeId) (e : TypedExpr) (b : Bool) → IsScalarCast b T which t e → Own T e
scalar_cast_own T which t (typed.Convert w at u e) true r = no_true r.1.over
scalar_cast_own T which t (typed.Convert w at u e) false r = no_true r.0
scalar_cast_own T which t e b r = tt

pub cast-own : (T : Table) (s : Scopes) (which : Conversion) (t : TypeId) (e : TypedExpr) → IsCast T s which t e → Own T e
cast-own T s which t (typed.Convert w at u e) (inl r) = no_true r.2
cast-own T s which t (typed.Convert w at u e) (inr r) = scalar_cast_own T which t (typed.Convert w at u e) (takes_over T s t (typed.Convert w at u e)) r
cast-own T s which t e r = tt

-- the operand of a prefix has its own type
pub prefix-in : (operator : Unary) (T : Table) (at : Place) (e : TypedExpr) (t : TypeId) → IsPrefix operator T at e t → IsType T (type_of e)
prefix-in unary.Not T at e t r = scalar_in T (type_of e) r.0.scalar
prefix-in unary.Plus T at e t r = operand-in T at (_) e r.operand
prefix-in unary.Minus T at e t r = operand-in T at (_) e r.operand
prefix-in unary.Complement T at e t r = operand-in T at (_) e r.operand
prefix-in unary.SizeOf T at e t r = absurd r
prefix-in unary.AddressOf T at e t r = absurd r
prefix-in unary.Dereference T at e t r = absurd r
prefix-in unary.Increment T at e t r = absurd r
prefix-in unary.Decrement T at e t r = absurd r

pub prefix-type : (operator : Unary) (T : Table) (at : Place) (e : TypedExpr) (t : TypeId) → IsPrefix operator T at e t → IsType T t
prefix-type unary.Not T at e t r = r.1.0
prefix-type unary.Plus T at e t r = r.type.0
prefix-type unary.Minus T at e t r = r.type.0
prefix-type unary.Complement T at e t r = r.type.0
prefix-type unary.SizeOf T at e t r = absurd r
prefix-type unary.AddressOf T at e t r = absurd r
prefix-type unary.Dereference T at e t r = absurd r
prefix-type unary.Increment T at e t r = absurd r
prefix-type unary.Decrement T at e t r = absurd r

choice_first : (T : Table) (at : Place) (a b : TypedExpr) (t : TypeId) → (IsIntegerChoice T at a b t ⊎ IsVoidChoice T a b t) → Own T a
choice_first T at a b t (inl r) = own-in T a (operand-in T at (_) a r.first_converted)
choice_first T at a b t (inr r) = own-plain T a r.first.0

choice_second : (T : Table) (at : Place) (a b : TypedExpr) (t : TypeId) → (IsIntegerChoice T at a b t ⊎ IsVoidChoice T a b t) → Own T b
choice_second T at a b t (inl r) = own-in T b (operand-in T at (_) b r.second_converted)
choice_second T at a b t (inr r) = own-plain T b r.second.0

choice_type : (T : Table) (at : Place) (a b : TypedExpr) (t : TypeId) → (IsIntegerChoice T at a b t ⊎ IsVoidChoice T a b t) → IsType T t
choice_type T at a b t (inl r) = r.type.0
choice_type T at a b t (inr r) = r.type.0

some_at : (T : Table) (which : Conversion) (t : TypeId) (x : Option ℤ) (z : ℤ) → converted_value T which t x ≡ Some z → IsType T t
some_at T which t x z h = by (is_to_integer which) (integer_at T t) refl h
  where
    by : (b : Bool) (o : Option IntegerType) → integer_at T t ≡ o
        → (if b then with_type o (λ (k : IntegerType). with_value x (λ (v : ℤ). Some (converted k v))) else None) ≡ Some z → IsType T t
    by true (Some k) p q = integer_in T t k p
    by true None p q = absurd (none-some z q)
    by false o p q = absurd (none-some z q)

-- a constant's type is in the table
pub constant-in : (T : Table) (e : TypedExpr) (s s' : Scopes) (z : ℤ) → IsTyped T e s s' → constant_value T e ≡ Some z → IsType T (type_of e)
constant-in T (typed.Integer of value at t) s s' z h v = h.1.0
constant-in T (typed.Character value at t) s s' z h v = h.1.0
constant-in T (typed.Enumerator name value t) s s' z h v = h.1.type.0
constant-in T (typed.Paren at e) s s' z h v = constant-in T e s s' z h.0 v
constant-in T (typed.Convert which at t e) s s' z h v = some_at T which t (constant_value T e) z v
constant-in T (typed.Cast which at to e) s s' z h v = some_at T which (named_type to) (constant_value T e) z v
constant-in T (typed.Prefix operator at e t) s s' z h v = prefix-type operator T at e t h.1
constant-in T (typed.SizeOfPlace at p size t) s s' z h v = h.1.type.0
constant-in T (typed.SizeOfValue at e size t) s s' z h v = h.2.type.0
constant-in T (typed.SizeOfType at paren name size t) s s' z h v = h.1.type.0
constant-in T (typed.Arithmetic operator a at b t) s s' z h v = h.3.type.0
constant-in T (typed.Logical operator a at b t) s s' z h v = h.3.type.0
constant-in T (typed.Conditional c at a b t) s s' z h v = choice_type T at a b t h.5.1
constant-in T e s s' z h v = absurd (none-some z v)

some_zero : (x : Option ℤ) → is_zero_value x ≡ true → (z : ℤ) × (x ≡ Some z)
some_zero (Some z) h = (z, refl)
some_zero None h = no_true h

cast_zero_in : (T : Table) (e : TypedExpr) → is_cast_zero T e ≡ true → IsType T (type_of e)
cast_zero_in T (typed.Paren at e) h = cast_zero_in T e h
cast_zero_in T (typed.Cast which at to e) h =
    is_in T (named_type to) (not_void (is_void_pointer_shape T) (shape_at T (named_type to)) refl (and_left (is_void_pointer T (named_type to)) (is_zero_constant T e) h))
cast_zero_in T e h = no_true h

pub null-in : (T : Table) (e : TypedExpr) (s s' : Scopes) → IsTyped T e s s' → is_null_constant T e ≡ true → IsType T (type_of e)
null-in T e s s' h n = by (is_zero_constant T e) refl n
  where
    by : (b : Bool) → is_zero_constant T e ≡ b → (b || is_cast_zero T e) ≡ true → IsType T (type_of e)
    by true z q = let some = some_zero (constant_value T e) z in constant-in T e s s' some.0 h some.1
    by false z q = cast_zero_in T e q

module _ (T U : Table) (x : IsExtended T U) (basic : IsBasic T) where
  integer_exact : (t : TypeId) → IsType T t → integer_at U t ≡ integer_at T t
  integer_exact t h = ap integer_of_shape (x.shapes t h)

  converted_kept : (which : Conversion) (t : TypeId) (a b : Option ℤ) → IsType T t → a ≡ b → converted_value U which t a ≡ converted_value T which t b
  converted_kept which t a b h q =
      let p = integer_exact t h in
      λ i. if is_to_integer which then with_type (p i) (λ (k : IntegerType). with_value (q i) (λ (z : ℤ). Some (converted k z))) else None

  pub constant-kept : (e : TypedExpr) (s s' : Scopes) → IsTyped T e s s' → Own T e → constant_value U e ≡ constant_value T e
  constant-kept (typed.Paren at e) s s' h o = constant-kept e s s' h.0 (own-no_place T e h.1)
  constant-kept (typed.Convert which at t e) s s' h o =
      converted_kept which t (constant_value U e) (constant_value T e) o (constant-kept e s s' h.0 (own-plain T e h.1))
  constant-kept (typed.Cast which at to e) s s' h o =
      converted_kept which (named_type to) (constant_value U e) (constant_value T e) (cast-in T s' which (named_type to) e h.3)
      (constant-kept e h.0 s' h.2 (cast-own T s' which (named_type to) e h.3))
  constant-kept (typed.Prefix operator at e t) s s' h o =
      let here = prefix-in operator T at e t h.1 in
      let p = integer_exact (type_of e) here in
      let q = constant-kept e s s' h.0 (own-in T e here) in
      λ i. with_type (p i) (λ (k : IntegerType). with_value (q i) (λ (v : ℤ). Some (alone operator k v)))
  constant-kept (typed.Arithmetic operator a at b t) s s' h o =
      let first = operand-in T at (_) a h.3.first_converted in
      let second = operand-in T at (_) b h.3.second_converted in
      let p = integer_exact (type_of a) first in
      let q = constant-kept a s h.0 h.1 (own-in T a first) in
      let r = constant-kept b h.0 s' h.2 (own-in T b second) in
      λ i. with_type (p i) (λ (k : IntegerType). with_value (q i) (λ (v : ℤ). with_value (r i) (λ (w : ℤ).
      if cannot_divide (operator_of operator) k v w then None else Some (computed (operator_of operator) k v w))))
  constant-kept (typed.Logical operator a at b t) s s' h o =
      let q = constant-kept a s h.0 h.1 (own-plain T a h.3.first.plain) in
      let r = constant-kept b h.0 s' h.2 (own-plain T b h.3.second.plain) in
      λ i. with_value (q i) (λ (v : ℤ). with_value (r i) (λ (w : ℤ). Some (logical operator v w)))
  constant-kept (typed.Conditional c at a b t) s s' h o =
      let p = constant-kept c s h.0 h.2 (own-plain T c h.5.0.plain) in
      let q = constant-kept a h.0 h.1 h.3 (choice_first T at a b t h.5.1) in
      let r = constant-kept b h.1 s' h.4 (choice_second T at a b t h.5.1) in
      λ i. with_value (p i) (λ (z : ℤ). with_value (q i) (λ (v : ℤ). with_value (r i) (λ (w : ℤ). Some (if is_true z then v else w))))
  constant-kept e s s' h o = refl

  cast_zero_kept : (e : TypedExpr) (s s' : Scopes) → IsTyped T e s s' → is_cast_zero U e ≡ is_cast_zero T e
  cast_zero_kept (typed.Paren at e) s s' h = cast_zero_kept e s s' h.0
  cast_zero_kept (typed.Cast which at to e) s s' h =
      let p = void_pointer_exact T U x basic (named_type to) (cast-in T s' which (named_type to) e h.3) in
      let q = constant-kept e h.0 s' h.2 (cast-own T s' which (named_type to) e h.3) in
      λ i. p i && is_zero_value (q i)
  cast_zero_kept e s s' h = refl

  pub null-kept : (e : TypedExpr) (s s' : Scopes) → IsTyped T e s s' → Own T e → is_null_constant U e ≡ is_null_constant T e
  null-kept e s s' h o =
      let p = constant-kept e s s' h o in
      let q = cast_zero_kept e s s' h in
      λ i. is_zero_value (p i) || q i
