-- Types by their shapes: in a well formed table a shape is that of one type, and one shape is not of two sorts.
use Rattle.std.proofs.Common.{◌≡◌, Bool, true, false, Some, refl, ap, sym, ◌∙◌}
use Rattle.cc_base.specs.declared.number.NodeId.{NodeId}
use Rattle.cc_base.specs.declared.number.TypeId.{TypeId}
use Rattle.c_types.specs.declared.shape.TypeShape.{TypeShape}
use Rattle.c_types.specs.declared.shape.TypeShape.TheVariants.{Void, Integer, Pointer, Array, Function, Struct, Union}
use Rattle.c_types.specs.Table.{Table, HasShape, IsType, is_aggregate_shape, shape_at}
use Rattle.integers.specs.Arithmetic.{IntegerType}
use Rattle.c_typing.specs.Shapes.{IsIntegerType, IsPointerTo, shape_of_integer, integer_of_shape, integer_at, is_scalar_shape, is_array_shape, is_pointer_shape, is_integer_shape, is_void_shape}

-- in the table a shape is that of one type
abbrev pub IsDistinct : Table → Type 0
IsDistinct T = (t u : TypeId) → IsType T t → HasShape T u (shape_at T t) → t ≡ u

pub shape-one : (T : Table) → IsDistinct T → (t u : TypeId) (x y : TypeShape) → x ≡ y → HasShape T t x → HasShape T u y → t ≡ u
shape-one T D t u x y e h k = D t u h.0 (k.0, k.1 ∙ sym e ∙ sym h.1)

pub no_true : {P : Type 0} → false ≡ true → P
no_true h = absurd (let e : false ≡ true = h in cc)

-- no shape is of two sorts
pub two-sorts : {P : Type 0} (f g : TypeShape → Bool) → ((z : TypeShape) → f z ≡ true → g z ≡ false) → (x y : TypeShape) → x ≡ y → f x ≡ true → g y ≡ true → P
two-sorts f g apart x y e h k = no_true (sym (apart x h) ∙ ap g e ∙ k)

pub scalar-no-aggregate : (z : TypeShape) → is_scalar_shape z ≡ true → is_aggregate_shape z ≡ false
scalar-no-aggregate (Struct n) h = sym h
scalar-no-aggregate (Union n) h = sym h
scalar-no-aggregate z h = refl

pub scalar-no-array : (z : TypeShape) → is_scalar_shape z ≡ true → is_array_shape z ≡ false
scalar-no-array (Array t n) h = sym h
scalar-no-array z h = refl

pub aggregate-no-array : (z : TypeShape) → is_aggregate_shape z ≡ true → is_array_shape z ≡ false
aggregate-no-array (Array t n) h = sym h
aggregate-no-array z h = refl

pub scalar-no-void : (z : TypeShape) → is_scalar_shape z ≡ true → is_void_shape z ≡ false
scalar-no-void Void h = sym h
scalar-no-void z h = refl

pub integer-no-pointer : (z : TypeShape) → is_integer_shape z ≡ true → is_pointer_shape z ≡ false
integer-no-pointer (Pointer n t) h = sym h
integer-no-pointer z h = refl

pub integer-no-void : (z : TypeShape) → is_integer_shape z ≡ true → is_void_shape z ≡ false
integer-no-void Void h = sym h
integer-no-void z h = refl

pub pointer-no-void : (z : TypeShape) → is_pointer_shape z ≡ true → is_void_shape z ≡ false
pointer-no-void Void h = sym h
pointer-no-void z h = refl

-- where a type has an integer, or points to something

integer_shape : (z : TypeShape) (k : IntegerType) → integer_of_shape z ≡ Some k → z ≡ shape_of_integer k
integer_shape (Integer b s) k h = let same : record { bytes = b; signed = s } ≡ k = some_same (record { bytes = b; signed = s }) k h in (λ i. shape_of_integer (same i))
  where
    some_same : (j k : IntegerType) → Some j ≡ Some k → j ≡ k
    some_same j k h = cc
integer_shape Void k h = cc
integer_shape (Pointer n t) k h = cc
integer_shape (Array t n) k h = cc
integer_shape (Function ps r) k h = cc
integer_shape (Struct n) k h = cc
integer_shape (Union n) k h = cc

pub is-integer : (T : Table) (t : TypeId) (k : IntegerType) → integer_at T t ≡ Some k → is_integer_shape (shape_at T t) ≡ true
is-integer T t k h = ap is_integer_shape (integer_shape (shape_at T t) k h)

pub is-pointer : (T : Table) (t u : TypeId) → IsPointerTo T u t → is_pointer_shape (shape_at T t) ≡ true
is-pointer T t u h = ap is_pointer_shape h.1.1

pub some-same : {A : Type 0} (a b : A) → Some a ≡ Some b → a ≡ b
some-same a b h = cc

pub integer-same : (T : Table) (t u : TypeId) (j k : IntegerType) → t ≡ u → integer_at T t ≡ Some j → integer_at T u ≡ Some k → j ≡ k
integer-same T t u j k e h g = some-same j k (sym h ∙ ap (integer_at T) e ∙ g)

pointed_same : (n m : NodeId) (t u : TypeId) → Pointer n t ≡ Pointer m u → t ≡ u
pointed_same n m t u h = cc

pub pointee-same : (T : Table) (t u v w : TypeId) → t ≡ u → IsPointerTo T v t → IsPointerTo T w u → v ≡ w
pointee-same T t u v w e h k = pointed_same h.0 k.0 v w (sym h.1.1 ∙ ap (shape_at T) e ∙ k.1.1)

pub integer-type-one : (T : Table) → IsDistinct T → (j k : IntegerType) (t u : TypeId) → j ≡ k → IsIntegerType T j t → IsIntegerType T k u → t ≡ u
integer-type-one T D j k t u e h g = shape-one T D t u (shape_of_integer j) (shape_of_integer k) (ap shape_of_integer e) h g
