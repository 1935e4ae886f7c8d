-- What rules read of a part whose type is in an earlier table: its shape, what that points to, whether it is a null constant, and its
-- constant are over that table what they are over each that goes on from it.
use Rattle.std.proofs.Common.{◌≡◌, Bool, true, false, not, ◌&&◌, ◌||◌, None, Some, refl, ap, sym, ◌∙◌, if◌then◌else◌}
use Rattle.cc_base.specs.declared.number.TypeId.{TypeId}
use Rattle.c_types.specs.declared.shape.TypeShape.{TypeShape}
use Rattle.c_types.specs.declared.shape.TypeShape.TheVariants.{Void, Integer, Pointer, Array, Function, Struct, Union}
use Rattle.c_types.specs.Table.{Table, IsType, shape_at, is_aggregate_shape}
use Rattle.c_tree.specs.declared.operator.Binary.{Binary}
use Rattle.c_tree.specs.declared.typed_word.Conversion.TheVariants as conversion
use Rattle.c_tree.specs.TypedTree.{TypedExpr}
use Rattle.c_tree.specs.TypedParts.{type_of, place_type}
use Rattle.c_typing.specs.Constants.{constant_value, is_null_constant}
use Rattle.c_typing.specs.Conversions.{implicit_between}
use Rattle.c_typing.specs.Extensions.{IsExtended}
use Rattle.c_typing.specs.Rules.{is_designator}
use Rattle.c_typing.specs.Scopes.{Scopes}
use Rattle.c_typing.specs.Settled.{IsBasic}
use Rattle.c_typing.specs.Shapes.{is_function_shape, is_pointer_shape}
use Rattle.c_typing.specs.Tests.{Elaborated, AsPlace, AsValue, AsAllocation, decayed, shape_of, is_null_part, is_array_part, points_to_incomplete, points_to_function, points_to_open, is_complete_part, point_alike, point_to_data, taken_as, meet, divides_as, divides_part, are_one_struct, has_some, fits, pointed_shape, has_constant, has_size, is_size}
use Rattle.c_typing_laws.proofs.ExtensionLaws.{pointer_in, array_in}
use Rattle.c_typing_laws.proofs.KeptConstants.{own-in, constant-kept, null-kept}
use Rattle.c_typing_laws.proofs.KeptTypes.{PointsIn, points-in}
use Rattle.c_rules_alike.specs.PartsThere.{IsPartThere}
use Rattle.c_rules_alike.proofs.TypesAlike

decayed_in : (J : Table) (t : TypeId) (y : TypeShape) → IsBasic J → shape_at J t ≡ y → PointsIn J (decayed y)
decayed_in J t (Array u count) b h = array_in J count t u b.formed h
decayed_in J t (Pointer n u) b h = pointer_in J n t u b.formed h
decayed_in J t Void b h = tt
decayed_in J t (Integer bytes signed) b h = tt
decayed_in J t (Function ps r) b h = tt
decayed_in J t (Struct k) b h = tt
decayed_in J t (Union k) b h = tt

module _ (J T : Table) (x : IsExtended J T) (b : IsBasic J) where
  pub shape_of-over : (p : Elaborated) → IsPartThere J p → shape_of J p ≡ shape_of T p
  shape_of-over (AsPlace p) h = ap decayed (TypesAlike.shape-over J T x b (place_type p) h.type)
  shape_of-over (AsValue e) h = TypesAlike.shape-over J T x b (type_of e) h.type
  shape_of-over (AsAllocation e) h = refl

  -- what its shape points to is in the table
  pub points_in-part : (p : Elaborated) → IsPartThere J p → PointsIn J (shape_of J p)
  points_in-part (AsPlace p) h = decayed_in J (place_type p) (shape_at J (place_type p)) b refl
  points_in-part (AsValue e) h = points-in J (type_of e) b
  points_in-part (AsAllocation e) h = b.void.0

  pub constant-over : (e : TypedExpr) → IsPartThere J (AsValue e) → constant_value J e ≡ constant_value T e
  constant-over e h = sym (constant-kept J T x b e h.before h.after h.typed (own-in J e h.type))

  pub null_constant-over : (e : TypedExpr) → IsPartThere J (AsValue e) → is_null_constant J e ≡ is_null_constant T e
  null_constant-over e h = sym (null-kept J T x b e h.before h.after h.typed (own-in J e h.type))

  pub null-over : (p : Elaborated) → IsPartThere J p → is_null_part J p ≡ is_null_part T p
  null-over (AsPlace p) h = refl
  null-over (AsValue e) h = null_constant-over e h
  null-over (AsAllocation e) h = refl

  pub has_constant-over : (p : Elaborated) → IsPartThere J p → has_constant J p ≡ has_constant T p
  has_constant-over (AsPlace p) h = refl
  has_constant-over (AsValue e) h = ap has_some (constant-over e h)
  has_constant-over (AsAllocation e) h = refl

  pub has_size-over : (p : Elaborated) → IsPartThere J p → has_size J p ≡ has_size T p
  has_size-over (AsPlace p) h = refl
  has_size-over (AsValue e) h = ap is_size (constant-over e h)
  has_size-over (AsAllocation e) h = refl

  -- Shapes that point to what is in the table

  pub incomplete_at : (s : Scopes) (y : TypeShape) → PointsIn J y → points_to_incomplete J s y ≡ points_to_incomplete T s y
  incomplete_at s (Pointer n t) h = ap not (TypesAlike.complete-over J T x b s t h)
  incomplete_at s y h = refl

  pub function_at : (y : TypeShape) → PointsIn J y → points_to_function J y ≡ points_to_function T y
  function_at (Pointer n t) h = ap is_function_shape (TypesAlike.shape-over J T x b t h)
  function_at y h = refl

  pub data_at : (y : TypeShape) → PointsIn J y → point_to_data J y ≡ point_to_data T y
  data_at (Pointer n t) h = TypesAlike.data-over J T x b t h
  data_at y h = refl

  pub pointed_at : (y : TypeShape) → PointsIn J y → pointed_shape J y ≡ pointed_shape T y
  pointed_at (Pointer n t) h = TypesAlike.shape-over J T x b t h
  pointed_at y h = refl

  pub alike_at : (y z : TypeShape) → PointsIn J y → PointsIn J z → point_alike J y z ≡ point_alike T y z
  alike_at (Pointer n t) (Pointer m u) h k = TypesAlike.same-over J T x b t u h k
  alike_at y z h k = refl

  pub taken_at : (y z : TypeShape) → PointsIn J y → PointsIn J z → taken_as J y z ≡ taken_as T y z
  taken_at (Pointer n t) (Pointer m u) h k = TypesAlike.taken-over J T x b t u h k
  taken_at y z h k = refl

  pub implicit_at : (null : Bool) (y z : TypeShape) → PointsIn J y → PointsIn J z → implicit_between J null y z ≡ implicit_between T null y z
  implicit_at null (Integer a s) (Integer c r) h k = refl
  implicit_at true y (Pointer n u) h k = refl
  implicit_at false (Pointer m t) (Pointer n u) h k =
      ap (λ (c : Bool). if c then Some conversion.PointerToPointer else None) (TypesAlike.taken-over J T x b t u h k)
  implicit_at null y z h k = refl

  -- what is read of the shape of a part, and of the shapes of two
  pub over_part : {A : Type 0} (f : Table → TypeShape → A) → ((y : TypeShape) → PointsIn J y → f J y ≡ f T y) → (p : Elaborated) → IsPartThere J p
      → f J (shape_of J p) ≡ f T (shape_of T p)
  over_part f same p h = same (shape_of J p) (points_in-part p h) ∙ ap (f T) (shape_of-over p h)

  pub over_two : {A : Type 0} (f : Table → TypeShape → TypeShape → A) → ((y z : TypeShape) → PointsIn J y → PointsIn J z → f J y z ≡ f T y z)
      → (p q : Elaborated) → IsPartThere J p → IsPartThere J q → f J (shape_of J p) (shape_of J q) ≡ f T (shape_of T p) (shape_of T q)
  over_two f same p q h k =
      let left = shape_of-over p h in
      let right = shape_of-over q k in
      same (shape_of J p) (shape_of J q) (points_in-part p h) (points_in-part q k) ∙ (λ i. f T (left i) (right i))

  pub incomplete-over : (s : Scopes) (p : Elaborated) → IsPartThere J p → points_to_incomplete J s (shape_of J p) ≡ points_to_incomplete T s (shape_of T p)
  incomplete-over s = over_part (λ U. points_to_incomplete U s) (incomplete_at s)

  pub open-over : (s : Scopes) (p : Elaborated) → IsPartThere J p → points_to_open J s (shape_of J p) ≡ points_to_open T s (shape_of T p)
  open-over s p h =
      let incomplete = incomplete-over s p h in
      let function = over_part points_to_function function_at p h in
      λ i. incomplete i && not (function i)

  pub data_part-over : (p : Elaborated) → IsPartThere J p → point_to_data J (shape_of J p) ≡ point_to_data T (shape_of T p)
  data_part-over = over_part point_to_data data_at

  pub pointed-over : (p : Elaborated) → IsPartThere J p → pointed_shape J (shape_of J p) ≡ pointed_shape T (shape_of T p)
  pointed-over = over_part pointed_shape pointed_at

  pub point_alike-over : (p q : Elaborated) → IsPartThere J p → IsPartThere J q
      → point_alike J (shape_of J p) (shape_of J q) ≡ point_alike T (shape_of T p) (shape_of T q)
  point_alike-over = over_two point_alike alike_at

  pub taken_as-over : (p q : Elaborated) → IsPartThere J p → IsPartThere J q
      → taken_as J (shape_of J p) (shape_of J q) ≡ taken_as T (shape_of T p) (shape_of T q)
  taken_as-over = over_two taken_as taken_at

  pub array-over : (p : Elaborated) → IsPartThere J p → is_array_part J p ≡ is_array_part T p
  array-over (AsPlace p) h = rw (TypesAlike.shape-over J T x b (place_type p) h.type) refl
  array-over (AsValue e) h = refl
  array-over (AsAllocation e) h = refl

  pub complete_part-over : (s : Scopes) (p : Elaborated) → IsPartThere J p → is_complete_part J s p ≡ is_complete_part T s p
  complete_part-over s (AsPlace p) h = TypesAlike.complete-over J T x b s (place_type p) h.type
  complete_part-over s (AsValue e) h = ap (λ (c : Bool). c && not (is_designator e)) (TypesAlike.complete-over J T x b s (type_of e) h.type)
  complete_part-over s (AsAllocation e) h = refl

  -- what fits a shape, and a type
  pub fits_shape-over : (p : Elaborated) (y : TypeShape) → IsPartThere J p → PointsIn J y → fits J p y ≡ fits T p y
  fits_shape-over p y h k =
      let null = null-over p h in
      let shape = shape_of-over p h in
      ap has_some (implicit_at (is_null_part J p) (shape_of J p) y (points_in-part p h) k) ∙ (λ i. has_some (implicit_between T (null i) (shape i) y))

  pub fits-over : (p : Elaborated) (t : TypeId) → IsPartThere J p → IsType J t → fits J p (shape_at J t) ≡ fits T p (shape_at T t)
  fits-over p t h k = fits_shape-over p (shape_at J t) h (points-in J t b) ∙ ap (fits T p) (TypesAlike.shape-over J T x b t k)

  pub fits_part-over : (p q : Elaborated) → IsPartThere J p → IsPartThere J q → fits J p (shape_of J q) ≡ fits T p (shape_of T q)
  fits_part-over p q h k = fits_shape-over p (shape_of J q) h (points_in-part q k) ∙ ap (fits T p) (shape_of-over q k)

  pub struct-over : (p q : Elaborated) → IsPartThere J p → IsPartThere J q → are_one_struct J p q ≡ are_one_struct T p q
  struct-over (AsPlace p) (AsPlace q) h k =
      let shape = TypesAlike.shape-over J T x b (place_type p) h.type in
      let same = TypesAlike.same-over J T x b (place_type p) (place_type q) h.type k.type in
      λ i. is_aggregate_shape (shape i) && same i
  struct-over p q h k = refl

  pub meet-over : (p q : Elaborated) → IsPartThere J p → IsPartThere J q → meet J p q ≡ meet T p q
  meet-over p q h k =
      let left = ap is_pointer_shape (shape_of-over p h) in
      let right = ap is_pointer_shape (shape_of-over q k) in
      let first = null-over p h in
      let second = null-over q k in
      let taken = taken_as-over p q h k in
      λ i. (second i && left i) || ((first i && right i) || taken i)

  pub divides-over : (operator : Binary) (p q : Elaborated) → IsPartThere J p → IsPartThere J q → divides_part J operator p q ≡ divides_part T operator p q
  divides-over operator (AsValue a) (AsValue c) h k =
      let first = TypesAlike.integer-over J T x b (type_of a) h.type in
      let second = TypesAlike.integer-over J T x b (type_of c) k.type in
      let left = constant-over a h in
      let right = constant-over c k in
      λ i. divides_as operator (first i) (second i) (left i) (right i)
  divides-over operator p q h k = refl
