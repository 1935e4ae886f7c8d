-- What a construct makes of operands whose types are in an earlier table is over that table what it is over each that goes on from it.
use Rattle.std.proofs.Common.{◌≡◌, Bool, true, false, List, [], ◌∷◌, map, Option, None, Some, refl, ap, sym, ◌∙◌, inl, inr, if◌then◌else◌}
use Rattle.std.specs.List.{Contains}
use Rattle.std.proofs.lemmas.List.Elements.{All-contains}
use Rattle.cc_base.specs.declared.place.Place.{Place}
use Rattle.cc_base.specs.declared.number.TypeId.{TypeId}
use Rattle.c_types.specs.declared.shape.TypeShape.{TypeShape}
use Rattle.c_types.specs.declared.shape.TypeShape.TheVariants.{Pointer, Function}
use Rattle.c_types.specs.Table.{Table, IsType, shape_at, named_by}
use Rattle.c_types.proofs.Lists.{contains_head, contains_tail}
use Rattle.c_tree.specs.declared.operator.Assignment.{Assignment}
use Rattle.c_tree.specs.declared.operator.Binary.{Binary}
use Rattle.c_tree.specs.declared.operator.Binary.TheVariants as binary
use Rattle.c_tree.specs.declared.operator.Unary.{Unary}
use Rattle.c_tree.specs.declared.operator.Unary.TheVariants as unary
use Rattle.c_tree.specs.declared.typed_word.Conversion.{Conversion}
use Rattle.c_tree.specs.declared.typed_word.Runtime.{Runtime}
use Rattle.c_tree.specs.TypedTree as typed
use Rattle.c_tree.specs.TypedTree.{TypedExpr, TypedPlace, TypedTypeName}
use Rattle.c_tree.specs.TypedParts.{type_of, place_type, named_type}
use Rattle.runtime_calls.specs.declared.function.RuntimeType.{RuntimeType}
use Rattle.runtime_calls.specs.declared.function.RuntimeType.TheVariants as prototype
use Rattle.runtime_calls.specs.Prototypes.{prototype_of}
use Rattle.integers.specs.Arithmetic.{IntegerType, int, unsigned_long}
use Rattle.c_typing.specs.Assignments.{converted_by, converted_to, assigned, updated, part_expr, is_allocation_part, cast_by, conversion_or_void, cast_part, converted_arguments, runtime_argument, runtime_arguments, arguments_as, runtime_call, called_shape, called}
use Rattle.c_typing.specs.Checking.{converted_part}
use Rattle.c_typing.specs.Constants.{is_null_constant}
use Rattle.c_typing.specs.Conversions.{implicit_between, implicit, cast_between, cast_conversion}
use Rattle.c_typing.specs.Extensions.{IsExtended}
use Rattle.c_typing.specs.Integers.{is_logical, is_order}
use Rattle.c_typing.specs.Operands.{Value, argument_of}
use Rattle.c_typing.specs.Operations.{int_type, size_type, pointed_place, pointed, promoted_operand, operator_on, element, equated, compared, pointers, by_kinds, operation}
use Rattle.c_typing.specs.Rules.{Meeting, meeting_of, meeting, side_conversion, into_choice, runtime_named}
use Rattle.c_typing.specs.Settled.{IsBasic}
use Rattle.c_typing.specs.Shapes.{is_function_shape, is_pointer_shape, is_void_shape, integer_at, pointee_at}
use Rattle.c_typing.specs.Tests.{Elaborated, AsPlace, AsValue, AsAllocation, pointed_shape}
use Rattle.c_typing_laws.proofs.KeptTypes.{PointsIn, points-in, pointees_exact}
use Rattle.c_rules_alike.specs.PartsThere.{IsPartThere, AreArgumentsThere}
use Rattle.c_rules_alike.proofs.TypesAlike
use Rattle.c_rules_alike.proofs.PartsAlike
use Rattle.c_rules_alike.proofs.CallRules

-- an operation on two operands, by their kinds
abbrev kinds_of : Table → Binary → TypedExpr → Place → TypedExpr → TypedExpr
kinds_of U operator a at c =
    by_kinds U operator a at c (integer_at U (type_of a)) (integer_at U (type_of c)) (is_pointer_shape (shape_at U (type_of a)))
    (is_pointer_shape (shape_at U (type_of c)))

module _ (J T : Table) (x : IsExtended J T) (b : IsBasic J) where
  -- operators

  pointed_by : (at : Place) (e : TypedExpr) (o : Option TypeId) → ((u : TypeId) → o ≡ Some u → IsType J u) → pointed J at e o ≡ pointed T at e o
  pointed_by at e None h = refl
  pointed_by at e (Some t) h = ap (λ (y : TypeShape). pointed_place at e t (is_function_shape y)) (TypesAlike.shape-over J T x b t (h t refl))

  pub pointed-over : (at : Place) (e : TypedExpr) → IsPartThere J (AsValue e)
      → pointed J at e (pointee_at J (type_of e)) ≡ pointed T at e (pointee_at T (type_of e))
  pointed-over at e h =
      pointed_by at e (pointee_at J (type_of e)) (TypesAlike.pointee-in J T x b (type_of e))
      ∙ ap (pointed T at e) (TypesAlike.pointee-over J T x b (type_of e) h.type)

  pub element-over : (a : TypedExpr) (at : Place) (c : TypedExpr) → IsPartThere J (AsValue a) → IsPartThere J (AsValue c)
      → element a at c (pointee_at J (type_of a)) (pointee_at J (type_of c)) ≡ element a at c (pointee_at T (type_of a)) (pointee_at T (type_of c))
  element-over a at c h k =
      let left = TypesAlike.pointee-over J T x b (type_of a) h.type in
      let right = TypesAlike.pointee-over J T x b (type_of c) k.type in
      λ i. element a at c (left i) (right i)

  pub operator_on-over : (operator : Unary) (at : Place) (e : TypedExpr) → IsPartThere J (AsValue e)
      → operator_on J operator at e ≡ operator_on T operator at e
  operator_on-over unary.Not at e h = refl
  operator_on-over operator at e h = ap (promoted_operand operator at e) (TypesAlike.integer-over J T x b (type_of e) h.type)

  meeting_at : (m n : Bool) (y z : TypeShape) → PointsIn J y → PointsIn J z → meeting_of J m n y z ≡ meeting_of T m n y z
  meeting_at m true (Pointer n t) right p q = refl
  meeting_at true n left (Pointer k u) p q = refl
  meeting_at false false (Pointer n t) (Pointer m u) p q = sym (pointees_exact J T x b t u p q)
  meeting_at m n y z p q = refl

  pub meeting-over : (a c : TypedExpr) → IsPartThere J (AsValue a) → IsPartThere J (AsValue c) → meeting J a c ≡ meeting T a c
  meeting-over a c h k =
      let first = PartsAlike.null_constant-over J T x b a h in
      let second = PartsAlike.null_constant-over J T x b c k in
      let left = TypesAlike.shape-over J T x b (type_of a) h.type in
      let right = TypesAlike.shape-over J T x b (type_of c) k.type in
      meeting_at (is_null_constant J a) (is_null_constant J c) (shape_at J (type_of a)) (shape_at J (type_of c)) (points-in J (type_of a) b) (points-in J (type_of c) b)
      ∙ (λ i. meeting_of T (first i) (second i) (left i) (right i))

  compared_by : (operator : Binary) (a : TypedExpr) (at : Place) (c : TypedExpr) → IsPartThere J (AsValue a) → IsPartThere J (AsValue c)
      → compared J operator a at c ≡ compared T operator a at c
  compared_by operator a at c h k =
      ap (λ (m : Meeting). if is_order operator then typed.Compared operator a at c int_type else equated m operator a at c) (meeting-over a c h k)

  pointers_by : (operator : Binary) (a : TypedExpr) (at : Place) (c : TypedExpr) (y z : Bool) → IsPartThere J (AsValue a) → IsPartThere J (AsValue c)
      → pointers J operator a at c y z ≡ pointers T operator a at c y z
  pointers_by binary.Add a at c true z h k = refl
  pointers_by binary.Add a at c false z h k = refl
  pointers_by binary.Subtract a at c y true h k = refl
  pointers_by binary.Subtract a at c y false h k = refl
  pointers_by operator a at c y z h k = compared_by operator a at c h k

  kinds_by : (operator : Binary) (a : TypedExpr) (at : Place) (c : TypedExpr) (j k : Option IntegerType) (y z : Bool) → IsPartThere J (AsValue a)
      → IsPartThere J (AsValue c) → by_kinds J operator a at c j k y z ≡ by_kinds T operator a at c j k y z
  kinds_by operator a at c (Some j) (Some k) y z h l = refl
  kinds_by operator a at c (Some j) None y z h l = pointers_by operator a at c y z h l
  kinds_by operator a at c None k y z h l = pointers_by operator a at c y z h l

  pub operation-over : (operator : Binary) (a : TypedExpr) (at : Place) (c : TypedExpr) → IsPartThere J (AsValue a) → IsPartThere J (AsValue c)
      → operation J operator a at c ≡ operation T operator a at c
  operation-over operator a at c h k =
      let left = TypesAlike.shape-over J T x b (type_of a) h.type in
      let right = TypesAlike.shape-over J T x b (type_of c) k.type in
      let first = TypesAlike.integer-over J T x b (type_of a) h.type in
      let second = TypesAlike.integer-over J T x b (type_of c) k.type in
      let y : Bool = is_pointer_shape (shape_at J (type_of a)) in
      let z : Bool = is_pointer_shape (shape_at J (type_of c)) in
      let same : kinds_of J operator a at c ≡ kinds_of T operator a at c = kinds_by operator a at c (integer_at J (type_of a)) (integer_at J (type_of c)) y z h k
      ∙ (λ i. by_kinds T operator a at c (first i) (second i) (is_pointer_shape (left i)) (is_pointer_shape (right i))) in
      ap (λ (e : TypedExpr). if is_logical operator then typed.Logical operator a at c int_type else e) same

  -- conversions

  pub implicit-over : (e : TypedExpr) (t : TypeId) → IsPartThere J (AsValue e) → IsType J t → implicit J e t ≡ implicit T e t
  implicit-over e t h k =
      let null = PartsAlike.null_constant-over J T x b e h in
      let from = TypesAlike.shape-over J T x b (type_of e) h.type in
      let to = TypesAlike.shape-over J T x b t k in
      PartsAlike.implicit_at J T x b (is_null_constant J e) (shape_at J (type_of e)) (shape_at J t) (points-in J (type_of e) b) (points-in J t b)
      ∙ (λ i. implicit_between T (null i) (from i) (to i))

  pub converted_to-over : (at : Place) (t : TypeId) (e : TypedExpr) → IsPartThere J (AsValue e) → IsType J t → converted_to J at t e ≡ converted_to T at t e
  converted_to-over at t e h k = ap (λ (o : Option Conversion). converted_by o at t e) (implicit-over e t h k)

  pub cast_conversion-over : (e : TypedExpr) (t : TypeId) → IsPartThere J (AsValue e) → IsType J t → cast_conversion J e t ≡ cast_conversion T e t
  cast_conversion-over e t h k =
      let null = PartsAlike.null_constant-over J T x b e h in
      let from = TypesAlike.shape-over J T x b (type_of e) h.type in
      let to = TypesAlike.shape-over J T x b t k in
      λ i. cast_between (null i) (from i) (to i)

  pub into_choice-over : (at : Place) (t : TypeId) (e : TypedExpr) → IsPartThere J (AsValue e) → into_choice J at t e ≡ into_choice T at t e
  into_choice-over at t e h = ap (λ (null : Bool). typed.Convert (side_conversion null) at t e) (PartsAlike.null_constant-over J T x b e h)

  cast_by-over : (p : Elaborated) (t : TypeId) (void : Bool) → IsPartThere J p → IsType J t
      → cast_by J (is_allocation_part p) (part_expr p) t void ≡ cast_by T (is_allocation_part p) (part_expr p) t void
  cast_by-over p t true h k = refl
  cast_by-over (AsPlace p) t false h k =
      let from = TypesAlike.shape-over J T x b (place_type p) h.type in
      let to = TypesAlike.shape-over J T x b t k in
      λ i. conversion_or_void (cast_between false (from i) (to i))
  cast_by-over (AsValue e) t false h k = ap conversion_or_void (cast_conversion-over e t h k)
  cast_by-over (AsAllocation e) t false h k = refl

  pub cast_part-over : (at : Place) (to : TypedTypeName) (p : Elaborated) → IsPartThere J p → IsType J (named_type to)
      → cast_part J at to p ≡ cast_part T at to p
  cast_part-over at to p h k =
      ap (λ (w : Conversion). typed.Cast w at to (part_expr p)) (
      cast_by-over p (named_type to) (is_void_shape (shape_at J (named_type to))) h k
      ∙ ap (λ (y : TypeShape). cast_by T (is_allocation_part p) (part_expr p) (named_type to) (is_void_shape y)) (TypesAlike.shape-over J T x b (named_type to) k))

  -- assignments

  pub assigned-over : (at : Place) (p : TypedPlace) (y : Elaborated) → IsPartThere J (AsPlace p) → IsPartThere J y → assigned J at p y ≡ assigned T at p y
  assigned-over at p (AsPlace q) h k = refl
  assigned-over at p (AsValue e) h k = ap (λ (v : TypedExpr). AsValue (typed.Assign p at v)) (converted_to-over at (place_type p) e k h.type)
  assigned-over at p (AsAllocation e) h k = refl

  pub updated-over : (operator : Assignment) (at : Place) (p : TypedPlace) (e : TypedExpr) → IsPartThere J (AsPlace p) → IsPartThere J (AsValue e)
      → updated operator at p e (integer_at J (place_type p)) (integer_at J (type_of e)) ≡ updated operator at p e (integer_at T (place_type p)) (integer_at T (type_of e))
  updated-over operator at p e h k =
      let left = TypesAlike.integer-over J T x b (place_type p) h.type in
      let right = TypesAlike.integer-over J T x b (type_of e) k.type in
      λ i. updated operator at p e (left i) (right i)

  pub converted_part-over : (t : TypeId) (at : Place) (y : Elaborated) → IsType J t → IsPartThere J y → converted_part J t at y ≡ converted_part T t at y
  converted_part-over t at (AsPlace p) k h = refl
  converted_part-over t at (AsValue e) k h = converted_to-over at t e h k
  converted_part-over t at (AsAllocation e) k h = refl

  -- calls

  arguments_by : (ts : List TypeId) (values : List Value) → ((u : TypeId) → Contains ts u → IsType J u) → AreArgumentsThere J (map argument_of values)
      → converted_arguments J ts values ≡ converted_arguments T ts values
  arguments_by [] values k h = refl
  arguments_by (t ∷ ts) [] k h = refl
  arguments_by (t ∷ ts) (v ∷ values) k h =
      let one = converted_to-over v.place t v.expr h.0 (k t (contains_head t ts)) in
      let rest = arguments_by ts values (λ u c. k u (contains_tail t ts u c)) h.1 in
      λ i. one i ∷ rest i

  runtime_by : (r : RuntimeType) (v : Value) → IsPartThere J (AsValue v.expr) → runtime_argument J r v ≡ runtime_argument T r v
  runtime_by prototype.Int v h = converted_to-over v.place int_type v.expr h (b.integers int (inr (inr (inl refl)))).0
  runtime_by prototype.UnsignedLong v h = converted_to-over v.place size_type v.expr h (b.integers unsigned_long (inr (inr (inr refl)))).0
  runtime_by prototype.Void v h = refl
  runtime_by prototype.VoidPointer v h = refl

  runtimes_by : (rs : List RuntimeType) (values : List Value) → AreArgumentsThere J (map argument_of values)
      → runtime_arguments J rs values ≡ runtime_arguments T rs values
  runtimes_by [] values h = refl
  runtimes_by (r ∷ rs) [] h = refl
  runtimes_by (r ∷ rs) (v ∷ values) h =
      let one = runtime_by r v h.0 in
      let rest = runtimes_by rs values h.1 in
      λ i. one i ∷ rest i

  shape_by : (f : TypedExpr) (at : Place) (values : List Value) (y : TypeShape) → ((u : TypeId) → Contains (named_by y) u → IsType J u)
      → AreArgumentsThere J (map argument_of values) → called_shape J f at values y ≡ called_shape T f at values y
  shape_by f at values (Function ps r) k h =
      ap (λ (es : List TypedExpr). AsValue (typed.Call f at (arguments_as es) r)) (arguments_by ps values (λ u c. k u (contains_tail r ps u c)) h)
  shape_by f at values y k h = refl

  called_by : (f : TypedExpr) (at : Place) (values : List Value) (o : Option Runtime) → IsPartThere J (AsValue f)
      → AreArgumentsThere J (map argument_of values)
      → called J f at values o ≡ called T f at values o
  called_by f at values None h k =
      let y : TypeShape = pointed_shape J (shape_at J (type_of f)) in
      shape_by f at values y (λ u c. All-contains (IsType J) (named_by y) u (CallRules.pointed-names J T x b (shape_at J (type_of f))) c) k
      ∙ ap (called_shape T f at values) (PartsAlike.pointed-over J T x b (AsValue f) h)
  called_by f at values (Some function) h k =
      ap (λ (es : List TypedExpr). runtime_call function f at (arguments_as es) (prototype_of function).result) (runtimes_by (prototype_of function).parameters values k)

  pub called-over : (f : TypedExpr) (at : Place) (values : List Value) → IsPartThere J (AsValue f) → AreArgumentsThere J (map argument_of values)
      → called J f at values (runtime_named f) ≡ called T f at values (runtime_named f)
  called-over f at values h k = called_by f at values (runtime_named f) h k
