-- The rules of an operator on two operands are broken by their values exactly where they are broken by the operands as they stand.
use Rattle.std.proofs.Common.{◌≡◌, ℤ, Bool, true, false, not, ◌&&◌, ◌||◌, List, [], ◌∷◌, Option, Some, None, refl, ap, sym, ◌∙◌, inl, inr, if◌then◌else◌}
use Rattle.cc_base.specs.declared.place.Place.{Place}
use Rattle.cc_base.specs.declared.fault.Fault.TheVariants.{Refused}
use Rattle.cc_base.specs.declared.fault.Rule.{Rule}
use Rattle.cc_base.specs.declared.fault.Rule.TheVariants as rule
use Rattle.c_types.specs.declared.shape.TypeShape.{TypeShape}
use Rattle.c_types.specs.declared.shape.TypeShape.TheVariants.{Pointer}
use Rattle.c_types.specs.Table.{Table, shape_at}
use Rattle.c_tree.specs.declared.operator.Binary.{Binary}
use Rattle.c_tree.specs.declared.operator.Binary.TheVariants as binary
use Rattle.c_tree.specs.TypedTree.{TypedExpr}
use Rattle.c_tree.specs.TypedParts.{type_of, place_type}
use Rattle.integers.specs.Arithmetic.{IntegerType}
use Rattle.c_typing.specs.Constants.{constant_value}
use Rattle.c_typing.specs.Integers.{is_logical, is_order, is_equality}
use Rattle.c_typing.specs.Judging.{State, Stops}
use Rattle.c_typing.specs.Operands.{Value}
use Rattle.c_typing.specs.Operations.{infix_of}
use Rattle.c_typing.specs.Refusals.{Fails}
use Rattle.c_typing.specs.Scopes.{Scopes}
use Rattle.c_typing.specs.Settled.{IsBasic, IsValueOf, flat, is_value_part, IsAlike}
use Rattle.c_typing.specs.Shapes.{is_scalar_shape, is_integer_shape, is_pointer_shape, integer_at}
use Rattle.c_typing.specs.Tests.{taken_as, Elaborated, AsPlace, AsValue, AsAllocation, Test, broken_at, first_broken, decayed, shape_of, is_null_part, points_to_incomplete, is_index_pair, is_moving, point_alike, point_to_data, divides_as, divides_part, infix_tests}
use Rattle.c_tree.specs.declared.leaf.Identifier.{Identifier}
use Rattle.c_tree.specs.declared.operator.Assignment.{Assignment}
use Rattle.c_tree.specs.declared.operator.Assignment.TheVariants as assignment
use Rattle.c_tree.specs.TypedTree as typed
use Rattle.c_tree.specs.Tree as tree
use Rattle.c_types.specs.Table.{IsType}
use Rattle.c_typing.specs.Conversions.{is_droppable}
use Rattle.c_typing.specs.Extensions.{IsExtended}
use Rattle.c_typing.specs.Integers.{assigning}
use Rattle.c_typing.specs.Operands.{Operand}
use Rattle.c_typing.specs.Operations.{pointed_member}
use Rattle.c_typing.specs.Assignments.{update_by}
use Rattle.c_typing.specs.Refusals.{IsElaborated}
use Rattle.c_typing.specs.Rules.{is_compound}
use Rattle.c_typing.specs.Settled.{is_converted}
use Rattle.c_typing.specs.Tests.{pointed_shape, member_tests, assign_tests, is_assignable, can_be_written, is_array_part}
use Rattle.c_typing.specs.Typing.{IsTyped}
use Rattle.c_typing_laws.proofs.ExtensionLaws.{no_true}
use Rattle.c_typing_laws.proofs.KeptConstants.{Own, own-no_place, constant-kept, null-kept}
use Rattle.c_typing_laws.proofs.TypesThere.{value-there, place-there, part-there}
use Rattle.c_typing_laws.proofs.ValuesTaken.{natural-no_place}
use Rattle.c_typing_laws.proofs.RefusedConstructs.{infix-refused, pointed-refused, update-refused}

pointer_flat : (x : TypeShape) → is_pointer_shape x ≡ is_pointer_shape (flat x)
pointer_flat (Pointer n t) = refl
pointer_flat x = refl

integer_flat : (x : TypeShape) → is_integer_shape x ≡ is_integer_shape (flat x)
integer_flat (Pointer n t) = refl
integer_flat x = refl

scalar_flat : (x : TypeShape) → is_scalar_shape x ≡ is_scalar_shape (flat x)
scalar_flat (Pointer n t) = refl
scalar_flat x = refl

incomplete_flat : (T : Table) (s : Scopes) (x : TypeShape) → points_to_incomplete T s x ≡ points_to_incomplete T s (flat x)
incomplete_flat T s (Pointer n t) = refl
incomplete_flat T s x = refl

data_flat : (T : Table) (x : TypeShape) → point_to_data T x ≡ point_to_data T (flat x)
data_flat T (Pointer n t) = refl
data_flat T x = refl

alike_flat : (T : Table) (x y : TypeShape) → point_alike T x y ≡ point_alike T (flat x) (flat y)
alike_flat T (Pointer n t) (Pointer m u) = refl
alike_flat T x y = refl

abbrev takes : Table → TypeShape → TypeShape → Bool
takes = taken_as

takes_flat : (T : Table) (x y : TypeShape) → takes T x y ≡ takes T (flat x) (flat y)
takes_flat T (Pointer n t) (Pointer m u) = refl
takes_flat T x y = refl

pair_flat : (x y : TypeShape) → is_index_pair x y ≡ is_index_pair (flat x) (flat y)
pair_flat x y =
    let px = pointer_flat x in
    let py = pointer_flat y in
    let ix = integer_flat x in
    let iy = integer_flat y in
    λ i. (px i && iy i) || (ix i && py i)

moving_flat : (T : Table) (operator : Binary) (x y : TypeShape) → is_moving T operator x y ≡ is_moving T operator (flat x) (flat y)
moving_flat T binary.Add x y = pair_flat x y
moving_flat T binary.Subtract x y =
    let px = pointer_flat x in
    let iy = integer_flat y in
    let alike = alike_flat T x y in
    λ i. (px i && iy i) || alike i
moving_flat T operator x y = refl

-- what an operator reads, from what each of its tests finds
abbrev tests_by : Binary → Place → Place → (moving left right scalars integers alike is_data first second taken divides : Bool) → List Test
tests_by operator at begin moving left right scalars integers alike is_data first second taken divides =
    broken_at rule.Incomplete at (moving && (left || right))
    ∷ broken_at rule.Mismatch at (not (if is_logical operator then scalars
    else (integers || (moving || ((is_order operator && (alike && is_data)) || (is_equality operator && (first || (second || taken))))))))
    ∷ broken_at rule.NotConstant begin divides
    ∷ []

none_divides : (operator : Binary) (j k : Option IntegerType) (y : Option ℤ) → divides_as operator j k None y ≡ false
none_divides operator (Some j) (Some k) y = refl
none_divides operator (Some j) None y = refl
none_divides operator None k y = refl

none_divided : (operator : Binary) (j k : Option IntegerType) (x : Option ℤ) → divides_as operator j k x None ≡ false
none_divided operator (Some j) (Some k) (Some x) = refl
none_divided operator (Some j) (Some k) None = refl
none_divided operator (Some j) None x = refl
none_divided operator None k x = refl

module _ (T : Table) (operator : Binary) (x y : Elaborated) (a b : TypedExpr) (p : IsAlike T x a) (q : IsAlike T y b) where
  one : (f : TypeShape → Bool) → ((z : TypeShape) → f z ≡ f (flat z)) → f (shape_of T x) ≡ f (shape_at T (type_of a))
  one f same = same (shape_of T x) ∙ ap f p.shape ∙ sym (same (shape_at T (type_of a)))

  other : (f : TypeShape → Bool) → ((z : TypeShape) → f z ≡ f (flat z)) → f (shape_of T y) ≡ f (shape_at T (type_of b))
  other f same = same (shape_of T y) ∙ ap f q.shape ∙ sym (same (shape_at T (type_of b)))

  both : (f : TypeShape → TypeShape → Bool) → ((z w : TypeShape) → f z w ≡ f (flat z) (flat w)) → f (shape_of T x) (shape_of T y) ≡ f (shape_at T (type_of a)) (shape_at T (type_of b))
  both f same =
      same (shape_of T x) (shape_of T y) ∙ (λ i. f (p.shape i) (q.shape i)) ∙ sym (same (shape_at T (type_of a)) (shape_at T (type_of b)))

  divides_left : constant_value T a ≡ None → divides_part T operator (AsValue a) (AsValue b) ≡ false
  divides_left h =
      ap (λ (v : Option ℤ). divides_as operator (integer_at T (type_of a)) (integer_at T (type_of b)) v (constant_value T b)) h
      ∙ none_divides operator (integer_at T (type_of a)) (integer_at T (type_of b)) (constant_value T b)

  divides_right : constant_value T b ≡ None → divides_part T operator (AsValue a) (AsValue b) ≡ false
  divides_right h =
      ap (λ (v : Option ℤ). divides_as operator (integer_at T (type_of a)) (integer_at T (type_of b)) (constant_value T a) v) h
      ∙ none_divided operator (integer_at T (type_of a)) (integer_at T (type_of b)) (constant_value T a)

  no_left : (z w : Elaborated) → is_value_part z ≡ false → divides_part T operator z w ≡ false
  no_left (AsPlace z) (AsPlace w) h = refl
  no_left (AsPlace z) (AsValue w) h = refl
  no_left (AsPlace z) (AsAllocation w) h = refl
  no_left (AsAllocation z) (AsPlace w) h = refl
  no_left (AsAllocation z) (AsValue w) h = refl
  no_left (AsAllocation z) (AsAllocation w) h = refl
  no_left (AsValue z) w h = no_true (sym h)

  no_right : (z w : Elaborated) → is_value_part w ≡ false → divides_part T operator z w ≡ false
  no_right (AsPlace z) (AsPlace w) h = refl
  no_right (AsValue z) (AsPlace w) h = refl
  no_right (AsAllocation z) (AsPlace w) h = refl
  no_right (AsPlace z) (AsAllocation w) h = refl
  no_right (AsValue z) (AsAllocation w) h = refl
  no_right (AsAllocation z) (AsAllocation w) h = refl
  no_right z (AsValue w) h = no_true (sym h)

  divides_same : divides_part T operator x y ≡ divides_part T operator (AsValue a) (AsValue b)
  divides_same = elim p.value [
    | inr h ↦ no_left x y h.0 ∙ sym (divides_left h.1)
    | inl e ↦ elim q.value [
      | inr h ↦ no_right x y h.0 ∙ sym (divides_right h.1)
      | inl g ↦ λ i. divides_part T operator (e i) (g i)
    ]
  ]

  pub infix-alike : (s : Scopes) (at begin : Place) → infix_tests T s operator at begin x y ≡ infix_tests T s operator at begin (AsValue a) (AsValue b)
  infix-alike s at begin =
      let moving = both (is_moving T operator) (moving_flat T operator) in
      let left = one (points_to_incomplete T s) (incomplete_flat T s) in
      let right = other (points_to_incomplete T s) (incomplete_flat T s) in
      let sx = one is_scalar_shape scalar_flat in
      let sy = other is_scalar_shape scalar_flat in
      let ix = one is_integer_shape integer_flat in
      let iy = other is_integer_shape integer_flat in
      let alike = both (point_alike T) (alike_flat T) in
      let objects = one (point_to_data T) (data_flat T) in
      let px = one is_pointer_shape pointer_flat in
      let py = other is_pointer_shape pointer_flat in
      let taken = both (takes T) (takes_flat T) in
      let first = p.null in
      let second = q.null in
      let divides = divides_same in
      λ i. tests_by operator at begin (moving i) (left i) (right i) (sx i && sy i) (ix i && iy i) (alike i) (objects i) (second i && px i) (first i && py i) (taken i) (divides i)

pub infix-refuses : (operator : Binary) (x : Elaborated) (a : Value) (at : Place) (y : Elaborated) (b : Value) (s : State) (p : Place) (t : Rule) (r : State) → IsAlike s.table x a.expr
    → IsAlike s.table y b.expr → infix_of operator a at b s ≡ Stops (Refused p t) r → Fails (infix_tests s.table s.seen.scopes operator at a.place x y) (Refused p t)
infix-refuses operator x a at y b s p t r ax ay h =
    ap first_broken (infix-alike s.table operator x y a.expr b.expr ax ay s.seen.scopes at a.place) ∙ (infix-refused operator a at b s p t r h).0

-- members of what a pointer points to

pub pointed_flat : (T : Table) (x : TypeShape) → pointed_shape T x ≡ pointed_shape T (flat x)
pointed_flat T (Pointer n t) = refl
pointed_flat T x = refl

pub pointed-refuses : (x : Elaborated) (v : Value) (at : Place) (name : Identifier) (s : State) (p : Place) (t : Rule) (r : State) → IsAlike s.table x v.expr
    → pointed_member v at name s ≡ Stops (Refused p t) r
    → Fails (member_tests s.seen.scopes (pointed_shape s.table (shape_of s.table x)) at name.bytes name.place) (Refused p t)
pointed-refuses x v at name s p t r a h =
    ap (λ (y : TypeShape). first_broken (member_tests s.seen.scopes y at name.bytes name.place))
    (pointed_flat s.table (shape_of s.table x) ∙ ap (pointed_shape s.table) a.shape ∙ sym (pointed_flat s.table (shape_at s.table (type_of v.expr))))
    ∙ (pointed-refused v at name s p t r h).0

-- compound assignments

assignable-alike : (T : Table) (operator : Assignment) (x y : Elaborated) (b : TypedExpr) → is_compound operator ≡ true → IsAlike T y b
    → is_assignable T operator x y ≡ is_assignable T operator x (AsValue b)
assignable-alike T assignment.Assign x y b c q = no_true c
assignable-alike T operator x y b c q =
    let z : TypeShape = shape_of T x in
    let integer : is_integer_shape (shape_of T y) ≡ is_integer_shape (shape_at T (type_of b)) =
    integer_flat (shape_of T y) ∙ ap is_integer_shape q.shape ∙ sym (integer_flat (shape_at T (type_of b))) in
    let moving : is_moving T (assigning operator) (shape_of T x) (shape_of T y) ≡ is_moving T (assigning operator) (shape_of T x) (shape_at T (type_of b)) =
    moving_flat T (assigning operator) (shape_of T x) (shape_of T y) ∙ ap (is_moving T (assigning operator) (flat (shape_of T x))) q.shape
    ∙ sym (moving_flat T (assigning operator) (shape_of T x) (shape_at T (type_of b))) in
    λ i. (is_integer_shape (shape_of T x) && integer i) || ((is_pointer_shape (shape_of T x) && integer i) && moving i)

pub update-refuses : (operator : Assignment) (x : Operand) (at : Place) (y : Elaborated) (v : Value) (s : State) (p : Place) (t : Rule) (r : State)
    → is_compound operator ≡ true → IsAlike s.table y v.expr → update_by operator x at v s ≡ Stops (Refused p t) r
    → Fails (assign_tests s.table s.seen.scopes operator at x.part y) (Refused p t)
update-refuses operator x at y v s p t r c q h =
    let same = assignable-alike s.table operator x.part y v.expr c q in
    (λ i. first_broken (
    broken_at rule.Incomplete at (is_compound operator && (same i && points_to_incomplete s.table s.seen.scopes (shape_of s.table x.part)))
    ∷ broken_at rule.Mismatch at (not (same i))
    ∷ broken_at rule.NotPlace at (not (can_be_written x.part) || is_array_part s.table x.part)
    ∷ []
    )) ∙ (update-refused operator x at v s p t r h).0

-- what is alike stays so over a later table

own-unconverted : (T : Table) (v : TypedExpr) → is_converted v ≡ false → Own T v
own-unconverted T (typed.Convert which at t e) h = no_true (sym h)
own-unconverted T v h = tt

dropped_there : (T : Table) (b : IsBasic T) (v : TypedExpr) (s s' : Scopes) → IsTyped T v s s' → is_droppable v ≡ true → IsType T (type_of v)
dropped_there T b (typed.Unread p) s s' h d = place-there T b p s s' h.0
dropped_there T b v s s' h d = value-there T b v s s' h d

module _ (T U : Table) (x : IsExtended T U) (b : IsBasic T) (e : tree.Expr) (v : TypedExpr) (s s' m m' : Scopes) (val : IsValueOf T e v m m') (d : is_droppable v ≡ true) where
  shape_later : (p : Elaborated) → IsElaborated T e p s s' → flat (shape_of U p) ≡ flat (shape_of T p)
  shape_later (AsPlace p) h = ap (λ (y : TypeShape). flat (decayed y)) (x.shapes (place_type p) (place-there T b p s s' h.0))
  shape_later (AsValue w) h = ap flat (x.shapes (type_of w) (part-there T b e (AsValue w) s s' h))
  shape_later (AsAllocation w) h = refl

  null_later : (p : Elaborated) → IsElaborated T e p s s' → is_null_part U p ≡ is_null_part T p
  null_later (AsPlace p) h = refl
  null_later (AsValue w) h = null-kept T U x b w s s' h.0 (own-no_place T w (natural-no_place w h.2))
  null_later (AsAllocation w) h = refl

  pub alike-kept : (p : Elaborated) → IsElaborated T e p s s' → IsAlike T p v → IsAlike U p v
  alike-kept p h a =
      let own = own-unconverted T v val.settled.unconverted in
      record {
        shape = shape_later p h ∙ a.shape ∙ sym (ap flat (x.shapes (type_of v) (dropped_there T b v m m' val.typed d)));
        null = null_later p h ∙ a.null ∙ sym (null-kept T U x b v m m' val.typed own);
        value = elim a.value [ inl q ↦ inl q | inr q ↦ inr (q.0, constant-kept T U x b v m m' val.typed own ∙ q.1) ];
      }
