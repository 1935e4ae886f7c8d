-- What judging gives for casts and compound assignments, from what it gave for their operands.
use Rattle.std.proofs.Common.{◌≡◌, ℕ, Bool, true, false, not, ◌&&◌, ◌||◌, [], ◌∷◌, Option, Some, None, refl, ap, sym, subst, ◌∙◌, inl, inr, ◌⊎◌}
use Rattle.std.proofs.lemmas.Option.{none-some}
use Rattle.cc_base.specs.declared.place.Place.{Place}
use Rattle.cc_base.specs.declared.number.NodeId.{NodeId}
use Rattle.cc_base.specs.declared.number.TypeId.{TypeId}
use Rattle.cc_base.specs.declared.fault.Fault.TheVariants.{Refused, TooLarge}
use Rattle.cc_base.specs.declared.fault.Limit.TheVariants.{Types}
use Rattle.cc_base.specs.declared.fault.Rule.TheVariants as rule
use Rattle.c_types.specs.declared.shape.TypeShape.{TypeShape}
use Rattle.c_types.specs.declared.shape.TypeShape.TheVariants.{Void, Integer, Pointer, Array, Function, Struct, Union}
use Rattle.c_types.specs.Table.{Table, IsType, shape_at, is_aggregate_shape}
use Rattle.c_tree.specs.declared.operator.Assignment.{Assignment}
use Rattle.c_tree.specs.declared.operator.Assignment.TheVariants as assignment
use Rattle.c_tree.specs.declared.operator.Binary.{Binary}
use Rattle.c_tree.specs.declared.operator.Binary.TheVariants as binary
use Rattle.c_tree.specs.declared.typed_word.Conversion.{Conversion}
use Rattle.c_tree.specs.declared.typed_word.Conversion.TheVariants as conversion
use Rattle.c_tree.specs.declared.typed_word.Side.TheVariants as side
use Rattle.c_tree.specs.Erasure.{erased, erased_place, erased_type_name}
use Rattle.c_tree.specs.Places.{expr_place}
use Rattle.c_tree.specs.Tree as tree
use Rattle.c_tree.specs.TypedTree as typed
use Rattle.c_tree.specs.TypedTree.{TypedExpr, TypedPlace, TypedTypeName}
use Rattle.c_tree.specs.TypedParts.{type_of, place_type, named_type}
use Rattle.integers.specs.Arithmetic.{IntegerType}
use Rattle.c_typing.specs.Assignments.{part_expr, conversion_or_void, cast_by, is_allocation_part, cast_part, cast, cast_given, updated, update_part, update_by}
use Rattle.c_typing.specs.Constants.{is_null_constant}
use Rattle.c_typing.specs.Conversions.{bare, is_plain, is_droppable, is_allocation, is_pointer_to_complete, is_pointer_to_complete_shape, takes_over, cast_between, cast_conversion, to_integer}
use Rattle.c_typing.specs.Integers.{assigning, left_type, right_type}
use Rattle.c_typing.specs.Judging.{State, Gives, pure, by_known, integer_type}
use Rattle.c_typing.specs.Operands.{Operand, Value, given}
use Rattle.c_typing.specs.Operations.{construct}
use Rattle.c_typing.specs.Refusals.{IsElaborated}
use Rattle.c_typing.specs.Rules.{is_lvalue, is_compound, is_move, IsScalarCast}
use Rattle.c_typing.specs.Scopes.{Scopes, is_complete_at}
use Rattle.c_typing.specs.Settled.{IsBasic, IsValueOf, IsKnown, IsJudged}
use Rattle.c_typing.specs.Shapes.{is_scalar_shape, is_void_shape, is_integer_shape, is_pointer_shape, integer_at, integer_of_shape}
use Rattle.c_typing.specs.Tests.{Elaborated, AsPlace, AsValue, AsAllocation, first_broken, cast_tests, is_castable, shape_of, decayed, has_some, assign_tests, is_assignable, are_integers, is_moving, is_array_part, points_to_incomplete}
use Rattle.c_typing.specs.Typing.{IsPlace, IsTypeName}
use Rattle.c_typing_laws.proofs.ExtensionLaws.{no_true, still_in}
use Rattle.c_typing_laws.proofs.ConstructLaws.{one_unbroken, three_unbroken, not_false, or_left, or_right, either_false, has_shape, integer_value, to_integer-typed, to_integer-bare, integer_size, operand}
use Rattle.c_typing_laws.proofs.InfixLaws.{null_plain, left_size, right_size}
use Rattle.c_typing_laws.proofs.KeptTrees.{type_name-kept}
use Rattle.c_typing_laws.proofs.Outcomes.{construct-gives, never-gives, bind-gives}
use Rattle.c_typing_laws.proofs.JudgedOperators.{made-here, made-later, to_integer-erased}
use Rattle.c_typing_laws.proofs.JudgedAssignments.{IsGiven, given-gives, over-bare, decayed-same, or_else}

-- Casts

void_is : (x : TypeShape) → is_void_shape x ≡ true → x ≡ Void
void_is Void h = refl
void_is (Integer bytes signed) h = no_true h
void_is (Pointer n t) h = no_true h
void_is (Array t n) h = no_true h
void_is (Function ps r) h = no_true h
void_is (Struct n) h = no_true h
void_is (Union n) h = no_true h

pointed_no_void : (T : Table) (s : Scopes) (x : TypeShape) → is_pointer_to_complete_shape T s x ≡ true → is_void_shape x ≡ false
pointed_no_void T s (Pointer n t) h = refl
pointed_no_void T s Void h = no_true h
pointed_no_void T s (Integer bytes signed) h = refl
pointed_no_void T s (Array t n) h = refl
pointed_no_void T s (Function ps r) h = refl
pointed_no_void T s (Struct n) h = refl
pointed_no_void T s (Union n) h = refl

struct_cast : (x y : TypeShape) → is_aggregate_shape x ≡ true → has_some (cast_between false (decayed x) y) ≡ false
struct_cast (Struct n) y h = refl
struct_cast (Union n) y h = refl
struct_cast Void y h = no_true h
struct_cast (Integer bytes signed) y h = no_true h
struct_cast (Pointer n t) y h = no_true h
struct_cast (Array t n) y h = no_true h
struct_cast (Function ps r) y h = no_true h

cast_scalar : (null : Bool) (x y : TypeShape) (which : Conversion) → cast_between null x y ≡ Some which → (null ≡ true) ⊎ (is_scalar_shape x ≡ true)
cast_scalar null (Integer a s) (Integer b r) which h = inr refl
cast_scalar true x (Pointer n u) which h = inl refl
cast_scalar false (Integer a s) (Pointer n u) which h = inr refl
cast_scalar false (Pointer m t) (Pointer n u) which h = inr refl
cast_scalar null x y which h = absurd (none-some which h)

abbrev or_void : Option Conversion → Conversion
or_void = conversion_or_void

some_of : {A : Type 0} (o : Option A) → has_some o ≡ true → (a : A) × (o ≡ Some a)
some_of (Some a) h = (a, refl)
some_of None h = no_true h

module _ (T : Table) (name : tree.TypeName) (e : tree.Expr) (at : Place) (to : TypedTypeName) (s0 m s : Scopes) (named : IsTypeName T to s0 m)
    (called : erased_type_name to ≡ name) (there : IsType T (named_type to)) where
  free_of : (w : TypedExpr) → bare w ≡ w → (is_allocation w && is_pointer_to_complete T s (named_type to)) ≡ false → takes_over T s (named_type to) w ≡ false
  free_of w b f = ap (λ (v : TypedExpr). is_allocation v && is_pointer_to_complete T s (named_type to)) b ∙ f

  cast_value : (w : TypedExpr) (which : Conversion) → IsValueOf T e w m s → (is_allocation w && is_pointer_to_complete T s (named_type to)) ≡ false
      → cast_conversion T w (named_type to) ≡ Some which → IsElaborated T (tree.Cast at name e) (AsValue (typed.Cast which at to w)) s0 s
  cast_value w which val free c =
      let plain : is_plain w ≡ true = elim (cast_scalar (is_null_constant T w) (shape_at T (type_of w)) (shape_at T (named_type to)) which c) [
        | inl null ↦ null_plain T m s w val.settled.unconverted val.typed null
        | inr scalar ↦ val.settled.plain scalar
      ] in
      let second = val.erases in (
        (m, named, val.typed, inr (subst (λ (b : Bool). IsScalarCast b T which (named_type to) w) (sym (free_of w val.settled.bare free)) (plain, c))),
        (λ i. tree.Cast at (called i) (second i)),
        refl,
      )

  cast_as : (y : Elaborated) (b : Bool) → is_void_shape (shape_at T (named_type to)) ≡ b → IsGiven T (named_type to) e y m s → ((w : TypedExpr) → y ≡ AsValue w → is_droppable w ≡ true)
      → is_castable T y (shape_at T (named_type to)) ≡ true
      → IsElaborated T (tree.Cast at name e) (AsValue (typed.Cast (cast_by T (is_allocation_part y) (part_expr y) (named_type to) b) at to (part_expr y))) s0 s
  cast_as (AsPlace q) true v g d h =
      let second = g.2 in
      ((m, named, (g.0, g.1), inl ((there, void_is (shape_at T (named_type to)) v), refl, refl)), (λ i. tree.Cast at (called i) (second i)), refl)
  cast_as (AsPlace q) false v g d h =
      no_true (sym (struct_cast (shape_at T (place_type q)) (shape_at T (named_type to)) g.1)
      ∙ or_else (is_void_shape (shape_at T (named_type to))) (has_some (cast_between false (decayed (shape_at T (place_type q))) (shape_at T (named_type to)))) v h)
  cast_as (AsValue w) true v g d h =
      let second = g.value.erases in
      ((m, named, g.value.typed, inl ((there, void_is (shape_at T (named_type to)) v), refl, d w refl)), (λ i. tree.Cast at (called i) (second i)), refl)
  cast_as (AsValue w) false v g d h =
      let some = some_of (cast_conversion T w (named_type to))
      (or_else (is_void_shape (shape_at T (named_type to))) (has_some (cast_conversion T w (named_type to))) v h) in
      let which : cast_by T false w (named_type to) false ≡ some.0 = ap or_void some.1 in
      subst (λ (k : Conversion). IsElaborated T (tree.Cast at name e) (AsValue (typed.Cast k at to w)) s0 s) (sym which)
      (cast_value w some.0 g.value g.free some.1)
  cast_as (AsAllocation w) true v g d h = no_true (sym (pointed_no_void T s (shape_at T (named_type to)) g.pointer) ∙ v)
  cast_as (AsAllocation w) false v g d h =
      let block = over-bare w g.over in
      let over : takes_over T s (named_type to) w ≡ true =
      ap (λ (u : TypedExpr). is_allocation u && is_pointer_to_complete T s (named_type to)) block.0 ∙ (λ i. block.1 i && g.pointer i) in
      let second = g.erases in (
        (
          m,
          named,
          g.typed,
          inr (subst (λ (b : Bool). IsScalarCast b T conversion.AllocationToPointer (named_type to) w) (sym over) (refl, record { over = g.over; type = g.type })),
        ),
        (λ i. tree.Cast at (called i) (second i)),
        refl,
      )

-- what is given may be dropped: it is no runtime function
pub cast-judged : (name : tree.TypeName) (e : tree.Expr) (at : Place) (to : TypedTypeName) (x o : Operand) (s0 m : Scopes) (s r : State) → IsKnown s
    → IsTypeName s.table to s0 m → erased_type_name to ≡ name → IsType s.table (named_type to) → IsElaborated s.table e x.part m s.seen.scopes
    → ((w : TypedExpr) (q : State) → given (named_type to) x.place x.part s ≡ Gives (AsValue w) q → is_droppable w ≡ true) → cast at to x s ≡ Gives o r
    → IsJudged (tree.Cast at name e) o s0 s r
unfolding cast cast_given
cast-judged name e at to x o s0 m s r k named called there el dropped h =
    let one = bind-gives (given (named_type to) x.place x.part s)
    (λ v. construct (λ q. cast_tests q.table at v (named_type to)) at (x.held ∷ []) (by_known (λ q. pure (AsValue (cast_part q.table at to v))))) o r h in
    let v : Elaborated = one.0 in
    let n : State = one.1 in
    let got = given-gives e (named_type to) x.place x.part v m s n k there el one.2 in
    let c = construct-gives (λ (q : State). cast_tests q.table at v (named_type to)) at (x.held ∷ []) (by_known (λ q. pure (AsValue (cast_part q.table at to v)))) n o r one.3 in
    let grows = got.1.goes.extends in
    made-later (tree.Cast at name e) (AsValue (cast_part n.table at to v)) o s0 s n r got.1.goes c.part c.place
    (cast_as n.table name e at to s0 m n.seen.scopes (type_name-kept s.table n.table grows k.basic to s0 m named) called (still_in s.table n.table grows (named_type to) there)
    v (is_void_shape (shape_at n.table (named_type to))) refl got.0 (λ w alike. dropped w n (one.2 ∙ ap (λ (z : Elaborated). Gives z n) alike))
    (not_false (is_castable n.table v (shape_at n.table (named_type to))) (one_unbroken (not (is_castable n.table v (shape_at n.table (named_type to)))) (Refused at rule.Mismatch) c.unbroken)))

-- Compound assignments

assignable-is : (T : Table) (operator : Assignment) (x y : Elaborated) → is_compound operator ≡ true → is_assignable T operator x y
    ≡ (are_integers (shape_of T x) (shape_of T y)
    || ((is_pointer_shape (shape_of T x) && is_integer_shape (shape_of T y)) && is_moving T (assigning operator) (shape_of T x) (shape_of T y)))
assignable-is T assignment.Assign x y h = no_true h
assignable-is T operator x y h = refl

moving-is : (T : Table) (operator : Binary) (n : NodeId) (t : TypeId) (w : ℕ) (r : Bool) → is_moving T operator (Pointer n t) (Integer w r) ≡ true → is_move operator side.Left ≡ true
moving-is T binary.Add n t w r h = refl
moving-is T binary.Subtract n t w r h = refl
moving-is T operator n t w r h = no_true h

module _ (T : Table) (operator : Assignment) (ea eb : tree.Expr) (p : TypedPlace) (at : Place) (e : TypedExpr) (s0 m s : Scopes) (basic : IsBasic T)
    (place : IsPlace T p s0 m) (same : erased_place p ≡ ea) (val : IsValueOf T eb e m s) (compound : is_compound operator ≡ true) (lvalue : is_lvalue p ≡ true) where
  update_integers : (j k : IntegerType) → shape_at T (place_type p) ≡ Integer j.bytes j.signed → shape_at T (type_of e) ≡ Integer k.bytes k.signed
      → IsElaborated T (tree.Assign operator ea at eb) (AsValue (updated operator at p e (Some j) (Some k))) s0 s
  update_integers j k hp he =
      let js = integer_size T (place_type p) j.bytes j.signed basic.formed hp in
      let ks = integer_size T (type_of e) k.bytes k.signed basic.formed he in
      let plain : is_plain e ≡ true = val.settled.plain (ap is_scalar_shape he) in
      let to : IntegerType = right_type (assigning operator) j k in
      let second : erased (to_integer at (integer_type (right_type (assigning operator) j k)) e) ≡ eb =
      to_integer-erased at (integer_type (right_type (assigning operator) j k)) e ∙ val.erases in (
        (
          m,
          place,
          to_integer-typed T m s at (integer_type (right_type (assigning operator) j k)) e plain val.typed,
          record {
            compound = compound;
            updated = inl (record {
              left = j;
              right = k;
              first = ap integer_of_shape hp;
              second = ap (λ (v : TypedExpr). integer_at T (type_of v)) (to_integer-bare at (integer_type (right_type (assigning operator) j k)) e val.settled.bare) ∙ ap integer_of_shape he;
              converted = operand T at (right_type (assigning operator) j k) e basic (right_size (assigning operator) j k js ks) plain val.settled.bare;
              type = basic.integers (left_type (assigning operator) j k) (left_size (assigning operator) j k js ks);
            });
            lvalue = lvalue;
          },
        ),
        (λ i. tree.Assign operator (same i) at (second i)),
        refl,
      )

  update_pointer : (n : NodeId) (t : TypeId) (w : ℕ) (r : Bool) → shape_at T (place_type p) ≡ Pointer n t → shape_at T (type_of e) ≡ Integer w r
      → is_moving T (assigning operator) (Pointer n t) (Integer w r) ≡ true → is_complete_at T s t ≡ true
      → IsElaborated T (tree.Assign operator ea at eb) (AsValue (typed.AssignWith operator p at e (place_type p))) s0 s
  update_pointer n t w r hp he moving whole =
      let second = val.erases in (
        (
          m,
          place,
          val.typed,
          record {
            compound = compound;
            updated = inr (record {
              to = t;
              kind = record { bytes = w; signed = r };
              allowed = moving-is T (assigning operator) n t w r moving;
              pointer = (n, has_shape T (place_type p) (Pointer n t) hp refl);
              integer = integer_value T e w r he val.settled;
              complete = whole;
              type = refl;
            });
            lvalue = lvalue;
          },
        ),
        (λ i. tree.Assign operator (same i) at (second i)),
        refl,
      )

  update_shapes : (x y : TypeShape) → shape_at T (place_type p) ≡ x → shape_at T (type_of e) ≡ y
      → (are_integers x y || ((is_pointer_shape x && is_integer_shape y) && is_moving T (assigning operator) x y)) ≡ true → points_to_incomplete T s x ≡ false
      → IsElaborated T (tree.Assign operator ea at eb) (AsValue (updated operator at p e (integer_of_shape x) (integer_of_shape y))) s0 s
  update_shapes (Integer a r) (Integer b q) hp he h w = update_integers (record { bytes = a; signed = r }) (record { bytes = b; signed = q }) hp he
  update_shapes (Pointer n t) (Integer b q) hp he h w = update_pointer n t b q hp he h (not_false (is_complete_at T s t) w)
  update_shapes x y hp he h w = no_true h

update_elaborated : (T : Table) (operator : Assignment) (ea eb : tree.Expr) (p : TypedPlace) (at : Place) (e : TypedExpr) (s0 m s : Scopes) → IsBasic T
    → IsPlace T p s0 m → erased_place p ≡ ea → IsValueOf T eb e m s → is_compound operator ≡ true
    → first_broken (assign_tests T s operator at (AsPlace p) (AsValue e)) ≡ None
    → IsElaborated T (tree.Assign operator ea at eb) (AsValue (updated operator at p e (integer_at T (place_type p)) (integer_at T (type_of e)))) s0 s
update_elaborated T operator ea eb p at e s0 m s basic place same val compound u =
    let three = three_unbroken (is_compound operator && (is_assignable T operator (AsPlace p) (AsValue e) && points_to_incomplete T s (shape_of T (AsPlace p))))
    (not (is_assignable T operator (AsPlace p) (AsValue e))) (not (is_lvalue p) || is_array_part T (AsPlace p))
    (Refused at rule.Incomplete) (Refused at rule.Mismatch) (Refused at rule.NotPlace) u in
    let assignable = not_false (is_assignable T operator (AsPlace p) (AsValue e)) three.1 in
    let own = decayed-same (shape_at T (place_type p)) (or_right (not (is_lvalue p)) (is_array_part T (AsPlace p)) three.2) in
    let whole = either_false (is_assignable T operator (AsPlace p) (AsValue e)) (points_to_incomplete T s (shape_of T (AsPlace p)))
    (either_false (is_compound operator) (is_assignable T operator (AsPlace p) (AsValue e) && points_to_incomplete T s (shape_of T (AsPlace p))) three.0 compound) assignable in
    update_shapes T operator ea eb p at e s0 m s basic place same val compound (not_false (is_lvalue p) (or_left (not (is_lvalue p)) (is_array_part T (AsPlace p)) three.2))
    (shape_at T (place_type p)) (shape_at T (type_of e)) refl refl
    (subst (λ (x : TypeShape). (are_integers x (shape_at T (type_of e))
    || ((is_pointer_shape x && is_integer_shape (shape_at T (type_of e))) && is_moving T (assigning operator) x (shape_at T (type_of e)))) ≡ true) own
    (sym (assignable-is T operator (AsPlace p) (AsValue e) compound) ∙ assignable))
    (subst (λ (x : TypeShape). points_to_incomplete T s x ≡ false) own whole)

pub update-judged : (operator : Assignment) (ea eb : tree.Expr) (x : Operand) (at : Place) (v : Value) (o : Operand) (s0 m : Scopes) (s r : State)
    → is_compound operator ≡ true → IsKnown s → IsElaborated s.table ea x.part s0 m → IsValueOf s.table eb v.expr m s.seen.scopes → x.place ≡ expr_place ea
    → update_by operator x at v s ≡ Gives o r → IsJudged (tree.Assign operator ea at eb) o s0 s r
unfolding update_by update_part
update-judged operator ea eb x at v o s0 m s r compound k ex val here h =
    let c = construct-gives (λ (q : State). assign_tests q.table q.seen.scopes operator at x.part (AsValue v.expr)) x.place (x.held ∷ v.held ∷ [])
    (update_part operator at x.part v.expr) s o r h in
    by x.part ex c.unbroken c.part (c.place ∙ here)
  where
    by : (z : Elaborated) → IsElaborated s.table ea z s0 m → first_broken (assign_tests s.table s.seen.scopes operator at z (AsValue v.expr)) ≡ None
        → update_part operator at z v.expr s ≡ Gives o.part r → o.place ≡ expr_place ea → IsJudged (tree.Assign operator ea at eb) o s0 s r
    by (AsPlace p) l u q place =
        made-here (tree.Assign operator ea at eb) (AsValue (updated operator at p v.expr (integer_at s.table (place_type p)) (integer_at s.table (type_of v.expr)))) o s0 s r k q place
        (update_elaborated s.table operator ea eb p at v.expr s0 m s.seen.scopes k.basic l.0 l.1 val compound u)
    by (AsValue w) l u q place = never-gives o.part (TooLarge at Types) s r q
    by (AsAllocation w) l u q place = never-gives o.part (TooLarge at Types) s r q
