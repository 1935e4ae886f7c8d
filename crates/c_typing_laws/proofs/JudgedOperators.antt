-- What judging gives for operators, from what it gave for their operands.
use Rattle.std.proofs.Common.{◌≡◌, ℕ, ℤ, Bool, true, false, not, ◌&&◌, ◌||◌, ◌==◌, [], ◌∷◌, Option, Some, None, refl, ap, sym, subst, ◌∙◌, inl, inr, if◌then◌else◌}
use Rattle.cc_base.specs.declared.place.Place.{Place}
use Rattle.cc_base.specs.declared.number.TypeId.{TypeId}
use Rattle.cc_base.specs.declared.fault.Fault.TheVariants.{Refused, TooLarge}
use Rattle.cc_base.specs.declared.fault.Limit.TheVariants.{Types}
use Rattle.cc_base.specs.declared.fault.Rule.TheVariants as rule
use Rattle.c_lexer.specs.declared.number.IntegerType.{IntegerType as ConstantType}
use Rattle.c_lexer.specs.declared.number.IntegerType.TheVariants as constant
use Rattle.c_types.specs.declared.shape.TypeShape.{TypeShape}
use Rattle.c_types.specs.declared.shape.TypeShape.TheVariants.{Void, Integer, Pointer, Array, Function, Struct, Union}
use Rattle.c_types.specs.Table.{Table, shape_at}
use Rattle.c_types.specs.Sound.{IsIntegerSize}
use Rattle.c_tree.specs.Erasure.{erased, step_operator}
use Rattle.c_tree.specs.Places.{expr_place}
use Rattle.c_tree.specs.Tree as tree
use Rattle.c_tree.specs.declared.operator.Binary.{Binary}
use Rattle.c_tree.specs.declared.operator.Binary.TheVariants as binary
use Rattle.c_tree.specs.declared.operator.Step.{Step}
use Rattle.c_tree.specs.declared.operator.Unary.{Unary}
use Rattle.c_tree.specs.declared.operator.Unary.TheVariants as unary
use Rattle.c_tree.specs.declared.typed_word.Conversion.TheVariants as conversion
use Rattle.c_tree.specs.TypedTree as typed
use Rattle.c_tree.specs.TypedTree.{TypedExpr, TypedPlace, TypedTypeName}
use Rattle.c_tree.specs.TypedParts.{type_of, place_type}
use Rattle.integers.specs.Arithmetic.{IntegerType, int}
use Rattle.c_typing.specs.Conversions.{is_plain, is_allocation, is_taken_over, to_integer}
use Rattle.c_typing.specs.Integers.{constant_type, promoted, left_type, right_type, is_logical, is_order}
use Rattle.c_typing.specs.Judging.{State, Gives, pure, by_known, new_pointer, integer_type}
use Rattle.c_typing.specs.Operands.{Operand, Value}
use Rattle.c_typing.specs.Operations.{int_type, pointed, pointed_place, target_of, address_behind, address_of_part, address, is_arithmetic_prefix, promoted_operand, operator_on, prefix_of, step_part, step_before, step_after, element, index, equated, compared, pointers, by_kinds, operation, infix_of, in_parens, paren, integer, character}
use Rattle.c_typing.specs.Refusals.{is_natural, IsElaborated}
use Rattle.c_typing.specs.Rules.{is_lvalue, is_made_of_place, pointer_behind, runtime_named, Meeting, RightIsNull, LeftIsNull, BothPoint, NeverMeet, meeting}
use Rattle.c_typing.specs.Scopes.{Scopes}
use Rattle.c_typing.specs.Settled.{IsPartTyped, IsValueOf, IsKnown, GoesOn, IsJudged}
use Rattle.c_typing.specs.Shapes.{integer_at, is_pointer_shape, pointee_at, pointee_of_shape, is_function_shape}
use Rattle.c_typing.specs.Tests.{Elaborated, AsPlace, AsValue, AsAllocation, first_broken, target_tests, index_tests, prefix_tests, infix_tests, step_tests, address_tests, has_some, is_index_pair, points_to_open, points_to_incomplete, can_be_written, is_function_part}
use Rattle.c_typing.specs.Typing.{IsPlace}
use Rattle.c_typing_laws.proofs.ExtensionLaws.{no_true, and_right}
use Rattle.c_typing_laws.proofs.ConstructLaws.{one_unbroken, two_unbroken, not_false, target_typed, index_typed, prefix_typed}
use Rattle.c_typing_laws.proofs.ConversionLaws.{step_typed}
use Rattle.c_typing_laws.proofs.InfixLaws.{infix_typed}
use Rattle.c_typing_laws.proofs.KeptTrees.{place-kept}
use Rattle.c_typing_laws.proofs.Outcomes.{construct-gives, leaf-gives, gives-state, never-gives, bind-gives}
use Rattle.c_typing_laws.proofs.KnownStates.{stays, new_pointer-gives}
use Rattle.c_typing_laws.proofs.ValuesTaken.{given-same, natural-no_place}

-- what is made of the operands alone
pub made-here : (e : tree.Expr) (x : Elaborated) (o : Operand) (s0 : Scopes) (s r : State) → IsKnown s → Gives x s ≡ Gives o.part r → o.place ≡ expr_place e
    → IsElaborated s.table e x s0 s.seen.scopes → IsJudged e o s0 s r
made-here e x o s0 s r k h place el = record {
  part = given-same (λ (p : Elaborated) (t : State). IsElaborated t.table e p s0 t.seen.scopes) x o.part s r h el;
  place = place;
  goes = subst (GoesOn s) (gives-state x o.part s r h) (stays s k).goes;
}

-- what is made in a later state
pub made-later : (e : tree.Expr) (x : Elaborated) (o : Operand) (s0 : Scopes) (s m r : State) → GoesOn s m → Gives x m ≡ Gives o.part r → o.place ≡ expr_place e
    → IsElaborated m.table e x s0 m.seen.scopes → IsJudged e o s0 s r
made-later e x o s0 s m r g h place el = record {
  part = given-same (λ (p : Elaborated) (t : State). IsElaborated t.table e p s0 t.seen.scopes) x o.part m r h el;
  place = place;
  goes = subst (GoesOn s) (gives-state x o.part m r h) g;
}

pointer_some : (x : TypeShape) → is_pointer_shape x ≡ true → has_some (pointee_of_shape x) ≡ true
pointer_some (Pointer n t) h = refl
pointer_some Void h = h
pointer_some (Integer bytes signed) h = h
pointer_some (Array t n) h = h
pointer_some (Function ps r) h = h
pointer_some (Struct n) h = h
pointer_some (Union n) h = h

-- `*`

target_by : (T : Table) (e : tree.Expr) (at : Place) (v : TypedExpr) (s0 s : Scopes) (t : TypeId) (f : Bool) → erased v ≡ e → IsPartTyped T (pointed_place at v t f) s0 s
    → IsElaborated T (tree.Prefix unary.Dereference at e) (pointed_place at v t f) s0 s
target_by T e at v s0 s t true q h = (h, ap (tree.Prefix unary.Dereference at) q, refl)
target_by T e at v s0 s t false q h = (h, ap (tree.Prefix unary.Dereference at) q)

target_elaborated : (T : Table) (e : tree.Expr) (at : Place) (v : TypedExpr) (s0 s : Scopes) (o : Option TypeId) → has_some o ≡ true → erased v ≡ e
    → IsPartTyped T (pointed T at v o) s0 s → IsElaborated T (tree.Prefix unary.Dereference at e) (pointed T at v o) s0 s
target_elaborated T e at v s0 s (Some t) p q h = target_by T e at v s0 s t (is_function_shape (shape_at T t)) q h
target_elaborated T e at v s0 s None p q h = no_true p

pub target-judged : (e : tree.Expr) (at : Place) (v : Value) (o : Operand) (s0 : Scopes) (s r : State) → IsKnown s → IsValueOf s.table e v.expr s0 s.seen.scopes
    → target_of at v s ≡ Gives o r → IsJudged (tree.Prefix unary.Dereference at e) o s0 s r
unfolding target_of
target-judged e at v o s0 s r k val h =
    let T : Table = s.table in
    let c = construct-gives (λ (q : State). target_tests q.table q.seen.scopes at (AsValue v.expr)) at (v.held ∷ [])
    (by_known (λ q. pure (pointed q.table at v.expr (pointee_at q.table (type_of v.expr))))) s o r h in
    let x : TypeShape = shape_at T (type_of v.expr) in
    let two = two_unbroken (points_to_open T s.seen.scopes x) (not (is_pointer_shape x)) (Refused at rule.Incomplete) (Refused at rule.Mismatch) c.unbroken in
    made-here (tree.Prefix unary.Dereference at e) (pointed T at v.expr (pointee_at T (type_of v.expr))) o s0 s r k c.part c.place
    (target_elaborated T e at v.expr s0 s.seen.scopes (pointee_at T (type_of v.expr)) (pointer_some x (not_false (is_pointer_shape x) two.1)) val.erases
    (target_typed T s0 s.seen.scopes at v.expr val.settled val.typed c.unbroken))

-- `a[b]`

pub pair_some : (x y : TypeShape) → is_index_pair x y ≡ true → (has_some (pointee_of_shape x) || has_some (pointee_of_shape y)) ≡ true
pair_some (Pointer n t) (Integer w r) h = refl
pair_some (Integer w r) (Pointer n t) h = refl
pair_some x y h = no_true h

element_elaborated : (T : Table) (ea eb : tree.Expr) (a : TypedExpr) (at : Place) (b : TypedExpr) (s0 s : Scopes) (x y : Option TypeId) → (has_some x || has_some y) ≡ true
    → erased a ≡ ea → erased b ≡ eb → IsPartTyped T (element a at b x y) s0 s → IsElaborated T (tree.Index ea at eb) (element a at b x y) s0 s
element_elaborated T ea eb a at b s0 s (Some t) y p qa qb h = (h, (λ i. tree.Index (qa i) at (qb i)))
element_elaborated T ea eb a at b s0 s None (Some t) p qa qb h = (h, (λ i. tree.Index (qa i) at (qb i)))
element_elaborated T ea eb a at b s0 s None None p qa qb h = no_true p

pub index-judged : (ea eb : tree.Expr) (a : Value) (at : Place) (b : Value) (o : Operand) (s0 m : Scopes) (s r : State) → IsKnown s → IsValueOf s.table ea a.expr s0 m
    → IsValueOf s.table eb b.expr m s.seen.scopes → a.place ≡ expr_place ea → index a at b s ≡ Gives o r → IsJudged (tree.Index ea at eb) o s0 s r
unfolding index
index-judged ea eb a at b o s0 m s r k va vb place h =
    let T : Table = s.table in
    let c = construct-gives (λ (q : State). index_tests q.table q.seen.scopes at (AsValue a.expr) (AsValue b.expr)) a.place (a.held ∷ b.held ∷ [])
    (by_known (λ q. pure (element a.expr at b.expr (pointee_at q.table (type_of a.expr)) (pointee_at q.table (type_of b.expr))))) s o r h in
    let x : TypeShape = shape_at T (type_of a.expr) in
    let y : TypeShape = shape_at T (type_of b.expr) in
    let two = two_unbroken (is_index_pair x y && (points_to_incomplete T s.seen.scopes x || points_to_incomplete T s.seen.scopes y)) (not (is_index_pair x y))
    (Refused at rule.Incomplete) (Refused at rule.Mismatch) c.unbroken in
    made-here (tree.Index ea at eb) (element a.expr at b.expr (pointee_at T (type_of a.expr)) (pointee_at T (type_of b.expr))) o s0 s r k c.part (c.place ∙ place)
    (element_elaborated T ea eb a.expr at b.expr s0 s.seen.scopes (pointee_at T (type_of a.expr)) (pointee_at T (type_of b.expr))
    (pair_some x y (not_false (is_index_pair x y) two.1)) va.erases vb.erases
    (index_typed T s0 m s.seen.scopes at a.expr b.expr va.settled vb.settled va.typed vb.typed c.unbroken))

-- `+`, `-`, `~` and `!`

pub to_integer-erased : (at : Place) (t : TypeId) (e : TypedExpr) → erased (to_integer at t e) ≡ erased e
to_integer-erased at t e = by ((type_of e).0 == t.0)
  where
    by : (b : Bool) → erased (if b then e else typed.Convert conversion.IntegerToInteger at t e) ≡ erased e
    by true = refl
    by false = refl

promoted_natural : (operator : Unary) (at : Place) (e : TypedExpr) (k : Option IntegerType) → is_natural (promoted_operand operator at e k) ≡ true
promoted_natural operator at e (Some k) = refl
promoted_natural operator at e None = refl

promoted_erased : (operator : Unary) (at : Place) (e : TypedExpr) (k : Option IntegerType) → erased (promoted_operand operator at e k) ≡ tree.Prefix operator at (erased e)
promoted_erased operator at e (Some k) = ap (tree.Prefix operator at) (to_integer-erased at (integer_type (promoted k)) e)
promoted_erased operator at e None = refl

operator_natural : (operator : Unary) (T : Table) (at : Place) (e : TypedExpr) → is_natural (operator_on T operator at e) ≡ true
operator_natural unary.Not T at e = refl
operator_natural operator T at e = promoted_natural operator at e (integer_at T (type_of e))

operator_erased : (operator : Unary) (T : Table) (at : Place) (e : TypedExpr) → erased (operator_on T operator at e) ≡ tree.Prefix operator at (erased e)
operator_erased unary.Not T at e = refl
operator_erased operator T at e = promoted_erased operator at e (integer_at T (type_of e))

pub prefix-judged : (operator : Unary) (e : tree.Expr) (at : Place) (v : Value) (o : Operand) (s0 : Scopes) (s r : State) → is_arithmetic_prefix operator ≡ true → IsKnown s
    → IsValueOf s.table e v.expr s0 s.seen.scopes → prefix_of operator at v s ≡ Gives o r → IsJudged (tree.Prefix operator at e) o s0 s r
unfolding prefix_of
prefix-judged operator e at v o s0 s r p k val h =
    let T : Table = s.table in
    let c = construct-gives (λ (q : State). prefix_tests q.table q.seen.scopes operator at (AsValue v.expr)) at (v.held ∷ [])
    (by_known (λ q. pure (AsValue (operator_on q.table operator at v.expr)))) s o r h in
    made-here (tree.Prefix operator at e) (AsValue (operator_on T operator at v.expr)) o s0 s r k c.part c.place (
      prefix_typed operator T s0 s.seen.scopes at v.expr p k.basic val.settled val.typed c.unbroken,
      operator_erased operator T at v.expr ∙ ap (tree.Prefix operator at) val.erases,
      operator_natural operator T at v.expr,
    )

-- Operators of two operands

module _ (a : TypedExpr) (at : Place) (b : TypedExpr) where
  equated_natural : (z : Meeting) (operator : Binary) → is_natural (equated z operator a at b) ≡ true
  equated_natural (RightIsNull t) operator = refl
  equated_natural (LeftIsNull t) operator = refl
  equated_natural (BothPoint t) operator = refl
  equated_natural NeverMeet operator = refl

  equated_erased : (z : Meeting) (operator : Binary) → erased (equated z operator a at b) ≡ tree.Infix operator (erased a) at (erased b)
  equated_erased (RightIsNull t) operator = refl
  equated_erased (LeftIsNull t) operator = refl
  equated_erased (BothPoint t) operator = refl
  equated_erased NeverMeet operator = refl

  module _ (T : Table) where
    compared_natural : (operator : Binary) → is_natural (compared T operator a at b) ≡ true
    compared_natural operator = by (is_order operator)
      where
        by : (c : Bool) → is_natural (if c then typed.Compared operator a at b int_type else equated (meeting T a b) operator a at b) ≡ true
        by true = refl
        by false = equated_natural (meeting T a b) operator

    compared_erased : (operator : Binary) → erased (compared T operator a at b) ≡ tree.Infix operator (erased a) at (erased b)
    compared_erased operator = by (is_order operator)
      where
        by : (c : Bool) → erased (if c then typed.Compared operator a at b int_type else equated (meeting T a b) operator a at b) ≡ tree.Infix operator (erased a) at (erased b)
        by true = refl
        by false = equated_erased (meeting T a b) operator

    pointers_natural : (operator : Binary) (x y : Bool) → is_natural (pointers T operator a at b x y) ≡ true
    pointers_natural binary.Add true y = refl
    pointers_natural binary.Add false y = refl
    pointers_natural binary.Subtract x true = refl
    pointers_natural binary.Subtract x false = refl
    pointers_natural operator x y = compared_natural operator

    pointers_erased : (operator : Binary) (x y : Bool) → erased (pointers T operator a at b x y) ≡ tree.Infix operator (erased a) at (erased b)
    pointers_erased binary.Add true y = refl
    pointers_erased binary.Add false y = refl
    pointers_erased binary.Subtract x true = refl
    pointers_erased binary.Subtract x false = refl
    pointers_erased operator x y = compared_erased operator

    kinds_natural : (operator : Binary) (j k : Option IntegerType) (x y : Bool) → is_natural (by_kinds T operator a at b j k x y) ≡ true
    kinds_natural operator (Some j) (Some k) x y = refl
    kinds_natural operator j k x y = pointers_natural operator x y

    kinds_erased : (operator : Binary) (j k : Option IntegerType) (x y : Bool) → erased (by_kinds T operator a at b j k x y) ≡ tree.Infix operator (erased a) at (erased b)
    kinds_erased operator (Some j) (Some k) x y =
        let first = to_integer-erased at (integer_type (left_type operator j k)) a in
        let second = to_integer-erased at (integer_type (right_type operator j k)) b in
        λ i. tree.Infix operator (first i) at (second i)
    kinds_erased operator j k x y = pointers_erased operator x y

    operation_natural : (operator : Binary) → is_natural (operation T operator a at b) ≡ true
    operation_natural operator = by (is_logical operator)
      where
        by : (c : Bool) → is_natural (if c then typed.Logical operator a at b int_type
            else by_kinds T operator a at b (integer_at T (type_of a)) (integer_at T (type_of b)) (is_pointer_shape (shape_at T (type_of a))) (is_pointer_shape (shape_at T (type_of b)))) ≡ true
        by true = refl
        by false = kinds_natural operator (integer_at T (type_of a)) (integer_at T (type_of b)) (is_pointer_shape (shape_at T (type_of a))) (is_pointer_shape (shape_at T (type_of b)))

    operation_erased : (operator : Binary) → erased (operation T operator a at b) ≡ tree.Infix operator (erased a) at (erased b)
    operation_erased operator = by (is_logical operator)
      where
        by : (c : Bool) → erased (if c then typed.Logical operator a at b int_type
            else by_kinds T operator a at b (integer_at T (type_of a)) (integer_at T (type_of b)) (is_pointer_shape (shape_at T (type_of a))) (is_pointer_shape (shape_at T (type_of b))))
            ≡ tree.Infix operator (erased a) at (erased b)
        by true = refl
        by false = kinds_erased operator (integer_at T (type_of a)) (integer_at T (type_of b)) (is_pointer_shape (shape_at T (type_of a))) (is_pointer_shape (shape_at T (type_of b)))

pub infix-judged : (operator : Binary) (ea eb : tree.Expr) (a : Value) (at : Place) (b : Value) (o : Operand) (s0 m : Scopes) (s r : State) → IsKnown s
    → IsValueOf s.table ea a.expr s0 m → IsValueOf s.table eb b.expr m s.seen.scopes → a.place ≡ expr_place ea → infix_of operator a at b s ≡ Gives o r
    → IsJudged (tree.Infix operator ea at eb) o s0 s r
unfolding infix_of
infix-judged operator ea eb a at b o s0 m s r k va vb place h =
    let T : Table = s.table in
    let c = construct-gives (λ (q : State). infix_tests q.table q.seen.scopes operator at a.place (AsValue a.expr) (AsValue b.expr)) a.place (a.held ∷ b.held ∷ [])
    (by_known (λ q. pure (AsValue (operation q.table operator a.expr at b.expr)))) s o r h in
    let first = va.erases in
    let second = vb.erases in
    made-here (tree.Infix operator ea at eb) (AsValue (operation T operator a.expr at b.expr)) o s0 s r k c.part (c.place ∙ place) (
      infix_typed T s0 m s.seen.scopes operator at a.expr b.expr k.basic va.settled vb.settled va.typed vb.typed a.place c.unbroken,
      operation_erased a.expr at b.expr T operator ∙ (λ i. tree.Infix operator (first i) at (second i)),
      operation_natural a.expr at b.expr T operator,
    )

-- `++` and `--`

pub before-judged : (operator : Step) (e : tree.Expr) (at : Place) (x o : Operand) (s0 : Scopes) (s r : State) → IsKnown s → IsElaborated s.table e x.part s0 s.seen.scopes
    → step_before operator at x s ≡ Gives o r → IsJudged (tree.Prefix (step_operator operator) at e) o s0 s r
unfolding step_before step_part
before-judged operator e at x o s0 s r k el h =
    let c = construct-gives (λ (q : State). step_tests q.table q.seen.scopes at x.part) at (x.held ∷ []) (step_part (λ p. typed.StepBefore operator at p) at x.part) s o r h in
    by x.part el c.unbroken c.part c.place
  where
    by : (y : Elaborated) → IsElaborated s.table e y s0 s.seen.scopes → first_broken (step_tests s.table s.seen.scopes at y) ≡ None
        → step_part (λ p. typed.StepBefore operator at p) at y s ≡ Gives o.part r → o.place ≡ at → IsJudged (tree.Prefix (step_operator operator) at e) o s0 s r
    by (AsPlace p) l u q place =
        made-here (tree.Prefix (step_operator operator) at e) (AsValue (typed.StepBefore operator at p)) o s0 s r k q place
        ((step_typed s.table s0 s.seen.scopes operator at p l.0 u).0, ap (tree.Prefix (step_operator operator) at) l.1, refl)
    by (AsValue v) l u q place = never-gives o.part (TooLarge at Types) s r q
    by (AsAllocation v) l u q place = never-gives o.part (TooLarge at Types) s r q

pub after-judged : (operator : Step) (e : tree.Expr) (at : Place) (x o : Operand) (s0 : Scopes) (s r : State) → IsKnown s → IsElaborated s.table e x.part s0 s.seen.scopes
    → x.place ≡ expr_place e → step_after operator at x s ≡ Gives o r → IsJudged (tree.Postfix e operator at) o s0 s r
unfolding step_after step_part
after-judged operator e at x o s0 s r k el here h =
    let c = construct-gives (λ (q : State). step_tests q.table q.seen.scopes at x.part) x.place (x.held ∷ []) (step_part (λ p. typed.StepAfter p operator at) at x.part) s o r h in
    by x.part el c.unbroken c.part (c.place ∙ here)
  where
    by : (y : Elaborated) → IsElaborated s.table e y s0 s.seen.scopes → first_broken (step_tests s.table s.seen.scopes at y) ≡ None
        → step_part (λ p. typed.StepAfter p operator at) at y s ≡ Gives o.part r → o.place ≡ expr_place e → IsJudged (tree.Postfix e operator at) o s0 s r
    by (AsPlace p) l u q place =
        made-here (tree.Postfix e operator at) (AsValue (typed.StepAfter p operator at)) o s0 s r k q place
        ((step_typed s.table s0 s.seen.scopes operator at p l.0 u).1, ap (λ (t : tree.Expr). tree.Postfix t operator at) l.1, refl)
    by (AsValue v) l u q place = never-gives o.part (TooLarge at Types) s r q
    by (AsAllocation v) l u q place = never-gives o.part (TooLarge at Types) s r q

-- Parentheses

paren_elaborated : (T : Table) (e : tree.Expr) (at : Place) (x : Elaborated) (s0 s : Scopes) → IsElaborated T e x s0 s → IsElaborated T (tree.Paren at e) (in_parens at x) s0 s
paren_elaborated T e at (AsPlace p) s0 s h = (h.0, ap (tree.Paren at) h.1)
paren_elaborated T e at (AsValue v) s0 s h =
    ((h.0, natural-no_place v h.2), ap (tree.Paren at) h.1, and_right (not (is_made_of_place v)) (not (is_allocation v) && (is_plain v || has_some (runtime_named v))) h.2)
paren_elaborated T e at (AsAllocation v) s0 s h = ((h.0, no_place v h.2), ap (tree.Paren at) h.1, h.2)
  where
    no_place : (w : TypedExpr) → is_taken_over w ≡ true → is_made_of_place w ≡ false
    no_place (typed.Paren q w) k = refl
    no_place (typed.AllocateFor runtime f q arguments u) k = refl
    no_place w k = no_true k

pub paren-judged : (e : tree.Expr) (at : Place) (x o : Operand) (s0 : Scopes) (s r : State) → IsKnown s → IsElaborated s.table e x.part s0 s.seen.scopes
    → paren at x s ≡ Gives o r → IsJudged (tree.Paren at e) o s0 s r
unfolding paren
paren-judged e at x o s0 s r k el h =
    let c = construct-gives (λ (q : State). []) at (x.held ∷ []) (pure (in_parens at x.part)) s o r h in
    made-here (tree.Paren at e) (in_parens at x.part) o s0 s r k c.part c.place (paren_elaborated s.table e at x.part s0 s.seen.scopes el)

-- Constants

constant_size : (of : ConstantType) → IsIntegerSize (constant_type of).bytes
constant_size constant.Int = inr (inr (inl refl))
constant_size constant.Unsigned = inr (inr (inl refl))
constant_size constant.Long = inr (inr (inr refl))
constant_size constant.UnsignedLong = inr (inr (inr refl))

pub integer-judged : (of : ConstantType) (n : ℕ) (at : Place) (o : Operand) (s r : State) → IsKnown s → integer of n at s ≡ Gives o r
    → IsJudged (tree.Integer of n at) o s.seen.scopes s r
unfolding integer
integer-judged of n at o s r k h =
    let c = leaf-gives at (pure (AsValue (typed.Integer of n at (integer_type (constant_type of))))) s o r h in
    made-here (tree.Integer of n at) (AsValue (typed.Integer of n at (integer_type (constant_type of)))) o s.seen.scopes s r k c.0 c.1
    ((refl, k.basic.integers (constant_type of) (constant_size of)), refl, refl)

pub character-judged : (n : ℤ) (at : Place) (o : Operand) (s r : State) → IsKnown s → character n at s ≡ Gives o r → IsJudged (tree.Character n at) o s.seen.scopes s r
unfolding character
character-judged n at o s r k h =
    let c = leaf-gives at (pure (AsValue (typed.Character n at int_type))) s o r h in
    made-here (tree.Character n at) (AsValue (typed.Character n at int_type)) o s.seen.scopes s r k c.0 c.1
    ((refl, k.basic.integers int (inr (inr (inl refl)))), refl, refl)

-- `&`

address_tested : (at : Place) (x : Elaborated) → first_broken (address_tests at x) ≡ None → (can_be_written x || is_function_part x) ≡ true
address_tested at x h = not_false (can_be_written x || is_function_part x) (one_unbroken (not (can_be_written x || is_function_part x)) (Refused at rule.NotPlace) h)

or_nothing : (b : Bool) → (b || false) ≡ true → b ≡ true
or_nothing true h = refl
or_nothing false h = h

address_behind-judged : (e : tree.Expr) (at : Place) (p : TypedPlace) (o : Operand) (s0 : Scopes) (s r : State) (behind : Option TypedExpr) → pointer_behind p ≡ behind
    → IsKnown s → IsElaborated s.table e (AsPlace p) s0 s.seen.scopes → is_lvalue p ≡ true → address_behind at p behind s ≡ Gives o.part r → o.place ≡ at
    → IsJudged (tree.Prefix unary.AddressOf at e) o s0 s r
unfolding address_behind
address_behind-judged e at p o s0 s r (Some v) b k el lvalue q place =
    made-here (tree.Prefix unary.AddressOf at e) (AsValue (typed.AddressOfElement at p (type_of v))) o s0 s r k q place
    ((el.0, record { pointer = v; behind = b; type = refl }), ap (tree.Prefix unary.AddressOf at) el.1, refl)
address_behind-judged e at p o s0 s r None b k el lvalue q place =
    let one = bind-gives (new_pointer at (place_type p) s) (λ made. pure (AsValue (typed.AddressOf at p made.node made.type))) o.part r q in
    let found = new_pointer-gives at (place_type p) one.0 s one.1 k one.2 in
    made-later (tree.Prefix unary.AddressOf at e) (AsValue (typed.AddressOf at p one.0.node one.0.type)) o s0 s one.1 r found.1.goes one.3 place (
      (
        subst (IsPlace one.1.table p s0) (sym found.1.scopes) (place-kept s.table one.1.table found.1.goes.extends k.basic p s0 s.seen.scopes el.0),
        record { lvalue = lvalue; own = b; type = found.0 },
      ),
      ap (tree.Prefix unary.AddressOf at) el.1,
      refl,
    )

pub address-judged : (e : tree.Expr) (at : Place) (x o : Operand) (s0 : Scopes) (s r : State) → IsKnown s → IsElaborated s.table e x.part s0 s.seen.scopes
    → address at x s ≡ Gives o r → IsJudged (tree.Prefix unary.AddressOf at e) o s0 s r
unfolding address address_of_part
address-judged e at x o s0 s r k el h =
    let c = construct-gives (λ (q : State). address_tests at x.part) at (x.held ∷ []) (address_of_part at x.part) s o r h in
    by x.part el c.unbroken c.part c.place
  where
    by : (y : Elaborated) → IsElaborated s.table e y s0 s.seen.scopes → first_broken (address_tests at y) ≡ None → address_of_part at y s ≡ Gives o.part r → o.place ≡ at
        → IsJudged (tree.Prefix unary.AddressOf at e) o s0 s r
    by (AsPlace p) l u q place =
        address_behind-judged e at p o s0 s r (pointer_behind p) refl k l (or_nothing (is_lvalue p) (address_tested at (AsPlace p) u)) q place
    by (AsValue v) l u q place =
        made-here (tree.Prefix unary.AddressOf at e) (AsValue (typed.AddressOfFunction at v)) o s0 s r k q place
        ((l.0, address_tested at (AsValue v) u), ap (tree.Prefix unary.AddressOf at) l.1, refl)
    by (AsAllocation v) l u q place = never-gives o.part (TooLarge at Types) s r q
