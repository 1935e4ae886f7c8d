-- The types that assignments, choices, casts and calls use, behind those of their operands.
use Rattle.std.proofs.Common.{◌≡◌, ◌+◌, Bool, true, false, not, ◌&&◌, ◌==◌, List, [], ◌∷◌, ◌++◌, map, length, fold, max, Option, Some, None, refl, ap, sym, ◌∙◌, nat_le, arith, if◌then◌else◌}
use Rattle.std.proofs.lemmas.Option.{none-some}
use Rattle.std.proofs.lemmas.List.{append_assoc, append-nil}
use Rattle.cc_base.specs.declared.place.Place.{Place}
use Rattle.cc_base.specs.declared.number.TypeId.{TypeId}
use Rattle.cc_base.specs.declared.fault.Fault.TheVariants.{Refused, TooLarge}
use Rattle.cc_base.specs.declared.fault.Limit.TheVariants.{Types, Cells}
use Rattle.cc_base.specs.declared.fault.Rule.TheVariants as rule
use Rattle.c_types.specs.declared.shape.TypeShape.{TypeShape}
use Rattle.c_types.specs.declared.shape.TypeShape.TheVariants.{Void, Integer, Pointer, Array, Function, Struct, Union}
use Rattle.c_types.specs.Layouts.{size_of}
use Rattle.c_types.specs.Table.{Table, shape_at}
use Rattle.c_tree.specs.declared.operator.Assignment.{Assignment}
use Rattle.c_tree.specs.declared.operator.Assignment.TheVariants as assignment
use Rattle.c_tree.specs.declared.typed_word.Runtime.{Runtime}
use Rattle.c_tree.specs.TypedTree as typed
use Rattle.c_tree.specs.TypedTree.{TypedExpr, TypedPlace, TypedArguments, TypedTypeName}
use Rattle.c_tree.specs.TypedParts.{type_of, place_type, named_type}
use Rattle.runtime_calls.specs.Prototypes.{prototype_of}
use Rattle.runtime_calls.specs.declared.function.RuntimeType.{RuntimeType}
use Rattle.runtime_calls.specs.declared.function.RuntimeType.TheVariants as prototype
use Rattle.integers.specs.Arithmetic.{IntegerType}
use Rattle.c_typing.specs.Assignments
use Rattle.c_typing.specs.Assignments.{assigned, moved, assign_part, assign_given, assign, updated, update_part, update_by, pointer_choice, choice_of_pointers, choice_of_values, choice_of_parts, choice, comma_part, comma, cast_part, part_expr, cast_given, cast, size_of_type, arguments_as, converted_arguments, runtime_argument, runtime_arguments, runtime_call, called_shape, called, arguments_held, call}
use Rattle.c_typing.specs.Cells.{count_cells, pointers_in}
use Rattle.c_typing.specs.Conversions.{to_integer, implicit}
use Rattle.c_typing.specs.Integers.{right_type, common, assigning}
use Rattle.c_typing.specs.Judging.{State, Gives, Stops, pure, by_known, new_pointer, void_type, integer_type}
use Rattle.c_typing.specs.Operands.{Operand, Value, side_of, given, argument_of}
use Rattle.c_typing.specs.Operations
use Rattle.c_typing.specs.Operations.{construct, int_type}
use Rattle.c_typing.specs.Refusals
use Rattle.c_typing.specs.Rules.{meeting, meeting_type, runtime_named, into_choice}
use Rattle.c_typing.specs.Shapes.{integer_at, is_void_shape}
use Rattle.c_typing.specs.Tests
use Rattle.c_typing.specs.Tests.{Elaborated, AsPlace, AsValue, AsAllocation, Test, broken_at, first_broken}
use Rattle.c_typing_laws.proofs.JudgedCalls.{last_ok, lengths, cut_length}
use Rattle.c_typing_laws.proofs.Outcomes.{bind-gives, gives-state, never-gives, construct-gives}
use Rattle.c_typing_laws.proofs.NumberedConstructs.{IsWhole}
use Rattle.c_type_order.specs.TypesUsed.{Use, used_by, used_by_place, used_by_arguments, used_by_type_name}
use Rattle.c_type_order.specs.Uses.{IsUsed, used_by_part, used_by_values}
use Rattle.c_type_order.proofs.Uses.{then_used, used-as, used-still, new_pointer-used}
use Rattle.c_type_order.proofs.UsedConstructs.{PartUsed, ValueUsed, Alone, part-same, part_as, to_integer-used, converted-used, side-used, expr-used, given-used}
use Rattle.c_type_order.proofs.UsedOperators.{BothUsed}

-- Assignments

pub moved-table : (at : Place) (t : TypeId) (y : Elaborated) (u : TypeId) (s r : State) → moved at t y s ≡ Gives u r → r.table ≡ s.table
unfolding count_cells
moved-table at t (AsPlace q) u s r h = by (nat_le (s.seen.cells + pointers_in s.table t) 65536) h
  where
    by : (b : Bool) → (if b then Gives t (record s { seen = record s.seen { cells = s.seen.cells + pointers_in s.table t } }) else Stops (TooLarge at Cells) s) ≡ Gives u r
        → r.table ≡ s.table
    by true g = ap (λ (w : State). w.table) (sym (gives-state t u (record s { seen = record s.seen { cells = s.seen.cells + pointers_in s.table t } }) r g))
    by false g = never-gives u (TooLarge at Cells) s r g
moved-table at t (AsValue e) u s r h = ap (λ (w : State). w.table) (sym (gives-state t u s r h))
moved-table at t (AsAllocation e) u s r h = ap (λ (w : State). w.table) (sym (gives-state t u s r h))

assigned-used : (U T : Table) (at : Place) (p : TypedPlace) (y : Elaborated) → used_by_part U (assigned T at p y) ≡ used_by_place U p ++ used_by_part U y
assigned-used U T at p (AsPlace q) = refl
assigned-used U T at p (AsValue e) = ap (λ (l : List Use). used_by_place U p ++ l) (converted-used U at (place_type p) e (implicit T e (place_type p)))
assigned-used U T at p (AsAllocation e) = refl

pub assign-used : (x : Operand) (at : Place) (y o : Operand) (S M : Table) (s r : State) → IsWhole y.part → PartUsed x.part S M → PartUsed y.part M s.table
    → assign x at y s ≡ Gives o r → PartUsed o.part S r.table
unfolding assign assign_given assign_part
assign-used x at y o S M s r w n k h =
    let one = bind-gives (given (Assignments.part_type x.part) y.place y.part s)
    (λ v. construct (λ q. Tests.assign_tests q.table q.seen.scopes assignment.Assign at x.part v) x.place (x.held ∷ y.held ∷ []) (assign_part at x.part v)) o r h in
    let v : Elaborated = one.0 in
    let c = construct-gives (λ (q : State). Tests.assign_tests q.table q.seen.scopes assignment.Assign at x.part v) x.place (x.held ∷ y.held ∷ []) (assign_part at x.part v) one.1 o r one.3 in
    by_part x.part n one.0 one.1 (given-used (Assignments.part_type x.part) y.place y.part one.0 M s one.1 w k one.2) c.part
  where
    by_part : (z : Elaborated) → PartUsed z S M → (v : Elaborated) (q : State) → PartUsed v M q.table → assign_part at z v q ≡ Gives o.part r → PartUsed o.part S r.table
    by_part (AsPlace p) l v q j g =
        let two = bind-gives (moved at (place_type p) v q) (λ t. by_known (λ k. pure (assigned k.table at p v))) o.part r g in
        let stays = moved-table at (place_type p) v two.0 q two.1 two.2 in
        part_as S (λ U. used_by_place U p ++ used_by_part U v) (assigned two.1.table at p v) o.part two.1 r two.3 (λ U. assigned-used U two.1.table at p v)
        (used-still (λ U. used_by_place U p ++ used_by_part U v) S q.table two.1.table stays
        (then_used (λ U. used_by_place U p) (λ U. used_by_part U v) S M q.table l j))
    by_part (AsValue e) l v q j g = never-gives o.part (TooLarge at Types) q r g
    by_part (AsAllocation e) l v q j g = never-gives o.part (TooLarge at Types) q r g

updated-used : (U : Table) (operator : Assignment) (at : Place) (p : TypedPlace) (e : TypedExpr) (j k : Option IntegerType)
    → used_by U (updated operator at p e j k) ≡ used_by_place U p ++ used_by U e
updated-used U operator at p e (Some j) (Some k) = ap (λ (l : List Use). used_by_place U p ++ l) (to_integer-used U at (integer_type (right_type (assigning operator) j k)) e)
updated-used U operator at p e (Some j) None = refl
updated-used U operator at p e None k = refl

pub update-used : (operator : Assignment) (x : Operand) (at : Place) (v : Value) (o : Operand) (S M : Table) (s r : State) → PartUsed x.part S M
    → ValueUsed v.expr M s.table → update_by operator x at v s ≡ Gives o r → PartUsed o.part S r.table
unfolding update_by update_part
update-used operator x at v o S M s r n k h =
    let c = construct-gives (λ (q : State). Tests.assign_tests q.table q.seen.scopes operator at x.part (AsValue v.expr)) x.place (x.held ∷ v.held ∷ []) (update_part operator at x.part v.expr) s o r h in
    by_part x.part n c.part
  where
    by_part : (z : Elaborated) → PartUsed z S M → update_part operator at z v.expr s ≡ Gives o.part r → PartUsed o.part S r.table
    by_part (AsPlace p) l g =
        part_as S (λ U. used_by_place U p ++ used_by U v.expr) (AsValue (updated operator at p v.expr (integer_at s.table (place_type p)) (integer_at s.table (type_of v.expr)))) o.part s r g
        (λ U. updated-used U operator at p v.expr (integer_at s.table (place_type p)) (integer_at s.table (type_of v.expr)))
        (then_used (λ U. used_by_place U p) (λ U. used_by U v.expr) S M s.table l k)
    by_part (AsValue e) l g = never-gives o.part (TooLarge at Types) s r g
    by_part (AsAllocation e) l g = never-gives o.part (TooLarge at Types) s r g

-- Choices and commas

abbrev pub ThreeUsed : TypedExpr → Elaborated → Elaborated → Table → List Use
ThreeUsed c x y U = used_by U c ++ used_by_part U x ++ used_by_part U y

module _ (c : TypedExpr) (begin at : Place) (o : Elaborated) (S : Table) (s r : State) where
  module _ (x y : TypedExpr) (n : IsUsed (ThreeUsed c (AsValue x) (AsValue y)) S s.table) where
    pointer_choice-used : (t : Option TypeId) → pointer_choice c begin at x y t s ≡ Gives o r → PartUsed o S r.table
    unfolding pointer_choice
    pointer_choice-used None h = never-gives o (TooLarge begin Types) s r h
    pointer_choice-used (Some to) h =
        let one = bind-gives (new_pointer begin to s)
        (λ made. by_known (λ q. pure (AsValue (typed.PointerConditional c at (into_choice q.table at made.type x) (into_choice q.table at made.type y) made.node made.type)))) o r h in
        part-same S
        (AsValue (typed.PointerConditional c at (into_choice one.1.table at one.0.type x) (into_choice one.1.table at one.0.type y) one.0.node one.0.type)) o one.1 r one.3
        (then_used (ThreeUsed c (AsValue x) (AsValue y)) (Alone one.0.type) S s.table one.1.table n (new_pointer-used begin to one.0 s one.1 one.2))

    pointers_choice-used : (v : Bool) → choice_of_pointers c begin at x y v s ≡ Gives o r → PartUsed o S r.table
    unfolding choice_of_pointers
    pointers_choice-used true h = part-same S (AsValue (typed.Conditional c at x y void_type)) o s r h n
    pointers_choice-used false h = pointer_choice-used (meeting_type (meeting s.table x y)) h

    values-used : (j k : Option IntegerType) → choice_of_values c begin at x y j k s ≡ Gives o r → PartUsed o S r.table
    unfolding choice_of_values
    values-used (Some j) (Some k) h =
        part_as S (ThreeUsed c (AsValue x) (AsValue y))
        (AsValue (typed.Conditional c at (to_integer at (integer_type (common j k)) x) (to_integer at (integer_type (common j k)) y) (integer_type (common j k)))) o s r h both n
      where
        both : (U : Table) → used_by U c ++ used_by U (to_integer at (integer_type (common j k)) x) ++ used_by U (to_integer at (integer_type (common j k)) y)
            ≡ used_by U c ++ used_by U x ++ used_by U y
        both U =
            let one = to_integer-used U at (integer_type (common j k)) x in
            let two = to_integer-used U at (integer_type (common j k)) y in
            λ i. used_by U c ++ one i ++ two i
    values-used (Some j) None h = pointers_choice-used (is_void_shape (shape_at s.table (type_of x)) && is_void_shape (shape_at s.table (type_of y))) h
    values-used None k h = pointers_choice-used (is_void_shape (shape_at s.table (type_of x)) && is_void_shape (shape_at s.table (type_of y))) h

  parts-used : (x y : Elaborated) → IsUsed (ThreeUsed c x y) S s.table → choice_of_parts c begin at x y s ≡ Gives o r → PartUsed o S r.table
  unfolding choice_of_parts
  parts-used (AsPlace p) (AsPlace q) n h = part-same S (AsPlace (typed.StructConditional c at p q)) o s r h n
  parts-used (AsValue x) (AsValue y) n h = values-used x y n (integer_at s.table (type_of x)) (integer_at s.table (type_of y)) h
  parts-used (AsPlace p) (AsValue y) n h = never-gives o (TooLarge begin Types) s r h
  parts-used (AsPlace p) (AsAllocation y) n h = never-gives o (TooLarge begin Types) s r h
  parts-used (AsValue x) (AsPlace q) n h = never-gives o (TooLarge begin Types) s r h
  parts-used (AsValue x) (AsAllocation y) n h = never-gives o (TooLarge begin Types) s r h
  parts-used (AsAllocation x) y n h = never-gives o (TooLarge begin Types) s r h

pub choice-used : (c : Value) (at : Place) (x y : Value) (o : Operand) (S : Table) (s r : State) → IsUsed (ThreeUsed c.expr (AsValue x.expr) (AsValue y.expr)) S s.table
    → choice c at x y s ≡ Gives o r → PartUsed o.part S r.table
unfolding choice
choice-used c at x y o S s r n h =
    let g = construct-gives (λ (q : State). Tests.choice_tests q.table at (AsValue c.expr) (side_of x.expr) (side_of y.expr)) c.place (c.held ∷ x.held ∷ y.held ∷ [])
    (choice_of_parts c.expr c.place at (side_of x.expr) (side_of y.expr)) s o r h in
    parts-used c.expr c.place at o.part S s r (side_of x.expr) (side_of y.expr)
    (used-as (ThreeUsed c.expr (AsValue x.expr) (AsValue y.expr)) (ThreeUsed c.expr (side_of x.expr) (side_of y.expr)) S s.table both n) g.part
  where
    both : (U : Table) → ThreeUsed c.expr (side_of x.expr) (side_of y.expr) U ≡ ThreeUsed c.expr (AsValue x.expr) (AsValue y.expr) U
    both U =
        let one = side-used U x.expr in
        let two = side-used U y.expr in
        λ i. used_by U c.expr ++ one i ++ two i

comma-part : (U : Table) (x : TypedExpr) (y : Elaborated) → used_by_part U (comma_part x y) ≡ used_by U x ++ used_by_part U y
comma-part U x (AsPlace p) = refl
comma-part U x (AsValue e) = refl
comma-part U x (AsAllocation e) = refl

pub comma-used : (x y : Value) (o : Operand) (S : Table) (s r : State) → IsUsed (BothUsed x.expr y.expr) S s.table → comma x y s ≡ Gives o r → PartUsed o.part S r.table
unfolding comma
comma-used x y o S s r n h =
    let c = construct-gives (λ (q : State). []) x.place (x.held ∷ y.held ∷ []) (pure (comma_part x.expr (side_of y.expr))) s o r h in
    part_as S (BothUsed x.expr y.expr) (comma_part x.expr (side_of y.expr)) o.part s r c.part
    (λ U. comma-part U x.expr (side_of y.expr) ∙ ap (λ (l : List Use). used_by U x.expr ++ l) (side-used U y.expr)) n

-- Casts and sizes of types

abbrev pub NameUsed : TypedTypeName → Table → Table → Type 0
NameUsed name S R = IsUsed (λ U. used_by_type_name U name) S R

pub cast-used : (at : Place) (to : TypedTypeName) (x o : Operand) (S M : Table) (s r : State) → IsWhole x.part → NameUsed to S M → PartUsed x.part M s.table
    → cast at to x s ≡ Gives o r → PartUsed o.part S r.table
unfolding cast cast_given
cast-used at to x o S M s r w n k h =
    let one = bind-gives (given (named_type to) x.place x.part s)
    (λ v. construct (λ q. Tests.cast_tests q.table at v (named_type to)) at (x.held ∷ []) (by_known (λ q. pure (AsValue (cast_part q.table at to v))))) o r h in
    let c = construct-gives (λ (q : State). Tests.cast_tests q.table at one.0 (named_type to)) at (x.held ∷ []) (by_known (λ q. pure (AsValue (cast_part q.table at to one.0)))) one.1 o r one.3 in
    let given_there = given-used (named_type to) x.place x.part one.0 M s one.1 w k one.2 in
    part-same S (AsValue (cast_part one.1.table at to one.0)) o.part one.1 r c.part
    (then_used (λ U. used_by_type_name U to) (λ U. used_by U (part_expr one.0)) S M one.1.table n
    (used-as (λ U. used_by_part U one.0) (λ U. used_by U (part_expr one.0)) M one.1.table (λ U. expr-used U one.0) given_there))

pub size_of_type-used : (at paren : Place) (name : TypedTypeName) (o : Operand) (S : Table) (s r : State) → NameUsed name S s.table
    → size_of_type at paren name s ≡ Gives o r → PartUsed o.part S r.table
unfolding size_of_type
size_of_type-used at paren name o S s r n h =
    let c = construct-gives (λ (q : State). Refusals.type_size_tests q.table q.seen.scopes at (named_type name)) at []
    (by_known (λ q. pure (AsValue (typed.SizeOfType at paren name (size_of q.table (named_type name)) Operations.size_type)))) s o r h in
    part-same S (AsValue (typed.SizeOfType at paren name (size_of s.table (named_type name)) Operations.size_type)) o.part s r c.part n

-- Calls

pub values_last : (U : Table) (vs : List Value) (v : Value) → used_by_values (vs ++ v ∷ []) U ≡ used_by_values vs U ++ used_by U v.expr
values_last U [] v = append-nil (used_by U v.expr)
values_last U (w ∷ vs) v = ap (λ (l : List Use). used_by U w.expr ++ l) (values_last U vs v) ∙ sym (append_assoc (used_by U w.expr) (used_by_values vs U) (used_by U v.expr))

abbrev used_by_all : Table → List TypedExpr → List Use
used_by_all U [] = []
used_by_all U (e ∷ es) = used_by U e ++ used_by_all U es

fold-used : (U : Table) (acc : TypedArguments) (es : List TypedExpr) → used_by_arguments U (fold typed.AndArgument acc es) ≡ used_by_arguments U acc ++ used_by_all U es
fold-used U acc [] = sym (append-nil (used_by_arguments U acc))
fold-used U acc (e ∷ es) = fold-used U (typed.AndArgument acc e) es ∙ append_assoc (used_by_arguments U acc) (used_by U e) (used_by_all U es)

arguments-used : (U T : Table) (ts : List TypeId) (vs : List Value) → length ts ≡ length vs → used_by_all U (converted_arguments T ts vs) ≡ used_by_values vs U
arguments-used U T [] [] l = refl
arguments-used U T [] (v ∷ vs) l = absurd (omega (arith, l))
arguments-used U T (t ∷ ts) [] l = absurd (omega (arith, l))
arguments-used U T (t ∷ ts) (v ∷ vs) l =
    let one = converted-used U v.place t v.expr (implicit T v.expr t) in
    let rest = arguments-used U T ts vs (cut_length t ts v vs l) in
    λ i. one i ++ rest i

runtime-used : (U T : Table) (t : RuntimeType) (v : Value) → used_by U (runtime_argument T t v) ≡ used_by U v.expr
runtime-used U T prototype.Int v = converted-used U v.place int_type v.expr (implicit T v.expr int_type)
runtime-used U T prototype.UnsignedLong v = converted-used U v.place Operations.size_type v.expr (implicit T v.expr Operations.size_type)
runtime-used U T prototype.Void v = refl
runtime-used U T prototype.VoidPointer v = refl

runtimes-used : (U T : Table) (ts : List RuntimeType) (vs : List Value) → length ts ≡ length vs → used_by_all U (runtime_arguments T ts vs) ≡ used_by_values vs U
runtimes-used U T [] [] l = refl
runtimes-used U T [] (v ∷ vs) l = absurd (omega (arith, l))
runtimes-used U T (t ∷ ts) [] l = absurd (omega (arith, l))
runtimes-used U T (t ∷ ts) (v ∷ vs) l =
    let one = runtime-used U T t v in
    let rest = runtimes-used U T ts vs (cut_length t ts v vs l) in
    λ i. one i ++ rest i

module _ (U T : Table) (f : TypedExpr) (at : Place) (vs : List Value) where
  broken_call : {P : Type 0} → first_broken (broken_at rule.BadCall at true ∷ []) ≡ None → P
  broken_call h = absurd (none-some (Refused at rule.BadCall) (sym h))

  shape-used : (y : TypeShape) → first_broken (Tests.call_tests_of T y at (map argument_of vs)) ≡ None
      → used_by_part U (called_shape T f at vs y) ≡ used_by U f ++ used_by_values vs U
  shape-used (Function ps r) u =
      let last : Test = broken_at rule.BadCall at (not (length ps == length (map argument_of vs))) in
      let alike = lengths ps vs (last_ok (Tests.argument_tests T ps (map argument_of vs)) last u) in
      ap (λ (l : List Use). used_by U f ++ l) (fold-used U typed.NoArgument (converted_arguments T ps vs) ∙ arguments-used U T ps vs alike)
  shape-used Void u = broken_call u
  shape-used (Integer bytes signed) u = broken_call u
  shape-used (Pointer w v) u = broken_call u
  shape-used (Array v w) u = broken_call u
  shape-used (Struct w) u = broken_call u
  shape-used (Union w) u = broken_call u

  result-used : (function : Runtime) (arguments : TypedArguments) (t : RuntimeType)
      → used_by_part U (runtime_call function f at arguments t) ≡ used_by U f ++ used_by_arguments U arguments
  result-used function arguments prototype.Int = refl
  result-used function arguments prototype.VoidPointer = refl
  result-used function arguments prototype.Void = refl
  result-used function arguments prototype.UnsignedLong = refl

  called-used : (o : Option Runtime) → first_broken (Tests.call_tests_by o T at (shape_at T (type_of f)) (map argument_of vs)) ≡ None
      → used_by_part U (called T f at vs o) ≡ used_by U f ++ used_by_values vs U
  called-used None u = shape-used (Tests.pointed_shape T (shape_at T (type_of f))) u
  called-used (Some function) u =
      let ps : List RuntimeType = (prototype_of function).parameters in
      let last : Test = broken_at rule.BadCall at (not (length ps == length (map argument_of vs))) in
      let alike = lengths ps vs (last_ok (Tests.runtime_argument_tests T ps (map argument_of vs)) last u) in
      result-used function (arguments_as (runtime_arguments T (prototype_of function).parameters vs)) (prototype_of function).result
      ∙ ap (λ (l : List Use). used_by U f ++ l) (fold-used U typed.NoArgument (runtime_arguments T (prototype_of function).parameters vs)
      ∙ runtimes-used U T (prototype_of function).parameters vs alike)

pub call-used : (f : Value) (at : Place) (values : List Value) (o : Operand) (S M : Table) (s r : State) → ValueUsed f.expr S M
    → IsUsed (used_by_values values) M s.table → call f at values s ≡ Gives o r → PartUsed o.part S r.table
unfolding call
call-used f at values o S M s r n k h =
    let c = construct-gives (λ (q : State). Tests.call_tests q.table at (AsValue f.expr) (map argument_of values)) f.place (max f.held (arguments_held 1 values) ∷ [])
    (by_known (λ q. pure (called q.table f.expr at values (runtime_named f.expr)))) s o r h in
    part_as S (λ U. used_by U f.expr ++ used_by_values values U) (called s.table f.expr at values (runtime_named f.expr)) o.part s r c.part
    (λ U. called-used U s.table f.expr at values (runtime_named f.expr) c.unbroken)
    (then_used (λ U. used_by U f.expr) (used_by_values values) S M s.table n k)
