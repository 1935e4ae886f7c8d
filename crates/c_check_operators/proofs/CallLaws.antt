-- The rules of a call one after another, and its arguments one by one.
use Rattle.std.proofs.Common.{◌≡◌, ℕ, ◌+◌, not, Bool, true, false, List, [], ◌∷◌, ◌++◌, length, map, max, Option, Some, None, if◌then◌else◌, refl, ap, sym, ◌∙◌, append_assoc, arith}
use Rattle.std.proofs.lemmas.List.{map_push, length-map}
use Rattle.cc_base.specs.declared.fault.Fault.{Fault}
use Rattle.cc_base.specs.declared.fault.Fault.TheVariants.{Refused}
use Rattle.cc_base.specs.declared.fault.Rule.TheVariants.{Mismatch}
use Rattle.cc_base.specs.declared.number.TypeId.{TypeId}
use Rattle.c_types.specs.Table.{Table, shape_at}
use Rattle.c_tree.specs.declared.typed_expr.TypedExpr.{TypedExpr}
use Rattle.c_tree.specs.TypedTree as typed
use Rattle.c_tree.specs.TypedViews.{typed_expr_view}
use Rattle.runtime_calls.specs.declared.function.RuntimeType.{RuntimeType}
use Rattle.c_typing.specs.declared.operand.Value.{Value}
use Rattle.c_typing.specs.OperandViews.{value_view}
use Rattle.c_typing.specs.Operands.{argument_of}
use Rattle.cc_base.specs.declared.place.Place.{Place}
use Rattle.c_typing.specs.Tests.{Test, first_broken, AsValue, fits, is_taken_by, argument_tests, runtime_argument_tests, runtime_tests}
use Rattle.c_typing.specs.Assignments.{arguments_held, converted_to, converted_arguments, runtime_argument, runtime_arguments}

or_else : Option Fault → Option Fault → Option Fault
or_else None b = b
or_else (Some f) b = Some f

by_broken : (b : Bool) (f : Fault) (x y : Option Fault) → (if b then Some f else or_else x y) ≡ or_else (if b then Some f else x) y
unfolding or_else
by_broken true f x y = refl
by_broken false f x y = refl

broken_append : (xs ys : List Test) → first_broken (xs ++ ys) ≡ or_else (first_broken xs) (first_broken ys)
unfolding or_else
broken_append [] ys = refl
broken_append (x ∷ xs) ys =
    ap (λ (o : Option Fault). if x.broken then Some (Refused x.place x.rule) else o) (broken_append xs ys)
    ∙ by_broken x.broken (Refused x.place x.rule) (first_broken xs) (first_broken ys)

-- the first of some tests that is broken is the first of all
pub broken_first : (xs ys : List Test) (f : Fault) → Some f ≡ first_broken xs → Some f ≡ first_broken (xs ++ ys)
unfolding or_else
broken_first xs ys f e = sym (broken_append xs ys ∙ ap (λ (o : Option Fault). or_else o (first_broken ys)) (sym e))

-- where none of them is broken, the others are tried
pub broken_then : (xs ys : List Test) → None ≡ first_broken xs → first_broken ys ≡ first_broken (xs ++ ys)
unfolding or_else
broken_then xs ys e = sym (broken_append xs ys ∙ ap (λ (o : Option Fault). or_else o (first_broken ys)) (sym e))

pub arguments_length : (values : List Value) → length (map argument_of (map value_view values)) ≡ length values
arguments_length values = length-map (map value_view values) argument_of ∙ length-map values value_view

-- The rules of arguments

abbrev pub argument_broken : Table → List TypeId → List Value → Option Fault
argument_broken T ts values = first_broken (argument_tests T ts (map argument_of (map value_view values)))

pub next_argument : (T : Table) (t : TypeId) (ts : List TypeId) (v : Value) (values : List Value) → fits T (AsValue (typed_expr_view v.expr)) (shape_at T t) ≡ true
    → argument_broken T (t ∷ ts) (v ∷ values) ≡ argument_broken T ts values
next_argument T t ts v values h = ap (λ (b : Bool). if not b then Some (Refused v.place Mismatch) else argument_broken T ts values) h

pub bad_argument : (T : Table) (t : TypeId) (ts : List TypeId) (v : Value) (values : List Value) → fits T (AsValue (typed_expr_view v.expr)) (shape_at T t) ≡ false
    → argument_broken T (t ∷ ts) (v ∷ values) ≡ Some (Refused v.place Mismatch)
bad_argument T t ts v values h = ap (λ (b : Bool). if not b then Some (Refused v.place Mismatch) else argument_broken T ts values) h

abbrev pub runtime_broken : Table → List RuntimeType → List Value → Option Fault
runtime_broken T ts values = first_broken (runtime_argument_tests T ts (map argument_of (map value_view values)))

pub next_runtime : (T : Table) (t : RuntimeType) (ts : List RuntimeType) (v : Value) (values : List Value) → is_taken_by T t (AsValue (typed_expr_view v.expr)) ≡ true
    → runtime_broken T (t ∷ ts) (v ∷ values) ≡ runtime_broken T ts values
next_runtime T t ts v values h = ap (λ (b : Bool). if not b then Some (Refused v.place Mismatch) else runtime_broken T ts values) h

pub bad_runtime : (T : Table) (t : RuntimeType) (ts : List RuntimeType) (v : Value) (values : List Value) → is_taken_by T t (AsValue (typed_expr_view v.expr)) ≡ false
    → runtime_broken T (t ∷ ts) (v ∷ values) ≡ Some (Refused v.place Mismatch)
bad_runtime T t ts v values h = ap (λ (b : Bool). if not b then Some (Refused v.place Mismatch) else runtime_broken T ts values) h

-- the first argument that a runtime function doesn't take is the first rule that is broken
pub runtime_first : (T : Table) (ps qs : List RuntimeType) (at : Place) (values : List Value) (f : Fault) → ps ≡ qs → Some f ≡ runtime_broken T ps values
    → Some f ≡ first_broken (runtime_tests T qs at (map argument_of (map value_view values)))
runtime_first T ps qs at values f h e = broken_first (runtime_argument_tests T qs (map argument_of (map value_view values))) _ f
    (e ∙ ap (λ (l : List RuntimeType). runtime_broken T l values) h)

-- Arguments that are converted

abbrev pub converted_rest : Table → List TypeId → List Value → List typed.TypedExpr
converted_rest T ts values = converted_arguments T ts (map value_view values)

abbrev pub runtime_rest : Table → List RuntimeType → List Value → List typed.TypedExpr
runtime_rest T ts values = runtime_arguments T ts (map value_view values)

-- one more argument
pub pushed : (made : List TypedExpr) (e : TypedExpr) (x : typed.TypedExpr) (rest : List typed.TypedExpr) → typed_expr_view e ≡ x
    → map typed_expr_view made ++ (x ∷ rest) ≡ map typed_expr_view (made ++ e ∷ []) ++ rest
pushed made e x rest h = sym (
    ap (λ (l : List typed.TypedExpr). l ++ rest) (map_push typed_expr_view made e)
    ∙ append_assoc (map typed_expr_view made) (typed_expr_view e ∷ []) rest
    ∙ ap (λ (y : typed.TypedExpr). map typed_expr_view made ++ (y ∷ rest)) h)

pub one_converted : (T : Table) (made : List TypedExpr) (e : TypedExpr) (t : TypeId) (ts : List TypeId) (v : Value) (values : List Value)
    → typed_expr_view e ≡ converted_to T v.place t (typed_expr_view v.expr)
    → map typed_expr_view made ++ converted_rest T (t ∷ ts) (v ∷ values) ≡ map typed_expr_view (made ++ e ∷ []) ++ converted_rest T ts values
one_converted T made e t ts v values h = pushed made e (converted_to T v.place t (typed_expr_view v.expr)) (converted_rest T ts values) h

pub one_runtime : (T : Table) (made : List TypedExpr) (e : TypedExpr) (t : RuntimeType) (ts : List RuntimeType) (v : Value) (values : List Value)
    → typed_expr_view e ≡ runtime_argument T t (value_view v)
    → map typed_expr_view made ++ runtime_rest T (t ∷ ts) (v ∷ values) ≡ map typed_expr_view (made ++ e ∷ []) ++ runtime_rest T ts values
one_runtime T made e t ts v values h = pushed made e (runtime_argument T t (value_view v)) (runtime_rest T ts values) h

-- What arguments hold

abbrev pub held_rest : ℕ → List Value → ℕ
held_rest i values = arguments_held i (map value_view values)

join_held : (most a b : ℕ) → max most (max a b) ≡ max (max most a) b
join_held most a b = omega arith

pub next_held : (most i : ℕ) (v : Value) (values : List Value) → max most (held_rest i (v ∷ values)) ≡ max (max most (i + v.held)) (held_rest (i + 1) values)
next_held most i v values = join_held most (i + v.held) (held_rest (i + 1) values)
