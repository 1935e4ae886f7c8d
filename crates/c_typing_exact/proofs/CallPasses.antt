-- A well typed call and a well typed name break no rule.
use Rattle.std.proofs.Common.{◌≡◌, ℕ, suc, true, false, not, ◌||◌, List, [], ◌∷◌, length, Option, None, refl, ap, sym, subst, ◌∙◌, inl, inr, ◌⊎◌, ◌==◌}
use Rattle.std.specs.List.{AllZip}
use Rattle.std.proofs.lemmas.Bool.Decides.{Decides-eqb}
use Rattle.cc_base.specs.declared.place.Place.{Place}
use Rattle.cc_base.specs.declared.number.TypeId.{TypeId}
use Rattle.cc_base.specs.declared.fault.Rule.TheVariants as rule
use Rattle.c_types.specs.declared.shape.TypeShape.{TypeShape}
use Rattle.c_types.specs.declared.shape.TypeShape.TheVariants.{Pointer, Function}
use Rattle.c_types.specs.Table.{Table, shape_at}
use Rattle.c_tree.specs.declared.typed_word.Runtime.{Runtime}
use Rattle.c_tree.specs.TypedTree as typed
use Rattle.c_tree.specs.TypedTree.{TypedExpr, TypedArguments}
use Rattle.c_tree.specs.TypedParts.{type_of, first_place}
use Rattle.runtime_calls.specs.declared.function.RuntimeType.{RuntimeType}
use Rattle.runtime_calls.specs.declared.function.RuntimeType.TheVariants as prototype
use Rattle.runtime_calls.specs.Prototypes.{prototype_of}
use Rattle.c_typing.specs.Constants.{constant_value, is_null_constant}
use Rattle.c_typing.specs.Conversions.{bare, is_plain}
use Rattle.c_typing.specs.Rules.{IsCall, IsRuntimeCallOf, IsArgument, IsRuntimeArgument, IsFreed, listed_arguments, runtime_named}
use Rattle.c_typing.specs.Settled.{IsAlike, flat, is_value_part}
use Rattle.c_typing.specs.Shapes.{IsPointerTo, is_data}
use Rattle.c_typing.specs.Tests.{Elaborated, AsPlace, AsValue, AsAllocation, Argument, broken_at, first_broken, shape_of, is_null_part, fits, argument_tests, call_tests, call_tests_of, call_tests_by, runtime_argument_tests, runtime_part, is_taken_by, point_to_data, pointed_shape}
use Rattle.c_typing_laws.proofs.InfixAlike.{pointed_flat}
use Rattle.c_typing_unique.proofs.Reading.{plain-bare}
use Rattle.c_typing_unique.proofs.Shapes.{no_true}
use Rattle.c_typing_exact.specs.Passing.{Passes, AreAlike}
use Rattle.c_typing_exact.proofs.Unbroken.{passes_one, passes_and, passes_append, or_on, off}
use Rattle.c_typing_exact.proofs.InfixPasses.{plain_shape}
use Rattle.c_typing_exact.proofs.ConversionPasses.{converted-fits}
use Rattle.c_typing_exact.proofs.ChoicePasses.{alike_by}

count_passes : (n m : ℕ) (at : Place) → n ≡ m → Passes (broken_at rule.BadCall at (not (n == m)) ∷ [])
count_passes n m at h = passes_one rule.BadCall at (not (n == m)) (off (n == m) ((Decides-eqb n m).1 h))

arguments_pass : (T : Table) (ts : List TypeId) (list : List Argument) (es : List TypedExpr) → AllZip (IsArgument T) ts es → AreAlike T list es
    → Passes (argument_tests T ts list) × (length ts ≡ length list)
arguments_pass T [] [] [] h k = (refl, refl)
arguments_pass T [] list (e ∷ es) h k = absurd h
arguments_pass T (t ∷ ts) list [] h k = absurd h
arguments_pass T [] (a ∷ list) [] h k = absurd k
arguments_pass T (t ∷ ts) [] (e ∷ es) h k = absurd k
arguments_pass T (t ∷ ts) (a ∷ list) (e ∷ es) h k =
    let rest = arguments_pass T ts list es h.1 k.1 in (
      passes_and rule.Mismatch a.place (not (fits T a.part (shape_at T t))) (argument_tests T ts list)
          (off (fits T a.part (shape_at T t)) (converted-fits T (first_place e) t e a.part h.0 k.0)) rest.0,
      ap suc rest.1,
    )

plain_runtime : (e : TypedExpr) → is_plain e ≡ true → runtime_named e ≡ None
plain_runtime (typed.Paren at e) h = plain_runtime e h
plain_runtime (typed.RuntimeName name function t) h = no_true h
plain_runtime e h = refl

pub call-passes : (T : Table) (at : Place) (f : TypedExpr) (arguments : TypedArguments) (t : TypeId) (x : Elaborated) (list : List Argument) → IsCall T f arguments t
    → IsAlike T x (bare f) → AreAlike T list (listed_arguments arguments) → Passes (call_tests T at x list)
call-passes T at f arguments t x list h a k =
    let one = arguments_pass T h.parameters list (listed_arguments arguments) h.each k in
    let pointed : pointed_shape T (shape_of T x) ≡ Function h.parameters t =
    pointed_flat T (shape_of T x) ∙ ap (pointed_shape T) a.shape ∙ sym (pointed_flat T (shape_at T (type_of (bare f))))
    ∙ ap (pointed_shape T) (plain_shape T f (Pointer h.pointer.type.0 h.function) h.pointer.plain h.pointer.type.1.1) ∙ h.shape.1 in
    ap (λ (o : Option Runtime). first_broken (call_tests_by o T at (shape_of T x) list)) (none x a.value)
    ∙ ap (λ (y : TypeShape). first_broken (call_tests_of T y at list)) pointed
    ∙ passes_append (argument_tests T h.parameters list) (broken_at rule.BadCall at (not (length h.parameters == length list)) ∷ []) one.0
    (count_passes (length h.parameters) (length list) at one.1)
  where
    none : (y : Elaborated) → (y ≡ AsValue (bare f)) ⊎ ((is_value_part y ≡ false) × (constant_value T (bare f) ≡ None)) → runtime_part y ≡ None
    none y (inl q) = ap runtime_part q ∙ plain_runtime (bare f) (subst (λ (e : TypedExpr). is_plain e ≡ true) (sym (plain-bare f h.pointer.plain)) h.pointer.plain)
    none (AsPlace p) (inr q) = refl
    none (AsAllocation v) (inr q) = refl
    none (AsValue v) (inr q) = no_true (sym q.0)

-- Runtime functions

data_flat : (T : Table) (x : TypeShape) → point_to_data T x ≡ point_to_data T (flat x)
data_flat T (Pointer n t) = refl
data_flat T x = refl

freed : (T : Table) (e : TypedExpr) (x : Elaborated) → IsFreed T e → IsAlike T x (bare e) → is_taken_by T prototype.VoidPointer x ≡ true
freed T e x h a = by h.type
  where
    by : ((t : TypeId) × IsPointerTo T t (type_of e) × (is_data T t ≡ true)) ⊎ (is_null_constant T e ≡ true) → is_taken_by T prototype.VoidPointer x ≡ true
    by (inl k) =
        let there : point_to_data T (shape_of T x) ≡ true =
        alike_by T x (bare e) a (point_to_data T) (data_flat T) ∙ ap (point_to_data T) (plain_shape T e (Pointer k.1.0 k.0) h.plain k.1.1.1) ∙ k.2 in
        (λ i. there i || is_null_part T x)
    by (inr k) =
        or_on (point_to_data T (shape_of T x)) (is_null_part T x) (a.null ∙ ap (is_null_constant T) (plain-bare e h.plain) ∙ k)

runtime_taken : (T : Table) (r : RuntimeType) (e : TypedExpr) (x : Elaborated) → IsRuntimeArgument T r e → IsAlike T x (bare e) → is_taken_by T r x ≡ true
runtime_taken T prototype.Void e x h a = absurd h
runtime_taken T prototype.Int e x h a = ap (fits T x) (sym h.1.1) ∙ converted-fits T (first_place e) h.0 e x h.2 a
runtime_taken T prototype.UnsignedLong e x h a = ap (fits T x) (sym h.1.1) ∙ converted-fits T (first_place e) h.0 e x h.2 a
runtime_taken T prototype.VoidPointer e x h a = freed T e x h a

runtimes_pass : (T : Table) (ts : List RuntimeType) (list : List Argument) (es : List TypedExpr) → AllZip (IsRuntimeArgument T) ts es → AreAlike T list es
    → Passes (runtime_argument_tests T ts list) × (length ts ≡ length list)
runtimes_pass T [] [] [] h k = (refl, refl)
runtimes_pass T [] list (e ∷ es) h k = absurd h
runtimes_pass T (t ∷ ts) list [] h k = absurd h
runtimes_pass T [] (a ∷ list) [] h k = absurd k
runtimes_pass T (t ∷ ts) [] (e ∷ es) h k = absurd k
runtimes_pass T (t ∷ ts) (a ∷ list) (e ∷ es) h k =
    let rest = runtimes_pass T ts list es h.1 k.1 in (
      passes_and rule.Mismatch a.place (not (is_taken_by T t a.part)) (runtime_argument_tests T ts list)
          (off (is_taken_by T t a.part) (runtime_taken T t e a.part h.0 k.0)) rest.0,
      ap suc rest.1,
    )

pub runtime-call-passes : (T : Table) (at : Place) (function : Runtime) (f : TypedExpr) (arguments : TypedArguments) (x : Elaborated) (list : List Argument)
    → IsRuntimeCallOf T function f arguments → x ≡ AsValue f → AreAlike T list (listed_arguments arguments) → Passes (call_tests T at x list)
runtime-call-passes T at function f arguments x list h q k =
    let one = runtimes_pass T (prototype_of function).parameters list (listed_arguments arguments) h.each k in
    ap (λ (o : Option Runtime). first_broken (call_tests_by o T at (shape_of T x) list)) (ap runtime_part q ∙ h.named)
    ∙ passes_append (runtime_argument_tests T (prototype_of function).parameters list) (broken_at rule.BadCall at (not (length (prototype_of function).parameters == length list)) ∷ []) one.0
    (count_passes (length (prototype_of function).parameters) (length list) at one.1)
