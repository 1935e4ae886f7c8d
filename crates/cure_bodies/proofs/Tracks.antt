-- What instructions leave is what the shape says, by the types of the program.
use Rattle.std.proofs.Common.{◌≡◌, refl, ap, sym, ◌∙◌, Option, Some}
use Rattle.cc_base.specs.declared.number.TypeId.{TypeId}
use Rattle.cc_base.specs.declared.number.NodeId.{NodeId}
use Rattle.c_types.specs.Table.{shape_at}
use Rattle.integers.specs.Arithmetic.{IntegerType}
use Rattle.cil_form.specs.declared.instr.Operator.{Operator}
use Rattle.cil_form.specs.declared.instr.Operator.TheVariants as operator
use Rattle.cil_form.specs.declared.instr.Set.{Set}
use Rattle.cil_form.specs.declared.instr.Set.TheVariants as set
use Rattle.cil_form.specs.declared.instr.Calculate.{Calculate}
use Rattle.cil_form.specs.declared.instr.Calculate.TheVariants as calculate
use Rattle.cil_form.specs.declared.instr.Point.{Point}
use Rattle.cil_form.specs.declared.instr.Point.TheVariants as point
use Rattle.cil_form.specs.declared.instr.Convert.{Convert}
use Rattle.cil_form.specs.declared.instr.Convert.TheVariants as convert
use Rattle.cil_form.specs.declared.instr.Access.TheVariants as access
use Rattle.cil_form.specs.declared.number.Temp.{Temp}
use Rattle.cc_base.specs.declared.place.Place.{Place}
use Rattle.cil_form.specs.declared.instr.Allocate.{Allocate}
use Rattle.cil_form.specs.declared.instr.Allocate.TheVariants as allocate
use Rattle.cil_form.specs.declared.instr.Call.{Call}
use Rattle.cil_form.specs.declared.instr.RuntimeCall.{RuntimeCall}
use Rattle.cil_form.specs.declared.instr.RuntimeCall.TheVariants as runtime
use Rattle.cil_form.specs.Meaning.{into_of_set, into_of_calculate, into_of_point, into_of_convert, into_of_allocate, into_of_runtime}
use Rattle.cil_form.specs.Typing.{Context, HeldType, IntegerOf, PointerTo, Typing, Includes, with_held, held_shape, result_type, IsInteger, IsPointer, IsShapedSet, IsShapedCalculate, IsShapedPoint, IsShapedConvert, IsShapedAccess, IsShapedAllocate, IsShapedCall, IsShapedRuntime}
use Rattle.cure_rules.specs.Known.{World}
use Rattle.cure_instrs.specs.Cured.{IsIn, IsCopied}
use Rattle.cure_bodies.specs.Results.{held_at, given_by, called_by, set_result, operator_result, calculate_result, point_result, convert_result, allocate_result, runtime_result}
use Rattle.cure_bodies.proofs.Laws.{tracks}

-- the same is left
same : (T types less : Typing) (t : Temp) (x y : Option HeldType) → Includes T types → x ≡ y → Includes (with_held t y types) less → Includes (with_held t x T) less
same T types less t x y more e l = tracks T types less t x y more (λ v f. e ∙ f) l

integer-at : (w : World) (c : Context) (t : TypeId) (i : IntegerType) → IsIn w c → IsInteger c t i → held_at w.whole.table t ≡ Some (IntegerOf i)
integer-at w c t i is h = ap held_shape (ap (λ z. shape_at z t) (sym is.table) ∙ h.1)

pointer-at : (w : World) (c : Context) (t : TypeId) (n : NodeId) (u : TypeId) → IsIn w c → IsPointer c t n u → held_at w.whole.table t ≡ Some (PointerTo n u)
pointer-at w c t n u is h = ap held_shape (ap (λ z. shape_at z t) (sym is.table) ∙ h.1)

pub set-tracked : (i : Set) (w : World) (c : Context) (T types less : Typing) (x : Option HeldType) → IsIn w c → Includes T types → IsCopied i T x
    → IsShapedSet i c types less → Includes (with_held (into_of_set i) (set_result i w.whole.table x) T) less
set-tracked (set.Integer into z t) w c T types less x is more f s = same T types less into _ _ more (integer-at w c t s.0 is s.1) s.3.1
set-tracked (set.Null into t) w c T types less x is more f s = same T types less into _ _ more (pointer-at w c t s.0 s.1 is s.2) s.3.1
set-tracked (set.Function into g t) w c T types less x is more f s = same T types less into _ _ more (pointer-at w c t s.0 s.1 is s.3) s.7.1
set-tracked (set.Object into o home t) w c T types less x is more f s = same T types less into _ _ more refl s.1.1
set-tracked (set.Copy into from) w c T types less x is more f s = tracks T types less into x (types from) more (λ v e. sym f ∙ more from v e) s.1.1

operator-result : (operator : Operator) (w : World) (c : Context) (t : TypeId) (i : IntegerType) → IsIn w c → IsInteger c t i
    → operator_result operator w.whole.table t ≡ Some (IntegerOf (result_type operator i))
operator-result (operator.Compare which) w c t i is h = refl
operator-result operator.Add w c t i is h = integer-at w c t i is h
operator-result operator.Subtract w c t i is h = integer-at w c t i is h
operator-result operator.Multiply w c t i is h = integer-at w c t i is h
operator-result operator.Divide w c t i is h = integer-at w c t i is h
operator-result operator.Remainder w c t i is h = integer-at w c t i is h
operator-result operator.And w c t i is h = integer-at w c t i is h
operator-result operator.Or w c t i is h = integer-at w c t i is h
operator-result operator.ExclusiveOr w c t i is h = integer-at w c t i is h
operator-result operator.ShiftLeft w c t i is h = integer-at w c t i is h
operator-result operator.ShiftRight w c t i is h = integer-at w c t i is h

pub calculate-tracked : (i : Calculate) (w : World) (c : Context) (T types less : Typing) → IsIn w c → Includes T types
    → IsShapedCalculate i c types less → Includes (with_held (into_of_calculate i) (calculate_result i w.whole.table) T) less
calculate-tracked (calculate.Negate into a t) w c T types less is more s = same T types less into _ _ more (integer-at w c t s.0 is s.1) s.3.1
calculate-tracked (calculate.Complement into a t) w c T types less is more s = same T types less into _ _ more (integer-at w c t s.0 is s.1) s.3.1
calculate-tracked (calculate.Binary into operator a b t at) w c T types less is more s =
    same T types less into _ _ more (operator-result operator w c t s.0 is s.1) s.4.1
calculate-tracked (calculate.Truth into a) w c T types less is more s = same T types less into _ _ more refl s.1.1
calculate-tracked (calculate.Not into a) w c T types less is more s = same T types less into _ _ more refl s.1.1

pub point-tracked : (i : Point) (w : World) (c : Context) (T types less : Typing) → IsIn w c → Includes T types
    → IsShapedPoint i c types less → Includes (with_held (into_of_point i) (point_result i w.whole.table) T) less
point-tracked (point.Move into p n way t at) w c T types less is more s = same T types less into _ _ more (pointer-at w c t s.0 s.1 is s.2) s.6.1
point-tracked (point.Difference into a t b u at) w c T types less is more s = same T types less into _ _ more refl s.11.1
point-tracked (point.Compare into which a t b u at) w c T types less is more s = same T types less into _ _ more refl s.9.1
point-tracked (point.IsNull into p t different) w c T types less is more s = same T types less into _ _ more refl s.4.1
point-tracked (point.Member into from outer t i inner u at) w c T types less is more s = same T types less into _ _ more refl s.7.1
point-tracked (point.Decay into from outer array check inner element at) w c T types less is more s = same T types less into _ _ more refl s.5.1
point-tracked (point.Address into from outer inner t) w c T types less is more s = same T types less into _ _ more refl s.4.1

pub convert-tracked : (i : Convert) (w : World) (c : Context) (T types less : Typing) → IsIn w c → Includes T types
    → IsShapedConvert i c types less → Includes (with_held (into_of_convert i) (convert_result i w.whole.table) T) less
convert-tracked (convert.Integer into from t) w c T types less is more s = same T types less into _ _ more (integer-at w c t s.0 is s.1) s.3.1
convert-tracked (convert.ToPointer into from t at) w c T types less is more s = same T types less into _ _ more (pointer-at w c t s.0 s.1 is s.2) s.4.1
convert-tracked (convert.FromPointer into from t u) w c T types less is more s = same T types less into _ _ more (integer-at w c u s.2 is s.4) s.6.1
convert-tracked (convert.Pointer into from t u at) w c T types less is more s = same T types less into _ _ more (pointer-at w c u s.1 s.3 is s.5) s.7.1

pub load-tracked : (into from : Temp) (n : NodeId) (t : TypeId) (at : Place) (w : World) (c : Context) (T types less : Typing) → IsIn w c → Includes T types
    → IsShapedAccess (access.Load into from n t at) c types less → Includes (with_held into (held_at w.whole.table t) T) less
load-tracked into from n t at w c T types less is more s = same T types less into _ _ more (ap (λ z. held_shape (shape_at z t)) (sym is.table)) s.3.1

pub allocate-tracked : (i : Allocate) (w : World) (c : Context) (T types less : Typing) → IsIn w c → Includes T types
    → IsShapedAllocate i c types less → Includes (with_held (into_of_allocate i) (allocate_result i) T) less
allocate-tracked (allocate.Malloc into n node t at) w c T types less is more s = same T types less into _ _ more refl s.3.1
allocate-tracked (allocate.Calloc into m n node t at) w c T types less is more s = same T types less into _ _ more refl s.4.1

pub call-tracked : (i : Call) (w : World) (c : Context) (T types less : Typing) → IsIn w c → Includes T types
    → IsShapedCall i c types less → Includes (with_held i.into (called_by w.whole.table (shape_at w.whole.table i.ty)) T) less
call-tracked i w c T types less is more s =
    same T types less i.into _ _ more
    (ap (λ z. called_by z (shape_at z i.ty)) (sym is.table) ∙ ap (called_by c.table) s.4.1 ∙ ap (given_by c.table) s.5) s.10.1

pub runtime-tracked : (i : RuntimeCall) (w : World) (c : Context) (T types less : Typing) → IsIn w c → Includes T types
    → IsShapedRuntime i c types less → Includes (with_held (into_of_runtime i) (runtime_result i) T) less
runtime-tracked (runtime.Free into p) w c T types less is more s = same T types less into _ _ more refl s.1.1
runtime-tracked (runtime.Getchar into) w c T types less is more s = same T types less into _ _ more refl s.1
runtime-tracked (runtime.Putchar into v) w c T types less is more s = same T types less into _ _ more refl s.1.1
runtime-tracked (runtime.Exit into v) w c T types less is more s = same T types less into _ _ more refl s.1.1
