-- What instructions without code leave in the temporary that they write, by the types of the program.
use Rattle.std.specs.Prelude.{◌≡◌, Option, Some, None}
use Rattle.cc_base.specs.declared.number.TypeId.{TypeId}
use Rattle.c_types.specs.declared.shape.TypeShape.{TypeShape}
use Rattle.c_types.specs.declared.shape.TypeShape.TheVariants as shape
use Rattle.c_types.specs.Table.{Table, shape_at}
use Rattle.integers.specs.Arithmetic.{int, long}
use Rattle.cil_form.specs.declared.instr.Operator.{Operator}
use Rattle.cil_form.specs.declared.instr.Operator.TheVariants as operator
use Rattle.cil_form.specs.declared.instr.Set.{Set}
use Rattle.cil_form.specs.declared.instr.Set.TheVariants as set
use Rattle.cil_form.specs.declared.instr.Calculate.{Calculate}
use Rattle.cil_form.specs.declared.instr.Calculate.TheVariants as calculate
use Rattle.cil_form.specs.declared.instr.Point.{Point}
use Rattle.cil_form.specs.declared.instr.Point.TheVariants as point
use Rattle.cil_form.specs.declared.instr.Convert.{Convert}
use Rattle.cil_form.specs.declared.instr.Convert.TheVariants as convert
use Rattle.cil_form.specs.declared.instr.Allocate.{Allocate}
use Rattle.cil_form.specs.declared.instr.Allocate.TheVariants as allocate
use Rattle.cil_form.specs.declared.instr.RuntimeCall.{RuntimeCall}
use Rattle.cil_form.specs.declared.instr.RuntimeCall.TheVariants as runtime
use Rattle.cil_form.specs.Typing.{HeldType, IntegerOf, PointerTo, PlaceOf, Typing, held_shape}

-- what a value of the type is held as
abbrev pub held_at : Table → TypeId → Option HeldType
held_at table t = held_shape (shape_at table t)

-- what a function of this shape gives, and one that a pointer of this shape points to
abbrev pub given_by : Table → TypeShape → Option HeldType
given_by table (shape.Function parameters result) = held_at table result
given_by table other = None

abbrev pub called_by : Table → TypeShape → Option HeldType
called_by table (shape.Pointer n u) = given_by table (shape_at table u)
called_by table other = None

-- x is what the temporary holds that is copied
abbrev pub set_result : Set → Table → Option HeldType → Option HeldType
set_result (set.Integer into z t) table x = held_at table t
set_result (set.Null into t) table x = held_at table t
set_result (set.Function into f t) table x = held_at table t
set_result (set.Object into o home t) table x = Some (PlaceOf home t)
set_result (set.Copy into from) table x = x

abbrev pub operator_result : Operator → Table → TypeId → Option HeldType
operator_result (operator.Compare which) table t = Some (IntegerOf int)
operator_result other table t = held_at table t

abbrev pub calculate_result : Calculate → Table → Option HeldType
calculate_result (calculate.Negate into a t) table = held_at table t
calculate_result (calculate.Complement into a t) table = held_at table t
calculate_result (calculate.Binary into operator a b t at) table = operator_result operator table t
calculate_result (calculate.Truth into a) table = Some (IntegerOf int)
calculate_result (calculate.Not into a) table = Some (IntegerOf int)

abbrev pub point_result : Point → Table → Option HeldType
point_result (point.Move into p n way t at) table = held_at table t
point_result (point.Difference into a t b s at) table = Some (IntegerOf long)
point_result (point.Compare into comparison a t b s at) table = Some (IntegerOf int)
point_result (point.IsNull into p t different) table = Some (IntegerOf int)
point_result (point.Member into from outer t i inner u at) table = Some (PlaceOf inner u)
point_result (point.Decay into from outer array check inner element at) table = Some (PointerTo inner element)
point_result (point.Address into from outer inner t) table = Some (PointerTo inner t)

abbrev pub convert_result : Convert → Table → Option HeldType
convert_result (convert.Integer into from t) table = held_at table t
convert_result (convert.ToPointer into from t at) table = held_at table t
convert_result (convert.FromPointer into from t s) table = held_at table s
convert_result (convert.Pointer into from t s at) table = held_at table s

abbrev pub allocate_result : Allocate → Option HeldType
allocate_result (allocate.Malloc into n node t at) = Some (PointerTo node t)
allocate_result (allocate.Calloc into m n node t at) = Some (PointerTo node t)

abbrev pub runtime_result : RuntimeCall → Option HeldType
runtime_result (runtime.Free into p) = None
runtime_result (runtime.Getchar into) = Some (IntegerOf int)
runtime_result (runtime.Putchar into v) = Some (IntegerOf int)
runtime_result (runtime.Exit into v) = None

-- what the temporary holds whose kind of value an instruction on pointers has to know
abbrev pub IsPointAsked : Point → Typing → Option HeldType → Type 0
IsPointAsked (point.Move into p n way t at) types x = types n ≡ x
IsPointAsked (point.IsNull into p t different) types x = types p ≡ x
IsPointAsked i types x = Unit {0}
