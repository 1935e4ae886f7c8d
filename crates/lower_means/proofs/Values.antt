-- Operators on values that are there: moves, comparisons, prefixes and conversions.
use Rattle.std.proofs.Common.{ℕ, suc, ◌≡◌, refl, ap, Bool, true, false, Option, None, Some}
use Rattle.cc_base.specs.declared.number.TypeId.{TypeId}
use Rattle.cc_base.specs.declared.place.Place.{Place}
use Rattle.integers.specs.Arithmetic as integer
use Rattle.c_tree.specs.declared.operator.Binary.{Binary}
use Rattle.c_tree.specs.declared.operator.Unary.{Unary}
use Rattle.c_tree.specs.declared.operator.Unary.TheVariants as unary
use Rattle.c_tree.specs.declared.typed_word.Conversion.{Conversion}
use Rattle.c_tree.specs.declared.typed_word.Conversion.TheVariants as conversion
use Rattle.c_tree.specs.declared.typed_word.Side.{Side}
use Rattle.c_tree.specs.declared.typed_word.Side.TheVariants as side
use Rattle.src_mem.specs.Values.{calculated, moved_value, compared_value}
use Rattle.src_machine.specs.World.{World}
use Rattle.src_machine.specs.Expressions.{moved_by_side, is_different, prefixed, compared_with, converted_value}
use Rattle.cil_form.specs.declared.instr.Comparison.{Comparison}
use Rattle.cil_form.specs.declared.instr.Operator.{Operator}
use Rattle.cil_form.specs.declared.instr.Set.TheVariants as set
use Rattle.cil_form.specs.declared.instr.Calculate.TheVariants as calculate
use Rattle.cil_form.specs.declared.instr.Point.TheVariants as point
use Rattle.cil_form.specs.declared.instr.Convert.TheVariants as convert
use Rattle.cil_form.specs.declared.instr.Instr.TheVariants as instr
use Rattle.cil_form.specs.State.{gives_to}
use Rattle.cil_form.specs.Meaning.{operator_of}
use Rattle.lower_rules.specs.Words.{value, direction_of, comparison_of, Prefixes, Calculates, Moves, ComparesBy, Compares, Converts}
use Rattle.lower_means.proofs.Operators.{same-direction, same-comparison}
use Rattle.lower_means.proofs.Forms.{Finishes, FinishesTwo, finish-line, finish-none, finish-never, two-line}

pub calculates : (w : World) (o : Operator) (p : integer.Operator) → operator_of o ≡ p → (t : ℕ) (ty : TypeId) (at : Place)
    → FinishesTwo w (Calculates o t ty at) (calculated w.setting at p ty) t
calculates w o p e t ty at =
    two-line w (instr.Calculate (calculate.Binary (value t) o (value t) (value (suc t)) ty at)) (calculated w.setting at p ty) t
    (λ c. ap (λ z. gives_to (value t) (calculated w.setting at z ty (c.temps (value t)) (c.temps (value (suc t)))) c) e)

pub moves : (w : World) (which : Side) (back : Bool) (t : ℕ) (ty u : TypeId) (at : Place)
    → FinishesTwo w (Moves which back t ty u at) (moved_by_side w at which back ty u) t
unfolding Moves
moves w side.Left back t ty u at =
    two-line w (instr.Point (point.Move (value t) (value t) (value (suc t)) (direction_of back) ty at)) (moved_value w.setting at back ty) t
    (λ c. ap (λ b. gives_to (value t) (moved_value w.setting at b ty (c.temps (value t)) (c.temps (value (suc t)))) c) (same-direction back))
moves w side.Right back t ty u at =
    two-line w (instr.Point (point.Move (value t) (value (suc t)) (value t) (direction_of back) u at)) (λ v z. moved_value w.setting at back u z v) t
    (λ c. ap (λ b. gives_to (value t) (moved_value w.setting at b u (c.temps (value (suc t))) (c.temps (value t))) c) (same-direction back))

compares-by : (w : World) (o : Binary) (which : Option Comparison) → comparison_of o ≡ which → (t : ℕ) (ty u : TypeId) (at : Place)
    → FinishesTwo w (ComparesBy which t ty u at) (compared_with false false w at o ty u) t
unfolding ComparesBy
compares-by w o None e t ty u at = λ c h. absurd h
compares-by w o (Some c) e t ty u at =
    two-line w (instr.Point (point.Compare (value t) c (value t) ty (value (suc t)) u at)) (compared_with false false w at o ty u) t
    (λ d. ap (λ z. gives_to (value t) (compared_value w.setting at z ty u (d.temps (value t)) (d.temps (value (suc t)))) d) (same-comparison o c e))

pub compares : (w : World) (null null' : Bool) (o : Binary) (t : ℕ) (ty u : TypeId) (at : Place)
    → FinishesTwo w (Compares null null' o t ty u at) (compared_with null null' w at o ty u) t
unfolding Compares
compares w true null' o t ty u at =
    two-line w (instr.Point (point.IsNull (value t) (value (suc t)) u (is_different o))) (compared_with true null' w at o ty u) t (λ c. refl)
compares w false true o t ty u at =
    two-line w (instr.Point (point.IsNull (value t) (value t) ty (is_different o))) (compared_with false true w at o ty u) t (λ c. refl)
compares w false false o t ty u at = compares-by w o (comparison_of o) refl t ty u at

pub prefixes : (w : World) (o : Unary) (t : ℕ) (ty : TypeId) → Finishes w (Prefixes o t ty) (prefixed w o ty) t
unfolding Prefixes
prefixes w unary.Plus t ty = finish-none w (prefixed w unary.Plus ty) t (λ v s. refl)
prefixes w unary.Minus t ty = finish-line w (instr.Calculate (calculate.Negate (value t) (value t) ty)) (prefixed w unary.Minus ty) t (λ c. refl)
prefixes w unary.Complement t ty =
    finish-line w (instr.Calculate (calculate.Complement (value t) (value t) ty)) (prefixed w unary.Complement ty) t (λ c. refl)
prefixes w unary.Not t ty = finish-line w (instr.Calculate (calculate.Not (value t) (value t))) (prefixed w unary.Not ty) t (λ c. refl)
prefixes w unary.AddressOf t ty = finish-never w (prefixed w unary.AddressOf ty) t
prefixes w unary.Dereference t ty = finish-never w (prefixed w unary.Dereference ty) t
prefixes w unary.Increment t ty = finish-never w (prefixed w unary.Increment ty) t
prefixes w unary.Decrement t ty = finish-never w (prefixed w unary.Decrement ty) t
prefixes w unary.SizeOf t ty = finish-never w (prefixed w unary.SizeOf ty) t

pub converts : (w : World) (which : Conversion) (t : ℕ) (at : Place) (ty u : TypeId) → Finishes w (Converts which t at ty u) (converted_value w which at ty u) t
unfolding Converts
converts w conversion.IntegerToInteger t at ty u =
    finish-line w (instr.Convert (convert.Integer (value t) (value t) u)) (converted_value w conversion.IntegerToInteger at ty u) t (λ c. refl)
converts w conversion.IntegerToPointer t at ty u =
    finish-line w (instr.Convert (convert.ToPointer (value t) (value t) u at)) (converted_value w conversion.IntegerToPointer at ty u) t (λ c. refl)
converts w conversion.PointerToInteger t at ty u =
    finish-line w (instr.Convert (convert.FromPointer (value t) (value t) ty u)) (converted_value w conversion.PointerToInteger at ty u) t (λ c. refl)
converts w conversion.PointerToPointer t at ty u =
    finish-line w (instr.Convert (convert.Pointer (value t) (value t) ty u at)) (converted_value w conversion.PointerToPointer at ty u) t (λ c. refl)
converts w conversion.NullToPointer t at ty u =
    finish-line w (instr.Set (set.Null (value t) u)) (converted_value w conversion.NullToPointer at ty u) t (λ c. refl)
converts w conversion.AllocationToPointer t at ty u = finish-none w (converted_value w conversion.AllocationToPointer at ty u) t (λ v s. refl)
converts w conversion.ToVoid t at ty u = finish-none w (converted_value w conversion.ToVoid at ty u) t (λ v s. refl)
