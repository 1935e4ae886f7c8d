-- All calculations: the law of each operator.
use Rattle.std.proofs.Common.{pos, ◌+ℤ◌, ◌-ℤ◌, List}
use Rattle.std.specs.Prelude.{◌*ℤ◌, bit_and, bit_or, bit_xor, int_div, int_rem}
use Rattle.cc_base.specs.declared.number.TypeId.{TypeId}
use Rattle.cc_base.specs.declared.place.Place.{Place}
use Rattle.integers.specs.Words.{word}
use Rattle.integers.specs.Operators.{sum_words, difference_words, product_words, quotient_words, quotient_signed, remainder_words, remainder_signed}
use Rattle.cil_form.specs.declared.number.Temp.{Temp}
use Rattle.cil_form.specs.declared.instr.Operator.{Operator}
use Rattle.cil_form.specs.declared.instr.Operator.TheVariants as operator
use Rattle.cil_form.specs.declared.instr.Calculate.TheVariants as calculate
use Rattle.cil_form.specs.declared.instr.Instr.{Instr}
use Rattle.cil_form.specs.declared.instr.Instr.TheVariants as instr
use Rattle.cil_form.specs.Meaning as meaning
use Rattle.cured_code.specs.declared.instr.Instr.TheVariants as flat_instr
use Rattle.sim_relation.specs.Points.{Knowledge}
use Rattle.cure_rules.specs.Slots.{AreSlots}
use Rattle.cure_rules.specs.Setting.{IsCuringBinary, IsCuringCalculate}
use Rattle.cure_rules.specs.Code.{Blocks}
use Rattle.sim_laws.specs.Scenes.{Scene, Running, world_of, around_of}
use Rattle.sim_laws.specs.Statements.{Lines, Follows, AllFollow}
use Rattle.sim_laws.proofs.Calculations.{reckons-follows, truth-follows, not-follows}
use Rattle.sim_laws.proofs.Comparisons.{compare-follows}
use Rattle.sim_laws.proofs.Reckoning.{adding, subtracting, multiplying, anding, oring, xoring}
use Rattle.sim_laws.proofs.Alone.{negate-follows, complement-follows}
use Rattle.sim_laws.proofs.Shifts.{shift-left-follows, shift-right-follows}
use Rattle.sim_laws.proofs.Divisions.{quotients, remainders, divides-follows}

binary-follows : (w : Scene) (g : AreSlots w.slots) (b : Running) (o : Operator) (into x y : Temp) (t : TypeId) (at : Place) (known after : Knowledge) (blocks : Blocks)
    (lines : Lines) → IsCuringBinary o (world_of w) into x y t at known after lines
    → Follows w g b blocks known after (meaning.act (instr.Calculate (calculate.Binary into o x y t at)) (around_of w b)) lines
binary-follows w g b operator.Add into x y t at known after blocks lines h =
    reckons-follows flat_instr.Add sum_words operator.Add (λ m n. m +ℤ n) adding w g b into x y t at known after blocks lines h
binary-follows w g b operator.Subtract into x y t at known after blocks lines h =
    reckons-follows flat_instr.Sub difference_words operator.Subtract (λ m n. m -ℤ n) subtracting w g b into x y t at known after blocks lines h
binary-follows w g b operator.Multiply into x y t at known after blocks lines h =
    reckons-follows flat_instr.Mul product_words operator.Multiply (λ m n. m *ℤ n) multiplying w g b into x y t at known after blocks lines h
binary-follows w g b operator.And into x y t at known after blocks lines h =
    reckons-follows flat_instr.And bit_and operator.And (λ m n. pos (bit_and (word m) (word n))) anding w g b into x y t at known after blocks lines h
binary-follows w g b operator.Or into x y t at known after blocks lines h =
    reckons-follows flat_instr.Or bit_or operator.Or (λ m n. pos (bit_or (word m) (word n))) oring w g b into x y t at known after blocks lines h
binary-follows w g b operator.ExclusiveOr into x y t at known after blocks lines h =
    reckons-follows flat_instr.Xor bit_xor operator.ExclusiveOr (λ m n. pos (bit_xor (word m) (word n))) xoring w g b into x y t at known after blocks lines h
binary-follows w g b operator.Divide into x y t at known after blocks lines h =
    divides-follows flat_instr.Divs flat_instr.Divu quotient_signed quotient_words operator.Divide int_div quotients w g b into x y t at known after blocks lines h
binary-follows w g b operator.Remainder into x y t at known after blocks lines h =
    divides-follows flat_instr.Rems flat_instr.Remu remainder_signed remainder_words operator.Remainder int_rem remainders w g b into x y t at known after blocks lines h
binary-follows w g b operator.ShiftLeft into x y t at known after blocks lines h = shift-left-follows w g b into x y t at known after blocks lines h
binary-follows w g b operator.ShiftRight into x y t at known after blocks lines h = shift-right-follows w g b into x y t at known after blocks lines h
binary-follows w g b (operator.Compare which) into x y t at known after blocks lines h = compare-follows w g b into which x y t at known after blocks lines h

-- THE LAW OF CALCULATIONS
pub calculate-follows : (w : Scene) (g : AreSlots w.slots) (b : Running) (whole : List Instr) → AllFollow w g b whole (λ i. instr.Calculate i) IsCuringCalculate
calculate-follows w g b whole (calculate.Negate into a t) inside known after blocks lines h = negate-follows w g b into a t known after blocks lines h
calculate-follows w g b whole (calculate.Complement into a t) inside known after blocks lines h = complement-follows w g b into a t known after blocks lines h
calculate-follows w g b whole (calculate.Binary into o x y t at) inside known after blocks lines h = binary-follows w g b o into x y t at known after blocks lines h
calculate-follows w g b whole (calculate.Truth into a) inside known after blocks lines h = truth-follows w g b into a known after blocks lines h
calculate-follows w g b whole (calculate.Not into a) inside known after blocks lines h = not-follows w g b into a known after blocks lines h
