-- An operator of the tree and the one of its code are one operator on integers.
use Rattle.std.proofs.Common.{◌≡◌, refl, ap, Bool, true, false, Some, arith}
use Rattle.std.proofs.lemmas.Bool.Decides.{nat_tests}
use Rattle.cc_base.specs.declared.number.TypeId.{TypeId}
use Rattle.c_tree.specs.Arithmetic.{operator_of}
use Rattle.c_tree.specs.declared.operator.Assignment.{Assignment}
use Rattle.c_tree.specs.declared.operator.Assignment.TheVariants as assignment
use Rattle.c_tree.specs.declared.operator.Binary.{Binary}
use Rattle.c_tree.specs.declared.operator.Binary.TheVariants as binary
use Rattle.c_tree.specs.declared.operator.Step.{Step}
use Rattle.c_tree.specs.declared.operator.Step.TheVariants as step
use Rattle.src_machine.specs.Expressions as source
use Rattle.cil_form.specs.declared.instr.Comparison.{Comparison}
use Rattle.cil_form.specs.declared.instr.Comparison.TheVariants as comparison
use Rattle.cil_form.specs.Meaning as code
use Rattle.lower_rules.specs.Words.{lowered, lowered_assignment, lowered_step, direction_of, comparison_of}

pub same-operator : (o : Binary) → code.operator_of (lowered o) ≡ operator_of o
unfolding lowered
same-operator binary.Multiply = refl
same-operator binary.Divide = refl
same-operator binary.Remainder = refl
same-operator binary.Add = refl
same-operator binary.Subtract = refl
same-operator binary.ShiftLeft = refl
same-operator binary.ShiftRight = refl
same-operator binary.Less = refl
same-operator binary.Greater = refl
same-operator binary.LessEqual = refl
same-operator binary.GreaterEqual = refl
same-operator binary.Equal = refl
same-operator binary.NotEqual = refl
same-operator binary.BitAnd = refl
same-operator binary.BitXor = refl
same-operator binary.BitOr = refl
same-operator binary.LogicalAnd = refl
same-operator binary.LogicalOr = refl

pub same-assignment : (o : Assignment) → code.operator_of (lowered_assignment o) ≡ source.operator_of_assignment o
unfolding lowered_assignment
same-assignment assignment.Assign = refl
same-assignment assignment.Multiply = refl
same-assignment assignment.Divide = refl
same-assignment assignment.Remainder = refl
same-assignment assignment.Add = refl
same-assignment assignment.Subtract = refl
same-assignment assignment.ShiftLeft = refl
same-assignment assignment.ShiftRight = refl
same-assignment assignment.BitAnd = refl
same-assignment assignment.BitXor = refl
same-assignment assignment.BitOr = refl

pub same-step : (o : Step) → code.operator_of (lowered_step o) ≡ source.operator_of_step o
unfolding lowered_step
same-step step.Increment = refl
same-step step.Decrement = refl

pub same-direction : (b : Bool) → code.is_backward (direction_of b) ≡ b
unfolding direction_of
same-direction true = refl
same-direction false = refl

pub same-type : (t : TypeId) → source.same_type t t ≡ true
same-type t = grind (arith, nat_tests)

pub same-comparison : (o : Binary) (c : Comparison) → comparison_of o ≡ Some c → code.operator_of_comparison c ≡ operator_of o
unfolding comparison_of
same-comparison binary.Less c h = let e : c ≡ comparison.Less = cc (h) in ap code.operator_of_comparison e
same-comparison binary.Greater c h = let e : c ≡ comparison.Greater = cc (h) in ap code.operator_of_comparison e
same-comparison binary.LessEqual c h = let e : c ≡ comparison.LessOrEqual = cc (h) in ap code.operator_of_comparison e
same-comparison binary.GreaterEqual c h = let e : c ≡ comparison.GreaterOrEqual = cc (h) in ap code.operator_of_comparison e
same-comparison binary.Equal c h = let e : c ≡ comparison.Equal = cc (h) in ap code.operator_of_comparison e
same-comparison binary.NotEqual c h = let e : c ≡ comparison.Different = cc (h) in ap code.operator_of_comparison e
same-comparison binary.Multiply c h = absurd (cc (h))
same-comparison binary.Divide c h = absurd (cc (h))
same-comparison binary.Remainder c h = absurd (cc (h))
same-comparison binary.Add c h = absurd (cc (h))
same-comparison binary.Subtract c h = absurd (cc (h))
same-comparison binary.ShiftLeft c h = absurd (cc (h))
same-comparison binary.ShiftRight c h = absurd (cc (h))
same-comparison binary.BitAnd c h = absurd (cc (h))
same-comparison binary.BitXor c h = absurd (cc (h))
same-comparison binary.BitOr c h = absurd (cc (h))
same-comparison binary.LogicalAnd c h = absurd (cc (h))
same-comparison binary.LogicalOr c h = absurd (cc (h))
