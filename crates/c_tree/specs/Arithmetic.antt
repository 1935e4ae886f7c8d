-- The operators of C on integers (C99 6.5.5 to 6.5.14).
use Rattle.c_tree.specs.declared.operator.Binary.{Binary}
use Rattle.c_tree.specs.declared.operator.Binary.TheVariants as binary
use Rattle.integers.specs.Arithmetic as operator
use Rattle.integers.specs.Arithmetic.{Operator}

-- the operator on integers that a binary operator is; `&&` and `||` are none, and never stand between two integers alone
abbrev pub operator_of : Binary → Operator
operator_of binary.Multiply = operator.Multiply
operator_of binary.Divide = operator.Divide
operator_of binary.Remainder = operator.Remainder
operator_of binary.Add = operator.Add
operator_of binary.Subtract = operator.Subtract
operator_of binary.ShiftLeft = operator.ShiftLeft
operator_of binary.ShiftRight = operator.ShiftRight
operator_of binary.Less = operator.Less
operator_of binary.Greater = operator.Greater
operator_of binary.LessEqual = operator.LessOrEqual
operator_of binary.GreaterEqual = operator.GreaterOrEqual
operator_of binary.Equal = operator.Equal
operator_of binary.NotEqual = operator.Different
operator_of binary.BitAnd = operator.And
operator_of binary.BitXor = operator.ExclusiveOr
operator_of binary.BitOr = operator.Or
operator_of binary.LogicalAnd = operator.And
operator_of binary.LogicalOr = operator.Or
