-- Operators: how they are written, and how tightly they bind (C99 6.5).
use Rattle.std.specs.Prelude.{ℕ}
use Rattle.c_lexer.specs.declared.word.Keyword.TheVariants as keyword
use Rattle.c_lexer.specs.declared.word.Keyword.{Keyword}
use Rattle.c_lexer.specs.declared.punctuator.Punctuator.{Punctuator}
use Rattle.c_lexer.specs.declared.punctuator.Punctuator.TheVariants as mark
use Rattle.cc_base.specs.declared.place.Place.{Place}
use Rattle.c_tree.specs.Symbols.{Symbol, Word, Mark}
use Rattle.c_tree.specs.declared.operator.AggregateKind.{AggregateKind}
use Rattle.c_tree.specs.declared.operator.AggregateKind.TheVariants as aggregate
use Rattle.c_tree.specs.declared.operator.Assignment.{Assignment}
use Rattle.c_tree.specs.declared.operator.Assignment.TheVariants as assignment
use Rattle.c_tree.specs.declared.operator.Binary.{Binary}
use Rattle.c_tree.specs.declared.operator.Binary.TheVariants as binary
use Rattle.c_tree.specs.declared.operator.MemberOperator.{MemberOperator}
use Rattle.c_tree.specs.declared.operator.MemberOperator.TheVariants as member
use Rattle.c_tree.specs.declared.operator.Step.{Step}
use Rattle.c_tree.specs.declared.operator.Step.TheVariants as step
use Rattle.c_tree.specs.declared.operator.Unary.{Unary}
use Rattle.c_tree.specs.declared.operator.Unary.TheVariants as unary

-- How each is written.

abbrev pub aggregate_keyword : AggregateKind → Keyword
aggregate_keyword aggregate.Struct = keyword.Struct
aggregate_keyword aggregate.Union = keyword.Union

abbrev pub member_mark : MemberOperator → Punctuator
member_mark member.Dot = mark.Dot
member_mark member.Arrow = mark.Arrow

abbrev pub step_mark : Step → Punctuator
step_mark step.Increment = mark.PlusPlus
step_mark step.Decrement = mark.MinusMinus

abbrev pub unary_symbol : Unary → Place → Symbol
unary_symbol unary.Increment at = Mark mark.PlusPlus at
unary_symbol unary.Decrement at = Mark mark.MinusMinus at
unary_symbol unary.AddressOf at = Mark mark.And at
unary_symbol unary.Dereference at = Mark mark.Star at
unary_symbol unary.Plus at = Mark mark.Plus at
unary_symbol unary.Minus at = Mark mark.Minus at
unary_symbol unary.Complement at = Mark mark.Tilde at
unary_symbol unary.Not at = Mark mark.Not at
unary_symbol unary.SizeOf at = Word keyword.Sizeof at

abbrev pub binary_mark : Binary → Punctuator
binary_mark binary.Multiply = mark.Star
binary_mark binary.Divide = mark.Slash
binary_mark binary.Remainder = mark.Percent
binary_mark binary.Add = mark.Plus
binary_mark binary.Subtract = mark.Minus
binary_mark binary.ShiftLeft = mark.ShiftLeft
binary_mark binary.ShiftRight = mark.ShiftRight
binary_mark binary.Less = mark.Less
binary_mark binary.Greater = mark.Greater
binary_mark binary.LessEqual = mark.LessEqual
binary_mark binary.GreaterEqual = mark.GreaterEqual
binary_mark binary.Equal = mark.EqualEqual
binary_mark binary.NotEqual = mark.NotEqual
binary_mark binary.BitAnd = mark.And
binary_mark binary.BitXor = mark.Caret
binary_mark binary.BitOr = mark.Or
binary_mark binary.LogicalAnd = mark.AndAnd
binary_mark binary.LogicalOr = mark.OrOr

abbrev pub assignment_mark : Assignment → Punctuator
assignment_mark assignment.Assign = mark.Equal
assignment_mark assignment.Multiply = mark.StarEqual
assignment_mark assignment.Divide = mark.SlashEqual
assignment_mark assignment.Remainder = mark.PercentEqual
assignment_mark assignment.Add = mark.PlusEqual
assignment_mark assignment.Subtract = mark.MinusEqual
assignment_mark assignment.ShiftLeft = mark.ShiftLeftEqual
assignment_mark assignment.ShiftRight = mark.ShiftRightEqual
assignment_mark assignment.BitAnd = mark.AndEqual
assignment_mark assignment.BitXor = mark.CaretEqual
assignment_mark assignment.BitOr = mark.OrEqual

-- Levels, from the comma up. An expression of a level stands wherever one of a lower level may.

abbrev pub comma_level : ℕ
comma_level = 0

abbrev pub assignment_level : ℕ
assignment_level = 1

abbrev pub conditional_level : ℕ
conditional_level = 2

abbrev pub logical_or_level : ℕ
logical_or_level = 3

abbrev pub cast_level : ℕ
cast_level = 13

abbrev pub unary_level : ℕ
unary_level = 14

abbrev pub postfix_level : ℕ
postfix_level = 15

-- the level of an expression with this operator; its left side has at least this level, its right side a higher one
abbrev pub precedence : Binary → ℕ
precedence binary.LogicalOr = 3
precedence binary.LogicalAnd = 4
precedence binary.BitOr = 5
precedence binary.BitXor = 6
precedence binary.BitAnd = 7
precedence binary.Equal = 8
precedence binary.NotEqual = 8
precedence binary.Less = 9
precedence binary.Greater = 9
precedence binary.LessEqual = 9
precedence binary.GreaterEqual = 9
precedence binary.ShiftLeft = 10
precedence binary.ShiftRight = 10
precedence binary.Add = 11
precedence binary.Subtract = 11
precedence binary.Multiply = 12
precedence binary.Divide = 12
precedence binary.Remainder = 12

-- the least level of what stands after the operator: a unary expression after `++`, `--` and `sizeof`, else a cast expression
abbrev pub operand_level : Unary → ℕ
operand_level unary.Increment = 14
operand_level unary.Decrement = 14
operand_level unary.SizeOf = 14
operand_level unary.AddressOf = 13
operand_level unary.Dereference = 13
operand_level unary.Plus = 13
operand_level unary.Minus = 13
operand_level unary.Complement = 13
operand_level unary.Not = 13
