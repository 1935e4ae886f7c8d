-- What a unit asks of its expressions: a value, a value that is converted to a type, and a constant.
use Rattle.std.specs.Prelude.{ℤ, Bool, true, false, not, ◌&&◌, ◌||◌, List, [], ◌∷◌, Option, Some, None}
use Rattle.cc_base.specs.declared.place.Place.{Place}
use Rattle.cc_base.specs.declared.number.TypeId.{TypeId}
use Rattle.cc_base.specs.declared.fault.Fault.TheVariants.{Refused}
use Rattle.cc_base.specs.declared.fault.Rule.TheVariants as rule
use Rattle.c_types.specs.Table.{Table, shape_at, is_aggregate_shape}
use Rattle.c_types.specs.Sameness.{is_same_type}
use Rattle.c_tree.specs.Tree as tree
use Rattle.c_tree.specs.TypedTree as typed
use Rattle.c_tree.specs.TypedTree.{TypedExpr}
use Rattle.c_tree.specs.TypedParts.{place_type}
use Rattle.c_typing.specs.Constants.{constant_value}
use Rattle.c_typing.specs.Tests as tests
use Rattle.c_typing.specs.Tests.{Test, Elaborated, AsPlace, AsValue, AsAllocation}
use Rattle.c_typing.specs.Judging.{Judging, pure, stop, by_known, ◌>>=◌}
use Rattle.c_typing.specs.Operands.{Operand, Value, value, side_of, given}
use Rattle.c_typing.specs.Assignments.{converted_to}
use Rattle.c_typing.specs.Specifying.{obeying}
use Rattle.c_typing.specs.Walks.{judge, judge_value}

-- the value of an expression; a struct is not read
unfoldable pub checked : tree.Expr → Judging TypedExpr
checked e = do
  v ← judge_value e
  pure v.expr

-- an initialiser takes an allocation over, a returned value does not
unfoldable pub taken : (init : Bool) → TypeId → Operand → Judging Elaborated
taken true t x = given t x.place x.part
taken false t x = do
  v ← value x
  pure (side_of v.expr)

-- a part becomes a value of the type, or is a struct of it
abbrev pub becomes : Table → TypeId → Elaborated → Bool
becomes T t (AsPlace p) = tests.fits T (AsPlace p) (shape_at T t) || (is_aggregate_shape (shape_at T t) && is_same_type T t (place_type p))
becomes T t x = tests.fits T x (shape_at T t)

abbrev pub value_tests : Table → TypeId → Place → Elaborated → List Test
value_tests T t at x = tests.broken_at rule.Mismatch at (not (becomes T t x)) ∷ []

abbrev pub converted_part : Table → TypeId → Place → Elaborated → TypedExpr
converted_part T t at (AsPlace p) = typed.Unread p
converted_part T t at (AsValue e) = converted_to T at t e
converted_part T t at (AsAllocation e) = e

unfoldable pub converted_value : TypeId → Place → Elaborated → Judging TypedExpr
converted_value t at x = obeying (λ s. value_tests s.table t at x) (by_known (λ s. pure (converted_part s.table t at x)))

-- an expression, and then its conversion to the type at the place; `init` says that it is an initialiser and not a returned value
unfoldable pub checked_value : TypeId → Place → (init : Bool) → tree.Expr → Judging TypedExpr
checked_value t at init e = do
  x ← judge false e
  y ← taken init t x
  converted_value t at y

-- An integer constant expression and its value.
pub record Constant : Type 0 where
  pub expr : TypedExpr
  pub value : ℤ

unfoldable pub constant_as : Value → Option ℤ → Judging Constant
constant_as v None = stop (Refused v.place rule.NotConstant)
constant_as v (Some z) = pure (record { expr = v.expr; value = z })

unfoldable pub checked_constant : tree.Expr → Judging Constant
checked_constant e = do
  v ← judge_value e
  by_known (λ s. constant_as v (constant_value s.table v.expr))
