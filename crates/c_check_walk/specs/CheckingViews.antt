-- A constant of the code as plain data.
use Rattle.std.specs.Prelude.{ℤ}
use Rattle.c_tree.specs.declared.typed_expr.TypedExpr.{TypedExpr}
use Rattle.c_tree.specs.TypedViews.{typed_expr_view}
use Rattle.c_typing.specs.Checking.{Constant}

abbrev pub constant_view : TypedExpr × ℤ → Constant
constant_view c = record { expr = typed_expr_view c.0; value = c.1 }
