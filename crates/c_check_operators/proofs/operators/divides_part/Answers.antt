use Rattle.c_tree.specs.TypedParts.{type_of}
use Rattle.c_tree.specs.TypedViews.{typed_expr_view}
use Rattle.c_typing.specs.Constants.{constant_value}
use Rattle.c_typing.specs.Shapes.{integer_at}
use Rattle.c_check_operators.proofs.DivisionLaws.{undivided}
use Rattle.c_check_operators.proofs.operators.divides_part.Goals as goal

pub returns-in_default : goal.returns-in_default
returns-in_default c =
    let T = c.args.types.now in
    let a = typed_expr_view c.args.a.now in
    let b = typed_expr_view c.args.b.now in
    undivided c.args.operator (integer_at T (type_of a)) (integer_at T (type_of b)) (constant_value T a) (constant_value T b)
    c.in_default.not-Divide c.in_default.not-Remainder
