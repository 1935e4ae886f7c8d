use Rattle.std.proofs.Common.{◌<◌, suc, arith}
use Rattle.c_tree.specs.Depth.{expr_height}
use Rattle.c_tree.specs.Views.{expr_view}
use Rattle.c_check_walk.proofs.walker.Walker.expr.Goals as goal

pub returns-clause-grows : goal.returns-clause-grows
returns-clause-grows g c =
    let below : expr_height (expr_view c.args.e.now) < suc (expr_height (expr_view c.args.e.now)) = omega arith in
    c.requires.nests.expr_grows _ _ _ _ _ _ _ below c.judge_expr.ensures
