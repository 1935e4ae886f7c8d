use Rattle.c_tree.specs.Depth.{expr_height, specifier_list_height, declarator_height}
use Rattle.c_tree.specs.Views.{expr_view, specifiers_view, declarator_view}
use Rattle.c_check_walk.proofs.walk.+walk.Given as goal

abbrev pub decreases-judge_expr : goal.decreases-judge_expr
decreases-judge_expr l = expr_height (expr_view l.e.now)

abbrev pub decreases-judge_specifiers : goal.decreases-judge_specifiers
decreases-judge_specifiers l = specifier_list_height (specifiers_view l.specifiers.now)

abbrev pub decreases-judge_form : goal.decreases-judge_form
decreases-judge_form l = declarator_height (declarator_view l.d.now)
