use Rattle.std.proofs.Common.{rules, IfOk, Option, ap, sym, subst, map, ◌∙◌, ◌≡◌}
use Rattle.c_tree.proofs.ViewLaws.{view_part-Function}
use Rattle.c_tree.specs.Tree.{NoPart, Parts, Parameters, AndFunction, NoParameter}
use Rattle.c_tree.specs.TypedTree.{NoPart as none_typed}
use Rattle.c_tree.specs.Views.{added, part_view, parameter_view}
use Rattle.c_typing.specs.Judging.{known}
use Rattle.c_unit_typing.specs.ParameterScopes.{level_given, parameters_written, scope_of_list}
use Rattle.c_check_walk.proofs.StayLaws.{no_parts}
use Rattle.c_check_expr.proofs.definitions.nearest_part.Goals as goal

pub returns-in-Function-clause-left : goal.returns-in-Function-clause-left
returns-in-Function-clause-left c =
    subst (λ (add : Parts → Parts). IfOk c.function_left.result
    (λ made. (outer : Option Parameters) → level_given (scope_of_list (parameters_written (add NoPart) outer) (known c.args.types.now c.args.scope.now)) ≡ made.1))
    (sym (ap part_view c.in-Function.is ∙ view_part-Function _ _
    ∙ ap (λ list. λ all. AndFunction all c.in-Function.paren (added NoParameter (map parameter_view list))) (sym c.as_slice.ensures)))
    c.function_left.ensures.left

pub returns-in_err-one-in_default-clause-judged : goal.returns-in_err-one-in_default-clause-judged
returns-in_err-one-in_default-clause-judged c =
    let stopped = c.in_err-one-in_default.ensures.answers (known c.args.types.now c.args.scope.now) NoPart none_typed (no_parts c.args.at (known c.args.types.now c.args.scope.now)) in
    search rules
