use Rattle.std.proofs.Common.{map}
use Rattle.c_tree.specs.Tree.{NoParameter}
use Rattle.c_tree.specs.Views.{added, parameter_view}
use Rattle.c_typing.specs.Judging.{known}
use Rattle.c_check_expr.proofs.LeavingLaws.{list-leaves}
use Rattle.c_check_expr.proofs.definitions.function_left.Goals as goal

pub returns-clause-left : goal.returns-clause-left
returns-clause-left c = λ outer.
    list-leaves (added NoParameter (map parameter_view c.args.parameters.now)) c.in_ok-list.level (known c.args.types.now c.args.scope.now) c.in_ok-list.ensures.level
