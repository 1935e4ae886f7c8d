use Rattle.std.proofs.Common.{ap, map}
use Rattle.c_tree.specs.Tree.{NoParameter}
use Rattle.c_tree.specs.Views.{added, parameter_view}
use Rattle.c_typing.specs.Declaring.{stopped_outside}
use Rattle.c_typing.specs.Judging.{known}
use Rattle.c_typing.specs.Walks.{judge_parameters}
use Rattle.c_check_walk.proofs.OutcomeLaws.{stop_outside}
use Rattle.c_check_walk.proofs.walker.Walker.parameters_inside.Goals as goal

pub returns-in-Ok-clause-answers : goal.returns-in-Ok-clause-answers
returns-in-Ok-clause-answers g c = ap stopped_outside c.in-Ok.ensures.answers

pub returns-in-Err-clause-answers : goal.returns-in-Err-clause-answers
returns-in-Err-clause-answers g c =
    stop_outside (judge_parameters c.args.void (added NoParameter (map parameter_view c.args.list.now)) (known c.args.types.now c.args.scope.now)) c.in-Err.fault
    (known c.parameters.new.types c.parameters.new.scope) (known c.parameters.new.types c.leave_innermost.new.scope)
    (c.leave_innermost.ensures c.parameters.new.types) c.in-Err.ensures.answers

pub returns-in-Err-clause-grows : goal.returns-in-Err-clause-grows
returns-in-Err-clause-grows g c = (known c.parameters.new.types c.parameters.new.scope, c.in-Err.ensures.grows, c.leave_innermost.ensures c.parameters.new.types)
