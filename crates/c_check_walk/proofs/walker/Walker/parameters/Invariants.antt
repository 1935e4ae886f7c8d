use Rattle.std.proofs.Common.{◌≡◌, map, take}
use Rattle.c_tree.specs.Tree.{NoParameter}
use Rattle.c_tree.specs.TypedTree.{NoParameter as no_typed_parameter}
use Rattle.c_tree.specs.TypedViews.{typed_parameter_view}
use Rattle.c_tree.specs.Views.{added, parameter_view}
use Rattle.c_typing.specs.Growing.{GrowsAny}
use Rattle.c_typing.specs.Judging.{Gives, known}
use Rattle.c_typing.specs.Walks as walks
use Rattle.c_check_walk.proofs.walker.Walker.parameters.Given as goal

-- the parameters so far are judged
abbrev pub invariant-loop-one : goal.invariant-loop-one
invariant-loop-one g l =
    (walks.judge_parameters l.void (added NoParameter (map parameter_view (take l.one-index l.list))) (known l.fn.types l.fn.scope)
    ≡ Gives (added no_typed_parameter (map typed_parameter_view l.found)) (known l.types l.scope))
    × GrowsAny (known l.fn.types l.fn.scope) (known l.types l.scope)
