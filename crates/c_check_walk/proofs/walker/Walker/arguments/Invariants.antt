use Rattle.std.proofs.Common.{◌≡◌, map, take}
use Rattle.c_tree.specs.Views.{arguments_of, expr_view}
use Rattle.c_typing.specs.Growing.{Grows}
use Rattle.c_typing.specs.Judging.{Gives, known}
use Rattle.c_typing.specs.OperandViews.{value_view}
use Rattle.c_typing.specs.Walks as walks
use Rattle.c_check_walk.proofs.walker.Walker.arguments.Given as goal

-- the arguments so far are judged
abbrev pub invariant-loop-e : goal.invariant-loop-e
invariant-loop-e g l =
    (walks.judge_arguments (arguments_of (map expr_view (take l.e-index l.list))) (known l.fn.types l.fn.scope)
    ≡ Gives (map value_view l.values.items) (known l.types l.scope))
    × Grows (known l.fn.types l.fn.scope) (known l.types l.scope)
