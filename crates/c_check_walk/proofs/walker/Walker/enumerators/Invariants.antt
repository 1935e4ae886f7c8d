use Rattle.std.proofs.Common.{◌≡◌, map, take}
use Rattle.c_tree.specs.Tree.{NoEnumerator}
use Rattle.c_tree.specs.TypedTree.{NoEnumerator as none_typed}
use Rattle.c_tree.specs.TypedViews.{typed_enumerator_view}
use Rattle.c_tree.specs.Views.{added, enumerator_view}
use Rattle.c_typing.specs.Growing.{Grows}
use Rattle.c_typing.specs.Judging.{Gives, known}
use Rattle.c_typing.specs.Typing.{last_value}
use Rattle.c_typing.specs.Walks as walks
use Rattle.c_check_walk.proofs.walker.Walker.enumerators.Given as goal

-- those so far are judged, and the last has this value
abbrev pub invariant-loop-e : goal.invariant-loop-e
invariant-loop-e g l =
    (walks.judge_enumerators (added NoEnumerator (map enumerator_view (take l.e-index l.list))) (known l.fn.types l.fn.scope)
    ≡ Gives (added none_typed (map typed_enumerator_view l.found)) (known l.types l.scope))
    × (last_value (added none_typed (map typed_enumerator_view l.found)) ≡ l.last)
    × Grows (known l.fn.types l.fn.scope) (known l.types l.scope)
