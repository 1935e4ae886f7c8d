use Rattle.std.proofs.Common.{◌≡◌, map, take}
use Rattle.c_tree.specs.Tree.{Parts}
use Rattle.c_tree.specs.TypedTree.{NoPart as no_typed_part}
use Rattle.c_tree.specs.TypedViews.{typed_part_view}
use Rattle.c_tree.specs.Views.{added, part_view}
use Rattle.c_typing.specs.Growing.{Grows}
use Rattle.c_typing.specs.Judging.{State, Gives, known}
use Rattle.c_typing.specs.Walks as walks
use Rattle.c_check_walk.proofs.walker.Walker.parts_behind.Given as goal

-- the parts so far are judged, behind any that give the first
abbrev pub invariant-loop-part : goal.invariant-loop-part
invariant-loop-part g l =
    ((start : State) (before : Parts)
    → walks.judge_parts l.at before start ≡ Gives (added no_typed_part (map typed_part_view l.fn.first)) (known l.fn.types l.fn.scope)
    → walks.judge_parts l.at (added before (map part_view (take l.part-index l.rest))) start ≡ Gives (added no_typed_part (map typed_part_view l.found)) (known l.types l.scope))
    × Grows (known l.fn.types l.fn.scope) (known l.types l.scope)
