use Rattle.std.proofs.Common.{◌≡◌, ◌++◌, map, take}
use Rattle.c_tree.specs.TypedViews.{typed_declarator_view, typed_member_declarators_of}
use Rattle.c_tree.specs.Views.{declarator_view, member_declarators_of}
use Rattle.c_typing.specs.Declarators.{declarator_names}
use Rattle.c_typing.specs.Growing.{Grows}
use Rattle.c_typing.specs.Judging.{Gives, known}
use Rattle.c_typing.specs.Walks as walks
use Rattle.c_check_walk.proofs.walker.Walker.row.Given as goal

-- those so far are judged, and their names are behind those before the row
abbrev pub invariant-loop-d : goal.invariant-loop-d
invariant-loop-d g l =
    (walks.judge_member_declarators l.base l.fn.names (member_declarators_of (map declarator_view (take l.d-index l.list))) (known l.fn.types l.fn.scope)
    ≡ Gives (typed_member_declarators_of (map typed_declarator_view l.found)) (known l.types l.scope))
    × (l.names ≡ l.fn.names ++ declarator_names (typed_member_declarators_of (map typed_declarator_view l.found)))
    × Grows (known l.fn.types l.fn.scope) (known l.types l.scope)
