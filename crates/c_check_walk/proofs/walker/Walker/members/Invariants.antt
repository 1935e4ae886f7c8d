use Rattle.std.proofs.Common.{◌≡◌, map, take}
use Rattle.c_tree.specs.Tree.{NoMember}
use Rattle.c_tree.specs.TypedTree.{NoMember as no_typed_member}
use Rattle.c_tree.specs.TypedViews.{typed_members_view}
use Rattle.c_tree.specs.Views.{added, members_view}
use Rattle.c_typing.specs.Declarators.{member_names}
use Rattle.c_typing.specs.Growing.{Grows}
use Rattle.c_typing.specs.Judging.{Gives, known}
use Rattle.c_typing.specs.Walks as walks
use Rattle.c_check_walk.proofs.walker.Walker.members.Given as goal

-- the rows so far are judged, and the names are theirs
abbrev pub invariant-loop-row : goal.invariant-loop-row
invariant-loop-row g l =
    (member_names no_typed_member ≡ l.fn.names
    → walks.judge_members (added NoMember (map members_view (take l.row-index l.rows))) (known l.fn.types l.fn.scope)
    ≡ Gives (added no_typed_member (map typed_members_view l.found)) (known l.types l.scope))
    × (member_names no_typed_member ≡ l.fn.names → member_names (added no_typed_member (map typed_members_view l.found)) ≡ l.names)
    × Grows (known l.fn.types l.fn.scope) (known l.types l.scope)
