use Rattle.std.proofs.Common.{◌≡◌, map, take}
use Rattle.c_tree.specs.TypedTree.{NoMember}
use Rattle.c_tree.specs.TypedViews.{typed_members_view}
use Rattle.c_tree.specs.Views.{added}
use Rattle.c_typing.specs.Declarators.{member_types}
use Rattle.c_check_declarators.proofs.aggregates.member_types.Given as goal

-- the types of the rows so far
abbrev pub invariant-loop-row : goal.invariant-loop-row
invariant-loop-row l = l.types.items ≡ member_types (added NoMember (map typed_members_view (take l.row-index l.rows)))
