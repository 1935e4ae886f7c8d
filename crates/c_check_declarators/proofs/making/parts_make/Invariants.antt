use Rattle.std.proofs.Common.{◌≡◌, map, length}
use Rattle.c_tree.specs.TypedTree.{NoPart}
use Rattle.c_tree.specs.TypedViews.{typed_part_view}
use Rattle.c_tree.specs.Views.{added}
use Rattle.c_typing.specs.Declaring as declaring
use Rattle.c_typing.specs.Growing.{Grows}
use Rattle.c_typing.specs.Judging.{known}
use Rattle.c_check_declarators.specs.MakingViews.{nearest_view}
use Rattle.c_check_declarators.proofs.making.parts_make.Given as goal

-- what the rest makes of this type is what all the parts make
abbrev pub invariant-inwards : goal.invariant-inwards
invariant-inwards l =
    (declaring.parts_make l.at (nearest_view l.nearest) (added NoPart (map typed_part_view l.fn.parts)) l.fn.base (known l.fn.types l.fn.scope)
    ≡ declaring.parts_make l.at (nearest_view l.nearest) (added NoPart (map typed_part_view l.rest)) l.t (known l.types l.scope))
    × Grows (known l.fn.types l.fn.scope) (known l.types l.scope)

abbrev pub decreases-inwards : goal.decreases-inwards
decreases-inwards l = length l.rest
