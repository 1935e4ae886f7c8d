use Rattle.std.proofs.Common.{◌≡◌, map, length}
use Rattle.c_tree.specs.Tree.{NoPart}
use Rattle.c_tree.specs.Views.{added, part_view}
use Rattle.c_typing.specs.Declaring as declaring
use Rattle.c_check_declarators.specs.DerivedViews.{derived_view}
use Rattle.c_check_declarators.proofs.derived.by_parts.Given as goal

-- from the rest on the whole gives the same
abbrev pub invariant-inwards : goal.invariant-inwards
invariant-inwards l =
    declaring.by_parts (added NoPart (map part_view l.fn.parts)) (derived_view l.fn.outer) ≡ declaring.by_parts (added NoPart (map part_view l.rest)) (derived_view l.nearest)

abbrev pub decreases-inwards : goal.decreases-inwards
decreases-inwards l = length l.rest
