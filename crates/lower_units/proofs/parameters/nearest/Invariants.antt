use Rattle.std.proofs.Common.{◌≡◌, length, map}
use Rattle.c_tree.specs.Views.{added}
use Rattle.c_tree.specs.TypedTree as typed
use Rattle.c_tree.specs.TypedParts.{nearest_parameters}
use Rattle.c_tree.specs.TypedViews.{typed_part_view, parameters_seen}
use Rattle.lower_units.proofs.parameters.nearest.Given as goal

-- those of the rest, where it has none these, are those of all parts
abbrev pub invariant-inwards : goal.invariant-inwards
invariant-inwards l =
    nearest_parameters (added typed.NoPart (map typed_part_view l.fn.parts)) (parameters_seen l.fn.outer)
    ≡ nearest_parameters (added typed.NoPart (map typed_part_view l.rest)) (parameters_seen l.found)

abbrev pub decreases-inwards : goal.decreases-inwards
decreases-inwards l = length l.rest
