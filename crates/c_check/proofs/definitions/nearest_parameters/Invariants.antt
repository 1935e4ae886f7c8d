use Rattle.std.proofs.Common.{◌≡◌, map, length}
use Rattle.std.specs.Prelude.{option_map}
use Rattle.c_tree.specs.TypedTree.{NoPart}
use Rattle.c_tree.specs.TypedViews.{typed_part_view, parameters_seen}
use Rattle.c_tree.specs.Views.{added}
use Rattle.c_unit_typing.specs.Units.{declares_parameters}
use Rattle.c_check.proofs.definitions.nearest_parameters.Given as goal

-- from the rest on the whole gives the same
abbrev pub invariant-inwards : goal.invariant-inwards
invariant-inwards l =
    declares_parameters (added NoPart (map typed_part_view l.fn.parts)) (option_map (λ p. parameters_seen p.now) l.fn.outer)
    ≡ declares_parameters (added NoPart (map typed_part_view l.rest)) (option_map (λ p. parameters_seen p.now) l.found)

abbrev pub decreases-inwards : goal.decreases-inwards
decreases-inwards l = length l.rest
