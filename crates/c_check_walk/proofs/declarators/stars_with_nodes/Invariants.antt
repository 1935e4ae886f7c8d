use Rattle.std.proofs.Common.{◌≡◌, ◌++◌, drop}
use Rattle.c_types.specs.Table.{Table}
use Rattle.c_typing.specs.Declaring as declaring
use Rattle.c_typing.specs.Growing.{Grows}
use Rattle.c_typing.specs.Judging.{known, next, pure}
use Rattle.c_check_walk.proofs.declarators.stars_with_nodes.Given as goal

-- what the rest gives, behind those that are found, is what all give
abbrev pub invariant-loop-star : goal.invariant-loop-star
invariant-loop-star l =
    ((table : Table) → declaring.stars_with_nodes l.at l.stars (known table l.fn.scope)
    ≡ next (declaring.stars_with_nodes l.at (drop l.star-index l.stars) (known table l.scope)) (λ rest. pure (l.found ++ rest)))
    × ((table : Table) → Grows (known table l.fn.scope) (known table l.scope))
