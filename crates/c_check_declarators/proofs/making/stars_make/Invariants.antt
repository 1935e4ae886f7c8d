use Rattle.std.proofs.Common.{◌≡◌, length}
use Rattle.c_typing.specs.Declaring as declaring
use Rattle.c_typing.specs.Growing.{Grows}
use Rattle.c_typing.specs.Judging.{known}
use Rattle.c_check_declarators.proofs.making.stars_make.Given as goal

-- what the rest makes of this type is what all the stars make
abbrev pub invariant-outwards : goal.invariant-outwards
invariant-outwards l =
    (declaring.stars_make l.at l.fn.stars l.fn.base (known l.fn.types l.fn.scope) ≡ declaring.stars_make l.at l.rest l.t (known l.types l.scope))
    × Grows (known l.fn.types l.fn.scope) (known l.types l.scope)

abbrev pub decreases-outwards : goal.decreases-outwards
decreases-outwards l = length l.rest
