use Rattle.std.proofs.Common.{◌≡◌, map, length}
use Rattle.c_tree.specs.Views.{specifier_view, specifiers_of, specifiers_view}
use Rattle.c_typing.specs.Declaring as declaring
use Rattle.c_check_walk.proofs.parameters.typedef_place.Given as goal

-- those behind the rest are no names of types
abbrev pub invariant-backwards : goal.invariant-backwards
invariant-backwards l = declaring.typedef_place (specifiers_view l.fn.specifiers) ≡ declaring.typedef_place (specifiers_of (map specifier_view l.rest))

abbrev pub decreases-backwards : goal.decreases-backwards
decreases-backwards l = length l.rest
