use Rattle.std.proofs.Common.{◌≡◌, map, take}
use Rattle.rtti_nodes.specs.Classes.{sized}
use Rattle.rtti_nodes.proofs.ordering.with_sizes.Given as goal

abbrev pub invariant-types : goal.invariant-types
invariant-types l = l.all.items ≡ map (sized l.known) (take l.ty-index l.types)
