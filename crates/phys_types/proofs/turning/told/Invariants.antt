use Rattle.std.proofs.Common.{◌≡◌, take, flat_map}
use Rattle.phys_types.specs.Turning.{told_at}
use Rattle.phys_types.proofs.turning.told.Given as goal

abbrev pub invariant-types : goal.invariant-types
invariant-types l = l.told.items ≡ flat_map (told_at l.fresh l.targets) (take l.t-index l.types)
