use Rattle.std.proofs.Common.{◌≡◌, take, map}
use Rattle.std.specs.List.{fold}
use Rattle.phys_types.specs.Shown.{larger}
use Rattle.phys_types.proofs.building.largest.Given as goal

abbrev pub invariant-parts : goal.invariant-parts
invariant-parts l = l.largest ≡ fold larger l.first (map (λ p. p.now) (take l.part-index l.parts))
