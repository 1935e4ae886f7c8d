use Rattle.std.proofs.Common.{◌≡◌, drop, map}
use Rattle.std.specs.List.{list_all}
use Rattle.phys_types.specs.Numbers.{number_in}
use Rattle.phys_types.specs.Shown.{begins_spots}
use Rattle.phys_types.proofs.building.begins_with_each.Given as goal

abbrev pub invariant-parts : goal.invariant-parts
invariant-parts l = list_all (begins_spots (number_in l.numbers) l.x) (map (λ p. p.now) (drop l.part-index l.parts)) ≡ list_all (begins_spots (number_in l.numbers) l.x) (map (λ p. p.now) l.parts)
