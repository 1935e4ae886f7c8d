use Rattle.std.proofs.Common.{◌≡◌, drop, map}
use Rattle.std.specs.List.{list_any}
use Rattle.phys_types.proofs.building.holds_some.Given as goal

abbrev pub invariant-parts : goal.invariant-parts
invariant-parts l = list_any (λ x. x.holds) (map (λ p. p.now) (drop l.part-index l.parts)) ≡ list_any (λ x. x.holds) (map (λ p. p.now) l.parts)
