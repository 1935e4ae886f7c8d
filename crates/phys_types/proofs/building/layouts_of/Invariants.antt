use Rattle.std.proofs.Common.{◌≡◌, length, take, map}
use Rattle.phys_types.specs.Lending.{lent_layout}
use Rattle.phys_types.proofs.building.layouts_of.Given as goal

abbrev pub invariant-lents : goal.invariant-lents
invariant-lents l = (map (λ p. p.now) l.parts.items ≡ map lent_layout (take l.lent-index l.lents)) × (length l.parts.items ≡ l.lent-index)
