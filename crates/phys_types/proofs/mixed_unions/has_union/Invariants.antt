use Rattle.std.proofs.Common.{take}
use Rattle.phys_types.specs.Standing.{HoldsUnion}
use Rattle.phys_types.proofs.mixed_unions.has_union.Given as goal

abbrev pub invariant-spots : goal.invariant-spots
invariant-spots l = HoldsUnion (take l.spot-index l.spots) l.t → ⊥
