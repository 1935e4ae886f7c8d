use Rattle.std.proofs.Common.{◌≡◌, ◌++◌, take, flat_map}
use Rattle.phys_types.specs.Signatures.{slot_targets, slot_in}
use Rattle.phys_types.proofs.signature.add_slots_targets.Given as goal

abbrev pub invariant-slots : goal.invariant-slots
invariant-slots l = l.targets.items ≡ l.fn.targets.items ++ flat_map (λ p. slot_targets (slot_in l.types p)) (take l.p-index l.ps)
