use Rattle.std.proofs.Common.{◌≡◌, take}
use Rattle.phys_types.specs.Signatures.{mixed_all, slot_form, slot_in}
use Rattle.phys_types.proofs.signature.slots_form.Given as goal

abbrev pub invariant-slots : goal.invariant-slots
invariant-slots l = l.form ≡ mixed_all l.start (λ p. slot_form (slot_in l.types p)) (take l.p-index l.ps)
