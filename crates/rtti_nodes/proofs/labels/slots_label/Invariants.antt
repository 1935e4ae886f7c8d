use Rattle.std.proofs.Common.{◌≡◌, take}
use Rattle.cc_base.specs.Kinds.{kind_at}
use Rattle.phys_types.specs.Numbers.{number_in}
use Rattle.phys_types.specs.Signatures.{mixed, mixed_all}
use Rattle.rtti_nodes.specs.Numbering.{slot_label}
use Rattle.rtti_nodes.proofs.labels.slots_label.Given as goal

abbrev pub invariant-slots : goal.invariant-slots
invariant-slots l =
    l.label ≡ mixed_all (mixed 0 (slot_label l.types (kind_at l.kinds) (number_in l.numbers) l.fn.r)) (slot_label l.types (kind_at l.kinds) (number_in l.numbers)) (take l.p-index l.ps)
