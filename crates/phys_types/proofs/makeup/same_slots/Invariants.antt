use Rattle.std.proofs.Common.{◌≡◌, drop}
use lib.Pointwise.{pointwise}
use Rattle.c_types.specs.Table.{shape_at}
use Rattle.c_types.specs.Equality.{slot_of, same_slot}
use Rattle.phys_types.specs.Numbers.{number_in, same_number}
use Rattle.phys_types.proofs.makeup.same_slots.Given as goal

abbrev pub invariant-loop-i : goal.invariant-loop-i
invariant-loop-i l =
    pointwise (λ p q. same_slot (same_number (number_in l.numbers)) (slot_of p (shape_at l.types p)) (slot_of q (shape_at l.types q))) (drop l.i l.ps) (drop l.i l.qs)
    ≡ pointwise (λ p q. same_slot (same_number (number_in l.numbers)) (slot_of p (shape_at l.types p)) (slot_of q (shape_at l.types q))) l.ps l.qs
