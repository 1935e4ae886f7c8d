use Rattle.phys_types.specs.Found.{Gains}
use Rattle.phys_types.specs.Standing.{IsAtSlot, StandBefore}
use Rattle.phys_types.proofs.alike.add_slots.Given as goal

abbrev pub invariant-slots : goal.invariant-slots
invariant-slots l = Gains (StandBefore l.i (IsAtSlot l.types l.ts) (IsAtSlot l.types l.us)) l.fn.found l.found
