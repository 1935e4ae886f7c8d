use Rattle.phys_types.specs.Orders.{IsPlacing, waiting}
use Rattle.phys_types.proofs.order.place_all.Given as goal

abbrev pub invariant-rounds : goal.invariant-rounds
invariant-rounds l = IsPlacing l.types l.list.items l.places l.placed

abbrev pub decreases-rounds : goal.decreases-rounds
decreases-rounds l = waiting l.placed
