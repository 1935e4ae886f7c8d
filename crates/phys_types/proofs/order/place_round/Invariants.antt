use Rattle.phys_types.specs.Orders.{IsPlacing, RoundSteps}
use Rattle.phys_types.proofs.order.place_round.Given as goal

abbrev pub invariant-types : goal.invariant-types
invariant-types l = record {
  placing : IsPlacing l.types l.list.items l.places l.placed;
  steps : RoundSteps l.types l.initial.placed l.placed l.t l.changed;
}
