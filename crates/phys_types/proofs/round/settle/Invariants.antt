use Rattle.phys_types.specs.Refining.{IsCoarser}
use Rattle.phys_types.proofs.round.settle.Given as goal

abbrev pub invariant-rounds : goal.invariant-rounds
invariant-rounds l = IsCoarser l.types l.numbers.items
