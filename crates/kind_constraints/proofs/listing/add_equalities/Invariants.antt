use Rattle.std.proofs.Common.{take}
use Rattle.kind_constraints.specs.Adding.{Adds, OfSome}
use Rattle.kind_constraints.specs.Pieces.{IsUnlike}
use Rattle.kind_constraints.proofs.listing.add_equalities.Given as goal

abbrev pub invariant-pairs : goal.invariant-pairs
invariant-pairs l = Adds (OfSome (take l.pair-index l.pairs) IsUnlike) l.fn.list.items l.list.items
