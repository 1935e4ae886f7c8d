use Rattle.std.proofs.Common.{◌≢◌, subst}
use Rattle.std.specs.List.{AllPairs}
use Rattle.phys_types.specs.Found.{Pairs}
use Rattle.phys_types.proofs.NumberPairs.{type_pairs_differ}
use Rattle.phys_types.proofs.found.Found.pointees.Goals as goal

pub returns-clause-once : goal.returns-clause-once
returns-clause-once c =
    subst (λ (x : Pairs). AllPairs (λ a b. a ≢ b) x.pointees) c.self.view_is (type_pairs_differ c.self.inside.pointees.keys c.as_slice.ensures.unique)
