use Rattle.std.proofs.Common.{◌≢◌, subst}
use Rattle.std.specs.List.{AllPairs}
use Rattle.phys_types.specs.Found.{Pairs}
use Rattle.phys_types.proofs.NumberPairs.{node_pairs_differ}
use Rattle.phys_types.proofs.found.Found.into_nodes.Goals as goal

pub returns-in_err-from_slice-clause-once : goal.returns-in_err-from_slice-clause-once
returns-in_err-from_slice-clause-once c =
    subst (λ (x : Pairs). AllPairs (λ a b. a ≢ b) x.nodes) c.self.view_is (node_pairs_differ c.self.inside.nodes.keys c.as_slice.ensures.unique)

pub returns-clause-once : goal.returns-clause-once
returns-clause-once c =
    subst (λ (x : Pairs). AllPairs (λ a b. a ≢ b) x.nodes) c.self.view_is (node_pairs_differ c.self.inside.nodes.keys c.as_slice.ensures.unique)
