use Rattle.std.proofs.Common.{subst}
use Rattle.phys_types.specs.Found.{Pairs, held, Gains, AreThese}
use Rattle.phys_types.proofs.NumberPairs.{node_pair_eq, same_node_pair, type_pair_eq, same_type_pair}
use Rattle.phys_types.proofs.FoundLemmas.{added}
use Rattle.phys_types.proofs.found.Found.add.Goals as goal

pub returns : goal.returns
returns c =
    let old : Pairs = record { nodes = c.self.inside.nodes.keys; pointees = c.self.inside.pointees.keys } in
    let new : Pairs = record { nodes = c.insert.new.self.keys; pointees = c.insert-2.new.self.keys } in
    subst (λ (x : Pairs). Gains (AreThese (held c.args.p) (held c.args.q)) x new) c.self.view_is
    (added node_pair_eq same_node_pair type_pair_eq same_type_pair old new (held c.args.p) (held c.args.q) c.in_ok-insert.ensures.keys c.in_ok-insert-2.ensures.keys)
