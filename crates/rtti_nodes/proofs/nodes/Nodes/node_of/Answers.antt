use Rattle.std.proofs.Common.{◌<◌, sym, subst}
use Rattle.rtti_nodes.proofs.Standing.{number_there}
use Rattle.rtti_nodes.proofs.nodes.Nodes.node_of.Goals as goal

pub index-requires : goal.index-requires
index-requires c = subst (λ n. c.args.t.0 < n) (sym c.self.inside.numbers.ok.0) (number_there _ c.args.self.now c.self.view_is c.self.invariant c.args.t c.requires)
