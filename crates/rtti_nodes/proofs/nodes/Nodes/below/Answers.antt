use Rattle.std.specs.Prelude.{◌≡◌}
use Rattle.std.proofs.Common.{rules}
use Rattle.cured_code.specs.Tables.{is_below}
use Rattle.rtti_nodes.proofs.Standing.{below_covers}
use Rattle.rtti_nodes.proofs.nodes.Nodes.below.Goals as goal

pub returns-clause-covers : goal.returns-clause-covers
returns-clause-covers c t u x y e f =
    let w : c.is_below.result ≡ is_below c.args.self.now.parents c.args.a c.args.b = search rules in
    below_covers _ c.args.self.now c.self.view_is c.self.invariant c.args.a c.args.b c.is_below.result w t u x y e f
