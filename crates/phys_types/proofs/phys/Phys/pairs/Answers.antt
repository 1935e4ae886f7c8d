use Rattle.std.specs.Prelude.{IfOk}
use Rattle.std.proofs.Common.{List, subst}
use Rattle.c_types.specs.Table.{Entry}
use Rattle.phys_types.specs.Pairs.{AreCorrespondingNodes, TellsEqualKinds}
use Rattle.phys_types.proofs.phys.Phys.pairs.Goals as goal

pub returns-clause-nodes : goal.returns-clause-nodes
returns-clause-nodes c =
    subst (λ (table : List Entry). IfOk c.pairs-2.result (λ pairs. AreCorrespondingNodes table c.args.from c.args.to pairs.items)) c.in_ok-over.ensures c.pairs-2.ensures.nodes

pub returns-clause-kinds : goal.returns-clause-kinds
returns-clause-kinds c = λ kind.
    subst (λ (table : List Entry). IfOk c.pairs-2.result (λ pairs. TellsEqualKinds table c.args.from c.args.to kind pairs.items)) c.in_ok-over.ensures (c.pairs-2.ensures.kinds kind)
