use Rattle.std.specs.Prelude.{IfOk}
use Rattle.std.proofs.Common.{List, subst}
use Rattle.std.proofs.lemmas.Result.{IfOk-weaker}
use Rattle.c_types.specs.Table.{Entry}
use Rattle.phys_types.specs.Pairs.{AreCorrespondingNodes}
use Rattle.phys_types.proofs.AllPairsFound.{kinds_told}
use Rattle.phys_types.proofs.known.Known.pairs.Goals as goal

pub returns-clause-nodes : goal.returns-clause-nodes
returns-clause-nodes c =
    subst (λ (table : List Entry). IfOk c.settled_pairs.result (λ pairs. AreCorrespondingNodes table c.args.from c.args.to pairs.items)) c.self.view_is c.settled_pairs.ensures.nodes

pub returns-clause-kinds : goal.returns-clause-kinds
returns-clause-kinds c = λ kind.
    IfOk-weaker c.settled_pairs.result _ _ (λ pairs h. kinds_told c.args.self.now c.args.from c.args.to kind pairs.items h) (returns-clause-nodes c)
