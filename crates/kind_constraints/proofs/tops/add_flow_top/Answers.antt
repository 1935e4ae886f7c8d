use Rattle.std.specs.Prelude.{OnOk}
use Rattle.std.proofs.Common.{◌≡◌, List, sym, subst}
use Rattle.c_types.specs.Table.{Entry}
use Rattle.c_types.specs.Flows.{flow_class}
use Rattle.phys_types.specs.Found.{Gains}
use Rattle.kind_constraints.specs.Pieces.{IsFlowTop}
use Rattle.kind_constraints.proofs.tops.add_flow_top.Goals as goal

pub add_flow-requires-clause-class : goal.add_flow-requires-clause-class
add_flow-requires-clause-class c =
    subst (λ (table : List Entry). c.in_ok-class.class ≡ flow_class table c.args.pair.0 c.args.pair.1) (sym c.requires.asked.same) c.in_ok-class.ensures.class

pub returns-clause-added : goal.returns-clause-added
returns-clause-added c =
    subst (λ (table : List Entry). OnOk c.add_flow.result (Gains (IsFlowTop table c.args.pair) c.args.found.now c.add_flow.new.found)) c.requires.asked.same c.add_flow.ensures
