use Rattle.std.specs.Prelude.{IfOk}
use Rattle.std.proofs.Common.{◌≡◌, List, subst}
use Rattle.c_types.specs.Table.{Entry}
use Rattle.c_types.specs.Flows.{flow_class}
use Rattle.phys_types.proofs.known.Known.class.Goals as goal

pub returns : goal.returns
returns c = subst (λ (table : List Entry). IfOk c.settled_class.result (λ class. class ≡ flow_class table c.args.from c.args.to)) c.self.view_is c.settled_class.ensures
