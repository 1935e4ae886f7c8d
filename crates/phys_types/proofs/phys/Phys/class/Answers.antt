use Rattle.std.specs.Prelude.{IfOk}
use Rattle.std.proofs.Common.{◌≡◌, List, subst}
use Rattle.c_types.specs.Table.{Entry}
use Rattle.c_types.specs.Flows.{flow_class}
use Rattle.phys_types.proofs.phys.Phys.class.Goals as goal

pub returns : goal.returns
returns c = subst (λ (table : List Entry). IfOk c.class-2.result (λ class. class ≡ flow_class table c.args.from c.args.to)) c.in_ok-over.ensures c.class-2.ensures
