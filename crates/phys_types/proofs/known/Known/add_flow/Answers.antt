use Rattle.std.specs.Prelude.{OnOk}
use Rattle.std.proofs.Common.{◌≡◌, List, sym, subst}
use Rattle.c_types.specs.Table.{Entry}
use Rattle.c_types.specs.Equality.{physically_equal}
use Rattle.c_types.specs.Flows.{flow_class, CorrespondAtTop}
use Rattle.phys_types.specs.Found.{Gains}
use Rattle.phys_types.specs.Shown.{IsKeptOf}
use Rattle.phys_types.proofs.known.Known.add_flow.Goals as goal

pub add_top-requires-clause-class : goal.add_top-requires-clause-class
add_top-requires-clause-class c = subst (λ (table : List Entry). c.args.class ≡ flow_class table c.args.from c.args.to) (sym c.self.view_is) c.requires.class

pub add_top-requires-clause-from_kept : goal.add_top-requires-clause-from_kept
add_top-requires-clause-from_kept c =
    subst (λ (types : List Entry). IsKeptOf types (physically_equal types) c.args.from c.repeated-x.result.now) (sym c.self.view_is) c.repeated-x.ensures

pub add_top-requires-clause-to_kept : goal.add_top-requires-clause-to_kept
add_top-requires-clause-to_kept c =
    subst (λ (types : List Entry). IsKeptOf types (physically_equal types) c.args.to c.repeated-y.result.now) (sym c.self.view_is) c.repeated-y.ensures

pub returns : goal.returns
returns c =
    subst (λ (table : List Entry). OnOk c.add_top.result (Gains (CorrespondAtTop table (flow_class table c.args.from c.args.to) c.args.from c.args.to) c.args.found.now c.add_top.new.found))
    c.self.view_is c.add_top.ensures
