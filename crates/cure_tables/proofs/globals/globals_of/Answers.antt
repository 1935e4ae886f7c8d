use Rattle.std.proofs.Common.{subst}
use Rattle.cc_base.specs.Kinds.{kind_at}
use Rattle.cil_form.specs.declared.program.Static.{Static}
use Rattle.cure_tables.specs.Objects.{IsGlobalOf}
use Rattle.cure_tables.proofs.Statics.{global_next}
use Rattle.cure_tables.proofs.globals.globals_of.Goals as goal

pub statics-preserved : goal.statics-preserved
statics-preserved c =
    global_next c.args.layouts.now.table (kind_at c.args.kinds.now) c.args.statics.now c.statics.object-index c.object-item.result c.statics.all.items c.push.new.self.items
    c.in_ok-global_of.field-0 c.statics-test.true c.statics.invariant
    (subst (λ (o : Static). IsGlobalOf c.args.layouts.now.table (kind_at c.args.kinds.now) o c.in_ok-global_of.field-0) c.object-item.is c.in_ok-global_of.ensures)
    c.in_ok-push.ensures.items
