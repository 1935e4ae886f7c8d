use Rattle.std.proofs.Common.{List, refl, subst}
use Rattle.c_types.specs.Table.{Entry}
use Rattle.fat_layouts.specs.Standing.{IsCuredLayout}
use Rattle.fat_layouts.proofs.LayoutLaws.{one_more}
use Rattle.fat_layouts.proofs.layouts.Layouts.new.Goals as goal

pub types-preserved : goal.types-preserved
types-preserved c =
    one_more c.args.types.now c.args.kinds.now c.types.layouts.items c.push.new.self.items c.types.t (record { 0 = c.types.t }) c.in_ok-layout_of.field-0 refl c.types.invariant
    (subst (λ (table : List Entry). IsCuredLayout table c.args.kinds.now (record { 0 = c.types.t }) c.in_ok-layout_of.field-0) c.in_ok-known.ensures c.in_ok-layout_of.ensures)
    c.in_ok-push.ensures.items
