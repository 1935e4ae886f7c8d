use Rattle.std.specs.Prelude.{◌≡◌}
use Rattle.std.proofs.Common.{ap, sym, subst, ◌∙◌}
use Rattle.c_types.specs.Layouts.{size_of}
use Rattle.c_types.specs.Cells.{IsBetweenPointers}
use Rattle.c_types.specs.Equality.{cells_of}
use Rattle.cc_base.specs.Kinds.{kind_at}
use Rattle.c_types.specs.Widths.{before}
use Rattle.fat_layouts.specs.Standing.{Curing, AreCuredLayouts}
use Rattle.fat_layouts.proofs.LayoutLaws.{end_is_whole, all_before}
use Rattle.fat_layouts.proofs.layouts.Layouts.cured_size.Goals as goal

pub returns : goal.returns
returns c =
    let w = subst (λ (q : Curing). AreCuredLayouts q.table q.kinds c.self.inside.layouts.items) c.self.view_is c.self.invariant in
    let s = subst (λ (q : Curing). c.size_of.result ≡ size_of q.table c.args.t) c.self.view_is c.size_of.ensures in
    c.cured_offset.ensures (subst (IsBetweenPointers (cells_of c.args.self.now.table c.args.t)) (sym s) (end_is_whole c.args.self.now.table w.formed c.args.t c.requires)) ∙ ap (before (kind_at c.args.self.now.kinds) (cells_of c.args.self.now.table c.args.t)) s
    ∙ all_before c.args.self.now.table w.formed c.args.self.now.kinds c.args.t c.requires
