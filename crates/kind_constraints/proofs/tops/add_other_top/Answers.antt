use Rattle.std.specs.Prelude.{OnOk}
use Rattle.std.proofs.Common.{List, sym, subst}
use Rattle.kind_sites.specs.declared.site.Site.{Site}
use Rattle.c_types.specs.Table.{Entry}
use Rattle.c_types.specs.Flows.{StandAlike}
use Rattle.phys_types.specs.Found.{Gains}
use Rattle.kind_constraints.specs.Pieces.{IsOtherTop}
use Rattle.kind_constraints.proofs.tops.add_other_top.Goals as goal

pub returns-in-Same : goal.returns-in-Same
returns-in-Same c =
    subst (λ (s : Site). OnOk c.add_places.result (Gains (IsOtherTop c.args.asked.now.types.now s) c.args.found.now c.add_places.new.found)) (sym c.in-Same.is)
    (subst (λ (table : List Entry). OnOk c.add_places.result (Gains (StandAlike table c.in-Same.a c.in-Same.b) c.args.found.now c.add_places.new.found)) c.requires.asked.same c.add_places.ensures)

pub returns-in-Union : goal.returns-in-Union
returns-in-Union c =
    subst (λ (s : Site). OnOk c.add_union.result (Gains (IsOtherTop c.args.asked.now.types.now s) c.args.found.now c.add_union.new.found)) (sym c.in-Union.is) c.add_union.ensures
