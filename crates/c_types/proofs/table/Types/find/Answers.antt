use Rattle.std.proofs.Common.{ap, sym, ◌∙◌, subst, List}
use Rattle.std.specs.Option.{is_some}
use Rattle.c_types.specs.Table.{Entry, HasShape}
use Rattle.c_types.specs.Calls.{IsNew}
use Rattle.c_types.proofs.Adding.{found, absent}
use Rattle.c_types.proofs.table.Types.find.Goals as goal

pub returns-in-Some-clause-there : goal.returns-in-Some-clause-there
returns-in-Some-clause-there c =
    subst (λ (table : List Entry). HasShape table (record { 0 = c.in-Some.index }) c.args.shape.now) c.self.view_is
    (found c.self.inside.entries.entries c.args.shape.now c.in-Some.index (sym c.get_index_of.ensures.index ∙ c.in-Some.is))

pub returns-in-None-clause-there : goal.returns-in-None-clause-there
returns-in-None-clause-there c =
    subst (λ (table : List Entry). IsNew table c.args.shape.now) c.self.view_is
    (absent c.self.inside.entries.entries c.args.shape.now (sym c.get_index_of.ensures.found ∙ ap is_some c.in-None.is))

pub returns-in-Some-clause-unique : goal.returns-in-Some-clause-unique
returns-in-Some-clause-unique c u h =
    let here = found c.self.inside.entries.entries c.args.shape.now c.in-Some.index (sym c.get_index_of.ensures.index ∙ c.in-Some.is) in
    let there = subst (λ (table : List Entry). HasShape table u c.args.shape.now) (sym c.self.view_is) h in
    c.self.invariant.formed.distinct (record { 0 = c.in-Some.index }) u here.0 (there.0, there.1 ∙ sym here.1)
