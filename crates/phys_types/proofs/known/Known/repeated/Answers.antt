use Rattle.std.proofs.Common.{List, sym, subst}
use Rattle.c_types.specs.Table.{Entry, IsType}
use Rattle.c_types.specs.Equality.{physically_equal}
use Rattle.phys_types.specs.Shown.{IsKeptOf}
use Rattle.phys_types.proofs.Knowing.{known_kept}
use Rattle.phys_types.proofs.known.Known.repeated.Goals as goal

pub kept-requires : goal.kept-requires
kept-requires c =
    let k = c.self.inside in
    (known_kept k.types.now k.order.items k.places.items k.numbers.items k.layouts.items c.self.invariant
    c.deref.result.now c.deref-2.result.now c.deref.ensures.value c.deref-2.ensures.value).kept c.args.t (subst (λ (table : List Entry). IsType table c.args.t) (sym c.self.view_is) c.requires)

pub returns : goal.returns
returns c =
    let k = c.self.inside in
    let all = known_kept k.types.now k.order.items k.places.items k.numbers.items k.layouts.items c.self.invariant
    c.deref.result.now c.deref-2.result.now c.deref.ensures.value c.deref-2.ensures.value in
    subst (λ (table : List Entry). IsKeptOf table (physically_equal table) c.args.t c.kept.result.now) c.self.view_is
    (subst (IsKeptOf k.types.now (physically_equal k.types.now) c.args.t) (sym (c.kept.ensures c.kept.result.now))
    (all.shown c.args.t c.kept.result.now (subst (λ (table : List Entry). IsType table c.args.t) (sym c.self.view_is) c.requires)))
