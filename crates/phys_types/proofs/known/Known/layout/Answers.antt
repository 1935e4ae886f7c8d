use Rattle.std.specs.Prelude.{IfOk}
use Rattle.std.proofs.Common.{List, sym, subst}
use Rattle.c_types.specs.Table.{Entry, IsType}
use Rattle.c_types.specs.Equality.{physically_equal}
use Rattle.phys_types.specs.Lending.{lent_layout}
use Rattle.phys_types.specs.Shown.{IsLayoutOf}
use Rattle.phys_types.proofs.Knowing.{known_kept}
use Rattle.phys_types.proofs.known.Known.layout.Goals as goal

pub lend_type-requires-clause-kept : goal.lend_type-requires-clause-kept
lend_type-requires-clause-kept c =
    let k = c.self.inside in
    (known_kept k.types.now k.order.items k.places.items k.numbers.items k.layouts.items c.self.invariant
    c.deref.result.now c.deref-2.result.now c.deref.ensures.value c.deref-2.ensures.value).kept c.args.t (subst (λ (table : List Entry). IsType table c.args.t) (sym c.self.view_is) c.requires)

pub lend_type-requires-clause-low : goal.lend_type-requires-clause-low
lend_type-requires-clause-low c =
    let k = c.self.inside in
    (known_kept k.types.now k.order.items k.places.items k.numbers.items k.layouts.items c.self.invariant
    c.deref.result.now c.deref-2.result.now c.deref.ensures.value c.deref-2.ensures.value).low

pub returns : goal.returns
returns c =
    let k = c.self.inside in
    let all = known_kept k.types.now k.order.items k.places.items k.numbers.items k.layouts.items c.self.invariant
    c.deref.result.now c.deref-2.result.now c.deref.ensures.value c.deref-2.ensures.value in
    subst (λ (table : List Entry). IfOk c.lend_type.result (λ lent. IsLayoutOf table (physically_equal table) c.args.t (lent_layout lent))) c.self.view_is
    (c.lend_type.ensures k.types.now (physically_equal k.types.now) c.args.t
    (λ d. all.shown c.args.t d (subst (λ (table : List Entry). IsType table c.args.t) (sym c.self.view_is) c.requires)))
