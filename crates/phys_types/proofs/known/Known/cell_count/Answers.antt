use Rattle.std.proofs.Common.{List, sym, subst, ap, ◌∙◌, length, arith}
use Rattle.c_types.specs.Table.{Entry, IsType}
use Rattle.c_types.specs.Equality.{physically_equal, cells_of}
use Rattle.phys_types.specs.Shown.{IsKeptOf}
use Rattle.phys_types.proofs.Kept.{kept_size, kept_low}
use Rattle.phys_types.proofs.Knowing.{known_kept}
use Rattle.phys_types.proofs.known.Known.cell_count.Goals as goal

pub kept-own-requires : goal.kept-own-requires
kept-own-requires c =
    let k = c.self.inside in
    (known_kept k.types.now k.order.items k.places.items k.numbers.items k.layouts.items c.self.invariant
    c.deref.result.now c.deref-2.result.now c.deref.ensures.value c.deref-2.ensures.value).kept c.args.t (subst (λ (table : List Entry). IsType table c.args.t) (sym c.self.view_is) c.requires)

pub overflow_mul-result : goal.overflow_mul-result
overflow_mul-result c =
    let k = c.self.inside in
    let all = known_kept k.types.now k.order.items k.places.items k.numbers.items k.layouts.items c.self.invariant
    c.deref.result.now c.deref-2.result.now c.deref.ensures.value c.deref-2.ensures.value in
    let h = subst (IsKeptOf k.types.now (physically_equal k.types.now) c.args.t) (sym (c.kept-own.ensures c.kept-own.result.now))
    (all.shown c.args.t c.kept-own.result.now (subst (λ (table : List Entry). IsType table c.args.t) (sym c.self.view_is) c.requires)) in
    let l = (kept_low k.types.now (physically_equal k.types.now) c.args.t c.self.invariant.formed c.kept-own.result.now h).1 in omega arith

pub returns : goal.returns
returns c =
    let k = c.self.inside in
    let all = known_kept k.types.now k.order.items k.places.items k.numbers.items k.layouts.items c.self.invariant
    c.deref.result.now c.deref-2.result.now c.deref.ensures.value c.deref-2.ensures.value in
    let h = subst (IsKeptOf k.types.now (physically_equal k.types.now) c.args.t) (sym (c.kept-own.ensures c.kept-own.result.now))
    (all.shown c.args.t c.kept-own.result.now (subst (λ (table : List Entry). IsType table c.args.t) (sym c.self.view_is) c.requires)) in
    kept_size k.types.now (physically_equal k.types.now) c.args.t c.kept-own.result.now h ∙ ap (λ (table : List Entry). length (cells_of table c.args.t)) c.self.view_is
