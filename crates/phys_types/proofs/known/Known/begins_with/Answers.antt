use Rattle.std.proofs.Common.{◌≡◌, ◌||◌, true, List, sym, subst}
use Rattle.c_types.specs.Table.{Entry, is_function}
use Rattle.c_types.specs.Equality.{physically_equal}
use Rattle.phys_types.specs.Numbers.{number_in}
use Rattle.phys_types.specs.Shown.{IsLayoutOf}
use Rattle.phys_types.specs.Views.{IsKnown}
use Rattle.phys_types.proofs.BeginsByPart.{whole_begins}
use Rattle.phys_types.proofs.InCopies.{kept_whole}
use Rattle.phys_types.proofs.Knowing.{known_begins}
use Rattle.phys_types.proofs.known.Known.begins_with.Goals as goal

-- one copy of each has shown it
pub returns-then-begins_by_part : goal.returns-then-begins_by_part
returns-then-begins_by_part c =
    let table = c.args.self.now in
    let k : IsKnown table c.self.inside.order.items c.self.inside.places.items c.self.inside.numbers.items c.self.inside.layouts.items =
    subst (λ (table : List Entry). IsKnown table c.self.inside.order.items c.self.inside.places.items c.self.inside.numbers.items c.self.inside.layouts.items) c.self.view_is c.self.invariant in
    let v = kept_whole table k.formed (physically_equal table) c.args.t c.repeated.result.now c.repeated.ensures in
    let z = kept_whole table k.formed (physically_equal table) c.args.u c.repeated-2.result.now c.repeated-2.ensures in
    known_begins table c.self.inside.order.items c.self.inside.places.items c.self.inside.numbers.items c.self.inside.layouts.items k
    c.args.t c.args.u v.0 z.0 c.deref.result.now true c.is_one_function.result c.requires.first c.requires.second c.deref.ensures.value
    (sym (whole_begins (number_in c.deref.result.now) c.repeated.result.now c.repeated-2.result.now v.0 z.0 v.1 v.2 z.1 z.2 (c.begins_by_part.ensures c.if-begins_by_part.true)))
    (subst (λ (table : List Entry). c.is_one_function.result ≡ (is_function table c.args.t || is_function table c.args.u)) c.self.view_is c.is_one_function.ensures)
    c.if-is_one_function.false v.4 z.4

pub returns : goal.returns
returns c =
    let table = c.args.self.now in
    known_begins table c.self.inside.order.items c.self.inside.places.items c.self.inside.numbers.items c.self.inside.layouts.items
    (subst (λ (table : List Entry). IsKnown table c.self.inside.order.items c.self.inside.places.items c.self.inside.numbers.items c.self.inside.layouts.items) c.self.view_is c.self.invariant)
    c.args.t c.args.u c.layout-3.result.now c.layout-4.result.now c.deref-2.result.now c.begins.result c.is_one_function.result c.requires.first c.requires.second
    c.deref-2.ensures.value c.begins.ensures
    (subst (λ (table : List Entry). c.is_one_function.result ≡ (is_function table c.args.t || is_function table c.args.u)) c.self.view_is c.is_one_function.ensures)
    c.if-is_one_function.false
    (subst (IsLayoutOf table (physically_equal table) c.args.t) (sym c.layout-3.ensures) c.in_ok-x.ensures)
    (subst (IsLayoutOf table (physically_equal table) c.args.u) (sym c.layout-4.ensures) c.in_ok-y.ensures)
