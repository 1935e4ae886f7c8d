use Rattle.std.proofs.Common.{sym, subst}
use Rattle.c_types.specs.Equality.{physically_equal}
use Rattle.phys_types.specs.Shown.{IsLayoutOf}
use Rattle.phys_types.proofs.Viewing.{kept_in, kept_is, all_kept, pair_in}
use Rattle.phys_types.proofs.phys.settled_class.Goals as goal

pub lend_type-requires-clause-kept : goal.lend_type-requires-clause-kept
lend_type-requires-clause-kept c =
    kept_in c.args.types.now c.args.order.now c.args.places.now c.requires.order c.args.numbers.now c.args.layouts.now c.requires.settled c.args.from c.requires.from

pub lend_type-requires-clause-low : goal.lend_type-requires-clause-low
lend_type-requires-clause-low c =
    (all_kept c.args.types.now c.args.order.now c.args.places.now c.requires.order c.args.numbers.now c.args.layouts.now c.requires.settled c.requires.formed).low

pub lend_type-requires-2-clause-kept : goal.lend_type-requires-2-clause-kept
lend_type-requires-2-clause-kept c =
    kept_in c.args.types.now c.args.order.now c.args.places.now c.requires.order c.args.numbers.now c.args.layouts.now c.requires.settled c.args.to c.requires.to

pub lend_type-requires-2-clause-low : goal.lend_type-requires-2-clause-low
lend_type-requires-2-clause-low c =
    (all_kept c.args.types.now c.args.order.now c.args.places.now c.requires.order c.args.numbers.now c.args.layouts.now c.requires.settled c.requires.formed).low

pub class_of-requires-clause-view : goal.class_of-requires-clause-view
class_of-requires-clause-view c =
    let table = c.args.types.now in
    pair_in table c.args.order.now c.args.places.now c.requires.order c.args.numbers.now c.args.layouts.now c.requires.settled c.args.from c.args.to
    c.layout.result.now c.layout-2.result.now c.requires.from c.requires.to
    (subst (IsLayoutOf table (physically_equal table) c.args.from) (sym c.layout.ensures)
    (c.in_ok-x.ensures table (physically_equal table) c.args.from
    (λ d. kept_is table c.args.order.now c.args.places.now c.requires.order c.args.numbers.now c.args.layouts.now c.requires.settled c.args.from d c.requires.from)))
    (subst (IsLayoutOf table (physically_equal table) c.args.to) (sym c.layout-2.ensures)
    (c.in_ok-y.ensures table (physically_equal table) c.args.to
    (λ d. kept_is table c.args.order.now c.args.places.now c.requires.order c.args.numbers.now c.args.layouts.now c.requires.settled c.args.to d c.requires.to)))
