use Rattle.std.proofs.Common.{ℕ, List, length, ap, sym, subst, ◌∙◌}
use Rattle.std.specs.List.{All}
use Rattle.cc_base.specs.declared.number.TypeId.{TypeId}
use Rattle.c_types.specs.Table.{IsType}
use Rattle.phys_types.specs.declared.keeping.Repeated.{Repeated}
use Rattle.phys_types.specs.Numbers.{number_in, same_number}
use Rattle.phys_types.specs.Refining.{IsCoarser}
use Rattle.phys_types.specs.Rounds.{AreShown, AreStable}
use Rattle.phys_types.specs.Shown.{IsKept, IsLowKept}
use Rattle.phys_types.proofs.Refined.{wide_numbers}
use Rattle.phys_types.proofs.RoundLemmas.{all_low}
use Rattle.phys_types.proofs.Stable.{all_kept, settled_stable}
use Rattle.phys_types.proofs.Viewing.{order_closed}
use Rattle.phys_types.proofs.round.settle.Goals as goal

pub are_stable-requires-clause-shown : goal.are_stable-requires-clause-shown
are_stable-requires-clause-shown c =
    subst (λ (ls : List Repeated). AreShown c.args.types.now (same_number (number_in c.deref-in-rounds-2.result.now)) c.args.order.now ls) (sym c.deref-in-rounds.ensures.value)
    (subst (λ (ns : List ℕ). AreShown c.args.types.now (same_number (number_in ns)) c.args.order.now c.in_ok-layouts.layouts.items)
    (c.deref.ensures.value ∙ sym c.deref-in-rounds-2.ensures.value) c.in_ok-layouts.ensures.shown)

pub returns-then-stable : goal.returns-then-stable
returns-then-stable c =
    settled_stable c.args.types.now c.requires.formed c.args.order.now c.args.places.now c.requires.order c.rounds.numbers.items c.in_ok-layouts.layouts.items
    c.in_ok-layouts.ensures.all
    (subst (λ (ns : List ℕ). AreShown c.args.types.now (same_number (number_in ns)) c.args.order.now c.in_ok-layouts.layouts.items) c.deref.ensures.value
    c.in_ok-layouts.ensures.shown)
    c.rounds.invariant (subst (AreStable c.args.types.now c.args.order.now) c.deref-in-rounds-2.ensures.value (c.in_ok-stable.ensures c.if-stable.true))

pub refine-requires-clause-kept : goal.refine-requires-clause-kept
refine-requires-clause-kept c =
    subst (λ (ls : List Repeated). (t : TypeId) → IsType c.args.types.now t → IsKept c.args.places.now ls t) (sym c.deref-in-rounds-3.ensures.value)
    (all_kept c.args.types.now c.requires.formed c.args.order.now c.args.places.now c.requires.order c.in_ok-layouts.layouts.items c.in_ok-layouts.ensures.all)

pub refine-requires-clause-low : goal.refine-requires-clause-low
refine-requires-clause-low c =
    subst (All IsLowKept) (sym c.deref-in-rounds-3.ensures.value)
    (all_low c.args.types.now c.requires.formed c.args.order.now c.args.places.now c.requires.order.right (same_number (number_in c.rounds.numbers.items)) c.in_ok-layouts.layouts.items
    (subst (λ (ns : List ℕ). AreShown c.args.types.now (same_number (number_in ns)) c.args.order.now c.in_ok-layouts.layouts.items) c.deref.ensures.value
    c.in_ok-layouts.ensures.shown))

pub rounds-preserved : goal.rounds-preserved
rounds-preserved c =
    c.in_ok-numbers-2.ensures (same_number (number_in c.rounds.numbers.items)) c.args.order.now c.requires.order
    (wide_numbers c.args.types.now c.requires.formed c.rounds.numbers.items c.rounds.invariant) (ap length c.deref-in-rounds-3.ensures.value ∙ c.in_ok-layouts.ensures.all)
    (subst (λ (ls : List Repeated). AreShown c.args.types.now (same_number (number_in c.rounds.numbers.items)) c.args.order.now ls) (sym c.deref-in-rounds-3.ensures.value)
    (subst (λ (ns : List ℕ). AreShown c.args.types.now (same_number (number_in ns)) c.args.order.now c.in_ok-layouts.layouts.items) c.deref.ensures.value
    c.in_ok-layouts.ensures.shown))
    (subst (IsCoarser c.args.types.now) (sym c.deref-in-rounds-4.ensures.value) c.rounds.invariant)

pub settle_by_levels-requires-clause-closed : goal.settle_by_levels-requires-clause-closed
settle_by_levels-requires-clause-closed c = order_closed c.args.types.now c.args.order.now c.args.places.now c.requires.order c.requires.formed
