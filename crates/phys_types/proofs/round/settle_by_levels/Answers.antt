use Rattle.std.proofs.Common.{ℕ, List, subst, sym, ◌∙◌, arith}
use Rattle.phys_types.specs.Numbers.{number_in, same_number}
use Rattle.phys_types.specs.Rounds.{IsRound}
use Rattle.phys_types.proofs.Settled.{AtLevel, level_start, level_next, settled_still, settled_last, lists_equal, below_square, at_square}
use Rattle.phys_types.proofs.round.settle_by_levels.Goals as goal

pub rounds-init : goal.rounds-init
rounds-init c = λ w o closed. level_start c.args.types.now w c.args.order.now c.args.places.now o closed c.in_ok-numbers.numbers.items _ c.in_ok-numbers.ensures

pub returns-then-eq : goal.returns-then-eq
returns-then-eq c =
    settled_still c.args.types.now c.requires.formed c.args.order.now c.args.places.now c.requires.order c.requires.closed c.rounds._round c.rounds.numbers.items
    c.in_ok-round.round.numbers.items c.in_ok-round.round.layouts.items (c.rounds.invariant c.requires.formed c.requires.order c.requires.closed)
    (subst (λ (ns : List ℕ). IsRound c.args.types.now (same_number (number_in ns)) c.args.order.now c.in_ok-round.round.numbers.items c.in_ok-round.round.layouts.items)
    c.deref.ensures.value c.in_ok-round.ensures)
    (sym c.as_slice.ensures.value ∙ lists_equal _ _ c.eq.result c.eq.ensures c.if-eq.true ∙ c.as_slice-in-rounds.ensures.value)
    (below_square c.rounds._round _ _ c.count-count.ensures.number c.rounds-test.true)

pub rounds-preserved : goal.rounds-preserved
rounds-preserved c = λ w o closed.
    level_next c.args.types.now w c.args.order.now c.args.places.now o closed c.rounds._round c.rounds.numbers.items c.in_ok-round.round.numbers.items
    c.in_ok-round.round.layouts.items (c.rounds.invariant w o closed)
    (subst (λ (ns : List ℕ). IsRound c.args.types.now (same_number (number_in ns)) c.args.order.now c.in_ok-round.round.numbers.items c.in_ok-round.round.layouts.items)
    c.deref.ensures.value c.in_ok-round.ensures)

pub returns : goal.returns
returns c =
    settled_last c.args.types.now c.requires.formed c.args.order.now c.args.places.now c.requires.order c.requires.closed c.rounds.numbers.items
    c.in_ok-_next.field-0.numbers.items c.in_ok-_next.field-0.layouts.items
    (subst (λ k. AtLevel c.args.types.now c.requires.formed c.args.order.now c.args.places.now c.requires.order c.requires.closed k c.rounds.numbers.items)
    (at_square c.rounds._round _ _ c.count-count.ensures.number (omega arith)) (c.rounds.invariant c.requires.formed c.requires.order c.requires.closed))
    (subst (λ (ns : List ℕ). IsRound c.args.types.now (same_number (number_in ns)) c.args.order.now c.in_ok-_next.field-0.numbers.items c.in_ok-_next.field-0.layouts.items)
    c.deref-2.ensures.value c.in_ok-_next.ensures)
