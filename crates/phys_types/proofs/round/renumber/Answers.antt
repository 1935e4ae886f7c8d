use Rattle.std.proofs.Common.{ℕ, List, length, take, get_or, refl, ap, arith, subst, sym, ◌∙◌}
use Rattle.std.specs.List.{All}
use Rattle.c_types.specs.Equality.{made_alike}
use Rattle.phys_types.specs.declared.keeping.Repeated.{Repeated}
use Rattle.phys_types.specs.Numbers.{number_in, same_number}
use Rattle.phys_types.specs.Rounds.{AreShown, first_place}
use Rattle.phys_types.specs.Shown.{IsLowKept, ArePartsKept, ArePartsShown}
use Rattle.phys_types.proofs.RoundLemmas.{parts_kept, parts_shown, all_low, round_more, number_equiv}
use Rattle.phys_types.proofs.round.renumber.Goals as goal

pub kept_of-requires-clause-kept : goal.kept_of-requires-clause-kept
kept_of-requires-clause-kept c =
    subst (λ (xs : List Repeated). ArePartsKept c.args.types.now c.args.places.now xs (get_or c.args.order.now c.types.t-index (record { 0 = 0 }))) (sym c.deref.ensures.value)
    (parts_kept c.args.types.now c.requires.formed c.args.order.now c.args.places.now c.requires.order c.types.t-index (record { 0 = 0 }) c.types.layouts.items (omega arith) c.types.invariant.so_far)

pub kept_of-requires-clause-low : goal.kept_of-requires-clause-low
kept_of-requires-clause-low c =
    subst (All IsLowKept) (sym c.deref.ensures.value)
    (all_low c.args.types.now c.requires.formed c.args.order.now c.args.places.now c.requires.order (same_number (number_in c.args.numbers.now)) c.types.layouts.items c.types.invariant.shown)

pub kept_of-requires-clause-shown : goal.kept_of-requires-clause-shown
kept_of-requires-clause-shown c =
    subst (λ (xs : List Repeated). ArePartsShown c.args.types.now (same_number (number_in c.args.numbers.now)) c.args.places.now xs (get_or c.args.order.now c.types.t-index (record { 0 = 0 }))) (sym c.deref.ensures.value)
    (parts_shown c.args.types.now c.requires.formed c.args.order.now c.args.places.now c.requires.order (same_number (number_in c.args.numbers.now))
    c.types.t-index (record { 0 = 0 }) c.types.layouts.items (omega arith) c.types.invariant.so_far c.types.invariant.shown)

pub first_alike-requires-clause-shown : goal.first_alike-requires-clause-shown
first_alike-requires-clause-shown c =
    subst (AreShown c.args.types.now (same_number (number_in c.args.numbers.now)) c.args.order.now) (sym c.deref-in-types.ensures.value) c.types.invariant.shown

pub types-preserved : goal.types-preserved
types-preserved c =
    round_more c.args.types.now c.requires.formed c.args.order.now c.args.places.now c.requires.order (same_number (number_in c.args.numbers.now)) (number_equiv (number_in c.args.numbers.now))
    c.types.t-index (record { 0 = 0 }) c.types.next.items _ c.types.layouts.items c.push.new.self.items c.in_ok-own.own c.in_ok-first.first (omega arith)
    (c.in_ok-first.ensures
    ∙ ap (λ (n : ℕ). first_place (λ u. made_alike c.args.types.now (same_number (number_in c.args.numbers.now)) u (get_or c.args.order.now c.types.t-index (record { 0 = 0 }))) (take n c.args.order.now))
    (ap length c.deref-in-types.ensures.value ∙ c.types.invariant.so_far))
    refl c.in_ok-push.ensures.items c.in_ok-own.ensures c.types.invariant
