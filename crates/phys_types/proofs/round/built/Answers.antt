use Rattle.std.proofs.Common.{◌+◌, List, get_or, ap, sym, subst, ◌∙◌, arith, length}
use Rattle.std.specs.List.{All}
use Rattle.std.proofs.lemmas.List.{length_push}
use Rattle.phys_types.specs.declared.keeping.Repeated.{Repeated}
use Rattle.phys_types.specs.Numbers.{number_in, same_number}
use Rattle.phys_types.specs.Shown.{IsLowKept, ArePartsKept, ArePartsShown}
use Rattle.phys_types.proofs.RoundLemmas.{parts_kept, parts_shown, all_low}
use Rattle.phys_types.proofs.Stable.{shown_more}
use Rattle.phys_types.proofs.round.built.Goals as goal

pub kept_of-requires-clause-kept : goal.kept_of-requires-clause-kept
kept_of-requires-clause-kept c =
    subst (λ (xs : List Repeated). ArePartsKept c.args.types.now c.args.places.now xs (get_or c.args.order.now c.types.t-index (record { 0 = 0 }))) (sym c.deref.ensures.value)
    (parts_kept c.args.types.now c.requires.formed c.args.order.now c.args.places.now c.requires.order c.types.t-index (record { 0 = 0 }) c.types.layouts.items (omega arith) c.types.invariant.so_far)

pub kept_of-requires-clause-low : goal.kept_of-requires-clause-low
kept_of-requires-clause-low c =
    subst (All IsLowKept) (sym c.deref.ensures.value)
    (all_low c.args.types.now c.requires.formed c.args.order.now c.args.places.now c.requires.order (same_number (number_in c.args.numbers.now)) c.types.layouts.items c.types.invariant.shown)

pub kept_of-requires-clause-shown : goal.kept_of-requires-clause-shown
kept_of-requires-clause-shown c =
    subst (λ (xs : List Repeated). ArePartsShown c.args.types.now (same_number (number_in c.args.numbers.now)) c.args.places.now xs (get_or c.args.order.now c.types.t-index (record { 0 = 0 }))) (sym c.deref.ensures.value)
    (parts_shown c.args.types.now c.requires.formed c.args.order.now c.args.places.now c.requires.order (same_number (number_in c.args.numbers.now))
    c.types.t-index (record { 0 = 0 }) c.types.layouts.items (omega arith) c.types.invariant.so_far c.types.invariant.shown)

pub types-preserved : goal.types-preserved
types-preserved c = record {
  so_far = ap length c.in_ok-push.ensures.items ∙ length_push c.types.layouts.items c.in_ok-own.own ∙ ap (λ k. k + 1) c.types.invariant.so_far;
  shown =
      shown_more c.args.types.now (same_number (number_in c.args.numbers.now)) c.args.order.now c.types.t-index (record { 0 = 0 }) c.types.layouts.items c.push.new.self.items
      c.in_ok-own.own (omega arith) c.types.invariant.so_far c.in_ok-push.ensures.items c.in_ok-own.ensures c.types.invariant.shown;
}
