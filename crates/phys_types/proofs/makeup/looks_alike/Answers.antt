use Rattle.std.proofs.Common.{sym, subst, ◌∙◌, arith}
use Rattle.std.specs.List.{All}
use lib.Pointwise.{pointwise}
use Rattle.c_types.specs.Table.{IsType, shape_at}
use Rattle.c_types.specs.Equality.{slot_of, same_slot}
use Rattle.phys_types.specs.Numbers.{number_in, same_number, same_spots}
use Rattle.phys_types.proofs.Makeups.{named_types, all_tail, all_head, code_alike, same_size_alike, other_size_apart, not_equal}
use Rattle.phys_types.proofs.makeup.looks_alike.Goals as goal

pub same_slot-requires-clause-second : goal.same_slot-requires-clause-second
same_slot-requires-clause-second c =
    all_head (IsType c.args.types.now) c.in-Function-shape.s c.in-Function-shape.qs
    (named_types c.args.types.now c.requires.formed c.args.u c.in-Function-shape.qs c.in-Function-shape.s (sym c.shape-in-Function.ensures ∙ c.in-Function-shape.is))

pub same_slots-requires-clause-first : goal.same_slots-requires-clause-first
same_slots-requires-clause-first c =
    subst (All (IsType c.args.types.now)) (sym c.ids.ensures)
    (all_tail (IsType c.args.types.now) c.in-Function.r c.in-Function.ps
    (named_types c.args.types.now c.requires.formed c.args.t c.in-Function.ps c.in-Function.r (sym c.shape.ensures ∙ c.in-Function.is)))

pub same_slots-requires-clause-second : goal.same_slots-requires-clause-second
same_slots-requires-clause-second c =
    subst (All (IsType c.args.types.now)) (sym c.ids-then-same_slot.ensures)
    (all_tail (IsType c.args.types.now) c.in-Function-shape.s c.in-Function-shape.qs
    (named_types c.args.types.now c.requires.formed c.args.u c.in-Function-shape.qs c.in-Function-shape.s (sym c.shape-in-Function.ensures ∙ c.in-Function-shape.is)))

pub returns-then-same_slot : goal.returns-then-same_slot
returns-then-same_slot c E h k =
    code_alike c.args.types.now E (same_number (number_in c.args.numbers.now)) c.args.t c.args.u c.in-Function.ps c.in-Function-shape.qs c.in-Function.r c.in-Function-shape.s
    c.same_slot.result c.same_slots.result (sym c.shape.ensures ∙ c.in-Function.is) (sym c.shape-in-Function.ensures ∙ c.in-Function-shape.is)
    c.same_slot.ensures c.if-same_slot.true
    (c.same_slots.ensures ∙ (λ i. pointwise (λ p q. same_slot (same_number (number_in c.args.numbers.now)) (slot_of p (shape_at c.args.types.now p)) (slot_of q (shape_at c.args.types.now q)))
    (c.ids.ensures i) (c.ids-then-same_slot.ensures i)))

pub returns-then-x-y : goal.returns-then-x-y
returns-then-x-y c E h k =
    same_size_alike c.args.types.now E (number_in c.args.numbers.now) c.args.t c.args.u c.args.x.now c.args.y.now
    (λ ps r e. c.in_default.not-Function ps r (c.shape.ensures ∙ e)) (λ ps r e. c.in_default-shape-2.not-Function ps r (c.shape-in_default.ensures ∙ e))
    h k c.same_spots.result (omega arith)
    (c.same_spots.ensures ∙ (λ i. same_spots (number_in c.args.numbers.now) (c.deref.ensures.value i) (c.deref-then-x-y.ensures.value i)))

pub returns-else-x-y : goal.returns-else-x-y
returns-else-x-y c E h k =
    not_equal c.args.x.now.size c.args.y.now.size (λ e. omega arith)
    ∙ other_size_apart c.args.types.now E (number_in c.args.numbers.now) c.args.t c.args.u c.args.x.now c.args.y.now
    (λ ps r e. c.in_default.not-Function ps r (c.shape.ensures ∙ e)) (λ ps r e. c.in_default-shape-2.not-Function ps r (c.shape-in_default.ensures ∙ e))
    h k (λ e. omega arith)
