use Rattle.std.proofs.Common.{arith}
use Rattle.phys_types.specs.Standing.{shown, IsAtSlot}
use Rattle.phys_types.proofs.AddLemmas.{turns_start, turns_more, turns_done, slot_told, slot_tells, slots_within}
use Rattle.phys_types.proofs.alike.add_slots.Goals as goal

pub slots-init : goal.slots-init
slots-init c = turns_start (IsAtSlot c.args.types.now c.args.ts.now) (IsAtSlot c.args.types.now c.args.us.now) 0 c.args.found.now (omega arith)

pub slots-preserved : goal.slots-preserved
slots-preserved c =
    turns_more (IsAtSlot c.args.types.now c.args.ts.now) (IsAtSlot c.args.types.now c.args.us.now) c.slots.i (shown c.pointer_of.result) (shown c.pointer_of-in-slots.result)
    c.args.found.now c.slots.found c.add_both.new.found
    (slot_told c.args.types.now c.args.ts.now c.slots.i _ (shown c.pointer_of.result) (omega arith) c.pointer_of.ensures)
    (slot_tells c.args.types.now c.args.ts.now c.slots.i _ (shown c.pointer_of.result) (omega arith) c.pointer_of.ensures)
    (slot_told c.args.types.now c.args.us.now c.slots.i _ (shown c.pointer_of-in-slots.result) (omega arith) c.pointer_of-in-slots.ensures)
    (slot_tells c.args.types.now c.args.us.now c.slots.i _ (shown c.pointer_of-in-slots.result) (omega arith) c.pointer_of-in-slots.ensures)
    c.slots.invariant c.in_ok-add_both.ensures

pub returns : goal.returns
returns c =
    turns_done (IsAtSlot c.args.types.now c.args.ts.now) (IsAtSlot c.args.types.now c.args.us.now) c.slots.i c.args.found.now c.slots.found
    (λ i p q a b. slots_within c.args.types.now c.args.ts.now c.args.us.now c.slots.i i p q a b (omega arith)) c.slots.invariant
