use Rattle.std.proofs.Common.{⊎_elim}
use Rattle.cured_code.proofs.RangeLaws.{if-decided, if-refused_slot, if-refused_part, block-kept, next-kept}
use Rattle.cured_code.proofs.naming.+naming.Goals.{is_flow_kept-then-has_slot-2, is_flow_kept-else-has_slot-2}
use Rattle.cured_code.proofs.naming.+naming.Goals as goal

pub is_flow_kept-returns-then-is_branch_kept : goal.is_flow_kept-returns-then-is_branch_kept
is_flow_kept-returns-then-is_branch_kept t c = rw c.in-If.is (elim c.if-has_slot-2.branch [
  | is_flow_kept-then-has_slot-2 w ↦ if-decided c.args.names.now c.in-If.a c.in-If.x c.in-If.y c.has_slot-in-If.result w.is_branch_kept.result
      c.is_branch_kept-then-is_branch_kept.result c.if-has_slot-2.value c.has_slot-in-If.ensures (rw w.deref.ensures.value at w.is_branch_kept.ensures)
      (rw c.deref-then-is_branch_kept.ensures.value at c.is_branch_kept-then-is_branch_kept.ensures) w.if-has_slot-2.true w.value-is c.if-is_branch_kept.true
  | is_flow_kept-else-has_slot-2 w ↦ absurd (cc (w.value-is, c.if-is_branch_kept.true))
])

pub is_flow_kept-returns-else-is_branch_kept : goal.is_flow_kept-returns-else-is_branch_kept
is_flow_kept-returns-else-is_branch_kept t c = rw c.in-If.is (elim c.if-has_slot-2.branch [
  | is_flow_kept-then-has_slot-2 w ↦ if-refused_part c.args.names.now c.in-If.a c.in-If.x c.in-If.y w.is_branch_kept.result c.if-has_slot-2.value
      (rw w.deref.ensures.value at w.is_branch_kept.ensures) w.value-is c.if-is_branch_kept.false
  | is_flow_kept-else-has_slot-2 w ↦ if-refused_slot c.args.names.now c.in-If.a c.in-If.x c.in-If.y c.has_slot-in-If.result c.if-has_slot-2.value
      c.has_slot-in-If.ensures w.if-has_slot-2.false c.if-is_branch_kept.false
])

pub is_flow_kept-returns-in-Block : goal.is_flow_kept-returns-in-Block
is_flow_kept-returns-in-Block t c =
    let kept = rw (c.deref-in-Block.ensures.value) at c.is_block_kept.ensures in
    ⊎_elim (λ e. rw e (block-kept c.args.names.now c.in-Block.x c.is_block_kept.result kept)) (λ e. rw e (block-kept c.args.names.now c.in-Block.x c.is_block_kept.result kept)) c.in-Block.is

pub are_instrs_in_range-loop-instr-preserved : goal.are_instrs_in_range-loop-instr-preserved
are_instrs_in_range-loop-instr-preserved t c =
    next-kept _ _ _ c.instr-item.result c.loop-instr-test.true c.instr-item.is (c.is_instr_in_range.ensures.0 (cc (c.if-not-is_instr_in_range.false))) c.loop-instr.invariant
