use Rattle.cured_spelling.proofs.RowLaws.{if-text, block-text, loop-text}
use Rattle.cured_text.proofs.Appended.{three-put, five-put}
use Rattle.cured_text.proofs.instructions.+writing.Goals as goal

pub put_instr-returns-in_ok-put_code-in-If-2 : goal.put_instr-returns-in_ok-put_code-in-If-2
put_instr-returns-in_ok-put_code-in-If-2 t c =
    rw c.in-If.is (five-put _ _ _ _ _ _ _ _ _ _ _ _ _ c.in_ok-put_line-in-If.ensures (rw c.deref.ensures.value at c.in_ok-put_code-in-If.ensures)
    c.in_ok-put_line-in-If-2.ensures (rw c.deref-in-If.ensures.value at c.in_ok-put_code-in-If-2.ensures) c.put_line-in-If-3.ensures (if-text c.in-If.a c.in-If.x c.in-If.y))

pub put_instr-returns-in_ok-put_code-in-Block : goal.put_instr-returns-in_ok-put_code-in-Block
put_instr-returns-in_ok-put_code-in-Block t c =
    rw c.in-Block.is (three-put _ _ _ _ _ _ _ _ _ c.in_ok-put_line-in-Block.ensures (rw c.deref-in-Block.ensures.value at c.in_ok-put_code-in-Block.ensures)
    c.put_line-in-Block-2.ensures (block-text c.in-Block.x))

pub put_instr-returns-in_ok-put_code-in-Loop : goal.put_instr-returns-in_ok-put_code-in-Loop
put_instr-returns-in_ok-put_code-in-Loop t c =
    rw c.in-Loop.is (three-put _ _ _ _ _ _ _ _ _ c.in_ok-put_line-in-Loop.ensures (rw c.deref-in-Loop.ensures.value at c.in_ok-put_code-in-Loop.ensures)
    c.put_line-in-Loop-2.ensures (loop-text c.in-Loop.x))
