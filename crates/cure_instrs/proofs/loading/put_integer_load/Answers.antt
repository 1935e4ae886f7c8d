use Rattle.cure_scope.proofs.Laws.{grows_row}
use Rattle.cure_instrs.proofs.loading.put_integer_load.Goals as goal

pub returns : goal.returns
returns c = grows_row _ _ _ _ _ (rw (c.pointer_slots.ensures, c.size_at.ensures) at c.put_guarded.ensures) (grows_row _ _ _ _ _ c.put.ensures c.put_narrowing.ensures)
