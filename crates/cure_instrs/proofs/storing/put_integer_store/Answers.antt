use Rattle.cure_scope.proofs.Laws.{grows_row}
use Rattle.cure_instrs.proofs.storing.put_integer_store.Goals as goal

pub returns : goal.returns
returns c = grows_row _ _ _ _ _ (rw c.size_at.ensures at c.put_guarded.ensures) c.put_integer_stored.ensures
