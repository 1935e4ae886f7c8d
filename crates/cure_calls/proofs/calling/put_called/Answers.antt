use Rattle.cure_scope.specs.Scopes.{world_of, seat}
use Rattle.check_insert.proofs.Laws.{grows_then}
use Rattle.cure_instrs.proofs.PieceLaws.{then_ready}
use Rattle.cure_calls.proofs.CallLaws.{ready_then}
use Rattle.cure_calls.proofs.calling.put_called.Goals as goal

pub returns : goal.returns
returns c = then_ready _ _ _ _ _ _ (rw (c.pointer_slots.ensures, c.from.ensures, c.signature-number.ensures) at c.put_guarded.ensures)
    (ready_then _ _ _ _ _ _ c.put_arguments.ensures (rw c.signature-number.ensures at c.put.ensures))
