use Rattle.check_insert.proofs.Laws.{grows_as, grows_puts}
use Rattle.cure_scope.specs.Scopes.{whole_of}
use Rattle.cure_scope.proofs.Laws.{grows_row}
use Rattle.cure_instrs.proofs.PieceLaws.{always, refused}
use Rattle.cure_points.proofs.comparing.put_difference_of.Goals as goal

pub returns : goal.returns
returns c = grows_row _ _ _ _ _ (rw (c.pointer_slots.ensures, c.pointer_slots-2.ensures, c.wild_numbers.ensures, c.size_at-size.ensures) at c.put_guarded.ensures)
    (grows_row _ _ _ _ _ c.put.ensures (rw c.size_at-size.ensures at c.put_quotient.ensures))
