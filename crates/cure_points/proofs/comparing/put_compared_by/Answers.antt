use Rattle.check_insert.proofs.Laws.{grows_as, grows_puts}
use Rattle.cure_scope.specs.Scopes.{whole_of}
use Rattle.cure_scope.proofs.Laws.{grows_row}
use Rattle.cure_instrs.proofs.PieceLaws.{always, refused}
use Rattle.cure_points.proofs.comparing.put_compared_by.Goals as goal

pub returns : goal.returns
returns c = grows_row _ _ _ _ _ (rw (c.comparing.ensures c.args.p.left, c.pointer_slots-a.ensures, c.pointer_slots-b.ensures) at c.put_guarded.ensures)
    (rw (c.pointer_slots-a.ensures, c.pointer_slots-b.ensures) at (c.put_comparison.ensures c.args.k.now))
