use Rattle.cure_scope.proofs.Laws.{grows_row}
use Rattle.cure_points.proofs.moving.put_moved.Goals as goal

pub returns : goal.returns
returns c = grows_row _ _ _ _ _
    (rw (c.pointer_slots.ensures, c.direction_of.ensures, c.factor_at.ensures, c.distance_at.ensures, c.wild_numbers.ensures, c.reach_at.ensures, c.reach_of-size.ensures) at c.put_guarded.ensures)
    c.put_moved_words.ensures
