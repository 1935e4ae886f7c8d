use Rattle.cure_instrs.proofs.PieceLaws.{line_more, then_ready}
use Rattle.cure_objects.proofs.copying.put_pointer.Goals as goal

pub returns : goal.returns
returns c =
    then_ready _ _ _ _ _ _ (rw c.pointer_offset-far.ensures at c.put.ensures)
    (then_ready _ _ _ _ _ _ (line_more _ _ _ _ _ c.put-2.ensures (rw c.kind_of-kind.ensures at c.put_words_loaded.ensures))
    (rw (c.home_slot-home.ensures, c.pointer_slots.ensures, c.kind_of-kind.ensures) at c.put_guarded.ensures))
