use Rattle.check_insert.proofs.Laws.{asks_append}
use Rattle.check_insert.proofs.checks.put_asked.Goals as goal

pub returns-in-ReadInteger : goal.returns-in-ReadInteger
returns-in-ReadInteger c = rw c.in-ReadInteger.is (asks_append _ _ _ _ _ _ c.put_reached.ensures c.put_plain.ensures)

pub returns-in-ReadPointer : goal.returns-in-ReadPointer
returns-in-ReadPointer c =
    rw c.in-ReadPointer.is
    (asks_append _ _ _ _ _ _ (asks_append _ _ _ _ _ _ c.put_reached-in-ReadPointer.ensures c.put_aligned.ensures) c.put_pointer.ensures)

pub returns-in-WritePointer : goal.returns-in-WritePointer
returns-in-WritePointer c =
    rw c.in-WritePointer.is
    (asks_append _ _ _ _ _ _ (asks_append _ _ _ _ _ _ c.put_reached-in-WritePointer.ensures c.put_aligned-in-WritePointer.ensures)
    (rw (c.stop.ensures, c.home_slot.ensures) at c.ask.ensures))

pub returns-in-CopyPlain : goal.returns-in-CopyPlain
returns-in-CopyPlain c =
    rw c.in-CopyPlain.is
    (asks_append _ _ _ _ _ _ (asks_append _ _ _ _ _ _ c.put_reached-in-CopyPlain.ensures c.put_plain-in-CopyPlain.ensures)
    c.put_reached-in-CopyPlain-2.ensures)

pub returns-in-CopyPointers : goal.returns-in-CopyPointers
returns-in-CopyPointers c =
    rw c.in-CopyPointers.is
    (asks_append _ _ _ _ _ _
    (asks_append _ _ _ _ _ _
    (asks_append _ _ _ _ _ _ (asks_append _ _ _ _ _ _ c.put_reached-in-CopyPointers.ensures c.put_aligned-in-CopyPointers.ensures)
    c.put_reached-in-CopyPointers-2.ensures) c.put_aligned-in-CopyPointers-2.ensures) c.put_kept.ensures)

pub returns-in-Move : goal.returns-in-Move
returns-in-Move c =
    rw c.in-Move.is
    (asks_append _ _ _ _ _ _ (asks_append _ _ _ _ _ _ c.put_based.ensures c.put_factor.ensures) (rw c.stop-in-Move.ensures at c.ask-in-Move.ensures))

pub returns-in-Order : goal.returns-in-Order
returns-in-Order c =
    rw c.in-Order.is
    (asks_append _ _ _ _ _ _ (asks_append _ _ _ _ _ _ c.put_based-in-Order.ensures c.put_based-in-Order-2.ensures) c.put_order.ensures)

pub returns-in-DivideSigned : goal.returns-in-DivideSigned
returns-in-DivideSigned c =
    rw c.in-DivideSigned.is
    (asks_append _ _ _ _ _ _ (rw c.stop-stop.ensures at c.ask-in-DivideSigned.ensures) (rw c.stop-stop.ensures at c.ask-in-DivideSigned-2.ensures))
