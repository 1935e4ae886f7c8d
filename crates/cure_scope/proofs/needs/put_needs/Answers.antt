use Rattle.cure_rules.specs.Slots.{Least, Span}
use Rattle.cure_scope.proofs.Laws.{needs_append, needs_more}
use Rattle.cure_scope.proofs.needs.put_needs.Goals as goal

pub returns-in-ReadPointer : goal.returns-in-ReadPointer
returns-in-ReadPointer c = rw c.in-ReadPointer.is (needs_append _ _ _ _ _ (needs_append _ _ _ _ _ c.put_reach-in-ReadPointer.ensures c.put_aligned.ensures) c.put_tagged.ensures)

pub returns-in-WritePointer : goal.returns-in-WritePointer
returns-in-WritePointer c = rw c.in-WritePointer.is (needs_append _ _ _ _ _ c.put_reach-in-WritePointer.ensures c.put_aligned-in-WritePointer.ensures)

pub returns-in-CopyPlain : goal.returns-in-CopyPlain
returns-in-CopyPlain c = rw c.in-CopyPlain.is (needs_append _ _ _ _ _ c.put_reach-in-CopyPlain.ensures c.put_reach-in-CopyPlain-2.ensures)

pub returns-in-CopyPointers : goal.returns-in-CopyPointers
returns-in-CopyPointers c = rw c.in-CopyPointers.is (needs_append _ _ _ _ _ (needs_append _ _ _ _ _ (needs_append _ _ _ _ _ c.put_reach-in-CopyPointers.ensures c.put_aligned-in-CopyPointers.ensures) c.put_reach-in-CopyPointers-2.ensures) c.put_aligned-in-CopyPointers-2.ensures)

pub returns-in-Move : goal.returns-in-Move
returns-in-Move c = rw c.in-Move.is (needs_append _ _ _ _ _ (needs_append _ _ _ _ _ (needs_append _ _ _ _ _ c.put_base.ensures c.put_factor.ensures) c.put_distance.ensures) c.put_near.ensures)

pub returns-in-Order : goal.returns-in-Order
returns-in-Order c = rw c.in-Order.is (needs_append _ _ _ _ _ (needs_append _ _ _ _ _ c.put_base-in-Order.ensures c.put_base-in-Order-2.ensures) c.put_apart.ensures)

pub returns-in-DivideSigned : goal.returns-in-DivideSigned
returns-in-DivideSigned c = rw c.in-DivideSigned.is (needs_more _ _ _ _ _ (c.put_number.ensures Least) (c.put_number-in-DivideSigned.ensures Span))
