use Rattle.lower_sites.proofs.NameLaws.{tells_all, tells_front}
use Rattle.lower_sites.proofs.walk.external.Goals as goal

pub returns-in-Declaration : goal.returns-in-Declaration
returns-in-Declaration c = λ all start before. rw c.in-Declaration.is (tells_all _ _ _ _ _ _ before c.declaration.ensures)

pub returns-in-Function : goal.returns-in-Function
returns-in-Function c = λ all start before. rw c.in-Function.is (tells_front _ _ _ _ _ _ _ _ before c.tell.ensures (rw c.as_slice.ensures at c.block.ensures))
