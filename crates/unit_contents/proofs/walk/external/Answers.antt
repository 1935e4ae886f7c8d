use Rattle.unit_parts.proofs.Laws.{collects_then}
use Rattle.unit_contents.proofs.walk.external.Goals as goal

pub returns-in-Declaration : goal.returns-in-Declaration
returns-in-Declaration c = λ all start before. rw c.in-Declaration.is (collects_then _ _ _ _ _ _ _ _ before c.declaration.ensures)

pub returns-in-Function : goal.returns-in-Function
returns-in-Function c = λ all start before. rw c.in-Function.is (collects_then _ _ _ _ _ _ _ _
    (collects_then _ _ _ _ _ _ _ _ (collects_then _ _ _ _ _ _ _ _ before c.specifiers.ensures) c.declarator.ensures) (rw c.as_slice.ensures at c.block.ensures))
