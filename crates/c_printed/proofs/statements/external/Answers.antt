use Rattle.c_printed.proofs.Laws.{prints_then}
use Rattle.c_printed.proofs.statements.external.Goals as goal

pub returns-in-Declaration : goal.returns-in-Declaration
returns-in-Declaration c = λ all start before. rw c.in-Declaration.is (prints_then _ _ _ _ _ before c.declaration.ensures)

pub returns-in-Function : goal.returns-in-Function
returns-in-Function c = λ all start before. rw c.in-Function.is (prints_then _ _ _ _ _
    (prints_then _ _ _ _ _ (prints_then _ _ _ _ _ before c.specifiers.ensures) c.declarator.ensures) (rw c.as_slice.ensures at c.block.ensures))
