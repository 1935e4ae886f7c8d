use Rattle.c_printed.proofs.Laws.{prints_then}
use Rattle.c_printed.proofs.statements.declaration.Goals as goal

pub returns : goal.returns
returns c = prints_then _ _ _ _ _ c.specifiers.ensures (rw c.as_slice.ensures at c.init_declarators.ensures)
