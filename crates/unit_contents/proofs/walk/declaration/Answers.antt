use Rattle.unit_parts.proofs.Laws.{collects_then}
use Rattle.unit_contents.proofs.walk.declaration.Goals as goal

pub returns : goal.returns
returns c = collects_then _ _ _ _ _ _ _ _ c.specifiers.ensures (rw c.as_slice.ensures at c.init_declarators.ensures)
