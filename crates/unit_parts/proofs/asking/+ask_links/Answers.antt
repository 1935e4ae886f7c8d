use Rattle.c_tree.proofs.TypedViewLaws.{typed_place-StructConditional}
use Rattle.unit_parts.proofs.Laws.{asks_linked}
use Rattle.unit_parts.proofs.asking.+ask_links.Goals as goal

pub returns-in-StructConditional : goal.returns-in-StructConditional
returns-in-StructConditional t c = rw (c.in-StructConditional.is, typed_place-StructConditional)
    (asks_linked _ _ _ _ _ _ (rw c.get-in-StructConditional.ensures at c.ask_links-in-StructConditional.ensures)
    (rw c.get-in-StructConditional-2.ensures at c.ask_links-in-StructConditional-2.ensures))
