use Rattle.cil_form.proofs.HeldLaws.{none-temps, known-at, if-sides, block-entry, loop-entry}
use Rattle.cil_form.proofs.laws.at_most_256_values_are_held.Goals as goal

pub returns-clause-begins : goal.returns-clause-begins
returns-clause-begins c = none-temps

pub returns-clause-behind : goal.returns-clause-behind
returns-clause-behind c = known-at

pub returns-clause-sides : goal.returns-clause-sides
returns-clause-sides c = if-sides

pub returns-clause-blocks : goal.returns-clause-blocks
returns-clause-blocks c = block-entry

pub returns-clause-loops : goal.returns-clause-loops
returns-clause-loops c = loop-entry
