use Rattle.cured_machine.proofs.RowLaws.{block-refused, chosen-other, above-words}
use Rattle.cured_machine.proofs.lookups.new_block.Goals as goal

pub returns-in-None-clause-address : goal.returns-in-None-clause-address
returns-in-None-clause-address c = chosen-other _ _ _ (block-refused c.args.flat.now _ _ (above-words _ _ (λ h. c.in-None.ensures h) c.requires))

pub returns-in-None-clause-memory : goal.returns-in-None-clause-memory
returns-in-None-clause-memory c = chosen-other _ _ _ (block-refused c.args.flat.now _ _ (above-words _ _ (λ h. c.in-None.ensures h) c.requires))
