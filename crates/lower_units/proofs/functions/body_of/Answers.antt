use Rattle.lower_units.proofs.HeadLaws.{draft_finished, draft_ready}
use Rattle.lower_units.proofs.functions.body_of.Goals as goal

pub finished-requires : goal.finished-requires
finished-requires c = draft_ready _ _ _ _ c.start-out.ensures c.block.ensures c.requires

pub returns : goal.returns
returns c = draft_finished _ _ _ _ _ c.start-out.ensures c.block.ensures c.finished.ensures
