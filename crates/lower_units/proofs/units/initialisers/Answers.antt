use Rattle.lower_units.proofs.HeadLaws.{draft_finished, draft_ready}
use Rattle.lower_units.proofs.units.initialisers.Goals as goal

pub finished-requires : goal.finished-requires
finished-requires c = draft_ready _ _ _ _ c.start-out.ensures (rw (c.as_slice.ensures, c.new-variables.ensures.empty) at c.statics.ensures) c.requires

pub returns : goal.returns
returns c = draft_finished _ _ _ _ _ c.start-out.ensures (rw (c.as_slice.ensures, c.new-variables.ensures.empty) at c.statics.ensures) c.finished.ensures
