use Rattle.cil_form.specs.Laws.{IsBelow, IsAround}
use Rattle.cil_form.proofs.KeepLaws.{run-keeps}
use Rattle.cil_form.proofs.laws.temporaries_that_are_not_written_are_kept.Goals as goal

pub returns-clause-below : goal.returns-clause-below
returns-clause-below c is w t d = run-keeps is w (IsBelow t) d

pub returns-clause-around : goal.returns-clause-around
returns-clause-around c is w depth d = run-keeps is w (IsAround depth) d
