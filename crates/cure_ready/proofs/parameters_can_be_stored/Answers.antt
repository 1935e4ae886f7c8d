use Rattle.cure_ready.proofs.Programs.{parameters-stored}
use Rattle.cure_ready.proofs.parameters_can_be_stored.Goals as goal

pub returns : goal.returns
returns c p f w shape told there curable = parameters-stored p f w curable shape told there
