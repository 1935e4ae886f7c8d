use Rattle.cure_ready.proofs.Instructions.{can-cure}
use Rattle.cure_ready.proofs.can_be_cured.Goals as goal

pub returns : goal.returns
returns c k w i types after curable asked shaped = can-cure k w i types after curable asked shaped
