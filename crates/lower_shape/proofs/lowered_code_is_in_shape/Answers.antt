use Rattle.lower_shape.proofs.Whole.{program-shaped}
use Rattle.lower_shape.proofs.lowered_code_is_in_shape.Goals as goal

pub returns : goal.returns
returns c unit program w limits height l = program-shaped unit program w limits height l
