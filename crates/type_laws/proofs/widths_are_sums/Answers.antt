use Rattle.std.proofs.Common.{sym}
use Rattle.type_laws.proofs.Widths.{before-sum}
use Rattle.type_laws.proofs.widths_are_sums.Goals as goal

pub returns : goal.returns
returns c kind cells i = sym (before-sum kind cells i)
