use Rattle.std.proofs.Common.{refl}
use Rattle.cil_form.proofs.laws.nothing_runs_behind_a_break.Goals as goal

pub returns : goal.returns
returns c k is w d = refl
