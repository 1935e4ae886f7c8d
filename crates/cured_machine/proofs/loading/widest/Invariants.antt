use Rattle.std.proofs.Common.{◌≤◌, All, take}
use Rattle.cured_machine.proofs.loading.widest.Given as goal

abbrev pub invariant-loop-function : goal.invariant-loop-function
invariant-loop-function l = All (λ f. f.slots ≤ l.most) (take l.function-index l.functions)
