use Rattle.std.proofs.Common.{◌≡◌, ◌+◌, max, drop}
use Rattle.c_check_operators.proofs.CallLaws.{held_rest}
use Rattle.c_check_operators.proofs.calls.arguments_held.Given as goal

abbrev pub invariant-loop-v : goal.invariant-loop-v
invariant-loop-v l = (l.before ≡ l.v-index + 1) × (max l.most (held_rest l.before (drop l.v-index l.values)) ≡ held_rest 1 l.values)
