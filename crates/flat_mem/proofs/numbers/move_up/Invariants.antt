use Rattle.std.proofs.Common.{◌≡◌, ◌-◌, ◌+◌}
use Rattle.flat_mem.specs.Bytes.{moved}
use Rattle.flat_mem.proofs.numbers.move_up.Given as goal

abbrev pub invariant-loop-i : goal.invariant-loop-i
invariant-loop-i l = l.bytes ≡ moved (l.n - l.i) l.initial.bytes (l.to + l.i) (l.from + l.i)
