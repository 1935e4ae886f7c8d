use Rattle.std.proofs.Common.{◌≡◌}
use Rattle.flat_mem.specs.Bytes.{moved}
use Rattle.flat_mem.proofs.numbers.move_down.Given as goal

abbrev pub invariant-loop-i : goal.invariant-loop-i
invariant-loop-i l = l.bytes ≡ moved l.i l.initial.bytes l.to l.from
