use Rattle.std.proofs.Common.{◌≡◌, ◌-◌}
use Rattle.flat_mem.specs.Bytes.{zeroed}
use Rattle.flat_mem.proofs.numbers.zero_at.Given as goal

abbrev pub invariant-loop-i : goal.invariant-loop-i
invariant-loop-i l = l.bytes ≡ zeroed (l.i - l.at) l.initial.bytes l.at
