use Rattle.std.proofs.Common.{◌≡◌, ◌-◌}
use Rattle.flat_mem.specs.Bytes.{zeroed}
use Rattle.cured_machine.proofs.slot_rows.put_few_zeros.Given as goal

abbrev pub invariant-loop-i : goal.invariant-loop-i
invariant-loop-i l = l.frame ≡ zeroed (l.i - (l.i - l.count)) l.initial.frame 0
