use Rattle.std.proofs.Common.{◌≡◌, take}
use Rattle.flat_mem.specs.Bytes.{written}
use Rattle.cured_machine.proofs.slot_rows.put_each.Given as goal

abbrev pub invariant-loop-i : goal.invariant-loop-i
invariant-loop-i l = l.frame ≡ written (take l.i l.words) l.initial.frame l.at
