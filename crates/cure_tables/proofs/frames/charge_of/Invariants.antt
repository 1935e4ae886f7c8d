use Rattle.std.proofs.Common.{◌≡◌, map, take}
use Rattle.src_mem.specs.Memory.{frame_charge}
use Rattle.cil_form.specs.Machine.{plan}
use Rattle.cure_tables.proofs.frames.charge_of.Given as goal

abbrev pub invariant-variables : goal.invariant-variables
invariant-variables l = l.charge ≡ frame_charge l.types (map plan (take l.variable-index l.variables))
