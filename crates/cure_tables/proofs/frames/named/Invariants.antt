use Rattle.std.specs.List.{filter_map}
use Rattle.std.proofs.Common.{◌≡◌, map, take}
use Rattle.src_mem.specs.Runs.{planned}
use Rattle.cil_form.specs.Machine.{plan}
use Rattle.cure_tables.proofs.frames.named.Given as goal

abbrev pub invariant-parameters : goal.invariant-parameters
invariant-parameters l = map plan l.named.items ≡ filter_map (λ p. planned p.ty p.home) (take l.parameter-index l.parameters)
