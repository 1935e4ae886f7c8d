use Rattle.std.proofs.Common.{◌≡◌, length}
use Rattle.flat_mem.specs.Memory.{with_bytes}
use Rattle.cured_code.specs.FlatMachine.{globals_written}
use Rattle.cured_machine.proofs.LoadLaws.{AreLeft}
use Rattle.cured_machine.proofs.loading.write_globals.Given as goal

abbrev pub invariant-loop-global : goal.invariant-loop-global
invariant-loop-global l =
    (l.flat ≡ with_bytes l.initial.flat l.flat.bytes)
    × ((length l.flat.bytes ≡ length l.initial.flat.bytes)
    × AreLeft l.globals l.start l.global-index l.at l.flat.bytes (globals_written l.globals l.start l.initial.flat.bytes))
