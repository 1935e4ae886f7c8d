use Rattle.std.proofs.Common.{◌≡◌, ◌+◌, drop, length}
use Rattle.flat_mem.specs.Bytes.{written}
use Rattle.flat_mem.specs.Memory.{with_bytes}
use Rattle.cured_machine.proofs.loading.write_bytes.Given as goal

abbrev pub invariant-loop-offset : goal.invariant-loop-offset
invariant-loop-offset l =
    (l.flat ≡ with_bytes l.initial.flat l.flat.bytes)
    × ((length l.flat.bytes ≡ length l.initial.flat.bytes)
    × (written (drop l.offset l.bytes) l.flat.bytes (l.at + l.offset) ≡ written l.bytes l.initial.flat.bytes l.at))
