use Rattle.std.proofs.Common.{◌≡◌, ◌+◌, drop}
use Rattle.cured_reading.specs.Parts.{size_before}
use Rattle.cured_reading.proofs.parts_of_text.size_before.Given as goal

abbrev pub invariant-loop-i : goal.invariant-loop-i
invariant-loop-i l = size_before l.byte l.bytes ≡ l.i + size_before l.byte (drop l.i l.bytes)
