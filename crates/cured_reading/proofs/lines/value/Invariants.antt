use Rattle.std.proofs.Common.{◌≡◌, drop}
use Rattle.cured_reading.proofs.NumberLaws.{value_of}
use Rattle.cured_reading.proofs.lines.value.Given as goal

abbrev pub invariant-loop-digit : goal.invariant-loop-digit
invariant-loop-digit l = value_of l.value (drop l.digit-index l.digits) ≡ value_of 0 l.digits
