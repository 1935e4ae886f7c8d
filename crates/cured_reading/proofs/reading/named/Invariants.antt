use Rattle.std.proofs.Common.{◌≡◌, map, take}
use Rattle.cured_code.specs.Ranges.{sigs_of}
use Rattle.cured_reading.proofs.reading.named.Given as goal

abbrev pub invariant-loop-head : goal.invariant-loop-head
invariant-loop-head l = sigs_of l.named.items ≡ map (λ h. h.sig) (take l.head-index l.heads)
