use Rattle.std.proofs.Common.{◌≡◌, take}
use Rattle.phys_types.specs.Turning.{written}
use Rattle.phys_types.proofs.turning.write.Given as goal

abbrev pub invariant-numbers : goal.invariant-numbers
invariant-numbers l = l.numbers ≡ written (λ e. e.number) l.fn.numbers (take l.e-index l.es)
