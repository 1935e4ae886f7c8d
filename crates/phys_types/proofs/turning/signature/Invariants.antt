use Rattle.std.proofs.Common.{◌≡◌, take}
use Rattle.phys_types.specs.Numbers.{number_in}
use Rattle.phys_types.specs.Signatures.{mixed_all}
use Rattle.phys_types.proofs.turning.signature.Given as goal

abbrev pub invariant-targets : goal.invariant-targets
invariant-targets l = l.signature ≡ mixed_all 0 (number_in l.numbers) (take l.to-index l.targets)
