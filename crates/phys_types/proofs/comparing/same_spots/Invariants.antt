use Rattle.std.proofs.Common.{◌≡◌, drop}
use Rattle.phys_types.specs.Numbers.{number_in, same_spots}
use Rattle.phys_types.proofs.comparing.same_spots.Given as goal

abbrev pub invariant-loop-i : goal.invariant-loop-i
invariant-loop-i l = same_spots (number_in l.numbers) (drop l.i l.xs) (drop l.i l.ys) ≡ same_spots (number_in l.numbers) l.xs l.ys
