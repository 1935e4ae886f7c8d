use Rattle.std.proofs.Common.{◌≡◌, ◌++◌, take, drop}
use Rattle.phys_types.specs.Numbers.{spots_before}
use Rattle.phys_types.proofs.comparing.spots_before.Given as goal

abbrev pub invariant-loop-i : goal.invariant-loop-i
invariant-loop-i l = take l.i l.spots ++ spots_before l.n (drop l.i l.spots) ≡ spots_before l.n l.spots
