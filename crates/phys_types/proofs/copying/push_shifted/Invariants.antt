use Rattle.std.proofs.Common.{◌≡◌, ◌++◌, take, map}
use Rattle.phys_types.specs.Spots.{shifted}
use Rattle.phys_types.proofs.copying.push_shifted.Given as goal

abbrev pub invariant-loop-s : goal.invariant-loop-s
invariant-loop-s l = l.spots.items ≡ l.initial.spots.items ++ map (shifted l.n) (take l.s-index l.part)
