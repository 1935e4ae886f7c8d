use Rattle.std.proofs.Common.{take}
use Rattle.c_tree.specs.TypedParts.{made_by_stars}
use Rattle.c_printed.specs.Printing.{Prints}
use Rattle.c_printed.proofs.leaves.put_stars.Given as goal

abbrev pub invariant-loop-star : goal.invariant-loop-star
invariant-loop-star l = record { found : Prints (made_by_stars (take l.star-index l.all)) l.fn.out l.out }
