use Rattle.std.proofs.Common.{◌≡◌, take}
use Rattle.std.specs.Prelude.{sum_by}
use Rattle.c_types.specs.PointerCounts.{pointers_in}
use Rattle.c_types.proofs.table.Types.pointers_of_all.Given as goal

abbrev pub invariant-members : goal.invariant-members
invariant-members l = l.total ≡ sum_by (pointers_in l.self) (take l.m-index l.members)
