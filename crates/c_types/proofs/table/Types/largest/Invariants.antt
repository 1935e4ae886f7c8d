use Rattle.std.proofs.Common.{◌≡◌, take, None}
use Rattle.std.specs.Prelude.{IfSome}
use Rattle.c_types.specs.Table.{IsComplete}
use Rattle.c_types.specs.Layouts.{size_of}
use Rattle.c_types.specs.PointerCounts.{largest_member}
use Rattle.c_types.proofs.table.Types.largest.Given as goal

abbrev pub invariant-members : goal.invariant-members
invariant-members l = record {
  same : l.found ≡ largest_member (size_of l.self) None (take l.m-index l.members);
  complete : IfSome l.found (IsComplete l.self);
}
