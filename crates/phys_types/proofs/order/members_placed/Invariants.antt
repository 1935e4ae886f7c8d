use Rattle.std.proofs.Common.{◌≡◌, drop}
use Rattle.std.specs.List.{list_all}
use Rattle.c_types.specs.Table.{members_at}
use Rattle.phys_types.specs.Orders.{is_marked}
use Rattle.phys_types.proofs.order.members_placed.Given as goal

abbrev pub invariant-members : goal.invariant-members
invariant-members l = list_all (is_marked l.placed) (drop l.i (members_at l.types l.t)) ≡ list_all (is_marked l.placed) (members_at l.types l.t)
