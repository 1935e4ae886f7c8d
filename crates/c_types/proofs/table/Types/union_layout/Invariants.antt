use Rattle.c_types.specs.Layouts.{layout_of}
use Rattle.c_types.proofs.Laying.{IsUnited}
use Rattle.c_types.proofs.table.Types.union_layout.Given as goal

abbrev pub invariant-members : goal.invariant-members
invariant-members l = IsUnited (layout_of l.self) l.members l.m-index l.size l.align
