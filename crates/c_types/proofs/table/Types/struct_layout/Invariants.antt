use Rattle.c_types.specs.Layouts.{layout_of}
use Rattle.c_types.proofs.Laying.{IsLaid}
use Rattle.c_types.proofs.table.Types.struct_layout.Given as goal

abbrev pub invariant-members : goal.invariant-members
invariant-members l = IsLaid (layout_of l.self) l.members l.m-index l.end l.align
