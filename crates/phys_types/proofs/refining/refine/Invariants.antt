use Rattle.std.proofs.Common.{◌≡◌, List, length}
use Rattle.cc_base.specs.declared.number.TypeId.{TypeId}
use Rattle.c_types.specs.Cells.{Relation}
use Rattle.phys_types.specs.Orders.{IsWholeOrder}
use Rattle.phys_types.specs.Refining.{IsCoarser, IsWide}
use Rattle.phys_types.specs.Rounds.{AreShown}
use Rattle.phys_types.specs.Turning.{IsTurning}
use Rattle.phys_types.proofs.refining.refine.Given as goal

abbrev pub invariant-turns : goal.invariant-turns
invariant-turns l =
    (E : Relation) (order : List TypeId) → IsWholeOrder l.types order l.places → IsWide l.types E → length l.layouts ≡ length order → AreShown l.types E order l.layouts
    → IsCoarser l.types l.fn.numbers → IsTurning l.types l.graph.targets.items l.graph.readers.items l.finer.items l.fresh.items l.changed.items
