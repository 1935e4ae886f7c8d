use Rattle.c_unit_limits.proofs.CellsUnits.{whole-cells}
use Rattle.c_unit_limits.proofs.cells.judging_counts_the_pointers_of_the_limit.Goals as goal

pub returns : goal.returns
returns c u whole r h = whole-cells u whole r h
