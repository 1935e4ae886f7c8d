use Rattle.std.proofs.Common.{refl}
use Rattle.c_types.specs.Layouts.{layout_of}
use Rattle.c_types.specs.Cells.{cells_at, holds_pointer}
use Rattle.c_types.specs.Equality.{physically_equal}
use Rattle.c_types.specs.Coverage.{kinds_agree}
use Rattle.src_mem.proofs.table.conditions_at_their_ends.Goals as goal

pub returns-clause-is_made_for : goal.returns-clause-is_made_for
unfolding layout_of cells_at holds_pointer physically_equal kinds_agree
returns-clause-is_made_for c = refl

pub returns-clause-is_function_of : goal.returns-clause-is_function_of
unfolding layout_of cells_at holds_pointer physically_equal kinds_agree
returns-clause-is_function_of c = refl

pub returns-clause-is_no_function_of : goal.returns-clause-is_no_function_of
unfolding layout_of cells_at holds_pointer physically_equal kinds_agree
returns-clause-is_no_function_of c = refl
