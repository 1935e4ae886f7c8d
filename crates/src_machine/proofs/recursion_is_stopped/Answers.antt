use Rattle.std.proofs.Common.{refl}
use Rattle.c_types.specs.Layouts.{layout_of}
use Rattle.c_types.specs.Cells.{cells_at, holds_pointer}
use Rattle.c_types.specs.Equality.{physically_equal}
use Rattle.flat_mem.specs.Bytes.{number, stored, zeroed, bytes_at, written}
use Rattle.c_types.specs.Coverage.{kinds_agree}
use Rattle.src_mem.specs.Runs.{nested_limit}
use Rattle.src_machine.proofs.recursion_is_stopped.Goals as goal

pub returns-clause-goes_on : goal.returns-clause-goes_on
unfolding layout_of cells_at holds_pointer physically_equal number stored zeroed bytes_at written kinds_agree nested_limit
returns-clause-goes_on c = refl

pub returns-clause-stops : goal.returns-clause-stops
unfolding layout_of cells_at holds_pointer physically_equal number stored zeroed bytes_at written kinds_agree nested_limit
returns-clause-stops c = refl
