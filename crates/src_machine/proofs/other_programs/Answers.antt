use Rattle.std.proofs.Common.{refl}
use Rattle.c_types.specs.Layouts.{layout_of}
use Rattle.c_types.specs.Cells.{cells_at, holds_pointer}
use Rattle.c_types.specs.Equality.{physically_equal}
use Rattle.flat_mem.specs.Bytes.{number, stored, zeroed, bytes_at, written}
use Rattle.c_types.specs.Coverage.{kinds_agree}
use Rattle.src_mem.specs.Runs.{nested_limit}
use Rattle.src_machine.proofs.other_programs.Goals as goal

pub returns-clause-union_read : goal.returns-clause-union_read
unfolding layout_of cells_at holds_pointer physically_equal number stored zeroed bytes_at written kinds_agree nested_limit
returns-clause-union_read c = refl

pub returns-clause-divided_by_zero : goal.returns-clause-divided_by_zero
unfolding layout_of cells_at holds_pointer physically_equal number stored zeroed bytes_at written kinds_agree nested_limit
returns-clause-divided_by_zero c = refl

pub returns-clause-end_of_input : goal.returns-clause-end_of_input
unfolding layout_of cells_at holds_pointer physically_equal number stored zeroed bytes_at written kinds_agree nested_limit
returns-clause-end_of_input c = refl

pub returns-clause-last_byte : goal.returns-clause-last_byte
unfolding layout_of cells_at holds_pointer physically_equal number stored zeroed bytes_at written kinds_agree nested_limit
returns-clause-last_byte c = refl

pub returns-clause-more_input : goal.returns-clause-more_input
unfolding layout_of cells_at holds_pointer physically_equal number stored zeroed bytes_at written kinds_agree nested_limit
returns-clause-more_input c = refl

pub returns-clause-goes_on : goal.returns-clause-goes_on
unfolding layout_of cells_at holds_pointer physically_equal number stored zeroed bytes_at written kinds_agree nested_limit
returns-clause-goes_on c = refl

pub returns-clause-cast_down : goal.returns-clause-cast_down
unfolding layout_of cells_at holds_pointer physically_equal number stored zeroed bytes_at written kinds_agree nested_limit
returns-clause-cast_down c = refl

pub returns-clause-called_otherwise : goal.returns-clause-called_otherwise
unfolding layout_of cells_at holds_pointer physically_equal number stored zeroed bytes_at written kinds_agree nested_limit
returns-clause-called_otherwise c = refl

pub returns-clause-calls : goal.returns-clause-calls
unfolding layout_of cells_at holds_pointer physically_equal number stored zeroed bytes_at written kinds_agree nested_limit
returns-clause-calls c = refl

pub returns-clause-null_freed : goal.returns-clause-null_freed
unfolding layout_of cells_at holds_pointer physically_equal number stored zeroed bytes_at written kinds_agree nested_limit
returns-clause-null_freed c = refl

pub returns-clause-chosen : goal.returns-clause-chosen
unfolding layout_of cells_at holds_pointer physically_equal number stored zeroed bytes_at written kinds_agree nested_limit
returns-clause-chosen c = refl
