use Rattle.std.proofs.Common.{refl}
use Rattle.c_types.specs.Layouts.{layout_of}
use Rattle.c_types.specs.Cells.{cells_at, holds_pointer}
use Rattle.c_types.specs.Equality.{physically_equal}
use Rattle.flat_mem.specs.Bytes.{number, stored, zeroed, bytes_at, written}
use Rattle.c_types.specs.Coverage.{kinds_agree}
use Rattle.src_mem.specs.Runs.{nested_limit}
use Rattle.src_machine.proofs.addresses_are_tested_where_they_are_used.Goals as goal

pub returns-clause-unsound_kinds : goal.returns-clause-unsound_kinds
unfolding layout_of cells_at holds_pointer physically_equal number stored zeroed bytes_at written kinds_agree nested_limit
returns-clause-unsound_kinds c = refl

pub returns-clause-written_before : goal.returns-clause-written_before
unfolding layout_of cells_at holds_pointer physically_equal number stored zeroed bytes_at written kinds_agree nested_limit
returns-clause-written_before c = refl

pub returns-clause-stopped : goal.returns-clause-stopped
unfolding layout_of cells_at holds_pointer physically_equal number stored zeroed bytes_at written kinds_agree nested_limit
returns-clause-stopped c = refl
