use Rattle.std.proofs.Common.{refl}
use Rattle.c_types.specs.Layouts.{layout_of}
use Rattle.c_types.specs.Cells.{cells_at, holds_pointer}
use Rattle.c_types.specs.Equality.{physically_equal}
use Rattle.flat_mem.specs.Bytes.{number, stored, zeroed, bytes_at, written}
use Rattle.c_types.specs.Coverage.{kinds_agree}
use Rattle.src_mem.specs.Runs.{nested_limit}
use Rattle.src_machine.proofs.statements_and_initialisers.Goals as goal

pub returns-clause-controlled : goal.returns-clause-controlled
unfolding layout_of cells_at holds_pointer physically_equal number stored zeroed bytes_at written kinds_agree nested_limit
returns-clause-controlled c = refl

pub returns-clause-initialised : goal.returns-clause-initialised
unfolding layout_of cells_at holds_pointer physically_equal number stored zeroed bytes_at written kinds_agree nested_limit
returns-clause-initialised c = refl

pub returns-clause-status : goal.returns-clause-status
unfolding layout_of cells_at holds_pointer physically_equal number stored zeroed bytes_at written kinds_agree nested_limit
returns-clause-status c = refl

pub returns-clause-updated : goal.returns-clause-updated
unfolding layout_of cells_at holds_pointer physically_equal number stored zeroed bytes_at written kinds_agree nested_limit
returns-clause-updated c = refl

pub returns-clause-compared : goal.returns-clause-compared
unfolding layout_of cells_at holds_pointer physically_equal number stored zeroed bytes_at written kinds_agree nested_limit
returns-clause-compared c = refl
