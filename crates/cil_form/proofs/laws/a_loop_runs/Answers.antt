use Rattle.std.proofs.Common.{refl}
use Rattle.src_mem.specs.Runs.{nested_limit}
use Rattle.c_types.specs.Layouts.{layout_of}
use Rattle.c_types.specs.Cells.{cells_at, holds_pointer}
use Rattle.c_types.specs.Equality.{physically_equal}
use Rattle.flat_mem.specs.Bytes.{number, stored, zeroed}
use Rattle.cil_form.specs.declared.instr.Instr.TheBlock.{shape-the_row-Instr-0, hidden-the_row-Instr-0}
use denote.Hole.Carrier
use Rattle.cil_form.proofs.laws.a_loop_runs.Goals as goal

pub returns-clause-ending : goal.returns-clause-ending
unfolding nested_limit layout_of cells_at holds_pointer physically_equal number stored zeroed shape-the_row-Instr-0 hidden-the_row-Instr-0 Carrier.hidden
returns-clause-ending c alloc = refl

pub returns-clause-output : goal.returns-clause-output
unfolding nested_limit layout_of cells_at holds_pointer physically_equal number stored zeroed shape-the_row-Instr-0 hidden-the_row-Instr-0 Carrier.hidden
returns-clause-output c alloc = refl

pub returns-clause-spent : goal.returns-clause-spent
unfolding nested_limit layout_of cells_at holds_pointer physically_equal number stored zeroed shape-the_row-Instr-0 hidden-the_row-Instr-0 Carrier.hidden
returns-clause-spent c alloc = refl
