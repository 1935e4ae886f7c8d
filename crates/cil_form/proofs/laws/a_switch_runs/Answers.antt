use Rattle.std.proofs.Common.{refl}
use Rattle.src_mem.specs.Runs.{nested_limit}
use Rattle.c_types.specs.Layouts.{layout_of}
use Rattle.c_types.specs.Cells.{cells_at, holds_pointer}
use Rattle.c_types.specs.Equality.{physically_equal}
use Rattle.flat_mem.specs.Bytes.{number, stored, zeroed}
use Rattle.cil_form.specs.declared.instr.Instr.TheBlock.{shape-the_row-Instr-0, hidden-the_row-Instr-0}
use denote.Hole.Carrier
use Rattle.cil_form.proofs.laws.a_switch_runs.Goals as goal

pub returns-clause-first : goal.returns-clause-first
unfolding nested_limit layout_of cells_at holds_pointer physically_equal number stored zeroed shape-the_row-Instr-0 hidden-the_row-Instr-0 Carrier.hidden
returns-clause-first c alloc = refl

pub returns-clause-second : goal.returns-clause-second
unfolding nested_limit layout_of cells_at holds_pointer physically_equal number stored zeroed shape-the_row-Instr-0 hidden-the_row-Instr-0 Carrier.hidden
returns-clause-second c alloc = refl

pub returns-clause-other : goal.returns-clause-other
unfolding nested_limit layout_of cells_at holds_pointer physically_equal number stored zeroed shape-the_row-Instr-0 hidden-the_row-Instr-0 Carrier.hidden
returns-clause-other c alloc = refl
