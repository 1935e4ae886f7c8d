use Rattle.std.proofs.Common.{refl}
use Rattle.src_mem.specs.Runs.{nested_limit}
use Rattle.c_types.specs.Layouts.{layout_of}
use Rattle.c_types.specs.Cells.{cells_at, holds_pointer}
use Rattle.c_types.specs.Equality.{physically_equal}
use Rattle.flat_mem.specs.Bytes.{number, stored, zeroed}
use Rattle.cil_form.specs.declared.instr.Instr.TheBlock.{shape-the_row-Instr-0, hidden-the_row-Instr-0}
use Rattle.cil_form.proofs.ShapedPrograms.{renamed_program-in_shape}
use Rattle.cil_form.proofs.laws.an_object_is_named_with_each_of_its_types.Goals as goal

pub returns-clause-run : goal.returns-clause-run
unfolding nested_limit layout_of cells_at holds_pointer physically_equal number stored zeroed shape-the_row-Instr-0 hidden-the_row-Instr-0
returns-clause-run c alloc = refl

pub returns-clause-in_shape : goal.returns-clause-in_shape
returns-clause-in_shape c = renamed_program-in_shape
