use Rattle.std.proofs.Common.{refl}
use Rattle.c_types.specs.Layouts.{layout_of}
use Rattle.c_types.specs.Cells.{cells_at, holds_pointer}
use Rattle.c_types.specs.Equality.{physically_equal}
use Rattle.c_types.specs.Coverage.{kinds_agree}
use Rattle.flat_mem.specs.Bytes.{number, stored, zeroed, bytes_at, written}
use Rattle.src_mem.proofs.table.operations_on_a_small_memory.Goals as goal

pub returns-clause-moved : goal.returns-clause-moved
unfolding layout_of cells_at holds_pointer physically_equal kinds_agree number stored zeroed bytes_at written
returns-clause-moved c = refl

pub returns-clause-difference : goal.returns-clause-difference
unfolding layout_of cells_at holds_pointer physically_equal kinds_agree number stored zeroed bytes_at written
returns-clause-difference c = refl

pub returns-clause-read_inside : goal.returns-clause-read_inside
unfolding layout_of cells_at holds_pointer physically_equal kinds_agree number stored zeroed bytes_at written
returns-clause-read_inside c = refl

pub returns-clause-wild_read : goal.returns-clause-wild_read
unfolding layout_of cells_at holds_pointer physically_equal kinds_agree number stored zeroed bytes_at written
returns-clause-wild_read c = refl

pub returns-clause-wild_no_pointer : goal.returns-clause-wild_no_pointer
unfolding layout_of cells_at holds_pointer physically_equal kinds_agree number stored zeroed bytes_at written
returns-clause-wild_no_pointer c = refl

pub returns-clause-wild_copy : goal.returns-clause-wild_copy
unfolding layout_of cells_at holds_pointer physically_equal kinds_agree number stored zeroed bytes_at written
returns-clause-wild_copy c = refl

pub returns-clause-wild_copy_unaligned : goal.returns-clause-wild_copy_unaligned
unfolding layout_of cells_at holds_pointer physically_equal kinds_agree number stored zeroed bytes_at written
returns-clause-wild_copy_unaligned c = refl

pub returns-clause-zero_under_pointer : goal.returns-clause-zero_under_pointer
unfolding layout_of cells_at holds_pointer physically_equal kinds_agree number stored zeroed bytes_at written
returns-clause-zero_under_pointer c = refl

pub returns-clause-sequence_to_safe : goal.returns-clause-sequence_to_safe
unfolding layout_of cells_at holds_pointer physically_equal kinds_agree number stored zeroed bytes_at written
returns-clause-sequence_to_safe c = refl

pub returns-clause-sequence_to_safe_outside : goal.returns-clause-sequence_to_safe_outside
unfolding layout_of cells_at holds_pointer physically_equal kinds_agree number stored zeroed bytes_at written
returns-clause-sequence_to_safe_outside c = refl

pub returns-clause-sequence_to_typed : goal.returns-clause-sequence_to_typed
unfolding layout_of cells_at holds_pointer physically_equal kinds_agree number stored zeroed bytes_at written
returns-clause-sequence_to_typed c = refl

pub returns-clause-sequence_to_typed_outside : goal.returns-clause-sequence_to_typed_outside
unfolding layout_of cells_at holds_pointer physically_equal kinds_agree number stored zeroed bytes_at written
returns-clause-sequence_to_typed_outside c = refl

pub returns-clause-downcast : goal.returns-clause-downcast
unfolding layout_of cells_at holds_pointer physically_equal kinds_agree number stored zeroed bytes_at written
returns-clause-downcast c = refl

pub returns-clause-downcast_of_int : goal.returns-clause-downcast_of_int
unfolding layout_of cells_at holds_pointer physically_equal kinds_agree number stored zeroed bytes_at written
returns-clause-downcast_of_int c = refl

pub returns-clause-block_too_small : goal.returns-clause-block_too_small
unfolding layout_of cells_at holds_pointer physically_equal kinds_agree number stored zeroed bytes_at written
returns-clause-block_too_small c = refl

pub returns-clause-block : goal.returns-clause-block
unfolding layout_of cells_at holds_pointer physically_equal kinds_agree number stored zeroed bytes_at written
returns-clause-block c = refl

pub returns-clause-block_of_pointers : goal.returns-clause-block_of_pointers
unfolding layout_of cells_at holds_pointer physically_equal kinds_agree number stored zeroed bytes_at written
returns-clause-block_of_pointers c = refl

pub returns-clause-elements : goal.returns-clause-elements
unfolding layout_of cells_at holds_pointer physically_equal kinds_agree number stored zeroed bytes_at written
returns-clause-elements c = refl
