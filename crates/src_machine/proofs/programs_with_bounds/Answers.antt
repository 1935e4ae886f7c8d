use Rattle.std.proofs.Common.{refl}
use Rattle.c_types.specs.Layouts.{layout_of}
use Rattle.c_types.specs.Cells.{cells_at, holds_pointer}
use Rattle.c_types.specs.Equality.{physically_equal}
use Rattle.flat_mem.specs.Bytes.{number, stored, zeroed, bytes_at, written}
use Rattle.c_types.specs.Coverage.{kinds_agree}
use Rattle.src_mem.specs.Runs.{nested_limit}
use Rattle.src_machine.proofs.programs_with_bounds.Goals as goal

pub returns-clause-null_read : goal.returns-clause-null_read
unfolding layout_of cells_at holds_pointer physically_equal number stored zeroed bytes_at written kinds_agree nested_limit
returns-clause-null_read c = refl

pub returns-clause-past_the_end : goal.returns-clause-past_the_end
unfolding layout_of cells_at holds_pointer physically_equal number stored zeroed bytes_at written kinds_agree nested_limit
returns-clause-past_the_end c = refl

pub returns-clause-four_turns : goal.returns-clause-four_turns
unfolding layout_of cells_at holds_pointer physically_equal number stored zeroed bytes_at written kinds_agree nested_limit
returns-clause-four_turns c = refl

pub returns-clause-three_turns : goal.returns-clause-three_turns
unfolding layout_of cells_at holds_pointer physically_equal number stored zeroed bytes_at written kinds_agree nested_limit
returns-clause-three_turns c = refl

pub returns-clause-address_kept : goal.returns-clause-address_kept
unfolding layout_of cells_at holds_pointer physically_equal number stored zeroed bytes_at written kinds_agree nested_limit
returns-clause-address_kept c = refl

pub returns-clause-freed_read : goal.returns-clause-freed_read
unfolding layout_of cells_at holds_pointer physically_equal number stored zeroed bytes_at written kinds_agree nested_limit
returns-clause-freed_read c = refl

pub returns-clause-size_of_pointer : goal.returns-clause-size_of_pointer
unfolding layout_of cells_at holds_pointer physically_equal number stored zeroed bytes_at written kinds_agree nested_limit
returns-clause-size_of_pointer c = refl

pub returns-clause-moved_too_far : goal.returns-clause-moved_too_far
unfolding layout_of cells_at holds_pointer physically_equal number stored zeroed bytes_at written kinds_agree nested_limit
returns-clause-moved_too_far c = refl

pub returns-clause-struct_kept : goal.returns-clause-struct_kept
unfolding layout_of cells_at holds_pointer physically_equal number stored zeroed bytes_at written kinds_agree nested_limit
returns-clause-struct_kept c = refl

pub returns-clause-copied_from_choice : goal.returns-clause-copied_from_choice
unfolding layout_of cells_at holds_pointer physically_equal number stored zeroed bytes_at written kinds_agree nested_limit
returns-clause-copied_from_choice c = refl

pub returns-clause-copied_from_comma : goal.returns-clause-copied_from_comma
unfolding layout_of cells_at holds_pointer physically_equal number stored zeroed bytes_at written kinds_agree nested_limit
returns-clause-copied_from_comma c = refl

pub returns-clause-copied_from_assignment : goal.returns-clause-copied_from_assignment
unfolding layout_of cells_at holds_pointer physically_equal number stored zeroed bytes_at written kinds_agree nested_limit
returns-clause-copied_from_assignment c = refl
