use Rattle.src_mem.proofs.OperationsRight.{moved_right, subtracted_right, compared_right, equated_right, converted_right, member_right, call_right}
use Rattle.src_mem.proofs.pointer_operations_are_not_wrong.Goals as goal

pub returns-clause-moving : goal.returns-clause-moving
returns-clause-moving c = moved_right

pub returns-clause-difference : goal.returns-clause-difference
returns-clause-difference c = subtracted_right

pub returns-clause-order : goal.returns-clause-order
returns-clause-order c = compared_right

pub returns-clause-equality : goal.returns-clause-equality
returns-clause-equality c = equated_right

pub returns-clause-conversion : goal.returns-clause-conversion
returns-clause-conversion c = converted_right

pub returns-clause-members : goal.returns-clause-members
returns-clause-members c = member_right

pub returns-clause-calls : goal.returns-clause-calls
returns-clause-calls c = call_right
