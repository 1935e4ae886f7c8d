use Rattle.src_mem.proofs.CallsRight.{clear_right, allocate_right, elements_right, first_right}
use Rattle.src_mem.proofs.clearing_and_allocation_are_not_wrong.Goals as goal

pub returns-clause-clearing : goal.returns-clause-clearing
returns-clause-clearing c = clear_right

pub returns-clause-allocation : goal.returns-clause-allocation
returns-clause-allocation c = allocate_right

pub returns-clause-elements : goal.returns-clause-elements
returns-clause-elements c = elements_right

pub returns-clause-first_element : goal.returns-clause-first_element
returns-clause-first_element c = first_right
