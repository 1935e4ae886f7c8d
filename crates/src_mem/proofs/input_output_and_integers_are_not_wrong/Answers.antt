use Rattle.src_mem.proofs.CallsRight.{get_right, turn_right, calculate_right}
use Rattle.src_mem.proofs.input_output_and_integers_are_not_wrong.Goals as goal

pub returns-clause-reading : goal.returns-clause-reading
returns-clause-reading c = get_right

pub returns-clause-turning : goal.returns-clause-turning
returns-clause-turning c = turn_right

pub returns-clause-calculating : goal.returns-clause-calculating
returns-clause-calculating c = calculate_right
