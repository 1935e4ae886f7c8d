use Rattle.c_tree_sizes.proofs.PaidUnits.{two-for-a-token}
use Rattle.c_tree_sizes.proofs.a_unit_makes_few_things_for_its_tokens.Goals as goal

pub returns : goal.returns
returns c = two-for-a-token
