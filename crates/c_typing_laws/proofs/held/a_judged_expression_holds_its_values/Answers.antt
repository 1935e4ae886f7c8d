use Rattle.c_typing_laws.proofs.HeldTrees.{held-law}
use Rattle.c_typing_laws.proofs.held.a_judged_expression_holds_its_values.Goals as goal

pub returns : goal.returns
returns c = held-law
