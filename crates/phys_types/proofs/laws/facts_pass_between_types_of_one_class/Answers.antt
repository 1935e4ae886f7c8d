use Rattle.phys_types.proofs.LawLemmas.{facts_of_class}
use Rattle.phys_types.proofs.laws.facts_pass_between_types_of_one_class.Goals as goal

pub returns : goal.returns
returns c = facts_of_class
