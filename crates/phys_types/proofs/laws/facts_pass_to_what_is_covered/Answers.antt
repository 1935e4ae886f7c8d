use Rattle.phys_types.proofs.LawLemmas.{facts_of_cover}
use Rattle.phys_types.proofs.laws.facts_pass_to_what_is_covered.Goals as goal

pub returns : goal.returns
returns c = facts_of_cover
