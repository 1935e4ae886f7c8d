use Rattle.constraint_laws.proofs.Laws.{given_is_a_solution}
use Rattle.constraint_laws.proofs.constraints_have_the_solutions_of_the_sites.Goals as goal

pub returns : goal.returns
returns c table made sites list kind told given = given_is_a_solution table made sites told list given kind
