use Rattle.constraint_laws.proofs.Laws.{given_is_apart, given_is_within}
use Rattle.constraint_laws.proofs.constraints_keep_plain_nodes_apart.Goals as goal

pub returns-clause-within : goal.returns-clause-within
returns-clause-within c table made nodes sites list w told shaped given = given_is_within table made sites told nodes shaped w list given

pub returns-clause-apart : goal.returns-clause-apart
returns-clause-apart c table made nodes sites list w told shaped given = given_is_apart table made sites told nodes shaped w list given
