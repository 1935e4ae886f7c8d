use Rattle.cil_form.proofs.TellsLaws.{function-told, outer-told}
use Rattle.cil_form.proofs.laws.sites_tell_of_what_code_names.Goals as goal

pub returns-clause-functions : goal.returns-clause-functions
returns-clause-functions c = function-told

pub returns-clause-initialisers : goal.returns-clause-initialisers
returns-clause-initialisers c = outer-told
