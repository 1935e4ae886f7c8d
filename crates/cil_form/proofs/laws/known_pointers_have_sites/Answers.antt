use Rattle.cil_form.proofs.AskedLaws.{code-asked}
use Rattle.cil_form.proofs.laws.known_pointers_have_sites.Goals as goal

pub returns : goal.returns
returns c = code-asked
