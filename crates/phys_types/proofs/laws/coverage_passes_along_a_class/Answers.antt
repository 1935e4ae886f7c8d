use Rattle.phys_types.proofs.LawLemmas.{covers_class}
use Rattle.phys_types.proofs.laws.coverage_passes_along_a_class.Goals as goal

pub returns : goal.returns
returns c = covers_class
