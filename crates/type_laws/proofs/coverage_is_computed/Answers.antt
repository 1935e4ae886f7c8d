use Rattle.type_laws.proofs.Coverage.{covers_is, one_class_is}
use Rattle.type_laws.proofs.coverage_is_computed.Goals as goal

pub returns-clause-covers : goal.returns-clause-covers
returns-clause-covers c = covers_is

pub returns-clause-one_class : goal.returns-clause-one_class
returns-clause-one_class c = one_class_is
