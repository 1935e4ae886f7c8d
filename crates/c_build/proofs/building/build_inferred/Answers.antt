use Rattle.c_build.proofs.CuringLaws.{few_of}
use Rattle.c_build.proofs.building.build_inferred.Goals as goal

pub curing-cured-requires-clause-few : goal.curing-cured-requires-clause-few
curing-cured-requires-clause-few c = few_of c.requires.0 c.args.inferred c.requires.1
