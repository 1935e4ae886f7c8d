use Rattle.c_front.specs.Refused.{IsFirstRefusal}
use Rattle.c_build.proofs.AlikeLaws.{alike_so}
use Rattle.c_build.proofs.CuringLaws.{built_so, wanting}
use Rattle.c_build.proofs.building.build.Goals as goal

pub returns-in-Ok-clause-built : goal.returns-in-Ok-clause-built
returns-in-Ok-clause-built c =
    built_so c.args.text.now c.in-Ok.inferred c.build_inferred.result c.build_inferred.ensures.built c.in-Ok.ensures.inferred

pub returns-in-Ok-clause-refused : goal.returns-in-Ok-clause-refused
returns-in-Ok-clause-refused c = wanting (IsFirstRefusal c.args.text.now) c.build_inferred.result c.build_inferred.ensures.wants

pub returns-in-Ok-clause-alike : goal.returns-in-Ok-clause-alike
returns-in-Ok-clause-alike c =
    alike_so c.args.text.now c.build_inferred.result
    (built_so c.args.text.now c.in-Ok.inferred c.build_inferred.result c.build_inferred.ensures.built c.in-Ok.ensures.inferred)
