use Rattle.unit_sites.proofs.SitesTold.{pointers-told, objects-told, flows-told, same-told, pointees-told, homes-told}
use Rattle.c_ready.proofs.ReadyUnit.{well-typed-ready}
use Rattle.unit_sites.proofs.UnionsTold.{unions-told}
use Rattle.unit_sites.proofs.the_sites_of_a_well_typed_unit_are_told.Goals as goal

pub returns-clause-pointers : goal.returns-clause-pointers
returns-clause-pointers c table unit w t to node h = pointers-told unit table t node to h

pub returns-clause-objects : goal.returns-clause-objects
returns-clause-objects c table unit w = objects-told unit table

pub returns-clause-flows : goal.returns-clause-flows
returns-clause-flows c table unit w m n t u place h = flows-told unit table (well-typed-ready table unit w) m n t u place h

pub returns-clause-same : goal.returns-clause-same
returns-clause-same c table unit w t u h = same-told unit table (well-typed-ready table unit w) t u h

pub returns-clause-unions : goal.returns-clause-unions
returns-clause-unions c table unit w v h q = unions-told table unit (well-typed-ready table unit w) v h q

pub returns-clause-pointees : goal.returns-clause-pointees
returns-clause-pointees c table unit w n t u p q = pointees-told unit table (well-typed-ready table unit w) n t u p q

pub returns-clause-homes : goal.returns-clause-homes
returns-clause-homes c table unit w n t u p q = homes-told unit table (well-typed-ready table unit w) n t u p q
