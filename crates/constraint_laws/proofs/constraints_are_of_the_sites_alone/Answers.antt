use Rattle.constraint_laws.proofs.Ordered.{order-of-sites, one-list}
use Rattle.constraint_laws.proofs.constraints_are_of_the_sites_alone.Goals as goal

pub returns-clause-sites : goal.returns-clause-sites
returns-clause-sites c table xs ys list same given = order-of-sites table xs ys same list given

pub returns-clause-one : goal.returns-clause-one
returns-clause-one c table sites list other g h = one-list table sites list other g h
