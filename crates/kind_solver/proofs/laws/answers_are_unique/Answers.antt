use Rattle.kind_solver.proofs.Determined.{one_table, one_table_of_causes}
use Rattle.kind_solver.proofs.laws.answers_are_unique.Goals as goal

pub returns-clause-kinds : goal.returns-clause-kinds
returns-clause-kinds c = one_table

pub returns-clause-causes : goal.returns-clause-causes
returns-clause-causes c = one_table_of_causes
