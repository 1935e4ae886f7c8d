use Rattle.kind_solver.proofs.Determined.{kinds_kept, causes_kept}
use Rattle.kind_solver.proofs.laws.order_is_free.Goals as goal

pub returns-clause-kinds : goal.returns-clause-kinds
returns-clause-kinds c = kinds_kept

pub returns-clause-causes : goal.returns-clause-causes
returns-clause-causes c = causes_kept
