use Rattle.c_types.specs.Equality.{physically_equal}
use Rattle.c_types.proofs.Cells.{length_cells}
use Rattle.type_laws.proofs.Sizes.{equal_counts, equal_sizes}
use Rattle.type_laws.proofs.equal_types_have_equal_sizes.Goals as goal

pub returns-clause-cells : goal.returns-clause-cells
returns-clause-cells c table t w = length_cells table w (physically_equal table) t

pub returns-clause-counts : goal.returns-clause-counts
returns-clause-counts c table t u w = equal_counts table w t u

pub returns-clause-sizes : goal.returns-clause-sizes
returns-clause-sizes c table t u w = equal_sizes table w t u
