use Rattle.sim_checks.proofs.Words.{moves-are-exact, elements-are-exact, parts-are-exact, cured-parts-are-exact, cured-distances-are-ordered, remainders-are-exact, areas-are-exact, alignments-are-exact}
use Rattle.sim_checks.proofs.distances_are_exact.Goals as goal

pub returns-clause-moves : goal.returns-clause-moves
returns-clause-moves c = moves-are-exact

pub returns-clause-elements : goal.returns-clause-elements
returns-clause-elements c = elements-are-exact

pub returns-clause-parts : goal.returns-clause-parts
returns-clause-parts c = parts-are-exact

pub returns-clause-cured_parts : goal.returns-clause-cured_parts
returns-clause-cured_parts c = cured-parts-are-exact

pub returns-clause-order : goal.returns-clause-order
returns-clause-order c = cured-distances-are-ordered

pub returns-clause-remainders : goal.returns-clause-remainders
returns-clause-remainders c = remainders-are-exact

pub returns-clause-areas : goal.returns-clause-areas
returns-clause-areas c = areas-are-exact

pub returns-clause-alignments : goal.returns-clause-alignments
returns-clause-alignments c = alignments-are-exact
