use Rattle.sim_laws.proofs.Framed.{calls-fit, calls-begin, calls-end, ends-give-zero}
use Rattle.sim_laws.proofs.frames_follow.Goals as goal

pub returns-clause-fits : goal.returns-clause-fits
returns-clause-fits c p kind node parents parts shaped told solution is = calls-fit p kind node is.numbers parents parts shaped told solution is.are_cured

pub returns-clause-begins : goal.returns-clause-begins
returns-clause-begins c p kind node parents parts shaped told solution is = calls-begin p kind node is.numbers parents parts shaped told solution is.are_cured

pub returns-clause-ends : goal.returns-clause-ends
returns-clause-ends c p kind node parents parts shaped told solution is = calls-end p kind node is.numbers parents parts shaped told solution is.are_cured

pub returns-clause-none : goal.returns-clause-none
returns-clause-none c p kind node parents parts shaped told solution is = ends-give-zero p kind node is.numbers parents parts shaped told solution is.are_cured
