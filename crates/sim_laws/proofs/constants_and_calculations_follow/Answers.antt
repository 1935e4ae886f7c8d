use Rattle.sim_laws.proofs.Settled.{set-in, set-first}
use Rattle.sim_laws.proofs.Operators.{calculate-follows}
use Rattle.sim_laws.proofs.constants_and_calculations_follow.Goals as goal

pub returns-clause-constants : goal.returns-clause-constants
returns-clause-constants c p kind node parents parts shaped told solution is n f found slots g b =
    set-in p kind node is.numbers parents parts shaped told solution is.are_cured n f found slots g b

pub returns-clause-first : goal.returns-clause-first
returns-clause-first c p kind node parents parts shaped told solution is slots g b =
    set-first p kind node is.numbers parents parts shaped told solution is.are_cured slots g b

pub returns-clause-calculations : goal.returns-clause-calculations
returns-clause-calculations c w g b whole = calculate-follows w g b whole
