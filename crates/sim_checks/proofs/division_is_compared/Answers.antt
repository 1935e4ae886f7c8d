use Rattle.sim_checks.proofs.Division.{unsigned-compared, signed-compared}
use Rattle.sim_checks.proofs.division_is_compared.Goals as goal

pub returns-clause-unsigned : goal.returns-clause-unsigned
returns-clause-unsigned f w s m parts i x y e b size unsigned fits is = unsigned-compared w s m parts i x y e b size unsigned fits is

pub returns-clause-signed : goal.returns-clause-signed
returns-clause-signed f w s m parts i x y e a b low one size signed fits_x fits_y is_x is_y is_low is_one =
    signed-compared w s m parts i x y e a b low one size signed fits_x fits_y is_x is_y is_low is_one
