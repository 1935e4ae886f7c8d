use Rattle.sim_checks.proofs.Sameness.{orders-compared, equalities-compared}
use Rattle.sim_checks.proofs.Differences.{differences-compared}
use Rattle.sim_checks.proofs.Mixed.{mixed-orders-compared}
use Rattle.sim_checks.proofs.sameness_is_compared.Goals as goal

pub returns-clause-order : goal.returns-clause-order
returns-clause-order f w number_of s c parts depth t u q r e p o outlines x y h i =
    orders-compared w number_of s c x.related outlines parts depth e t u q r p o x y h i

pub returns-clause-difference : goal.returns-clause-difference
returns-clause-difference f w number_of s c parts depth t q r e p o size at sound complete outlines is x y h i =
    differences-compared w number_of s c parts depth t sound complete outlines e q r p o size at is x y h i

pub returns-clause-equality : goal.returns-clause-equality
returns-clause-equality f w number_of s c parts depth kind other t u q r e p o at sound outlines n m x y =
    equalities-compared w number_of s c x.related outlines parts depth e sound kind other t u q r p o at n m x y

pub returns-clause-mixed : goal.returns-clause-mixed
returns-clause-mixed f w s m parts kind other q r e p o apart at size unlike = mixed-orders-compared w s m parts kind other q r e p o apart at size unlike
