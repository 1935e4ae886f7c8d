use Rattle.sim_checks.proofs.Tagged.{bounds-at, base-at, alignment-at, plain-at, tag-at, wild-orders-compared, wild-equalities-compared}
use Rattle.sim_checks.proofs.WildCopies.{wild-copies-compared}
use Rattle.sim_checks.proofs.WildDifferences.{wild-differences-compared}
use Rattle.sim_checks.proofs.Mixed.{mixed-equalities-compared}
use Rattle.sim_checks.proofs.tagged_rows_are_compared.Goals as goal

pub returns-clause-bounds : goal.returns-clause-bounds
returns-clause-bounds f w number_of s c parts depth t q e p size at laid some few x =
    bounds-at w number_of s c parts depth t e p laid q size at some few x

pub returns-clause-base : goal.returns-clause-base
returns-clause-base f w number_of s c parts depth t q e p last laid is x = base-at w number_of s c parts depth t e p laid q last is x

pub returns-clause-alignment : goal.returns-clause-alignment
returns-clause-alignment f w number_of s c parts depth t q e p seven x h = alignment-at w number_of s c parts depth t e p q seven x h

pub returns-clause-plain : goal.returns-clause-plain
returns-clause-plain f w sites number_of s c parts depth t q e p n sound some x h = plain-at w number_of s c parts depth t e p sites q n sound some x h

pub returns-clause-tag : goal.returns-clause-tag
returns-clause-tag f w number_of s c parts depth t q e p eight x h k = tag-at w number_of s c parts depth t e p q eight x h k

pub returns-clause-order : goal.returns-clause-order
returns-clause-order f w number_of s c parts depth t u q r e p o x y h i = wild-orders-compared w number_of s c parts depth e x.related t u q r p o x y h i

pub returns-clause-equality : goal.returns-clause-equality
returns-clause-equality f w number_of s c parts depth t u q r e p o at laid x y =
    wild-equalities-compared w number_of s c parts depth e x.related laid t u q r p o at x y

pub returns-clause-mixed : goal.returns-clause-mixed
returns-clause-mixed f w number_of s c parts depth other t u q r e p o at sound outlines laid plain x y =
    mixed-equalities-compared w number_of s c parts depth e sound outlines laid other t u q r p o at plain x y

pub returns-clause-copies : goal.returns-clause-copies
returns-clause-copies f w sites number_of s c parts depth t u q r e p o n apart sound some x y h k =
    wild-copies-compared w number_of s c parts depth e apart sites sound t u q r p o n some x y h k

pub returns-clause-difference : goal.returns-clause-difference
returns-clause-difference f w number_of s c parts depth t u q r e p o size at sound complete is x y h i =
    wild-differences-compared w number_of s c parts depth e t u sound complete size is q r p o at x y h i
