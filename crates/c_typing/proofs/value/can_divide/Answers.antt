use mir.Syntax.{w128}
use Rattle.std.proofs.lemmas.Int.{to_z-of_z}
use Rattle.c_typing.proofs.ValueLaws.{divides_by_last, divides_by_first}
use Rattle.c_typing.proofs.value.can_divide.Goals as goal

pub returns-then-not-is_zero : goal.returns-then-not-is_zero
returns-then-not-is_zero c =
    divides_by_last _ _ c.same-is_zero.result c.is_too_large-is_large.result
    (rw (to_z-of_z w128 c.args.y c.ranges.y) at c.same-is_zero.ensures) c.if-not-is_zero.true
    (rw (to_z-of_z w128 c.args.x c.ranges.x, to_z-of_z w128 c.args.y c.ranges.y) at c.is_too_large-is_large.ensures)

pub returns-else-not-is_zero : goal.returns-else-not-is_zero
returns-else-not-is_zero c =
    divides_by_first _ _ c.same-is_zero.result (rw (to_z-of_z w128 c.args.y c.ranges.y) at c.same-is_zero.ensures) c.if-not-is_zero.false
