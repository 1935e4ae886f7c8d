use Rattle.std.specs.Ordering.{int_eq}
use Rattle.std.proofs.Common.{negsuc}
use mir.Syntax.{w128}
use Rattle.std.proofs.lemmas.Int.{to_z-of_z}
use Rattle.c_typing.specs.KindViews.{kind_view}
use Rattle.integers.specs.Arithmetic as arithmetic
use Rattle.c_typing.proofs.ValueLaws.{unsigned_is_small, large_by_last, large_by_first}
use Rattle.c_typing.proofs.value.is_too_large.Goals as goal

pub returns-then-not-kind : goal.returns-then-not-kind
returns-then-not-kind c = unsigned_is_small c.args.kind.signed (int_eq c.args.x (arithmetic.least (kind_view c.args.kind))) (int_eq c.args.y (negsuc 0)) c.if-not-kind.true

pub returns-then-is_least : goal.returns-then-is_least
returns-then-is_least c =
    large_by_last c.args.kind.signed _ _ c.same-is_least.result c.same-is_minus_one.result c.if-not-kind.false
    (rw (to_z-of_z w128 c.args.x c.ranges.x, to_z-of_z w128 c.least.result (record { sfits = c.least.type_inv }), c.least.ensures) at c.same-is_least.ensures) c.if-is_least.true (rw (to_z-of_z w128 c.args.y c.ranges.y) at c.same-is_minus_one.ensures)

pub returns-else-is_least : goal.returns-else-is_least
returns-else-is_least c =
    large_by_first c.args.kind.signed _ _ c.same-is_least.result c.if-not-kind.false
    (rw (to_z-of_z w128 c.args.x c.ranges.x, to_z-of_z w128 c.least.result (record { sfits = c.least.type_inv }), c.least.ensures) at c.same-is_least.ensures) c.if-is_least.false
