use mir.Syntax.{w128}
use Rattle.std.proofs.lemmas.Int.{to_z-of_z}
use Rattle.c_typing.specs.KindViews.{kind_view}
use Rattle.c_check_operators.proofs.DivisionLaws.{left_bytes, right_bytes, divided}
use Rattle.c_check_operators.proofs.operators.divides_as.Goals as goal

pub constant_as-y-requires : goal.constant_as-y-requires
constant_as-y-requires c = right_bytes c.args.operator (kind_view c.args.left) (kind_view c.args.right) (kind_view c.right_kind.result) c.requires.left c.requires.right c.right_kind.ensures

pub cannot_divide-requires : goal.cannot_divide-requires
cannot_divide-requires c = left_bytes c.args.operator (kind_view c.args.left) (kind_view c.args.right) (kind_view c.left_kind-to.result) c.requires.left c.requires.right c.left_kind-to.ensures

pub returns : goal.returns
returns c =
    divided c.args.operator (kind_view c.args.left) (kind_view c.args.right) (kind_view c.left_kind-to.result) (kind_view c.right_kind.result)
    c.args.x c.args.y c.constant_as-x.result c.constant_as-y.result c.cannot_divide.result
    c.left_kind-to.ensures c.right_kind.ensures
    (rw (to_z-of_z w128 c.args.x c.ranges.x) at c.constant_as-x.ensures)
    (rw (to_z-of_z w128 c.args.y c.ranges.y) at c.constant_as-y.ensures)
    (rw (to_z-of_z w128 c.constant_as-x.result (record { sfits = c.constant_as-x.type_inv }), to_z-of_z w128 c.constant_as-y.result (record { sfits = c.constant_as-y.type_inv })) at c.cannot_divide.ensures)
