use Rattle.std.proofs.Common.{sym, ◌∙◌}
use mir.Syntax.{w128}
use Rattle.std.proofs.lemmas.Int.{to_z-of_z}
use Rattle.c_typing.specs.KindViews.{kind_view}
use Rattle.c_typing.proofs.ValueLaws.{divisor_is_some, checked_none, checked_some}
use Rattle.c_typing.proofs.constant.checked.Goals as goal
use Rattle.c_tree.specs.Arithmetic.{operator_of}

pub returns-then-cannot_divide : goal.returns-then-cannot_divide
returns-then-cannot_divide c =
    checked_none _ c.cannot_divide.result _
    (rw (to_z-of_z w128 c.args.x c.ranges.x, to_z-of_z w128 c.args.y c.ranges.y) at c.cannot_divide.ensures) c.if-cannot_divide.true

pub computed-requires-clause-divisor : goal.computed-requires-clause-divisor
computed-requires-clause-divisor c =
    λ divides. rw (to_z-of_z w128 c.args.y c.ranges.y)
    (divisor_is_some (operator_of c.args.operator) (kind_view c.args.kind) c.args.x c.args.y
    (sym (rw (to_z-of_z w128 c.args.x c.ranges.x, to_z-of_z w128 c.args.y c.ranges.y) at c.cannot_divide.ensures) ∙ c.if-cannot_divide.false) divides)

pub returns : goal.returns
returns c =
    checked_some _ c.cannot_divide.result _ _
    (rw (to_z-of_z w128 c.args.x c.ranges.x, to_z-of_z w128 c.args.y c.ranges.y) at c.cannot_divide.ensures) c.if-cannot_divide.false
    (to_z-of_z w128 c.computed.result (record { sfits = c.computed.type_inv })
    ∙ (rw (to_z-of_z w128 c.args.x c.ranges.x, to_z-of_z w128 c.args.y c.ranges.y) at c.computed.ensures))
