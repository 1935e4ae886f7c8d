use Rattle.std.proofs.Common.{◌∙◌, ap, sym}
use mir.Syntax.{w128}
use Rattle.std.proofs.lemmas.Int.{to_z-of_z, quot_is}
use Rattle.integers.specs.Arithmetic.{converted}
use Rattle.c_typing.specs.KindViews.{kind_view}
use Rattle.c_typing.proofs.ValueLaws.{quotient_by_minus_one, quotient_fits}
use Rattle.c_typing.proofs.value.quotient.Goals as goal

pub returns-then-same : goal.returns-then-same
returns-then-same c =
    to_z-of_z w128 c.negated.result (record { sfits = c.negated.type_inv })
    ∙ ((rw (to_z-of_z w128 c.args.x c.ranges.x) at c.negated.ensures)
    ∙ ap (converted (kind_view c.args.kind)) (quotient_by_minus_one c.args.x c.args.y
    (sym (rw (to_z-of_z w128 c.args.y c.ranges.y) at c.same.ensures) ∙ c.if-same.true)))

pub returns : goal.returns
returns c =
    to_z-of_z w128 c.converted.result (record { sfits = c.converted.type_inv })
    ∙ (c.converted.ensures ∙ ap (converted (kind_view c.args.kind)) (quot_is w128 c.args.x c.args.y c.ranges.x c.ranges.y
    (quotient_fits c.args.x c.args.y c.ranges.x c.requires.divisor
    (sym (rw (to_z-of_z w128 c.args.y c.ranges.y) at c.same.ensures) ∙ c.if-same.false))))
