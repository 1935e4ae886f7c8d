use Rattle.std.proofs.Common.{◌∙◌, ap}
use mir.Syntax.{w128}
use Rattle.std.proofs.lemmas.Int.{to_z-of_z}
use Rattle.integers.specs.Arithmetic.{converted}
use Rattle.c_typing.specs.KindViews.{kind_view}
use Rattle.c_typing.proofs.ValueLaws.{from_zero}
use Rattle.c_typing.proofs.value.negated.Goals as goal

pub returns : goal.returns
returns c =
    to_z-of_z w128 c.difference.result (record { sfits = c.difference.type_inv })
    ∙ ((rw (to_z-of_z w128 c.args.x c.ranges.x) at c.difference.ensures)
    ∙ ap (converted (kind_view c.args.kind)) (from_zero c.args.x))
