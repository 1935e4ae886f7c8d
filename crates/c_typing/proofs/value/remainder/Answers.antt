use Rattle.std.proofs.Common.{◌∙◌, ap}
use mir.Syntax.{w128}
use Rattle.std.proofs.lemmas.Int.{to_z-of_z, rem_is}
use Rattle.integers.specs.Arithmetic.{converted}
use Rattle.c_typing.specs.KindViews.{kind_view}
use Rattle.c_typing.proofs.value.remainder.Goals as goal

pub returns : goal.returns
returns c =
    to_z-of_z w128 c.converted.result (record { sfits = c.converted.type_inv })
    ∙ (c.converted.ensures ∙ ap (converted (kind_view c.args.kind)) (rem_is w128 c.args.x c.args.y c.ranges.x c.ranges.y))
