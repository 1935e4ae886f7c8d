use Rattle.std.proofs.Common.{◌∙◌, ap, ◌+ℤ◌}
use mir.Syntax.{w128}
use Rattle.std.proofs.lemmas.Int.{to_z-of_z, wrapping_add_is}
use Rattle.integers.specs.Arithmetic.{converted}
use Rattle.c_typing.specs.KindViews.{kind_view}
use Rattle.c_typing.proofs.ValueLaws.{converted_wrapped}
use Rattle.c_typing.proofs.value.sum.Goals as goal

pub returns : goal.returns
returns c =
    to_z-of_z w128 c.converted.result (record { sfits = c.converted.type_inv })
    ∙ (c.converted.ensures
    ∙ (ap (converted (kind_view c.args.kind)) (wrapping_add_is w128 c.args.x c.args.y c.ranges.x c.ranges.y)
    ∙ converted_wrapped (kind_view c.args.kind) (c.args.x +ℤ c.args.y) c.requires))
