use Rattle.std.proofs.Common.{◌≡◌, ◌≢◌, ℤ, ap, sym, ◌∙◌, refl, not, false}
use mir.Syntax.{w128}
use Rattle.std.proofs.lemmas.Int.{to_z-of_z}
use Rattle.c_tree.specs.Arithmetic.{operator_of}
use Rattle.c_tree.specs.declared.operator.Binary.{Binary}
use Rattle.c_tree.specs.declared.operator.Binary.TheVariants as binary
use Rattle.integers.specs.Arithmetic as arithmetic
use Rattle.c_typing.specs.Constants as constants
use Rattle.c_typing.specs.KindViews.{kind_view}
use Rattle.c_typing.proofs.constant.cannot_divide.Goals as goal

no_division : (o : Binary) (k : arithmetic.IntegerType) (x y : ℤ) → o ≢ binary.Divide → o ≢ binary.Remainder → false ≡ constants.cannot_divide (operator_of o) k x y
no_division binary.Divide k x y h i = absurd (h refl)
no_division binary.Remainder k x y h i = absurd (i refl)
no_division o k x y h i = refl

pub returns-in-Divide : goal.returns-in-Divide
returns-in-Divide c =
    ap not (rw (to_z-of_z w128 c.args.x c.ranges.x, to_z-of_z w128 c.args.y c.ranges.y) at c.can_divide.ensures)
    ∙ ap (λ (o : Binary). constants.cannot_divide (operator_of o) (kind_view c.args.kind) c.args.x c.args.y) (sym c.in-Divide.is)

pub returns-in-Remainder : goal.returns-in-Remainder
returns-in-Remainder c =
    ap not (rw (to_z-of_z w128 c.args.x c.ranges.x, to_z-of_z w128 c.args.y c.ranges.y) at c.can_divide-in-Remainder.ensures)
    ∙ ap (λ (o : Binary). constants.cannot_divide (operator_of o) (kind_view c.args.kind) c.args.x c.args.y) (sym c.in-Remainder.is)

pub returns-in_default : goal.returns-in_default
returns-in_default c = no_division c.args.operator (kind_view c.args.kind) c.args.x c.args.y c.in_default.not-Divide c.in_default.not-Remainder
