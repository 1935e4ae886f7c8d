use Rattle.std.proofs.Common.{Some, None, if◌then◌else◌, rules}
use mir.Syntax.{w128}
use mir.Val.{SFits}
use Rattle.std.proofs.lemmas.Int.{to_z-of_z}
use Rattle.integers.specs.Arithmetic.{computed}
use Rattle.c_typing.specs.Constants.{cannot_divide}
use Rattle.c_typing.specs.KindViews.{kind_view}
use Rattle.c_typing.proofs.ValueLaws.{values-there}
use Rattle.c_typing.proofs.constant.checked_values.Goals as goal
use Rattle.c_tree.specs.Arithmetic.{operator_of}

pub returns-in-Some-Some : goal.returns-in-Some-Some
returns-in-Some-Some c =
    let x : SFits w128 c.in-Some-Some.x = search rules in
    let y : SFits w128 c.in-Some-Some.y = search rules in
    values-there
    (λ a b. if cannot_divide (operator_of c.args.operator) (kind_view c.args.kind) a b then None
    else Some (computed (operator_of c.args.operator) (kind_view c.args.kind) a b))
    c.args.x c.args.y c.in-Some-Some.x c.in-Some-Some.y c.checked.result c.in-Some-Some.is-0 c.in-Some-Some.is-1
    (rw (to_z-of_z w128 c.in-Some-Some.x x, to_z-of_z w128 c.in-Some-Some.y y) at c.checked.ensures)
