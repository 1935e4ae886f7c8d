use Rattle.std.proofs.Common.{◌≡◌, ◌++◌, length, map}
use Rattle.std.specs.Vec.Iter.{into_iter_items}
use Rattle.c_tree.specs.TypedViews.{typed_expr_view}
use Rattle.c_check_operators.proofs.CallLaws.{converted_rest}
use Rattle.c_check_operators.proofs.calls.converted_arguments.Given as goal

abbrev pub invariant-arguments : goal.invariant-arguments
invariant-arguments l = converted_rest l.types l.parameters l.fn.values.items ≡ map typed_expr_view l.made ++ converted_rest l.types l.wanted (into_iter_items l.given)

abbrev pub decreases-arguments : goal.decreases-arguments
decreases-arguments l = length l.wanted
