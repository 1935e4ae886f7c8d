use Rattle.std.proofs.Common.{◌≡◌, map, take}
use Rattle.c_tree.specs.TypedTree.{NoParameter}
use Rattle.c_tree.specs.TypedViews.{typed_parameter_view}
use Rattle.c_tree.specs.Views.{added}
use Rattle.c_typing.specs.Declarators.{parameter_types}
use Rattle.c_check_declarators.proofs.making.taken_types.Given as goal

-- the types of the parameters so far
abbrev pub invariant-loop-one : goal.invariant-loop-one
invariant-loop-one l = l.types.items ≡ parameter_types (added NoParameter (map typed_parameter_view (take l.one-index l.parameters)))
