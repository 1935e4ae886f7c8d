-- The labels of a `switch` as the code keeps them.
use Rattle.std.specs.Prelude.{◌≡◌, ◌==◌, not}
use Rattle.c_tree.specs.TypedTree.{TypedBlockItems}
use Rattle.c_check.specs.declared.labels.Labels.{Labels}
use Rattle.c_unit_typing.specs.Units.{labels_of, defaults_in}

-- they are those of the items
pub record HoldsLabels (labels : Labels) (items : TypedBlockItems) : Type 0 where
  pub values : labels.values ≡ labels_of items
  pub default : labels.default ≡ not (defaults_in items == 0)
