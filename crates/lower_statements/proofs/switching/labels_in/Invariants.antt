use Rattle.std.proofs.Common.{◌≤◌, take}
use Rattle.c_tree.specs.TypedStatementViews.{typed_block_view}
use Rattle.lower_statements.specs.Switches.{AreLabels}
use Rattle.lower_statements.proofs.switching.labels_in.Given as goal

abbrev pub invariant-loop-item : goal.invariant-loop-item
invariant-loop-item l = record {
  counted : AreLabels (typed_block_view (take l.item-index l.items)) l.labels;
  few : l.labels.count ≤ l.item-index;
}
