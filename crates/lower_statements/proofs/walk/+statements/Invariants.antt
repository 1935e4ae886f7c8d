use Rattle.std.proofs.Common.{◌≡◌, ◌≤◌, take}
use Rattle.c_tree.specs.TypedStatementViews.{typed_block_view}
use Rattle.lower_rules.specs.Statements.{IsCodeOfBlock}
use Rattle.lower_exprs.specs.Drafts.{context_of, Grows}
use Rattle.lower_statements.specs.Ready.{HasCodeOfBlock, HasPieces, nesting_of}
use Rattle.lower_statements.specs.Switches.{GrowsInPieces}
use Rattle.src_machine.specs.Statements.{labels}
use Rattle.lower_statements.proofs.walk.+statements.Given as goal

abbrev pub invariant-block-loop-item : goal.invariant-block-loop-item
invariant-block-loop-item l = record {
  made : Grows (IsCodeOfBlock (typed_block_view (take l.item-index l.items)) (context_of l.k) (nesting_of l.v))
      (HasCodeOfBlock (typed_block_view (take l.item-index l.items)) (context_of l.k) (nesting_of l.v)) l.fn.out l.out;
}

abbrev pub invariant-pieces-loop-item : goal.invariant-pieces-loop-item
invariant-pieces-loop-item l = record {
  made : GrowsInPieces (typed_block_view (take l.item-index l.items)) (context_of l.k) (nesting_of l.v) l.at
      (HasPieces (typed_block_view (take l.item-index l.items)) (context_of l.k) (nesting_of l.v)) l.fn.out l.out l.last;
  number : l.label ≡ labels (typed_block_view (take l.item-index l.items));
  few : l.label ≤ l.item-index;
}
