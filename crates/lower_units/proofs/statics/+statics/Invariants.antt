use Rattle.std.proofs.Common.{take}
use Rattle.c_tree.specs.TypedParts.{initialisers_in_items}
use Rattle.c_tree.specs.TypedStatementViews.{typed_block_view}
use Rattle.lower_rules.specs.Initialisers.{IsCodeOfStatics}
use Rattle.lower_exprs.specs.Drafts.{context_of, Grows}
use Rattle.lower_units.specs.Statics.{HaveCodeOfStatics}
use Rattle.lower_units.proofs.statics.+statics.Given as goal

abbrev pub invariant-block-loop-one : goal.invariant-block-loop-one
invariant-block-loop-one l = record {
  made : Grows (IsCodeOfStatics (initialisers_in_items (typed_block_view (take l.one-index l.all))) (context_of l.k)) (HaveCodeOfStatics (initialisers_in_items (typed_block_view (take l.one-index l.all))) (context_of l.k)) l.fn.out l.out;
}
