use Rattle.std.proofs.Common.{map, take}
use Rattle.c_tree.specs.Views.{added}
use Rattle.c_tree.specs.TypedTree as typed
use Rattle.c_tree.specs.TypedParts.{static_initialisers}
use Rattle.c_tree.specs.TypedStatementViews.{typed_external_view}
use Rattle.lower_rules.specs.Initialisers.{IsCodeOfStatics}
use Rattle.lower_exprs.specs.Drafts.{context_of, Grows}
use Rattle.lower_units.specs.Statics.{HaveCodeOfStatics}
use Rattle.lower_units.proofs.statics.statics.Given as goal

abbrev pub invariant-loop-one : goal.invariant-loop-one
invariant-loop-one l = record {
  made : Grows (IsCodeOfStatics (static_initialisers (added typed.NoExternal (map typed_external_view (take l.one-index l.all)))) (context_of l.k)) (HaveCodeOfStatics (static_initialisers (added typed.NoExternal (map typed_external_view (take l.one-index l.all)))) (context_of l.k)) l.fn.out l.out;
}
