use Rattle.std.proofs.Common.{map, take}
use Rattle.c_tree.specs.Views.{added}
use Rattle.c_tree.specs.TypedTree as typed
use Rattle.c_tree.specs.TypedParts.{initialisers_in_declarators}
use Rattle.c_tree.specs.TypedStatementViews.{typed_init_declarator_view}
use Rattle.lower_rules.specs.Initialisers.{IsCodeOfStatics}
use Rattle.lower_exprs.specs.Drafts.{context_of, Grows}
use Rattle.lower_units.specs.Statics.{HaveCodeOfStatics}
use Rattle.lower_units.proofs.statics.declarators.Given as goal

abbrev pub invariant-loop-one : goal.invariant-loop-one
invariant-loop-one l = record {
  made : Grows (IsCodeOfStatics (initialisers_in_declarators (added typed.NoInitDeclarator (map typed_init_declarator_view (take l.one-index l.all)))) (context_of l.k)) (HaveCodeOfStatics (initialisers_in_declarators (added typed.NoInitDeclarator (map typed_init_declarator_view (take l.one-index l.all)))) (context_of l.k)) l.fn.out l.out;
}
