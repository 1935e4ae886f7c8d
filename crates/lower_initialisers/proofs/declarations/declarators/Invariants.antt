use Rattle.std.proofs.Common.{map, take}
use Rattle.c_tree.specs.Views.{added}
use Rattle.c_tree.specs.TypedTree as typed
use Rattle.c_tree.specs.TypedStatementViews.{typed_init_declarator_view}
use Rattle.lower_rules.specs.Initialisers.{IsCodeOfDeclarators}
use Rattle.lower_exprs.specs.Drafts.{context_of, Grows}
use Rattle.lower_initialisers.specs.Ready.{HasCodeOfDeclarators}
use Rattle.lower_initialisers.proofs.declarations.declarators.Given as goal

abbrev pub invariant-loop-one : goal.invariant-loop-one
invariant-loop-one l = record {
  made : Grows (IsCodeOfDeclarators (added typed.NoInitDeclarator (map typed_init_declarator_view (take l.one-index l.all))) (context_of l.k))
      (HasCodeOfDeclarators (added typed.NoInitDeclarator (map typed_init_declarator_view (take l.one-index l.all))) (context_of l.k)) l.fn.out l.out;
}
