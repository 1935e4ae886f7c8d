use Rattle.std.proofs.Common.{map, take}
use Rattle.c_tree.specs.Views.{added}
use Rattle.c_tree.specs.TypedTree as typed
use Rattle.c_tree.specs.TypedParts.{made_by_init_declarators}
use Rattle.c_tree.specs.TypedStatementViews.{typed_init_declarator_view}
use Rattle.c_printed.specs.Printing.{Prints}
use Rattle.c_printed.proofs.statements.init_declarators.Given as goal

abbrev pub invariant-loop-one : goal.invariant-loop-one
invariant-loop-one l = record {
  found : Prints (made_by_init_declarators (added typed.NoInitDeclarator (map typed_init_declarator_view (take l.one-index l.all)))) l.fn.out l.out;
}
