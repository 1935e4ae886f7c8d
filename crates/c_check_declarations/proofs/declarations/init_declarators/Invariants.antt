use Rattle.std.proofs.Common.{◌≡◌, map, take}
use Rattle.c_tree.specs.Tree.{NoInitDeclarator}
use Rattle.c_tree.specs.TypedTree.{NoInitDeclarator as no_typed}
use Rattle.c_tree.specs.TypedViews.{typed_specifiers_view}
use Rattle.c_tree.specs.TypedStatementViews.{typed_init_declarator_view}
use Rattle.c_tree.specs.Views.{added}
use Rattle.c_tree.specs.StatementViews.{init_declarator_view}
use Rattle.c_check_context.specs.ContextViews.{state_of}
use Rattle.c_unit_typing.specs.UnitJudging.{Gives}
use Rattle.c_unit_typing.specs.DeclarationJudging.{judge_init_declarators}
use Rattle.c_check_declarations.proofs.declarations.init_declarators.Given as goal

-- the declarators so far are judged
abbrev pub invariant-loop-d : goal.invariant-loop-d
invariant-loop-d l =
    judge_init_declarators l.file (typed_specifiers_view l.base) (added NoInitDeclarator (map init_declarator_view (take l.d-index l.declarators))) (state_of l.fn.context)
    ≡ Gives (added no_typed (map typed_init_declarator_view l.list)) (state_of l.context)
