use Rattle.std.proofs.Common.{Option, option_copied, true, ap, sym, subst, ◌∙◌, ◌≡◌}
use Rattle.c_tree.specs.declared.leaf.Identifier.{Identifier}
use Rattle.c_tree.specs.StatementViews.{block_view}
use Rattle.c_tree.specs.TypedStatementViews.{typed_block_view}
use Rattle.c_tree.specs.TypedTree as typed
use Rattle.c_tree.specs.TypedTree.{TypedTranslationUnit}
use Rattle.c_tree.specs.TypedViews.{typed_declarator_view, typed_specifiers_view}
use Rattle.c_tree.specs.Views.{declarator_view, specifiers_view}
use Rattle.c_typing.specs.declared.declared.Declared.{Declared}
use Rattle.c_check_context.specs.ContextViews.{state_of}
use Rattle.c_unit_typing.specs.DeclarationJudging.{linked_first, naming_for}
use Rattle.c_unit_typing.specs.DefinitionJudging.{defined_as}
use Rattle.c_unit_typing.specs.UnitJudging.{UnitOutcome, Answers, Gives}
use Rattle.c_unit_typing.specs.Units.{Storage, storage_of}
use Rattle.c_check.proofs.DefinitionLaws.{definition-goes}
use Rattle.c_check.proofs.definitions.definition.Goals as goal

pub returns : goal.returns
returns c = λ before.
    let base = typed_specifiers_view c.in_ok-specifiers.specifiers in
    let one = typed_declarator_view c.in_ok-declarator.declarator in
    let k = state_of c.specifiers.new.self in
    let l = state_of c.definition.new.self in
    let m = state_of c.define_as.new.context in
    subst (λ (o : UnitOutcome TypedTranslationUnit). Answers
    (λ made. typed.AndFunctionBody before (typed_specifiers_view made.specifiers) (typed_declarator_view made.declarator) made.brace (typed_block_view made.body))
    o c.with_body.result (state_of c.with_body.new.context))
    (sym (definition-goes before (specifiers_view c.args.f.now.specifiers) (declarator_view c.args.f.now.declarator) c.args.f.now.brace (block_view c.args.f.now.body)
    base c.naming_for-naming.result c.in_ok-declarator.level one one (state_of c.args.context.now) k l m
    c.in_ok-specifiers.ensures
    (c.naming_for-naming.ensures
    ∙ ap (λ (st : Storage). naming_for true st (option_copied c.first_linked.result)) c.storage_of.ensures
    ∙ ap (λ (first : Option Declared). naming_for true (storage_of base) first) c.first_linked.ensures
    ∙ ap (λ (name : Option Identifier). naming_for true (storage_of base) (linked_first k.linkage.linked name)) c.declarator_name-name.ensures)
    c.in_ok-declarator.ensures.level
    c.in_ok-declarator.ensures.judged
    (subst (λ (name : Option Identifier). defined_as name base one l ≡ Gives one m) c.declarator_name-name.ensures c.in_ok-define_as.ensures)))
    (c.with_body.ensures before)
