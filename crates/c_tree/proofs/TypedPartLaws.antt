-- Parts of the typed tree by what they hold.
use Rattle.std.proofs.Common.{◌≡◌, ap, sym, ◌∙◌, map, option_map}
use Rattle.c_tree.specs.TypedTree as typed
use Rattle.c_tree.specs.TypedTree.{TypedItems, TypedMembers, TypedParameters}
use Rattle.c_tree.specs.TypedViews.{typed_core_view, typed_declared_of, typed_declarator_view, typed_form_view, typed_member_declarators_of, typed_members_view, typed_parameter_view, typed_part_view, typed_specifier_view, typed_specifiers_of, typed_specifiers_view, typed_type_name_view}
use Rattle.c_tree.specs.Views.{added}
use Rattle.c_tree.specs.declared.typed_expr.TypedDeclarator.{TypedDeclarator as CodeDeclarator, out-TypedDeclarator, roll-out-TypedDeclarator}
use Rattle.c_tree.specs.declared.typed_expr.TypedForm.{TypedForm as CodeForm, out-TypedForm, roll-out-TypedForm}
use Rattle.c_tree.specs.declared.typed_expr.TypedMembers.{TypedMembers as CodeMembers, out-TypedMembers, roll-out-TypedMembers}
use Rattle.c_tree.specs.declared.typed_expr.TypedParameter.{TypedParameter as CodeParameter, out-TypedParameter, roll-out-TypedParameter}
use Rattle.c_tree.specs.declared.typed_expr.TypedSpecifiers.{TypedSpecifiers as CodeSpecifiers, out-TypedSpecifiers, roll-out-TypedSpecifiers}
use Rattle.c_tree.specs.declared.typed_expr.TypedTypeName.{TypedTypeName as CodeTypeName, out-TypedTypeName, roll-out-TypedTypeName}
use Rattle.c_tree.proofs.TypedViewLaws.{seen-TypedDeclarator, seen-TypedForm, seen-TypedMembers, seen-TypedParameter, seen-TypedSpecifiers, seen-TypedTypeName}
use Rattle.c_tree.specs.TypedStatementViews.{typed_initialiser_view, typed_item_view}
use Rattle.c_tree.specs.declared.typed_statement.TypedItem.{TypedItem as CodeItem, out-TypedItem, roll-out-TypedItem}
use Rattle.c_tree.proofs.TypedStatementViewLaws.{seen-TypedItem}

pub of_declarator : (one : CodeDeclarator) → typed_declarator_view one ≡ typed.Declares (typed_form_view (out-TypedDeclarator one).form) (out-TypedDeclarator one).ty
of_declarator one = ap typed_declarator_view (sym (roll-out-TypedDeclarator one))
    ∙ seen-TypedDeclarator (out-TypedDeclarator one).form (out-TypedDeclarator one).ty (out-TypedDeclarator one).home

pub of_form : (one : CodeForm) → typed_form_view one
    ≡ typed.Form (out-TypedForm one).stars (typed_core_view (out-TypedForm one).core) (added typed.NoPart (map typed_part_view (out-TypedForm one).parts))
of_form one = ap typed_form_view (sym (roll-out-TypedForm one)) ∙ seen-TypedForm (out-TypedForm one).stars (out-TypedForm one).core (out-TypedForm one).parts

pub of_specifiers : (one : CodeSpecifiers) → typed_specifiers_view one
    ≡ typed.Specified (typed_specifiers_of (map typed_specifier_view (out-TypedSpecifiers one).list)) (out-TypedSpecifiers one).ty
of_specifiers one = ap typed_specifiers_view (sym (roll-out-TypedSpecifiers one)) ∙ seen-TypedSpecifiers (out-TypedSpecifiers one).list (out-TypedSpecifiers one).ty

pub of_type_name : (one : CodeTypeName) → typed_type_name_view one
    ≡ typed.Named (typed_specifiers_view (out-TypedTypeName one).specifiers) (typed_declared_of (option_map typed_form_view (out-TypedTypeName one).declarator))
    (out-TypedTypeName one).ty
of_type_name one = ap typed_type_name_view (sym (roll-out-TypedTypeName one))
    ∙ seen-TypedTypeName (out-TypedTypeName one).specifiers (out-TypedTypeName one).declarator (out-TypedTypeName one).ty

pub of_members : (one : CodeMembers) (all : TypedMembers) → typed_members_view one all
    ≡ typed.AndMember all (typed_specifiers_view (out-TypedMembers one).specifiers)
    (typed_member_declarators_of (map typed_declarator_view (out-TypedMembers one).declarators))
of_members one all = ap (λ (v : CodeMembers). typed_members_view v all) (sym (roll-out-TypedMembers one))
    ∙ ap (λ (add : TypedMembers → TypedMembers). add all) (seen-TypedMembers (out-TypedMembers one).specifiers (out-TypedMembers one).declarators)

pub of_parameter : (one : CodeParameter) (all : TypedParameters) → typed_parameter_view one all
    ≡ typed.AndParameter all (typed_specifiers_view (out-TypedParameter one).specifiers)
    (typed_declared_of (option_map typed_form_view (out-TypedParameter one).declarator)) (out-TypedParameter one).adjusted (out-TypedParameter one).ty
of_parameter one all = ap (λ (v : CodeParameter). typed_parameter_view v all) (sym (roll-out-TypedParameter one))
    ∙ ap (λ (add : TypedParameters → TypedParameters). add all)
    (seen-TypedParameter (out-TypedParameter one).specifiers (out-TypedParameter one).declarator (out-TypedParameter one).adjusted (out-TypedParameter one).ty)

pub of_item : (one : CodeItem) (all : TypedItems)
    → typed_item_view one all ≡ typed.AndItem all (out-TypedItem one).offset (out-TypedItem one).ty (typed_initialiser_view (out-TypedItem one).initialiser)
of_item one all =
    ap (λ (v : CodeItem). typed_item_view v all) (sym (roll-out-TypedItem one))
    ∙ ap (λ (add : TypedItems → TypedItems). add all) (seen-TypedItem (out-TypedItem one).offset (out-TypedItem one).ty (out-TypedItem one).initialiser)
