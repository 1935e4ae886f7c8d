-- A list of the typed tree with one element more.
use Rattle.std.proofs.Common.{◌≡◌, List, [], ◌∷◌, ◌++◌, map}
use Rattle.std.proofs.lemmas.Grind.{common_steps}
use Rattle.c_tree.specs.TypedTree as typed
use Rattle.c_tree.specs.TypedViews.{typed_arguments_of, typed_specifiers_of, typed_member_declarators_of, typed_expr_view, typed_specifier_view, typed_declarator_view}
use Rattle.c_tree.specs.declared.typed_expr.TypedDeclarator.{TypedDeclarator}
use Rattle.c_tree.specs.declared.typed_expr.TypedExpr.{TypedExpr}
use Rattle.c_tree.specs.declared.typed_expr.TypedSpecifier.{TypedSpecifier}

pub typed_arguments-push : (es : List TypedExpr) (e : TypedExpr) →
    typed_arguments_of (map typed_expr_view (es ++ e ∷ [])) ≡ typed.AndArgument (typed_arguments_of (map typed_expr_view es)) (typed_expr_view e)
typed_arguments-push es e = simp common_steps

pub typed_specifiers-push : (ss : List TypedSpecifier) (s : TypedSpecifier) →
    typed_specifiers_of (map typed_specifier_view (ss ++ s ∷ [])) ≡ typed.AndSpecifier (typed_specifiers_of (map typed_specifier_view ss)) (typed_specifier_view s)
typed_specifiers-push ss s = simp common_steps

pub typed_member_declarators-push : (ds : List TypedDeclarator) (d : TypedDeclarator) →
    typed_member_declarators_of (map typed_declarator_view (ds ++ d ∷ []))
    ≡ typed.AndDeclarator (typed_member_declarators_of (map typed_declarator_view ds)) (typed_declarator_view d)
typed_member_declarators-push ds d = simp common_steps

pub ruleset typed_pushes = (typed_arguments-push, typed_specifiers-push, typed_member_declarators-push)
