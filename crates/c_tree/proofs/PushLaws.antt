-- A list with one element more.
use Rattle.std.proofs.Common.{◌≡◌, List, [], ◌∷◌, ◌++◌, map}
use Rattle.std.proofs.lemmas.Grind.{common_steps}
use Rattle.c_tree.specs.Tree as tree
use Rattle.c_tree.specs.Views.{added, arguments_of, specifiers_of, member_declarators_of, expr_view, specifier_view, declarator_view}
use Rattle.c_tree.specs.StatementViews.{items_of, initialiser_view}
use Rattle.c_tree.specs.declared.expr.Declarator.{Declarator}
use Rattle.c_tree.specs.declared.expr.Expr.{Expr}
use Rattle.c_tree.specs.declared.expr.Specifier.{Specifier}
use Rattle.c_tree.specs.declared.statement.Initialiser.{Initialiser}

pub added-push : {X A : Type 0} (view : X → A → A) (start : A) (xs : List X) (x : X) → added start (map view (xs ++ x ∷ [])) ≡ view x (added start (map view xs))
added-push view start xs x = simp common_steps

pub arguments-push : (es : List Expr) (e : Expr) → arguments_of (map expr_view (es ++ e ∷ [])) ≡ tree.AndArgument (arguments_of (map expr_view es)) (expr_view e)
arguments-push es e = simp common_steps

pub specifiers-push : (ss : List Specifier) (s : Specifier) → specifiers_of (map specifier_view (ss ++ s ∷ [])) ≡ tree.AndSpecifier (specifiers_of (map specifier_view ss)) (specifier_view s)
specifiers-push ss s = simp common_steps

pub member_declarators-push : (ds : List Declarator) (d : Declarator) →
    member_declarators_of (map declarator_view (ds ++ d ∷ [])) ≡ tree.AndDeclarator (member_declarators_of (map declarator_view ds)) (declarator_view d)
member_declarators-push ds d = simp common_steps

pub items-push : (xs : List Initialiser) (x : Initialiser) → items_of (map initialiser_view (xs ++ x ∷ [])) ≡ tree.AndItem (items_of (map initialiser_view xs)) (initialiser_view x)
items-push xs x = simp common_steps

pub ruleset pushes = (added-push, arguments-push, specifiers-push, member_declarators-push, items-push)
