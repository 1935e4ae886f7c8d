-- Whether some specifier of a list is a `typedef`.
use Rattle.std.proofs.Common.{◌≡◌, Bool, true, false, ◌||◌, List, [], ◌∷◌, map, fold, refl, sym, ap, ◌∙◌}
use Rattle.std.specs.List.{list_any}
use Rattle.c_tree.specs.Tree as tree
use Rattle.c_tree.specs.Views.{core_layer, enumerator_layer, expr_layer, part_layer, specifier_layer, declarator_layer, members_layer, parameter_layer, specifiers_layer, type_name_layer, specifier_view, specifiers_of, specifiers_view}
use Rattle.c_tree.specs.Words.{is_typedef, has_typedef}
use Rattle.c_tree.specs.declared.expr.Core.TheFolds.{fold_out-Specifiers}
use Rattle.c_tree.specs.declared.expr.Specifier.{Specifier}
use Rattle.c_tree.specs.declared.expr.Specifiers.{Specifiers}

turned : (a b c : Bool) → (a || (b || c)) ≡ ((b || a) || c)
turned true true c = refl
turned true false c = refl
turned false true c = refl
turned false false c = refl

or_none : (b : Bool) → (b || false) ≡ b
or_none true = refl
or_none false = refl

typedef_after : (before : tree.Specifiers) (list : List Specifier)
    → has_typedef (fold tree.AndSpecifier before (map specifier_view list)) ≡ (list_any (λ s. is_typedef (specifier_view s)) list || has_typedef before)
typedef_after before [] = refl
typedef_after before (s ∷ list) =
    typedef_after (tree.AndSpecifier before (specifier_view s)) list ∙ turned (list_any (λ s. is_typedef (specifier_view s)) list) (is_typedef (specifier_view s)) (has_typedef before)

any_is_typedef : (list : List Specifier) → list_any (λ s. is_typedef (specifier_view s)) list ≡ has_typedef (specifiers_of (map specifier_view list))
any_is_typedef list = sym (typedef_after tree.NoSpecifier list ∙ or_none (list_any (λ s. is_typedef (specifier_view s)) list))

-- the list of specifiers is seen as its elements, one after another
specifiers_seen : (s : Specifiers) → specifiers_view s ≡ specifiers_of (map specifier_view s.list)
specifiers_seen = fold_out-Specifiers tree.Core (tree.Enumerators → tree.Enumerators) tree.Expr (tree.Parts → tree.Parts) tree.Specifier tree.Declarator
    (tree.Members → tree.Members) (tree.Parameters → tree.Parameters) tree.Specifiers tree.TypeName
    core_layer enumerator_layer expr_layer part_layer specifier_layer declarator_layer members_layer parameter_layer specifiers_layer type_name_layer

pub flag_seen : (s : Specifiers) → list_any (λ x. is_typedef (specifier_view x)) s.list ≡ has_typedef (specifiers_view s)
flag_seen s = any_is_typedef s.list ∙ ap has_typedef (sym (specifiers_seen s))
