-- Whether some specifier of a list is a `long`, or says a type.
use Rattle.std.proofs.Common.{◌≡◌, Bool, true, false, ◌||◌, ◌&&◌, List, [], ◌∷◌, map, fold, refl, sym, ◌∙◌}
use Rattle.std.specs.List.{list_any}
use Rattle.c_tree.specs.Tree as tree
use Rattle.c_tree.specs.Views.{specifier_view}
use Rattle.c_tree.specs.Words.{is_long, has_long, names_type, has_type}
use Rattle.c_tree.specs.declared.expr.Specifier.{Specifier}
use Rattle.c_parse_words.specs.Lists.{specifiers_seen}

turned : (a b c : Bool) → (a || (b || c)) ≡ ((b || a) || c)
turned true true c = refl
turned true false c = refl
turned false true c = refl
turned false false c = refl

long_after : (before : tree.Specifiers) (list : List Specifier) → has_long (fold tree.AndSpecifier before (map specifier_view list)) ≡ (list_any (λ s. is_long (specifier_view s)) list || has_long before)
long_after before [] = refl
long_after before (s ∷ list) =
    long_after (tree.AndSpecifier before (specifier_view s)) list ∙ turned (list_any (λ s. is_long (specifier_view s)) list) (is_long (specifier_view s)) (has_long before)

or_none : (b : Bool) → (b || false) ≡ b
or_none true = refl
or_none false = refl

pub any_long : (list : List Specifier) → list_any (λ s. is_long (specifier_view s)) list ≡ has_long (specifiers_seen list)
any_long list = sym (long_after tree.NoSpecifier list ∙ or_none (list_any (λ s. is_long (specifier_view s)) list))

type_after : (before : tree.Specifiers) (list : List Specifier) → has_type (fold tree.AndSpecifier before (map specifier_view list)) ≡ (list_any (λ s. names_type (specifier_view s)) list || has_type before)
type_after before [] = refl
type_after before (s ∷ list) =
    type_after (tree.AndSpecifier before (specifier_view s)) list ∙ turned (list_any (λ s. names_type (specifier_view s)) list) (names_type (specifier_view s)) (has_type before)

pub any_type : (list : List Specifier) → list_any (λ s. names_type (specifier_view s)) list ≡ has_type (specifiers_seen list)
any_type list = sym (type_after tree.NoSpecifier list ∙ or_none (list_any (λ s. names_type (specifier_view s)) list))

pub no_long : (a b : Bool) → b ≡ false → false ≡ (a && b)
no_long true b e = sym e
no_long false b e = refl

pub long_too : (a b : Bool) → b ≡ true → a ≡ (a && b)
long_too true b e = sym e
long_too false b e = refl
