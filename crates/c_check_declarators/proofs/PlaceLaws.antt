-- Where a list of specifiers begins.
use Rattle.std.proofs.Common.{◌≡◌, refl, List, [], ◌∷◌, map}
use Rattle.c_tree.specs.Tree as tree
use Rattle.c_tree.specs.Places.{specifier_place, specifiers_place}
use Rattle.c_tree.specs.Views.{specifiers_of, specifier_view}
use Rattle.c_tree.specs.declared.expr.Specifier.{Specifier}
use Rattle.std.specs.List.{fold}

more : (first : tree.Specifiers) (before last : tree.Specifier) (xs : List tree.Specifier)
    → specifiers_place (fold tree.AndSpecifier (tree.AndSpecifier (tree.AndSpecifier first before) last) xs) ≡ specifiers_place (tree.AndSpecifier first before)
more first before last [] = refl
more first before last (x ∷ xs) = more (tree.AndSpecifier first before) last x xs

first_plain : (x : tree.Specifier) (xs : List tree.Specifier) → specifiers_place (specifiers_of (x ∷ xs)) ≡ specifier_place x
first_plain x [] = refl
first_plain x (y ∷ ys) = more tree.NoSpecifier x y ys

pub first_of_list : (x : Specifier) (xs : List Specifier) → specifiers_place (specifiers_of (map specifier_view (x ∷ xs))) ≡ specifier_place (specifier_view x)
first_of_list x xs = first_plain (specifier_view x) (map specifier_view xs)
