-- Looking a name up in a set is looking it up in the list of names.
use Rattle.std.proofs.Common.{◌≡◌, refl, sym, ap, ◌∙◌, ℕ, Bool, true, false, List, [], ◌∷◌, map, reverse, Vec, Global, nat_eq}
use Rattle.std.specs.Prelude.{◌||◌}
use Rattle.std.specs.List.{list_any}
use Rattle.std.specs.Cmp.Lexicographic.{pointwise, nat_list_eq_equiv}
use Rattle.std.proofs.lemmas.List.{reverse-append}
use Rattle.std.proofs.lemmas.List.Folds.{list_any-append}
use Rattle.c_tree.specs.Words.{is_type_name}

or_turned : (a b : Bool) → (a || (b || false)) ≡ (b || a)
or_turned true true = refl
or_turned true false = refl
or_turned false true = refl
or_turned false false = refl

list_any-reverse : {X : Type 0} (p : X → Bool) (xs : List X) → list_any p (reverse xs) ≡ list_any p xs
list_any-reverse p [] = refl
list_any-reverse p (x ∷ xs) =
    ap (list_any p) (reverse-append (x ∷ []) xs) ∙ list_any-append p (reverse xs) (x ∷ []) ∙ ap (λ b. b || (p x || false)) (list_any-reverse p xs)
    ∙ or_turned (list_any p xs) (p x)

listed_forward : (names : List (Vec ℕ Global)) (name : List ℕ)
    → list_any (λ k. pointwise nat_eq name k.items) names ≡ is_type_name (map (λ k. k.items) names) name
listed_forward [] name = refl
listed_forward (k ∷ names) name = rw (nat_list_eq_equiv.symm name k.items, listed_forward names name)

pub is_type_name-listed : (names : List (Vec ℕ Global)) (name : List ℕ)
    → list_any (λ k. pointwise nat_eq name k.items) names ≡ is_type_name (reverse (map (λ k. k.items) names)) name
is_type_name-listed names name = listed_forward names name ∙ sym_any (map (λ k. k.items) names) name
  where
    sym_any : (names : List (List ℕ)) (name : List ℕ) → is_type_name names name ≡ is_type_name (reverse names) name
    sym_any names name = sym (list_any-reverse _ names)
