-- Whether a name is among others, by its place.
use Rattle.std.proofs.Common.{◌≡◌, refl, ◌∙◌, Bool, true, false, not, ◌||◌, cond, nat_lt, ℕ, suc, ◌+◌, List, [], ◌∷◌, length, None, Some, bytes_eq, arith}
use Rattle.std.specs.List.{list_any, position_or_len}
use Rattle.std.proofs.lemmas.Bool.Decides.{nat_tests}
use Rattle.c_typing.specs.Scopes.{Name, place_among}
use Rattle.c_typing.specs.Refusals.{has_name}
use Rattle.c_typing.specs.Tests.{has_some}
use Rattle.c_tree.specs.declared.leaf.Identifier.{Identifier}

found_by : (b any : Bool) (n l : ℕ) → nat_lt n l ≡ any → nat_lt (cond (not b) (1 + n) 0) (suc l) ≡ (b || any)
found_by true any n l h = grind (arith, nat_tests)
found_by false true n l h = grind (arith, nat_tests)
found_by false false n l h = grind (arith, nat_tests)

found : {A : Type 0} (p : A → Bool) (xs : List A) → nat_lt (position_or_len p xs) (length xs) ≡ list_any p xs
found p [] = refl
found p (x ∷ xs) = found_by (p x) (list_any p xs) (position_or_len p xs) (length xs) (found p xs)

has_if : (b : Bool) (n : ℕ) → has_some (cond b (Some n) None) ≡ b
has_if true n = refl
has_if false n = refl

pub named_at : (names : List Name) (name : Identifier) → has_some (place_among names name.bytes) ≡ has_name names (Some name)
named_at names name =
    has_if (nat_lt (position_or_len (bytes_eq name.bytes) names) (length names)) (position_or_len (bytes_eq name.bytes) names) ∙ found (bytes_eq name.bytes) names
