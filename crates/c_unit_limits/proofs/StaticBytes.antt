-- The bytes that a unit's limit counts, as they are added up.
use Rattle.std.proofs.Common.{◌≡◌, ℕ, ◌+◌, List, [], ◌∷◌, map, refl, ap, ◌∙◌, arith}
use Rattle.std.specs.Prelude.{sum, flat_map}
use Rattle.std.proofs.lemmas.List.Sums.{sum_by-cons}
use Rattle.c_types.specs.Layouts.{size_of}
use Rattle.c_types.specs.Table.{Table}
use Rattle.c_tree.specs.declared.typed_word.Home.TheVariants as home
use Rattle.c_tree.specs.TypedTree.{TypedTranslationUnit}
use Rattle.c_tree.specs.TypedParts.{Made, Written, Name, Literal, Address, Copy, MadeObject, static_made, made_by_unit}
use Rattle.c_unit_typing.specs.Limits.{global_bytes}
use Rattle.c_unit_limits.specs.Literals.{statics_made}

bytes_with : Table → MadeObject → ℕ
bytes_with T o = size_of T o.type + 16

pub none_more : {a b : ℕ} → a ≡ b → a ≡ 0 + b
none_more {a} {b} e = omega (arith, e)

one_more : (n : ℕ) (ns : List ℕ) {b : ℕ} → sum ns ≡ b → sum (n ∷ ns) ≡ n + b
one_more n ns e = sum_by-cons (λ (k : ℕ). k) n ns ∙ ap (λ (k : ℕ). n + k) e

statics_sum : (T : Table) (made : List Made) → sum (map (bytes_with T) (flat_map static_made made)) ≡ statics_made T made
unfolding bytes_with
statics_sum T [] = refl
statics_sum T (Written place n ∷ made) = none_more (statics_sum T made)
statics_sum T (Address n ∷ made) = none_more (statics_sum T made)
statics_sum T (Copy t ∷ made) = none_more (statics_sum T made)
statics_sum T (Literal pieces home t ∷ made) = one_more (size_of T t + 16) (map (bytes_with T) (flat_map static_made made)) (statics_sum T made)
statics_sum T (Name name (home.Static n) t ∷ made) = one_more (size_of T t + 16) (map (bytes_with T) (flat_map static_made made)) (statics_sum T made)
statics_sum T (Name name home.None t ∷ made) = none_more (statics_sum T made)
statics_sum T (Name name (home.Local n) t ∷ made) = none_more (statics_sum T made)
statics_sum T (Name name (home.Parameter n) t ∷ made) = none_more (statics_sum T made)
statics_sum T (Name name (home.Known n) t ∷ made) = none_more (statics_sum T made)

-- the bytes of the limit are those of all that lasts in the unit
pub global-bytes : (T : Table) (whole : TypedTranslationUnit) → global_bytes T whole ≡ statics_made T (made_by_unit whole)
unfolding bytes_with
global-bytes T whole = statics_sum T (made_by_unit whole)
