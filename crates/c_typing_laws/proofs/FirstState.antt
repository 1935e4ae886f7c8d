-- What is known where a unit begins.
use Rattle.std.proofs.Common.{◌≡◌, ℕ, zero, suc, Bool, true, false, List, [], refl, sym, subst, inl, inr, lit<, arith}
use Rattle.std.specs.List.{Contains}
use Rattle.std.proofs.lemmas.List.Elements.{All-nil, All-cons}
use Rattle.cc_base.specs.declared.number.TypeId.{TypeId}
use Rattle.c_types.specs.declared.shape.TypeShape.{TypeShape}
use Rattle.c_types.specs.declared.shape.TypeShape.TheVariants.{Void, Integer, Pointer, Array, Function, Struct, Union}
use Rattle.c_types.specs.Table.{HasShape, shape_at, members_at, named_by, is_aggregate_shape, is_complete_entry}
use Rattle.c_types.specs.Sound.{IsWellFormed, IsIntegerSize}
use Rattle.c_types.specs.Calls.{basic_table}
use Rattle.c_typing.specs.Judging.{State, integer_number}
use Rattle.c_typing.specs.Scopes.{Name, Scopes, file_scope, empty_level, is_complete_shape_at}
use Rattle.c_typing.specs.Settled.{IsLevelThere, IsKnown}
use Rattle.c_typing_laws.proofs.ExtensionLaws.{no_true}
use Rattle.c_typing_laws.proofs.KnownScopes.{no-number, empty-there}

abbrev number : ℕ → TypeId
number n = record { 0 = n }

no_names : (n : ℕ) → named_by (shape_at basic_table (number n)) ≡ []
no_names zero = refl
no_names (suc zero) = refl
no_names (suc (suc zero)) = refl
no_names (suc (suc (suc zero))) = refl
no_names (suc (suc (suc (suc zero)))) = refl
no_names (suc (suc (suc (suc (suc zero))))) = refl
no_names (suc (suc (suc (suc (suc (suc zero)))))) = refl
no_names (suc (suc (suc (suc (suc (suc (suc zero))))))) = refl
no_names (suc (suc (suc (suc (suc (suc (suc (suc zero)))))))) = refl
no_names (suc (suc (suc (suc (suc (suc (suc (suc (suc n))))))))) = refl

no_aggregate : (n : ℕ) → is_aggregate_shape (shape_at basic_table (number n)) ≡ false
no_aggregate zero = refl
no_aggregate (suc zero) = refl
no_aggregate (suc (suc zero)) = refl
no_aggregate (suc (suc (suc zero))) = refl
no_aggregate (suc (suc (suc (suc zero)))) = refl
no_aggregate (suc (suc (suc (suc (suc zero))))) = refl
no_aggregate (suc (suc (suc (suc (suc (suc zero)))))) = refl
no_aggregate (suc (suc (suc (suc (suc (suc (suc zero))))))) = refl
no_aggregate (suc (suc (suc (suc (suc (suc (suc (suc zero)))))))) = refl
no_aggregate (suc (suc (suc (suc (suc (suc (suc (suc (suc n))))))))) = refl

none_in : (u : TypeId) → Contains {X = TypeId} [] u → ⊥
none_in u c = let l = c.1 in omega arith

integer_there : (b : ℕ) (signed : Bool) → IsIntegerSize b → HasShape basic_table (number (integer_number b signed)) (Integer b signed)
integer_there b signed (inl h) = subst (λ (n : ℕ). HasShape basic_table (number (integer_number n signed)) (Integer n signed)) (sym h) (by signed)
  where
    by : (c : Bool) → HasShape basic_table (number (integer_number 1 c)) (Integer 1 c)
    by true = (lit< tt, refl)
    by false = (lit< tt, refl)
integer_there b signed (inr (inl h)) = subst (λ (n : ℕ). HasShape basic_table (number (integer_number n signed)) (Integer n signed)) (sym h) (by signed)
  where
    by : (c : Bool) → HasShape basic_table (number (integer_number 2 c)) (Integer 2 c)
    by true = (lit< tt, refl)
    by false = (lit< tt, refl)
integer_there b signed (inr (inr (inl h))) = subst (λ (n : ℕ). HasShape basic_table (number (integer_number n signed)) (Integer n signed)) (sym h) (by signed)
  where
    by : (c : Bool) → HasShape basic_table (number (integer_number 4 c)) (Integer 4 c)
    by true = (lit< tt, refl)
    by false = (lit< tt, refl)
integer_there b signed (inr (inr (inr h))) = subst (λ (n : ℕ). HasShape basic_table (number (integer_number n signed)) (Integer n signed)) (sym h) (by signed)
  where
    by : (c : Bool) → HasShape basic_table (number (integer_number 8 c)) (Integer 8 c)
    by true = (lit< tt, refl)
    by false = (lit< tt, refl)

complete_by : (s : Scopes) (x : TypeShape) (ms : List TypeId) → is_aggregate_shape x ≡ false → is_complete_shape_at s (is_complete_entry x ms) x ≡ true
    → is_complete_entry x ms ≡ true
complete_by s Void ms p h = h
complete_by s (Integer bytes signed) ms p h = h
complete_by s (Pointer n t) ms p h = h
complete_by s (Array t n) ms p h = h
complete_by s (Function ps r) ms p h = h
complete_by s (Struct n) ms p h = no_true (sym p)
complete_by s (Union n) ms p h = no_true (sym p)

pub first-known : (defined : List Name) (s : State) → IsWellFormed basic_table → s.table ≡ basic_table → s.seen ≡ file_scope defined → IsKnown s
first-known defined s w t q =
    let here : IsKnown (record { table = basic_table; seen = file_scope defined }) = record {
      basic = record {
        formed = w;
        built = λ a u c. absurd (none_in u (subst (λ (l : List TypeId). Contains l u) (no_names a.0) c));
        void = (lit< tt, refl);
        integers = λ k size. integer_there k.bytes k.signed size;
      };
      followed = λ a h. complete_by (file_scope defined).scopes (shape_at basic_table a) (members_at basic_table a) (no_aggregate a.0) h;
      levels = All-cons (IsLevelThere basic_table) empty_level [] (empty-there basic_table) (All-nil (IsLevelThere basic_table));
      numbered = record {
        closed = λ a n h. no-number (shape_at basic_table a) n (no_aggregate a.0) h;
        given = λ a n h. no-number (shape_at basic_table a) n (no_aggregate a.0) h;
        own = λ a u n h g. no-number (shape_at basic_table a) n (no_aggregate a.0) h;
      };
    } in
    subst IsKnown (λ i. record { table = sym t i; seen = sym q i }) here
