-- The data types among the first of a table.
use Rattle.std.proofs.Common.{◌≡◌, ◌⊎◌, ◌↔◌, ℕ, zero, suc, ◌<◌, ◌+◌, List, [], ◌∷◌, ◌++◌, length, Bool, true, false, inl, inr, sym, ◌∙◌, subst, refl, ap, arith}
use Rattle.std.specs.List.{Contains}
use Rattle.std.proofs.lemmas.List.Elements.{Contains-append_left, Contains-push, Contains-push_cases}
use Rattle.cc_base.specs.declared.number.TypeId.{TypeId}
use Rattle.cc_base.specs.declared.number.NodeId.{NodeId}
use Rattle.c_types.specs.declared.shape.TypeShape.{TypeShape}
use Rattle.c_types.specs.declared.shape.TypeShape.TheVariants as shape
use Rattle.c_types.specs.Table.{Table, IsType, is_function, is_function_shape}
use Rattle.rtti_nodes.specs.Classes.{IsData}

-- what is of another shape than a function
pub plain_shape : (s : TypeShape) → (s ≡ shape.Void) ⊎ (((n : ℕ) × (signed : Bool) × (s ≡ shape.Integer n signed))
    ⊎ (((n : NodeId) × (t : TypeId) × (s ≡ shape.Pointer n t)) ⊎ (((t : TypeId) × (n : ℕ) × (s ≡ shape.Array t n))
    ⊎ (((tag : ℕ) × (s ≡ shape.Struct tag)) ⊎ ((tag : ℕ) × (s ≡ shape.Union tag)))))) → is_function_shape s ≡ false
plain_shape s (inl e) = ap is_function_shape e
plain_shape s (inr (inl (n, signed, e))) = ap is_function_shape e
plain_shape s (inr (inr (inl (n, t, e)))) = ap is_function_shape e
plain_shape s (inr (inr (inr (inl (t, n, e))))) = ap is_function_shape e
plain_shape s (inr (inr (inr (inr (inl (tag, e)))))) = ap is_function_shape e
plain_shape s (inr (inr (inr (inr (inr (tag, e)))))) = ap is_function_shape e

-- the list has exactly the data types among the first n
pub record AreDataBelow (table : Table) (n : ℕ) (all : List TypeId) : Type 0 where
  pub sound : (t : TypeId) → Contains all t → IsData table t
  pub whole : (t : TypeId) → IsData table t → t.0 < n → Contains all t

abbrev at : ℕ → TypeId
at n = record { 0 = n }

none_held : (t : TypeId) → Contains [] t → ⊥
none_held t (k, lt, same) = omega (arith, lt)

pub none_yet : (table : Table) → AreDataBelow table 0 []
none_yet table = record {
  sound = λ t c. absurd (none_held t c);
  whole = λ t is lt. absurd (omega (arith, lt));
}

before_or_at : (k n : ℕ) → k < n + 1 → (k < n) ⊎ (k ≡ n)
before_or_at zero zero lt = inr refl
before_or_at zero (suc n) lt = inl (omega arith)
before_or_at (suc k) zero lt = absurd (omega (arith, lt))
before_or_at (suc k) (suc n) lt = elim (before_or_at k n (omega (arith, lt))) [
  | inl before ↦ inl (omega (arith, before))
  | inr here ↦ inr (ap suc here)
]

pub passed : (table : Table) (n : ℕ) (all : List TypeId) → AreDataBelow table n all → is_function table (at n) ≡ true → AreDataBelow table (n + 1) all
passed table n all below function = record {
  sound = below.sound;
  whole = λ t is lt. elim (before_or_at t.0 n lt) [
    | inl before ↦ below.whole t is before
    | inr here ↦ absurd (clash (sym is.plain ∙ ap (is_function table) (ap at here) ∙ function))
  ];
} where
  clash : false ≡ true → ⊥
  clash e = cc (e)

pub pushed : (table : Table) (n : ℕ) (all : List TypeId) → AreDataBelow table n all → n < length table → is_function table (at n) ≡ false
    → AreDataBelow table (n + 1) (all ++ at n ∷ [])
pushed table n all below typed plain = record {
  sound = λ t c. elim (Contains-push_cases all (at n) t c) [
    | inl held ↦ below.sound t held
    | inr here ↦ subst (IsData table) here (record { typed = typed; plain = plain })
  ];
  whole = λ t is lt. elim (before_or_at t.0 n lt) [
    | inl before ↦ Contains-append_left all (at n ∷ []) t (below.whole t is before)
    | inr here ↦ subst (Contains (all ++ at n ∷ [])) (sym (ap at here)) (Contains-push all (at n))
  ];
}

pub all_of_them : (table : Table) (all : List TypeId) → AreDataBelow table (length table) all → (t : TypeId) → Contains all t ↔ IsData table t
all_of_them table all below t = (below.sound t, λ is. below.whole t is is.typed)
