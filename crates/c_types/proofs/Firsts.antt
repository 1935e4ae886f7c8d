use Rattle.std.proofs.Common.{◌≡◌, ℕ, zero, suc, ◌<◌, List, [], ◌∷◌, ◌++◌, length, get_or, refl, ap, sym, subst, ◌∙◌, inl, inr, ◌⊎◌, arith}
use Rattle.std.specs.List.{Contains}
use Rattle.std.proofs.lemmas.List.{get_or_append_left, length-append}
use Rattle.std.proofs.lemmas.List.Elements.{All-contains, Contains-append_left, Contains-append_right, Contains-append_cases}
use Rattle.std.proofs.Math.Seq.{get_or-append_seam}
use Rattle.indexmap.specs.IndexMap.{set_value_at}
use Rattle.cc_base.specs.declared.number.TypeId.{TypeId}
use Rattle.c_types.specs.declared.kept.Kept.{Kept}
use Rattle.c_types.specs.declared.shape.TypeShape.{TypeShape}
use Rattle.c_types.specs.Table.{Table, shape_at, named_by, IsType}
use Rattle.c_types.specs.Sameness.{canonical}
use Rattle.c_types.specs.Sound.{IsWellFormed}
use Rattle.c_types.specs.Kept.{KeptEntry, KnownShape, AreFirst, IsFound, canonical_at, first_at, firsts_of}
use Rattle.c_types.specs.Calls.{IsAddable, basic_entry}
use Rattle.c_types.proofs.Lists.{contains_head}
use Rattle.c_types.proofs.Sameness.{canonical_local}
use Rattle.c_types.proofs.Adding.{place, shape_old, shape_last}

-- The first types stay right where the table changes.

only_element : {X : Type 0} (x y : X) → Contains (x ∷ []) y → y ≡ x
only_element x y (zero, b, e) = sym e
only_element x y (suc i, b, e) = absurd (omega (arith, b))

-- ---- a search for a canonical shape

module _ (known after : List KnownShape) (shape : TypeShape) (t first : TypeId) (f : IsFound known after shape t first) where
  -- the shape is there now, beside its first type
  found_here : Contains after (shape, first)
  found_here = elim f [
    | inl h ↦ subst (λ (l : List KnownShape). Contains {X = KnownShape} l (shape, first)) (sym h.1) h.0
    | inr h ↦
        subst (λ (l : List KnownShape). Contains {X = KnownShape} l (shape, first)) (sym h.2)
        (Contains-append_right known ((shape, t) ∷ []) (shape, first)
        (subst (λ (u : TypeId). Contains {X = KnownShape} ((shape, t) ∷ []) (shape, u)) (sym h.1) (contains_head (shape, t) [])))
  ]

  still_known : (p : KnownShape) → Contains known p → Contains after p
  still_known p c = elim f [
    | inl h ↦ subst (λ (l : List KnownShape). Contains {X = KnownShape} l p) (sym h.1) c
    | inr h ↦ subst (λ (l : List KnownShape). Contains {X = KnownShape} l p) (sym h.2) (Contains-append_left known ((shape, t) ∷ []) p c)
  ]

  IsLast : KnownShape → Type 0
  IsLast p = ((u : TypeId) → Contains known (shape, u) → ⊥) × (p ≡ (shape, t))

  known_before : (p : KnownShape) → Contains after p → Contains known p ⊎ IsLast p
  unfolding IsLast
  known_before p c = elim f [
    | inl h ↦ inl (subst (λ (l : List KnownShape). Contains {X = KnownShape} l p) h.1 c)
    | inr h ↦ elim (Contains-append_cases known ((shape, t) ∷ []) p (subst (λ (l : List KnownShape). Contains {X = KnownShape} l p) h.2 c)) [
      | inl k ↦ inl k
      | inr k ↦ inr (h.0, only_element (shape, t) p k)
    ]
  ]

  unique_after : ((x : TypeShape) (u v : TypeId) → Contains known (x, u) → Contains known (x, v) → u ≡ v)
      → (x : TypeShape) (u v : TypeId) → Contains after (x, u) → Contains after (x, v) → u ≡ v
  unfolding IsLast
  unique_after unique x u v c d = elim (known_before (x, u) c) [
    | inl h ↦ elim (known_before (x, v) d) [
      | inl k ↦ unique x u v h k
      | inr k ↦ absurd (k.0 u (subst (λ (y : TypeShape). Contains {X = KnownShape} known (y, u)) (ap (λ (p : KnownShape). p.0) k.1) h))
    ]
    | inr h ↦ elim (known_before (x, v) d) [
      | inl k ↦ absurd (h.0 v (subst (λ (y : TypeShape). Contains {X = KnownShape} known (y, v)) (ap (λ (p : KnownShape). p.0) h.1) k))
      | inr k ↦ ap (λ (p : KnownShape). p.1) h.1 ∙ sym (ap (λ (p : KnownShape). p.1) k.1)
    ]
  ]

-- ---- a type at the end of the table

module _ (old : Table) (shape : TypeShape) (firsts : List TypeId) (known after : List KnownShape) (t first : TypeId)
    (w : IsWellFormed old) (a : IsAddable old shape) (s : AreFirst old firsts known) (l : length firsts ≡ length old) (n : t.0 ≡ length old)
    (f : IsFound known after (canonical (first_at firsts) shape) t first) where
  first_old : (u : TypeId) → u.0 < length old → first_at (firsts ++ first ∷ []) u ≡ first_at firsts u
  first_old u b = get_or_append_left firsts (first ∷ []) u u.0 (omega arith)

  first_last : (u : TypeId) → u.0 ≡ length old → first_at (firsts ++ first ∷ []) u ≡ first
  first_last u e = ap (λ (i : ℕ). get_or (firsts ++ first ∷ []) i u) (e ∙ sym l) ∙ get_or-append_seam firsts first [] u

  canonical_old : (u : TypeId) → u.0 < length old → canonical_at (old ++ basic_entry shape ∷ []) (firsts ++ first ∷ []) u ≡ canonical_at old firsts u
  canonical_old u b =
      ap (canonical (first_at (firsts ++ first ∷ []))) (shape_old old shape u b)
      ∙ canonical_local (first_at (firsts ++ first ∷ [])) (first_at firsts) (shape_at old u)
      (λ m c. first_old m (All-contains (IsType old) (named_by (shape_at old u)) m (w.each u).named c))

  canonical_last : (u : TypeId) → u.0 ≡ length old → canonical_at (old ++ basic_entry shape ∷ []) (firsts ++ first ∷ []) u ≡ canonical (first_at firsts) shape
  canonical_last u e =
      ap (canonical (first_at (firsts ++ first ∷ []))) (shape_last old shape u e)
      ∙ canonical_local (first_at (firsts ++ first ∷ [])) (first_at firsts) shape (λ m c. first_old m (All-contains (IsType old) (named_by shape) m a.named c))

  known_each : (u : TypeId) → IsType (old ++ basic_entry shape ∷ []) u
      → Contains after (canonical_at (old ++ basic_entry shape ∷ []) (firsts ++ first ∷ []) u, first_at (firsts ++ first ∷ []) u)
  known_each u b = elim (place old shape u b) [
    | inl e ↦
        subst (Contains after) (λ i. (sym (canonical_last u e) i, sym (first_last u e) i))
        (found_here known after (canonical (first_at firsts) shape) t first f)
    | inr m ↦
        subst (Contains after) (λ i. (sym (canonical_old u m) i, sym (first_old u m) i))
        (still_known known after (canonical (first_at firsts) shape) t first f (canonical_at old firsts u, first_at firsts u) (s.each u m))
  ]

  known_shaped : (x : TypeShape) (u : TypeId) → Contains after (x, u)
      → IsType (old ++ basic_entry shape ∷ []) u × (canonical_at (old ++ basic_entry shape ∷ []) (firsts ++ first ∷ []) u ≡ x)
  unfolding IsLast
  known_shaped x u c =
      let longer = length-append old (basic_entry shape ∷ []) in
      elim (known_before known after (canonical (first_at firsts) shape) t first f (x, u) c) [
        | inl h ↦ let k = s.shaped x u h in (omega (arith, k.0), canonical_old u k.0 ∙ k.1)
        | inr h ↦
            let e : u.0 ≡ length old = ap (λ (p : KnownShape). p.1.0) h.1 ∙ n in
            (omega arith, canonical_last u e ∙ sym (ap (λ (p : KnownShape). p.0) h.1))
      ]

  pub first_added : AreFirst (old ++ basic_entry shape ∷ []) (firsts ++ first ∷ []) after
  first_added = record {
    each = known_each;
    shaped = known_shaped;
    unique = unique_after known after (canonical (first_at firsts) shape) t first f s.unique;
  }

-- ---- members are given to a type

-- the first types stand on the shapes alone
pub first_kept : (old new : Table) (firsts : List TypeId) (known : List KnownShape) → length new ≡ length old
    → ((u : TypeId) → shape_at new u ≡ shape_at old u) → AreFirst old firsts known → AreFirst new firsts known
first_kept old new firsts known l e s = record {
  each = λ u b. subst (λ (x : TypeShape). Contains known (canonical (first_at firsts) x, first_at firsts u)) (sym (e u)) (s.each u (omega arith));
  shaped = λ x u c. let k = s.shaped x u c in (omega (arith, k.0), ap (canonical (first_at firsts)) (e u) ∙ k.1);
  unique = s.unique;
}

pub firsts_set : (es : List KeptEntry) (i : ℕ) (k : Kept) (d : TypeId) → k.first ≡ get_or (firsts_of es) i d → firsts_of (set_value_at es i k) ≡ firsts_of es
firsts_set [] i k d h = refl
firsts_set (e ∷ es) zero k d h = λ j. h j ∷ firsts_of es
firsts_set (e ∷ es) (suc i) k d h = ap (λ (l : List TypeId). e.1.first ∷ l) (firsts_set es i k d h)
