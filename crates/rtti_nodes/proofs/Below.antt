-- A node is below another where its type covers the other's.
use Rattle.std.specs.Prelude.{◌↔◌, IsTrue, slice_index}
use Rattle.std.proofs.Common.{◌≡◌, ℕ, zero, suc, ◌+◌, ◌-◌, ◌<◌, ◌≤◌, Bool, true, false, ◌||◌, List, [], ◌∷◌, length, get_or, slice_get, nat_eq, Some, refl, ap, sym, subst, ◌∙◌, inl, inr, ◌⊎◌, true≢false, arith}
use Rattle.std.proofs.lemmas.Bool.Decides.{nat_tests}
use Rattle.std.proofs.lemmas.Option.{get_or_from_slice_get}
use Rattle.cc_base.specs.declared.number.TypeId.{TypeId}
use Rattle.cc_base.specs.declared.number.NodeId.{NodeId}
use Rattle.cc_base.specs.declared.kind.Kind.{Kind}
use Rattle.c_types.specs.Table.{Table}
use Rattle.c_types.specs.Flows.{Covers}
use Rattle.c_types.specs.Coverage.{covers}
use Rattle.c_types.specs.Sound.{IsWellFormed}
use Rattle.type_laws.proofs.Coverage.{covers_is}
use Rattle.type_laws.proofs.Pointers.{covers_own, covers_twice}
use Rattle.cured_code.specs.Tables.{parent_of, is_below_within, is_below}
use Rattle.rtti_nodes.specs.Classes.{IsLastCovered, AreFirsts}
use Rattle.rtti_nodes.proofs.Prefixes.{covers_between, class_if_long}

pub same_some : {A : Type 0} (x y : A) → Some x ≡ Some y → x ≡ y
same_some x y h = cc

pub there : {A : Type 0} (xs : List A) (i : ℕ) → i < length xs → (x : A) × (slice_get xs i ≡ Some x)
there [] i h = absurd (omega (arith, h))
there (x ∷ xs) zero h = (x, refl)
there (x ∷ xs) (suc i) h = there xs i (omega (arith, h))

pub within : {A : Type 0} (xs : List A) (i : ℕ) (x : A) → slice_get xs i ≡ Some x → i < length xs
within [] i x h = absurd (cc (h))
within (y ∷ xs) zero x h = omega arith
within (y ∷ xs) (suc i) x h = let k = within xs i x h in omega arith

either : (a b : Bool) → (a || b) ≡ true → (a ≡ true) ⊎ (b ≡ true)
either true b h = inl refl
either false b h = inr h

or_second : (a b : Bool) → b ≡ true → (a || b) ≡ true
or_second true b h = refl
or_second false b h = h

or_first : (a b : Bool) → a ≡ true → (a || b) ≡ true
or_first true b h = refl
or_first false b h = absurd (true≢false (sym h))

pub zero_or : (p : ℕ) → (p ≡ 0) ⊎ ((k : ℕ) × (p ≡ suc k))
zero_or zero = inl refl
zero_or (suc k) = inr (k, refl)

-- no node is an ancestor of 0
pub none_below : (far : ℕ) (parents : List ℕ) (b : ℕ) → 0 < b → is_below_within far parents 0 b ≡ false
none_below zero parents b h = grind (arith, nat_tests)
none_below (suc far) parents b h =
    let e : nat_eq 0 b ≡ false = grind (arith, nat_tests) in (λ i. e i || is_below_within far parents 0 b) ∙ none_below far parents b h

same_place : (i j : ℕ) → nat_eq (suc i) (suc j) ≡ true → i ≡ j
same_place i j h = grind (arith, nat_tests)

place_same : (i j : ℕ) → i ≡ j → nat_eq (suc i) (suc j) ≡ true
place_same i j h = grind (arith, nat_tests)

pub order_of : (i j : ℕ) → (i ≡ j) ⊎ (i < j) ⊎ (j < i)
order_of i j = grind arith

module _ (table : Table) (w : IsWellFormed table) (kind : NodeId → Kind) (firsts : List TypeId) (parents : List ℕ) (f : AreFirsts table kind firsts parents) where
  own : (i j : ℕ) (t u : TypeId) → slice_get firsts i ≡ Some t → slice_get firsts j ≡ Some u → nat_eq (suc i) (suc j) ≡ true → Covers table kind t u
  own i j t u a b e =
      let s : t ≡ u = same_some t u (sym a ∙ ap (slice_get firsts) (same_place i j e) ∙ b) in
      subst (Covers table kind t) s (covers_own table kind t (f.types i t a).plain)

  -- the parent of a node that has one
  parent_there : (i p : ℕ) (t : TypeId) → slice_get firsts i ≡ Some t → slice_index parents i ≡ suc p → (v : TypeId) × (slice_get firsts p ≡ Some v)
  parent_there i p t a z = let l = (f.parent i t a).within in there firsts p (let m = within firsts i t a in omega arith)

  above : (far i j : ℕ) (t u : TypeId) → slice_get firsts i ≡ Some t → slice_get firsts j ≡ Some u
      → ((p : ℕ) (v : TypeId) → slice_get firsts p ≡ Some v → is_below_within far parents (suc p) (suc j) ≡ true → Covers table kind v u)
      → is_below_within far parents (slice_index parents i) (suc j) ≡ true → Covers table kind t u
  above far i j t u a b next k = elim (zero_or (slice_index parents i)) [
    | inl z ↦ absurd (true≢false (sym k ∙ ap (λ n. is_below_within far parents n (suc j)) z ∙ none_below far parents (suc j) (omega arith)))
    | inr q ↦ up q.0 q.1
  ]
    where
      up : (p : ℕ) → slice_index parents i ≡ suc p → Covers table kind t u
      up p z =
          let v = parent_there i p t a z in
          covers_twice table kind w t v.0 u ((f.parent i t a).covered p v.0 z v.1) (next p v.0 v.1 (sym (ap (λ n. is_below_within far parents n (suc j)) z) ∙ k))

  pub sound : (far i j : ℕ) (t u : TypeId) → slice_get firsts i ≡ Some t → slice_get firsts j ≡ Some u → is_below_within far parents (suc i) (suc j) ≡ true → Covers table kind t u
  sound zero i j t u a b h = own i j t u a b h
  sound (suc far) i j t u a b h = elim (either (nat_eq (suc i) (suc j)) _ h) [
    | inl e ↦ own i j t u a b e
    | inr k ↦ above far i j t u a b (λ p v c d. sound far p j v u c b d) k
  ]

  -- what a type covers doesn't come behind it
  not_before : (i j : ℕ) (t u : TypeId) → slice_get firsts i ≡ Some t → slice_get firsts j ≡ Some u → i < j → Covers table kind t u → ⊥
  not_before i j t u a b l c =
      f.apart i j t u l a b (class_if_long table w kind t u (f.types i t a).typed (f.types j u b).typed (f.rising i j t u (omega arith) a b) c)

  climb : (far i j : ℕ) (t u : TypeId) → slice_get firsts i ≡ Some t → slice_get firsts j ≡ Some u → i ≤ suc far → j < i → Covers table kind t u
      → ((p : ℕ) (v : TypeId) → p ≤ far → slice_get firsts p ≡ Some v → Covers table kind v u → is_below_within far parents (suc p) (suc j) ≡ true)
      → is_below_within far parents (slice_index parents i) (suc j) ≡ true
  climb far i j t u a b n l c next = elim (zero_or (slice_index parents i)) [
    | inl z ↦ absurd ((f.parent i t a).behind j u (omega arith) l b c)
    | inr q ↦ up q.0 q.1
  ]
    where
      at_least : (p : ℕ) → slice_index parents i ≡ suc p → (p < j) ⊎ (j ≤ p)
      at_least p z = grind arith

      up : (p : ℕ) → slice_index parents i ≡ suc p → is_below_within far parents (slice_index parents i) (suc j) ≡ true
      up p z = elim (at_least p z) [
        | inl k ↦ absurd ((f.parent i t a).behind j u (omega arith) l b c)
        | inr k ↦ (
            let v = parent_there i p t a z in
            let m = (f.parent i t a).within in
            ap (λ n. is_below_within far parents n (suc j)) z
            ∙ next p v.0 (omega arith) v.1 (covers_between table w kind t v.0 u (f.rising j p u v.0 k b v.1) ((f.parent i t a).covered p v.0 z v.1) c))
      ]

  pub complete : (far i j : ℕ) (t u : TypeId) → i ≤ far → slice_get firsts i ≡ Some t → slice_get firsts j ≡ Some u → Covers table kind t u
      → is_below_within far parents (suc i) (suc j) ≡ true
  complete zero i j t u n a b c = elim (order_of i j) [
    | inl e ↦ place_same i j e
    | inr o ↦ elim o [
      | inl l ↦ absurd (not_before i j t u a b l c)
      | inr l ↦ absurd (omega arith)
    ]
  ]
  complete (suc far) i j t u n a b c = elim (order_of i j) [
    | inl e ↦ or_first (nat_eq (suc i) (suc j)) _ (place_same i j e)
    | inr o ↦ elim o [
      | inl l ↦ absurd (not_before i j t u a b l c)
      | inr l ↦ or_second (nat_eq (suc i) (suc j)) _ (climb far i j t u a b n l c (λ p v m d g. complete far p j v u m d b g))
    ]
  ]

  pub below_is : (i j : ℕ) (t u : TypeId) → slice_get firsts i ≡ Some t → slice_get firsts j ≡ Some u → IsTrue (is_below parents (suc i) (suc j)) ↔ Covers table kind t u
  below_is i j t u a b = (
    sound (length parents) i j t u a b,
    complete (length parents) i j t u (let m = within firsts i t a in let e = f.count in omega arith) a b,
  )

-- a step up
pub below_next : (n i : ℕ) (parents : List ℕ) (a b : ℕ) → i < n → (a ≡ b → ⊥) → is_below_within (n - i) parents a b ≡ is_below_within (n - (i + 1)) parents (parent_of parents a) b
below_next n i parents a b l h =
    let e : n - i ≡ suc (n - (i + 1)) = omega arith in
    let f : nat_eq a b ≡ false = grind (arith, nat_tests) in
    ap (λ far. is_below_within far parents a b) e ∙ (λ j. f j || is_below_within (n - (i + 1)) parents (parent_of parents a) b)

-- The search from behind

module _ (table : Table) (kind : NodeId → Kind) (firsts : List TypeId) (t : TypeId) where
  pub last_is : (last : ℕ) (d : TypeId) → 0 < last → last ≤ length firsts → Covers table kind t (get_or firsts (last - 1) d)
      → ((i : ℕ) (u : TypeId) → last ≤ i → i < length firsts → slice_get firsts i ≡ Some u → Covers table kind t u → ⊥) → IsLastCovered table kind firsts (length firsts) t last
  last_is last d p l c b = record {
    within = l;
    covered = λ i u e f.
        let q : last - 1 ≡ i = omega (arith, e) in
        subst (Covers table kind t) (ap (λ n. get_or firsts n d) q ∙ get_or_from_slice_get firsts i u d f) c;
    behind = b;
  }

  pub not_this : (last : ℕ) (d : TypeId) → 0 < last → covers table kind t (get_or firsts (last - 1) d) ≡ false
      → ((i : ℕ) (u : TypeId) → last ≤ i → slice_get firsts i ≡ Some u → Covers table kind t u → ⊥)
      → (i : ℕ) (u : TypeId) → last - 1 ≤ i → slice_get firsts i ≡ Some u → Covers table kind t u → ⊥
  not_this last d p n b i u l e c = by (which last i p l)
    where
      which : (a j : ℕ) → 0 < a → a - 1 ≤ j → (a ≤ j) ⊎ (a - 1 ≡ j)
      which a j q m = grind arith

      by : (last ≤ i) ⊎ (last - 1 ≡ i) → ⊥
      by (inl m) = b i u m e c
      by (inr m) =
          let f : get_or firsts (last - 1) d ≡ u = ap (λ k. get_or firsts k d) m ∙ get_or_from_slice_get firsts i u d e in
          true≢false (sym ((covers_is table kind t u).1 c) ∙ ap (covers table kind t) (sym f) ∙ n)
