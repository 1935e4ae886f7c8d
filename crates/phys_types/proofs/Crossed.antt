use Rattle.std.specs.Prelude.{◌↔◌}
use Rattle.std.proofs.Common.{◌≡◌, ℕ, ◌+◌, ◌-◌, ◌*◌, ◌/◌, ◌%◌, ◌<◌, ◌≤◌, ◌&&◌, Bool, true, List, [], length, get_or, slice_get, Option, Some, ap, sym, subst, ◌∙◌, inl, inr, ◌⊎◌, arith}
use Rattle.std.specs.List.{Contains}
use Rattle.std.proofs.lemmas.Bool.{cases_lt}
use Rattle.std.proofs.lemmas.Bool.Decides.{Decides-eqb}
use Rattle.std.proofs.lemmas.Option.{slice_get_within, slice_get-get_or, get_or_from_slice_get}
use Rattle.std.proofs.Math.Nat.{add-mod_right}
use native.Mathlib.Nat.{mod-eq_of_lt}
use Rattle.indexmap.specs.IndexSet.{insert_key}
use Rattle.indexmap.proofs.CallerLemmas.{Contains-insert_key}
use Rattle.c_types.specs.Flows.{HeldPointer}
use Rattle.c_types.proofs.Shapes.{first_true, second_true}
use Rattle.cc_base.specs.contracts.number.TypeIdPartialEq.TheImpl as types
use Rattle.cc_base.specs.contracts.number.NodeIdPartialEq.TheImpl as nodes
use Rattle.phys_types.specs.declared.held.Held.{Held}
use Rattle.phys_types.specs.declared.spot.Spot.{Spot}
use Rattle.phys_types.specs.Found.{Pairs, held, Gains, AreThese}
use Rattle.phys_types.specs.Standing.{shown, pointer_of_item, IsAtSpot, IsHeld, IsWith, AreHeld, IsInColumn, StandInColumn}
use Rattle.phys_types.proofs.FoundLemmas.{insert_kept, insert_only, gains_as, gains_nothing, gains_more, gains_then}
use Rattle.phys_types.proofs.AddLemmas.{spot_told, spot_tells}

-- Adding pointers of columns.

some_same : (p q : HeldPointer) → Some p ≡ Some q → p ≡ q
some_same p q h = cc

-- ---- a set of pointers

-- a pointer more, where equal pointers are the same
module _ (eq : Held → Held → Bool) (same : (x y : Held) → eq x y ≡ true → x ≡ y) where
  pub held_more : (old new : List Held) (h : Held) (o : Option Held) → o ≡ Some h → new ≡ insert_key eq old h → (p : HeldPointer) → IsHeld new p ↔ (IsHeld old p ⊎ (shown o ≡ Some p))
  held_more old new h o e f p = (
    λ k. elim (insert_only eq old h k.0 (subst (λ l. Contains l k.0) f k.1)) [
      | inl c ↦ inl (k.0, c, k.2)
      | inr c ↦ inr (ap shown e ∙ ap (λ z. Some (held z)) c ∙ ap (λ z. Some z) k.2)
    ],
    λ k. elim k [
      | inl c ↦ (c.0, subst (λ l. Contains l c.0) (sym f) (insert_kept eq old h c.0 c.1), c.2)
      | inr c ↦ (h, subst (λ l. Contains l h) (sym f) (Contains-insert_key eq same old h), some_same (held h) p (sym (ap shown e) ∙ c))
    ],
  )

-- ---- a column

-- what is found of a column among the first i spots
pub record ColumnSoFar (k c : ℕ) (ss : List Spot) (i : ℕ) (pointers : List Held) : Type 0 where
  pub place : i % k ≡ c
  pub told : (p : HeldPointer) → IsHeld pointers p ↔ ((j : ℕ) × (j < i) × (j % k ≡ c) × IsAtSpot ss j p)

none_held : (p : HeldPointer) → IsHeld [] p → ⊥
none_held p h = omega (arith, h.1.1)

pub column_start : (k c : ℕ) (ss : List Spot) (pointers : List Held) → pointers ≡ [] → c < k → ColumnSoFar k c ss c pointers
column_start k c ss pointers e l = record {
  place = mod-eq_of_lt l;
  told = λ p. (
    λ h. absurd (none_held p (subst (λ x. IsHeld x p) e h)),
    λ h. absurd (let a = mod-eq_of_lt (below h.0 h.1) in let b = h.1 in let d = h.2 in omega arith),
  );
}
  where
    below : (j : ℕ) → j < c → j < k
    below j m = omega arith

more_rows : (a b k : ℕ) → a < b → a * k + k ≤ b * k
more_rows a b k l =
    let e : b * k ≡ a * k + k + (b - (a + 1)) * k = ap (λ n. n * k) (split a b l) ∙ spread a (b - (a + 1)) k in omega arith
  where
    split : (a b : ℕ) → a < b → b ≡ a + 1 + (b - (a + 1))
    split a b l = omega arith

    spread : (a d k : ℕ) → (a + 1 + d) * k ≡ a * k + k + d * k
    spread a d k = grind arith

-- the next number with the same remainder
next_place : (k i j : ℕ) → i ≤ j → j < i + k → j % k ≡ i % k → j ≡ i
next_place k i j a b e =
    let m : j ≡ j / k * k + j % k = omega arith in
    let n : i ≡ i / k * k + i % k = omega arith in
    elim (cases_lt (i / k) (j / k)) [
      | inl l ↦ absurd (let p = more_rows (i / k) (j / k) k l in omega arith)
      | inr l ↦ elim (cases_lt (j / k) (i / k)) [
        | inl f ↦ absurd (let p = more_rows (j / k) (i / k) k f in omega arith)
        | inr f ↦ (let p : j / k * k ≡ i / k * k = ap (λ n. n * k) (both (j / k) (i / k) l f) in omega arith)
      ]
    ]
  where
    both : (a b : ℕ) → a ≤ b → b ≤ a → a ≡ b
    both a b l f = omega arith

pub column_more : (k c : ℕ) (ss : List Spot) (i : ℕ) (d : Spot) (x : Option HeldPointer) (old new : List Held) → 0 < k → i < length ss → x ≡ pointer_of_item (get_or ss i d).item
    → ((p : HeldPointer) → IsHeld new p ↔ (IsHeld old p ⊎ (x ≡ Some p))) → ColumnSoFar k c ss i old → ColumnSoFar k c ss (i + k) new
column_more k c ss i d x old new n l e f s = record {
  place = add-mod_right i k ∙ s.place;
  told = λ p. (
    λ h. elim ((f p).0 h) [
      | inl o ↦ (let r = (s.told p).0 o in (r.0, (let b = r.1 in omega arith), r.2, r.3))
      | inr o ↦ (i, omega arith, s.place, spot_tells ss i d x l e p o)
    ],
    λ h. elim (cases_lt h.0 i) [
      | inl b ↦ (f p).1 (inl ((s.told p).1 (h.0, b, h.2, h.3)))
      | inr b ↦
          let z = next_place k i h.0 b h.1 (h.2 ∙ sym s.place) in
          (f p).1 (inr (spot_told ss i d x l e p (subst (λ j. IsAtSpot ss j p) z h.3)))
    ],
  );
}

pub column_done : (k c : ℕ) (ss : List Spot) (i : ℕ) (pointers : List Held) → length ss ≤ i → ColumnSoFar k c ss i pointers → (p : HeldPointer) → IsHeld pointers p ↔ IsInColumn k c ss p
column_done k c ss i pointers l s p = (
  λ h. (let r = (s.told p).0 h in (r.0, r.2, r.3)),
  λ h. (s.told p).1 (h.0, (let b = slice_get_within ss h.0 h.2.0 h.2.1 in omega arith), h.1, h.2),
)

-- ---- each of some with each of others

module _ (At : ℕ → HeldPointer → HeldPointer → Type 0) where
  abbrev pub Before : ℕ → HeldPointer → HeldPointer → Type 0
  Before n p q = (i : ℕ) × (i < n) × At i p q

  pub each_start : (a : Pairs) → Gains (Before 0) a a
  each_start a = gains_nothing (Before 0) a (λ p q h. omega (arith, h.1))

  pub each_more : (n : ℕ) (a b c : Pairs) → Gains (Before n) a b → Gains (At n) b c → Gains (Before (n + 1)) a c
  each_more n a b c g h =
      gains_more (Before n) (At n) (Before (n + 1)) a b c
      (λ p q d. elim (cases_lt d.0 n) [
        | inl l ↦ inl (d.0, l, d.2)
        | inr l ↦ inr (subst (λ i. At i p q) (last d.0 n l d.1) d.2)
      ])
      (λ p q d. (d.0, (let l = d.1 in omega arith), d.2))
      (λ p q d. (n, omega arith, d)) g h
    where
      last : (i n : ℕ) → n ≤ i → i < n + 1 → i ≡ n
      last i n l m = omega arith

-- the pointer number i
abbrev pub IsHeldAt : List Held → ℕ → HeldPointer → Type 0
IsHeldAt ps i p = (h : Held) × (slice_get ps i ≡ Some h) × (held h ≡ p)

held_from_at : (ps : List Held) (i : ℕ) (p : HeldPointer) → IsHeldAt ps i p → IsHeld ps p
held_from_at ps i p (h, a, b) = (h, (i, slice_get_within ps i h a, get_or_from_slice_get ps i h h a), b)

at_from_held : (ps : List Held) (p : HeldPointer) → IsHeld ps p → (i : ℕ) × (i < length ps) × IsHeldAt ps i p
at_from_held ps p (h, c, b) = (c.0, c.1, (h, slice_get-get_or ps c.0 h c.1 ∙ ap (λ z. Some z) c.2, b))

-- a pointer with the pointer number i of others
abbrev pub IsWithAt : HeldPointer → List Held → ℕ → HeldPointer → HeldPointer → Type 0
IsWithAt p qs i r s = (r ≡ p) × IsHeldAt qs i s

pub with_one : (p : HeldPointer) (qs : List Held) (i : ℕ) (d q : Held) (a b : Pairs) → i < length qs → q ≡ get_or qs i d → Gains (AreThese p (held q)) a b → Gains (IsWithAt p qs i) a b
with_one p qs i d q a b l e g =
    gains_as (AreThese p (held q)) (IsWithAt p qs i) a b
    (λ r s h. (h.0, (q, slice_get-get_or qs i d l ∙ ap (λ z. Some z) (sym e), sym h.1)))
    (λ r s h. (h.0, sym h.1.2 ∙ ap held (sym (get_or_from_slice_get qs i h.1.0 d h.1.1) ∙ sym e))) g

pub with_all : (p : HeldPointer) (qs : List Held) (n : ℕ) (a b : Pairs) → length qs ≤ n → Gains (Before (IsWithAt p qs) n) a b → Gains (IsWith p qs) a b
with_all p qs n a b l g =
    gains_as (Before (IsWithAt p qs) n) (IsWith p qs) a b
    (λ r s h. (h.2.0, held_from_at qs h.0 s h.2.1))
    (λ r s h. let k = at_from_held qs s h.1 in (k.0, (let m = k.1 in omega arith), (h.0, k.2))) g

-- the pointer number i with any of others
abbrev pub AreHeldAt : List Held → List Held → ℕ → HeldPointer → HeldPointer → Type 0
AreHeldAt ps qs i p q = IsHeldAt ps i p × IsHeld qs q

pub each_one : (ps qs : List Held) (i : ℕ) (d p : Held) (a b : Pairs) → i < length ps → p ≡ get_or ps i d → Gains (IsWith (held p) qs) a b → Gains (AreHeldAt ps qs i) a b
each_one ps qs i d p a b l e g =
    gains_as (IsWith (held p) qs) (AreHeldAt ps qs i) a b
    (λ r s h. ((p, slice_get-get_or ps i d l ∙ ap (λ z. Some z) (sym e), sym h.0), h.1))
    (λ r s h. (sym h.0.2 ∙ ap held (sym (get_or_from_slice_get ps i h.0.0 d h.0.1) ∙ sym e), h.1)) g

pub each_all : (ps qs : List Held) (n : ℕ) (a b : Pairs) → length ps ≤ n → Gains (Before (AreHeldAt ps qs) n) a b → Gains (AreHeld ps qs) a b
each_all ps qs n a b l g =
    gains_as (Before (AreHeldAt ps qs) n) (AreHeld ps qs) a b
    (λ r s h. (held_from_at ps h.0 r h.2.0, h.2.1))
    (λ r s h. let k = at_from_held ps r h.0 in (k.0, (let m = k.1 in omega arith), (k.2, h.1))) g

-- ---- columns

pub column_crossed : (k : ℕ) (xs ys : List Spot) (c : ℕ) (ps qs : List Held) (a b d e : Pairs) → ((p : HeldPointer) → IsHeld ps p ↔ IsInColumn k c xs p)
    → ((p : HeldPointer) → IsHeld qs p ↔ IsInColumn k c ys p) → Gains (AreHeld ps qs) a b → Gains (AreHeld ps ps) b d → Gains (AreHeld qs qs) d e → Gains (StandInColumn k xs ys c) a e
column_crossed k xs ys c ps qs a b d e f g h i j =
    gains_more (AreHeld ps qs) (λ p q. AreHeld ps ps p q ⊎ AreHeld qs qs p q) (StandInColumn k xs ys c) a b e
    (λ p q s. elim s [
      | inl m ↦ inl ((f p).1 m.0, (g q).1 m.1)
      | inr o ↦ elim o [
        | inl m ↦ inr (inl ((f p).1 m.0, (f q).1 m.1))
        | inr m ↦ inr (inr ((g p).1 m.0, (g q).1 m.1))
      ]
    ])
    (λ p q m. inl ((f p).0 m.0, (g q).0 m.1))
    (λ p q o. elim o [
      | inl m ↦ inr (inl ((f p).0 m.0, (f q).0 m.1))
      | inr m ↦ inr (inr ((g p).0 m.0, (g q).0 m.1))
    ])
    h (gains_then (AreHeld ps ps) (AreHeld qs qs) b d e i j)

-- ---- pointers are compared node by node and type by type

abbrev pub held_eq : Held → Held → Bool
held_eq x y = nodes.ghosts.eq x.node y.node && types.ghosts.eq x.to y.to

pub same_held : (x y : Held) → held_eq x y ≡ true → x ≡ y
same_held x y h =
    let a = (Decides-eqb x.node.0 y.node.0).0 (first_true (nodes.ghosts.eq x.node y.node) _ h) in
    let b = (Decides-eqb x.to.0 y.to.0).0 (second_true (nodes.ghosts.eq x.node y.node) (types.ghosts.eq x.to y.to) h) in
    λ i. record { node = record { 0 = a i }; to = record { 0 = b i } }
