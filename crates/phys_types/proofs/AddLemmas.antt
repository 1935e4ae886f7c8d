use Rattle.std.proofs.Common.{◌≡◌, ℕ, zero, suc, ◌+◌, ◌<◌, ◌≤◌, List, ◌∷◌, length, min, get_or, Option, Some, refl, ap, sym, subst, ◌∙◌, inl, inr, ◌⊎◌, arith}
use Rattle.std.proofs.lemmas.Bool.{cases_lt}
use Rattle.std.proofs.lemmas.Option.{slice_get_within, slice_get-get_or, get_or_from_slice_get}
use Rattle.cc_base.specs.declared.number.TypeId.{TypeId}
use Rattle.c_types.specs.Table.{Table, shape_at}
use Rattle.c_types.specs.Flows.{HeldPointer, pointer_of_shape}
use Rattle.phys_types.specs.declared.held.Held.{Held}
use Rattle.phys_types.specs.declared.spot.Spot.{Spot}
use Rattle.phys_types.specs.Found.{Pairs, held, Gains, AreThese}
use Rattle.phys_types.specs.Standing.{shown, pointer_of_item, AreBoth, IsAtSpot, IsAtSlot, StandInTurn, StandBefore}
use Rattle.phys_types.proofs.FoundLemmas.{gains_as, gains_nothing, gains_more}

-- Adding pointers that have the same number.

some_same : (p q : HeldPointer) → Some p ≡ Some q → p ≡ q
some_same p q h = cc

-- two pointers that there are
pub both_there : (x y : Option Held) (p q : Held) (a b : Pairs) → x ≡ Some p → y ≡ Some q → Gains (AreThese (held p) (held q)) a b → Gains (AreBoth (shown x) (shown y)) a b
both_there x y p q a b e f g =
    gains_as (AreThese (held p) (held q)) (AreBoth (shown x) (shown y)) a b
    (λ r s h. (ap shown e ∙ ap (λ z. Some z) (sym h.0), ap shown f ∙ ap (λ z. Some z) (sym h.1)))
    (λ r s h. (some_same r (held p) (sym h.0 ∙ ap shown e), some_same s (held q) (sym h.1 ∙ ap shown f))) g

module _ (P Q : ℕ → HeldPointer → Type 0) where
  pub turns_start : (n : ℕ) (a : Pairs) → n ≡ 0 → Gains (StandBefore n P Q) a a
  turns_start n a e = gains_nothing (StandBefore n P Q) a (λ p q h. let l = h.1 in omega arith)

  pub turns_more : (n : ℕ) (x y : Option HeldPointer) (a b c : Pairs) → ((p : HeldPointer) → P n p → x ≡ Some p) → ((p : HeldPointer) → x ≡ Some p → P n p)
      → ((q : HeldPointer) → Q n q → y ≡ Some q) → ((q : HeldPointer) → y ≡ Some q → Q n q)
      → Gains (StandBefore n P Q) a b → Gains (AreBoth x y) b c → Gains (StandBefore (n + 1) P Q) a c
  turns_more n x y a b c f g h k r s =
      gains_more (StandBefore n P Q) (AreBoth x y) (StandBefore (n + 1) P Q) a b c
      (λ p q d. elim (cases_lt d.0 n) [
        | inl l ↦ inl (d.0, l, d.2, d.3)
        | inr l ↦
            let e : d.0 ≡ n = (let m = d.1 in omega arith) in
            inr (f p (subst (λ i. P i p) e d.2), h q (subst (λ i. Q i q) e d.3))
      ])
      (λ p q d. (d.0, (let l = d.1 in omega arith), d.2, d.3))
      (λ p q d. (n, omega arith, g p d.0, k q d.1)) r s

  pub turns_done : (n : ℕ) (a b : Pairs) → ((i : ℕ) (p q : HeldPointer) → P i p → Q i q → i < n) → Gains (StandBefore n P Q) a b → Gains (StandInTurn P Q) a b
  turns_done n a b f g =
      gains_as (StandBefore n P Q) (StandInTurn P Q) a b (λ p q d. (d.0, d.2, d.3)) (λ p q d. (d.0, f d.0 p q d.1 d.2, d.1, d.2)) g

-- ---- spots

spot_same : (s r : Spot) → Some s ≡ Some r → s ≡ r
spot_same s r h = cc

pub spot_told : (ss : List Spot) (i : ℕ) (d : Spot) (x : Option HeldPointer) → i < length ss → x ≡ pointer_of_item (get_or ss i d).item
    → (p : HeldPointer) → IsAtSpot ss i p → x ≡ Some p
spot_told ss i d x l e p (s, a, b) = e ∙ ap (λ (z : Spot). pointer_of_item z.item) (get_or_from_slice_get ss i s d a) ∙ b

pub spot_tells : (ss : List Spot) (i : ℕ) (d : Spot) (x : Option HeldPointer) → i < length ss → x ≡ pointer_of_item (get_or ss i d).item
    → (p : HeldPointer) → x ≡ Some p → IsAtSpot ss i p
spot_tells ss i d x l e p h = (get_or ss i d, slice_get-get_or ss i d l, sym e ∙ h)

-- ---- types

pub slot_told : (table : Table) (ts : List TypeId) (i : ℕ) (d : TypeId) (x : Option HeldPointer) → i < length ts → x ≡ pointer_of_shape (shape_at table (get_or ts i d))
    → (p : HeldPointer) → IsAtSlot table ts i p → x ≡ Some p
slot_told table ts i d x l e p (t, a, b) = e ∙ ap (λ z. pointer_of_shape (shape_at table z)) (get_or_from_slice_get ts i t d a) ∙ b

pub slot_tells : (table : Table) (ts : List TypeId) (i : ℕ) (d : TypeId) (x : Option HeldPointer) → i < length ts → x ≡ pointer_of_shape (shape_at table (get_or ts i d))
    → (p : HeldPointer) → x ≡ Some p → IsAtSlot table ts i p
slot_tells table ts i d x l e p h = (get_or ts i d, slice_get-get_or ts i d l, sym e ∙ h)

pub slots_within : (table : Table) (xs ys : List TypeId) (n i : ℕ) (p q : HeldPointer) → IsAtSlot table xs i p → IsAtSlot table ys i q → min (length xs) (length ys) ≤ n → i < n
slots_within table xs ys n i p q (s, a, b) (r, c, d) l = let g = slice_get_within xs i s a in let k = slice_get_within ys i r c in omega arith

-- a result, and then the parameters
pub with_result : (table : Table) (r s : TypeId) (ps qs : List TypeId) (x y : Option HeldPointer) (a b c : Pairs)
    → x ≡ pointer_of_shape (shape_at table r) → y ≡ pointer_of_shape (shape_at table s)
    → Gains (AreBoth x y) a b → Gains (StandInTurn (IsAtSlot table ps) (IsAtSlot table qs)) b c
    → Gains (StandInTurn (IsAtSlot table (r ∷ ps)) (IsAtSlot table (s ∷ qs))) a c
with_result table r s ps qs x y a b c e f g h =
    gains_more (AreBoth x y) (StandInTurn (IsAtSlot table ps) (IsAtSlot table qs)) (StandInTurn (IsAtSlot table (r ∷ ps)) (IsAtSlot table (s ∷ qs))) a b c
    split
    (λ p q d. (0, (r, refl, sym e ∙ d.0), (s, refl, sym f ∙ d.1)))
    (λ p q d. (suc d.0, d.1, d.2)) g h
  where
    id_same : (t u : TypeId) → Some t ≡ Some u → t ≡ u
    id_same t u h = cc

    split : (p q : HeldPointer) → StandInTurn (IsAtSlot table (r ∷ ps)) (IsAtSlot table (s ∷ qs)) p q → AreBoth x y p q ⊎ StandInTurn (IsAtSlot table ps) (IsAtSlot table qs) p q
    split p q (zero, (t, i, j), (u, k, l)) =
        inl (e ∙ ap (λ z. pointer_of_shape (shape_at table z)) (id_same r t i) ∙ j, f ∙ ap (λ z. pointer_of_shape (shape_at table z)) (id_same s u k) ∙ l)
    split p q (suc n, (t, i, j), (u, k, l)) = inr (n, (t, i, j), (u, k, l))
