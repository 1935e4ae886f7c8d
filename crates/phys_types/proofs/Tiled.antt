use Rattle.std.proofs.Common.{◌≡◌, ℕ, zero, suc, ◌+◌, ◌/◌, ◌<◌, ◌≤◌, Bool, true, false, ◌&&◌, if◌then◌else◌, List, [], ◌∷◌, length, get_or, nat_lt, refl, ap, sym, subst, ◌∙◌, arith}
use Rattle.std.specs.Int.{IsGcd}
use Rattle.std.proofs.lemmas.Bool.{lt-ltb}
use Rattle.std.proofs.lemmas.Nat.Gcd.{same_from_IsGcd, mod-eq-zero_of_dvd}
use Rattle.std.proofs.Math.Nat.{mod-zero}
use Rattle.cc_base.specs.declared.number.TypeId.{TypeId}
use Rattle.phys_types.specs.declared.spot.Spot.{Spot}
use Rattle.phys_types.specs.Spots.{copies, item_size}
use Rattle.phys_types.specs.Numbers.{same_spots, spots_before, end_within, repeat_spots, AreLow}

-- The steps of the decision whether two types tile.

before_at : (n : ℕ) (ss : List Spot) (i : ℕ) (d : Spot) → i < length (spots_before n ss) → (i < length ss) × (get_or (spots_before n ss) i d ≡ get_or ss i d)
before_at n [] i d l = absurd (omega arith)
before_at n (s ∷ ss) i d l = by (nat_lt s.start n) i l (before_at n ss)
  where
    by : (b : Bool) (i : ℕ) → i < length (if b then s ∷ spots_before n ss else [])
        → ((i : ℕ) (d : Spot) → i < length (spots_before n ss) → (i < length ss) × (get_or (spots_before n ss) i d ≡ get_or ss i d))
        → (i < length (s ∷ ss)) × (get_or (if b then s ∷ spots_before n ss else []) i d ≡ get_or (s ∷ ss) i d)
    by true zero k r = (omega arith, refl)
    by true (suc i) k r = let h = r i d (omega arith) in (omega (arith, h.0), h.1)
    by false i k r = absurd (omega arith)

pub low_before : (n : ℕ) (ss first : List Spot) → first ≡ spots_before n ss → AreLow ss → AreLow first
low_before n ss first e h =
    subst AreLow (sym e) (λ i d l. let b = before_at n ss i d l in
    subst (λ (s : Spot). s.start + item_size s.item ≤ 1048576) (sym b.1) (h i d b.0))

pub positive_divisor : (m n g : ℕ) → IsGcd m n g → (n ≡ 0 → ⊥) → 0 < g
positive_divisor m n zero d p = absurd (p (sym (mod-zero n) ∙ mod-eq-zero_of_dvd zero d.1))
positive_divisor m n (suc g) d p = omega arith

some : (n : ℕ) → (n ≡ 0 → ⊥) → nat_lt 0 n ≡ true
some n p = lt-ltb 0 n (positive n p)
  where
    positive : (n : ℕ) → (n ≡ 0 → ⊥) → 0 < n
    positive zero p = absurd (p refl)
    positive (suc n) p = omega arith

module _ (number : TypeId → ℕ) (m n unit : ℕ) (ss first : List Spot) (d : IsGcd m n unit) (p : n ≡ 0 → ⊥) (e : first ≡ spots_before unit ss) where
  pub not_tiled : (a : Bool) → a ≡ end_within unit first → a ≡ false → (g : ℕ) → IsGcd m n g → false ≡ (nat_lt 0 n && repeat_spots number m g ss)
  not_tiled a f k g c =
      sym ((λ i. some n p i && ((ap (λ xs. end_within unit xs) (sym e) ∙ sym f ∙ k) i && same_spots number ss (copies (m / unit) unit 0 (spots_before unit ss)))))
      ∙ ap (λ u. nat_lt 0 n && repeat_spots number m u ss) (same_from_IsGcd m n unit g d c)

  pub maybe_tiled : (a b : Bool) (all : List Spot) → a ≡ end_within unit first → a ≡ true → all ≡ copies (m / unit) unit 0 first → b ≡ same_spots number ss all
      → (g : ℕ) → IsGcd m n g → b ≡ (nat_lt 0 n && repeat_spots number m g ss)
  maybe_tiled a b all f k h s g c =
      s
      ∙ (λ i. same_spots number ss ((h ∙ ap (copies (m / unit) unit 0) e) i))
      ∙ sym (λ i. some n p i && ((ap (λ xs. end_within unit xs) (sym e) ∙ sym f ∙ k) i && same_spots number ss (copies (m / unit) unit 0 (spots_before unit ss))))
      ∙ ap (λ u. nat_lt 0 n && repeat_spots number m u ss) (same_from_IsGcd m n unit g d c)
