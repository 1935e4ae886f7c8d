-- Physically equal types keep one number where numbers are made finer.
use Rattle.std.proofs.Common.{◌≡◌, ℕ, zero, suc, ◌⊎◌, inl, inr, Bool, true, false, ◌&&◌, if◌then◌else◌, nat_lt, List, [], ◌∷◌, ◌++◌, length, take, drop, refl, ap, sym, subst, ◌∙◌, arith}
use Rattle.std.proofs.lemmas.Bool.Decides.{nat_tests}
use Rattle.cc_base.specs.declared.number.TypeId.{TypeId}
use Rattle.c_types.specs.Table.{Table, IsType}
use Rattle.c_types.specs.Cells.{Relation, same_type}
use Rattle.c_types.specs.Equality.{physically_equal, made_alike, makeup_at, same_makeup}
use Rattle.c_types.specs.Sound.{IsWellFormed}
use Rattle.type_laws.proofs.Relations.{same_id, makeup_equiv}
use Rattle.type_laws.proofs.Refine.{looks_alike}
use Rattle.type_laws.proofs.Levels.{still}
use Rattle.phys_types.specs.Numbers.{number_in, same_number}
use Rattle.phys_types.specs.Refining.{IsCoarser, IsWide}
use Rattle.phys_types.proofs.RoundLemmas.{number_equiv}

-- ---- physically equal types

module _ (table : Table) (w : IsWellFormed table) where
  -- two types of the table that are made alike, or one type
  pub equal_types : (t u : TypeId) → physically_equal table t u ≡ true
      → (IsType table t × IsType table u × (made_alike table (physically_equal table) t u ≡ true)) ⊎ (t ≡ u)
  equal_types t u h = by (nat_lt t.0 (length table)) (nat_lt u.0 (length table)) refl refl (sym (ap (λ E. E t u) (still table w)) ∙ h)
    where
      typed : (x : TypeId) → nat_lt x.0 (length table) ≡ true → IsType table x
      typed x e = grind (arith, nat_tests)

      one : same_type t u ≡ true → t ≡ u
      one e = ap (λ (n : ℕ). record { 0 = n }) (same_id t u e)

      by : (a b : Bool) → nat_lt t.0 (length table) ≡ a → nat_lt u.0 (length table) ≡ b
          → (if a && b then made_alike table (physically_equal table) t u else same_type t u) ≡ true
          → (IsType table t × IsType table u × (made_alike table (physically_equal table) t u ≡ true)) ⊎ (t ≡ u)
      by true true x y e = inl (typed t x, typed u y, e)
      by true false x y e = inr (one e)
      by false true x y e = inr (one e)
      by false false x y e = inr (one e)

  -- they look alike, however unions and pointees are judged
  pub equal_look : (E G : Relation) → IsWide table E → IsWide table G → (t u : TypeId) → physically_equal table t u ≡ true
      → same_makeup G (makeup_at table E t) (makeup_at table E u) ≡ true
  equal_look E G e g t u h = elim (equal_types t u h) [
    | inl a ↦ looks_alike table w (physically_equal table) E e.equal e.equivalence G g.equal g.equivalence t u a.2
    | inr a ↦ subst (λ x. same_makeup G (makeup_at table E t) (makeup_at table E x) ≡ true) a ((makeup_equiv g.equivalence).refl (makeup_at table E t))
  ]

  pub wide_numbers : (numbers : List ℕ) → IsCoarser table numbers → IsWide table (same_number (number_in numbers))
  wide_numbers numbers c = record { equal = c; equivalence = number_equiv (number_in numbers) }

-- a list that is written over all of another
pub written : (xs items : List ℕ) (n : ℕ) → length xs ≡ length items → n ≡ length items → take n (xs ++ drop (length xs) items) ≡ xs
written [] [] zero e f = refl
written [] [] (suc n) e f = refl
written [] (y ∷ items) n e f = absurd (omega arith)
written (x ∷ xs) [] n e f = absurd (omega arith)
written (x ∷ xs) (y ∷ items) zero e f = absurd (omega arith)
written (x ∷ xs) (y ∷ items) (suc n) e f = ap (λ zs. x ∷ zs) (written xs items n (omega arith) (omega arith))
