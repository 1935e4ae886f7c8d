use Rattle.std.proofs.Common.{◌≡◌, ℕ, zero, suc, ◌*◌, ◌≤◌, Bool, true, false, ◌&&◌, if◌then◌else◌, length, nat_lt, refl, ap, sym, ◌∙◌, arith}
use Rattle.cc_base.specs.declared.number.TypeId.{TypeId}
use Rattle.c_types.specs.Table.{Table}
use Rattle.c_types.specs.Cells.{Relation, same_type}
use Rattle.c_types.specs.Equality.{made_alike, within, equal_at_level, physically_equal}
use Rattle.c_types.specs.Sound.{IsWellFormed}
use Rattle.type_laws.proofs.Relations.{level_equiv}
use Rattle.type_laws.proofs.Refine.{wider}
use Rattle.type_laws.proofs.Standing.{AreLevels, stand}

-- The levels of equality fall, and stand still from the square of the number of types on.

within_wider : (table : Table) (E F : Relation) → ((t u : TypeId) → E t u ≡ true → F t u ≡ true) → (t u : TypeId) → within table E t u ≡ true → within table F t u ≡ true
within_wider table E F sub t u = by (nat_lt t.0 (length table)) (nat_lt u.0 (length table))
  where
    by : (a b : Bool) → (if a && b then E t u else same_type t u) ≡ true → (if a && b then F t u else same_type t u) ≡ true
    by true true h = sub t u h
    by true false h = h
    by false true h = h
    by false false h = h

pub falls : (table : Table) → IsWellFormed table → (k : ℕ) (t u : TypeId) → equal_at_level table (suc k) t u ≡ true → equal_at_level table k t u ≡ true
falls table w zero = within_wider table (made_alike table (equal_at_level table zero)) (λ t u. true) (λ t u h. refl)
falls table w (suc k) =
    within_wider table (made_alike table (equal_at_level table (suc k))) (made_alike table (equal_at_level table k))
    (wider table w (equal_at_level table (suc k)) (equal_at_level table k) (falls table w k) (level_equiv table k))

module _ (table : Table) (w : IsWellFormed table) where
  outside : (E F : Relation) (t u : TypeId) → (nat_lt t.0 (length table) && nat_lt u.0 (length table)) ≡ false → within table E t u ≡ within table F t u
  outside E F t u z = ap (λ c. if c then E t u else same_type t u) z ∙ sym (ap (λ c. if c then F t u else same_type t u) z)

  kept_outside : (k : ℕ) (t u : TypeId) → (nat_lt t.0 (length table) && nat_lt u.0 (length table)) ≡ false → equal_at_level table (suc k) t u ≡ equal_at_level table k t u
  kept_outside zero t u = outside (made_alike table (equal_at_level table zero)) (λ v x. true) t u
  kept_outside (suc k) t u = outside (made_alike table (equal_at_level table (suc k))) (made_alike table (equal_at_level table k)) t u

  levels : AreLevels (length table) (λ E. within table (made_alike table E)) (equal_at_level table)
  levels = record { next = λ k. refl; falls = falls table w; outside = kept_outside }

  -- from the square of the number of types on the levels are physical equality
  pub stands : (k : ℕ) → length table * length table ≤ k → equal_at_level table k ≡ physically_equal table
  unfolding physically_equal
  stands k h = stand (length table) (λ E. within table (made_alike table E)) (equal_at_level table) levels k h

  -- physically equal types are made alike, with physically equal pointees
  pub still : physically_equal table ≡ within table (made_alike table (physically_equal table))
  still = sym (stands (suc (length table * length table)) (omega arith)) ∙ ap (λ E. within table (made_alike table E)) (stands (length table * length table) (omega arith))

  -- and it is the widest such relation
  below_level : (R : Relation) → ((t u : TypeId) → R t u ≡ true → within table (made_alike table R) t u ≡ true)
      → (k : ℕ) (t u : TypeId) → R t u ≡ true → equal_at_level table k t u ≡ true
  below_level R c zero t u h = within_wider table (made_alike table R) (λ x y. true) (λ x y g. refl) t u (c t u h)
  below_level R c (suc k) t u h =
      within_wider table (made_alike table R) (made_alike table (equal_at_level table k))
      (wider table w R (equal_at_level table k) (below_level R c k) (level_equiv table k)) t u (c t u h)

  pub widest : (R : Relation) → ((t u : TypeId) → R t u ≡ true → within table (made_alike table R) t u ≡ true)
      → (t u : TypeId) → R t u ≡ true → physically_equal table t u ≡ true
  unfolding physically_equal
  widest R c = below_level R c (length table * length table)
