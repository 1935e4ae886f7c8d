use Rattle.std.proofs.Common.{◌≡◌, ℕ, Bool, true, false, ◌&&◌, if◌then◌else◌, List, [], length, nat_lt, refl, ap, sym, ◌∙◌, true≢false}
use lib.Pointwise.{pointwise_long}
use Rattle.cc_base.specs.declared.number.TypeId.{TypeId}
use Rattle.c_types.specs.declared.shape.TypeShape.{TypeShape}
use Rattle.c_types.specs.declared.shape.TypeShape.TheVariants.{Function}
use Rattle.c_types.specs.Table.{Table, shape_at, members_at, IsComplete}
use Rattle.c_types.specs.Layouts.{size_of}
use Rattle.c_types.specs.Cells.{same_type, alike, cells_of_shape, cells_at}
use Rattle.c_types.specs.Equality.{makeup_of, same_makeup, made_alike, physically_equal, cells_of}
use Rattle.c_types.specs.Sound.{IsWellFormed}
use Rattle.c_types.proofs.Cells.{cells_are, length_cells}
use Rattle.type_laws.proofs.Relations.{same_id}
use Rattle.type_laws.proofs.Levels.{still}

-- Equal types have equally many cells, so equal sizes.

module _ (table : Table) (w : IsWellFormed table) where
  -- a function has no cells
  no_cells : (t : TypeId) (ps : List TypeId) (r : TypeId) → shape_at table t ≡ Function ps r → cells_of table t ≡ []
  no_cells t ps r e =
      cells_are table w.order.0 w.order.1 (physically_equal table) t
      ∙ ap (λ s. cells_of_shape table (physically_equal table) (cells_at table (physically_equal table)) t s (members_at table t)) e

  count_of : (t u : TypeId) (s r : TypeShape) → shape_at table t ≡ s → shape_at table u ≡ r
      → same_makeup (physically_equal table) (makeup_of table (physically_equal table) t s) (makeup_of table (physically_equal table) u r) ≡ true
      → length (cells_of table t) ≡ length (cells_of table u)
  count_of t u (Function ps a) (Function qs b) x y h = ap length (no_cells t ps a x ∙ sym (no_cells u qs b y))
  count_of t u (Function ps a) r x y h = absurd (true≢false (sym h))
  count_of t u s (Function qs b) x y h = absurd (true≢false (sym h))
  count_of t u s r x y h = pointwise_long (alike (physically_equal table)) (cells_of table t) (cells_of table u) h

  pub equal_counts : (t u : TypeId) → physically_equal table t u ≡ true → length (cells_of table t) ≡ length (cells_of table u)
  equal_counts t u h = by (nat_lt t.0 (length table)) (nat_lt u.0 (length table)) (sym (ap (λ E. E t u) (still table w)) ∙ h)
    where
      same : same_type t u ≡ true → length (cells_of table t) ≡ length (cells_of table u)
      same e = ap (λ (n : ℕ). length (cells_of table (record { 0 = n }))) (same_id t u e)

      by : (a b : Bool) → (if a && b then made_alike table (physically_equal table) t u else same_type t u) ≡ true
          → length (cells_of table t) ≡ length (cells_of table u)
      by true true e = count_of t u (shape_at table t) (shape_at table u) refl refl e
      by true false e = same e
      by false true e = same e
      by false false e = same e

  pub equal_sizes : (t u : TypeId) → IsComplete table t → IsComplete table u → physically_equal table t u ≡ true → size_of table t ≡ size_of table u
  equal_sizes t u c d h =
      sym (length_cells table w (physically_equal table) t c) ∙ equal_counts t u h ∙ length_cells table w (physically_equal table) u d
