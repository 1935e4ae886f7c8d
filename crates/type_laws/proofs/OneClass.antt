-- By types of one class a SEQ pointer moves alike: their cells have equal widths, one by one.
use Rattle.std.proofs.Common.{◌≡◌, ℕ, zero, suc, ◌-◌, ◌⊎◌, ℤ, pos, ◌+ℤ◌, Bool, true, false, ◌&&◌, List, [], ◌∷◌, length, slice_get, Option, Some, nat_lt, refl, ap, sym, inl, inr, ◌∙◌, ⊎_elim, arith, if◌then◌else◌}
use Rattle.std.specs.Prelude.{◌==◌, ◌*ℤ◌}
use Rattle.std.specs.Int.{int_div_euclid}
use Rattle.std.proofs.lemmas.Bool.Decides.{nat_tests}
use Rattle.cc_base.specs.declared.number.TypeId.{TypeId}
use Rattle.cc_base.specs.declared.number.NodeId.{NodeId}
use Rattle.cc_base.specs.declared.kind.Kind.{Kind}
use Rattle.c_types.specs.declared.shape.TypeShape.{TypeShape}
use Rattle.c_types.specs.declared.shape.TypeShape.TheVariants.{Void, Integer, Pointer, Array, Function, Struct, Union}
use Rattle.c_types.specs.Table.{Table, shape_at, members_at, is_complete_entry, IsComplete, is_function_shape}
use Rattle.c_types.specs.Layouts.{size_of}
use Rattle.c_types.specs.Cells.{Cell, raw, pointer, mixed, incomplete, Relation, alike, all_alike, same_type, cells_at}
use Rattle.c_types.specs.Equality.{bytes, makeup_of, same_makeup, made_alike, physically_equal, cells_of}
use Rattle.c_types.specs.Flows.{pointer_in, pointer_in_cell, pointer_at, and_then, top, IsOfOneClass}
use Rattle.c_types.specs.Widths.{kind_width, cell_width, before, stair, cured_size, cured_distance}
use Rattle.c_types.specs.Sound.{IsWellFormed}
use Rattle.c_types.proofs.Cells.{length_cells}
use Rattle.c_types.proofs.OrderedPointers.{cells_ordered, first_byte}
use Rattle.integers.specs.Words.{residue}
use Rattle.type_laws.proofs.Relations.{same_id}
use Rattle.type_laws.proofs.Levels.{still}
use Rattle.type_laws.proofs.Sizes.{equal_counts}

first : (a b : Bool) → (a && b) ≡ true → a ≡ true
first true b h = refl
first false b h = h

second : (a b : Bool) → (a && b) ≡ true → b ≡ true
second true b h = h
second false b h = absurd (cc (h))

-- alike cells, one by one
pub alike-at : (E : Relation) (xs ys : List Cell) → all_alike E xs ys ≡ true → (i : ℕ) (c d : Cell) → slice_get xs i ≡ Some c → slice_get ys i ≡ Some d → alike E c d ≡ true
alike-at E [] ys h i c d e f = absurd (cc (e))
alike-at E (x ∷ xs) [] h i c d e f = absurd (cc (f))
alike-at E (x ∷ xs) (y ∷ ys) h zero c d e f = let p : x ≡ c = cc (e) in let q : y ≡ d = cc (f) in ap (λ z. alike E z d) (sym p) ∙ ap (alike E x) (sym q) ∙ first (alike E x y) (all_alike E xs ys) h
alike-at E (x ∷ xs) (y ∷ ys) h (suc i) c d e f = alike-at E xs ys (second (alike E x y) (all_alike E xs ys) h) i c d e f

before-same : (kind : NodeId → Kind) (xs ys : List Cell) → length xs ≡ length ys → ((i : ℕ) (c d : Cell) → slice_get xs i ≡ Some c → slice_get ys i ≡ Some d → cell_width kind c ≡ cell_width kind d)
    → (r : ℕ) → before kind xs r ≡ before kind ys r
before-same kind [] [] l h zero = refl
before-same kind [] [] l h (suc r) = refl
before-same kind [] (y ∷ ys) l h r = absurd (omega arith)
before-same kind (x ∷ xs) [] l h r = absurd (omega arith)
before-same kind (x ∷ xs) (y ∷ ys) l h zero = refl
before-same kind (x ∷ xs) (y ∷ ys) l h (suc r) =
    let a : cell_width kind x ≡ cell_width kind y = h 0 x y refl refl in
    let b : before kind xs r ≡ before kind ys r = before-same kind xs ys (omega arith) (λ i c d e f. h (suc i) c d e f) r in omega (arith, a, b)

-- data types
pub data-shape : (s : TypeShape) (ms : List TypeId) → is_complete_entry s ms ≡ true → is_function_shape s ≡ false
data-shape Void ms h = refl
data-shape (Integer n q) ms h = refl
data-shape (Pointer n t) ms h = refl
data-shape (Array t n) ms h = refl
data-shape (Function ps q) ms h = absurd (cc (h))
data-shape (Struct n) ms h = refl
data-shape (Union n) ms h = refl

pub data-makeup : (table : Table) (E : Relation) (t : TypeId) (s : TypeShape) → is_function_shape s ≡ false → makeup_of table E t s ≡ bytes (cells_at table E t)
data-makeup table E t Void h = refl
data-makeup table E t (Integer n q) h = refl
data-makeup table E t (Pointer n u) h = refl
data-makeup table E t (Array u n) h = refl
data-makeup table E t (Function ps q) h = absurd (cc (h))
data-makeup table E t (Struct n) h = refl
data-makeup table E t (Union n) h = refl

pub data-pointer : (table : Table) (t : TypeId) (s : TypeShape) (i : ℕ) → is_function_shape s ≡ false → pointer_in table t s i ≡ and_then (slice_get (cells_of table t) i) pointer_in_cell
data-pointer table t Void i h = refl
data-pointer table t (Integer n q) i h = refl
data-pointer table t (Pointer n u) i h = refl
data-pointer table t (Array u n) i h = refl
data-pointer table t (Function ps q) i h = absurd (cc (h))
data-pointer table t (Struct n) i h = refl
data-pointer table t (Union n) i h = refl

module _ (table : Table) (w : IsWellFormed table) (kind : NodeId → Kind) where
  pub cells-alike : (t u : TypeId) → IsComplete table t → IsComplete table u → physically_equal table t u ≡ true → (all_alike (physically_equal table) (cells_of table t) (cells_of table u) ≡ true) ⊎ (t.0 ≡ u.0)
  cells-alike t u ct cu h = by (nat_lt t.0 (length table)) (nat_lt u.0 (length table)) (sym (ap (λ E. E t u) (still table w)) ∙ h)
    where
      both : made_alike table (physically_equal table) t u ≡ true → all_alike (physically_equal table) (cells_of table t) (cells_of table u) ≡ true
      both e =
          sym (ap (λ x. same_makeup (physically_equal table) x (bytes (cells_of table u))) (data-makeup table (physically_equal table) t (shape_at table t) (data-shape (shape_at table t) (members_at table t) ct)))
          ∙ sym (ap (same_makeup (physically_equal table) (makeup_of table (physically_equal table) t (shape_at table t))) (data-makeup table (physically_equal table) u (shape_at table u) (data-shape (shape_at table u) (members_at table u) cu)))
          ∙ e

      by : (a b : Bool) → (if a && b then made_alike table (physically_equal table) t u else same_type t u) ≡ true → (all_alike (physically_equal table) (cells_of table t) (cells_of table u) ≡ true) ⊎ (t.0 ≡ u.0)
      by true true e = inl (both e)
      by true false e = inr (same_id t u e)
      by false true e = inr (same_id t u e)
      by false false e = inr (same_id t u e)

  pub pointer-there : (t : TypeId) → IsComplete table t → (i : ℕ) (n : NodeId) (u : TypeId) → slice_get (cells_of table t) i ≡ Some (pointer n u 0) → pointer_at table t i ≡ Some (record { node = n; to = u })
  pointer-there t c i n u e = data-pointer table t (shape_at table t) i (data-shape (shape_at table t) (members_at table t) c) ∙ ap (λ (x : Option Cell). and_then x pointer_in_cell) e

  width-alike : (t u : TypeId) → IsComplete table t → IsComplete table u → IsOfOneClass table kind t u → (i : ℕ) (c d : Cell) → slice_get (cells_of table t) i ≡ Some c → slice_get (cells_of table u) i ≡ Some d
      → alike (physically_equal table) c d ≡ true → cell_width kind c ≡ cell_width kind d
  width-alike t u ct cu one i raw raw e f h = refl
  width-alike t u ct cu one i raw (pointer m b k) e f h = absurd (cc (h))
  width-alike t u ct cu one i raw (mixed v k) e f h = refl
  width-alike t u ct cu one i raw (incomplete v) e f h = refl
  width-alike t u ct cu one i (pointer n a j) raw e f h = absurd (cc (h))
  width-alike t u ct cu one i (pointer n a j) (mixed v k) e f h = absurd (cc (h))
  width-alike t u ct cu one i (pointer n a j) (incomplete v) e f h = absurd (cc (h))
  width-alike t u ct cu one i (mixed v j) raw e f h = refl
  width-alike t u ct cu one i (mixed v j) (pointer m b k) e f h = absurd (cc (h))
  width-alike t u ct cu one i (mixed v j) (mixed x k) e f h = refl
  width-alike t u ct cu one i (mixed v j) (incomplete x) e f h = refl
  width-alike t u ct cu one i (incomplete v) raw e f h = refl
  width-alike t u ct cu one i (incomplete v) (pointer m b k) e f h = absurd (cc (h))
  width-alike t u ct cu one i (incomplete v) (mixed x k) e f h = refl
  width-alike t u ct cu one i (incomplete v) (incomplete x) e f h = refl
  width-alike t u ct cu one i (pointer n a j) (pointer m b k) e f h =
      let same : (j == k) ≡ true = first (j == k) (physically_equal table a b) h in
      let jk : j ≡ k = grind (arith, nat_tests) in
      let f' : slice_get (cells_of table u) (i - j) ≡ Some (pointer m b 0) = ap (λ x. slice_get (cells_of table u) (i - x)) jk ∙ first_byte (cells_of table u) (cells_ordered table w u) k i m b f in
      let e' : slice_get (cells_of table t) (i - j) ≡ Some (pointer n a 0) = first_byte (cells_of table t) (cells_ordered table w t) j i n a e in
      let kinds : kind n ≡ kind m = one.kinds (record { node = n; to = a }) (record { node = m; to = b }) (top (record { node = n; to = a }) (record { node = m; to = b }) (i - j, pointer-there t ct (i - j) n a e', pointer-there u cu (i - j) m b f')) in
      ap (λ x. if x == 7 then kind_width (kind n) else 0) jk ∙ ap (λ x. if k == 7 then kind_width x else 0) kinds

  pub one-class-before : (t u : TypeId) → IsComplete table t → IsComplete table u → IsOfOneClass table kind t u → (r : ℕ) → before kind (cells_of table t) r ≡ before kind (cells_of table u) r
  one-class-before t u ct cu one r = ⊎_elim
      (λ h. before-same kind (cells_of table t) (cells_of table u) (equal_counts table w t u one.equal)
      (λ i c d e f. width-alike t u ct cu one i c d e f (alike-at (physically_equal table) (cells_of table t) (cells_of table u) h i c d e f)) r)
      (λ h. ap (λ (n : ℕ). before kind (cells_of table (record { 0 = n })) r) h) (cells-alike t u ct cu one.equal)

  -- by types of one class a SEQ pointer moves alike
  pub move-alike : (t u : TypeId) → IsComplete table t → IsComplete table u → IsOfOneClass table kind t u → (z : ℤ)
      → cured_distance table kind t z ≡ cured_distance table kind u z
  move-alike t u ct cu one z =
      ap (λ (b : Bool). if b then stair (before kind (cells_of table t)) (size_of table t) (cured_size table kind t) z else pos 0) ct
      ∙ ap (λ (n : ℕ). stair (before kind (cells_of table t)) n (cured_size table kind t) z) sizes
      ∙ ap (λ (m : ℕ). stair (before kind (cells_of table t)) (size_of table u) m z) widths
      ∙ ap (λ (x : ℕ). int_div_euclid z (pos (size_of table u)) *ℤ pos (cured_size table kind u) +ℤ pos x) (one-class-before t u ct cu one (residue z (size_of table u)))
      ∙ sym (ap (λ (b : Bool). if b then stair (before kind (cells_of table u)) (size_of table u) (cured_size table kind u) z else pos 0) cu)
    where
      sizes : size_of table t ≡ size_of table u
      sizes = sym (length_cells table w (physically_equal table) t ct) ∙ equal_counts table w t u one.equal ∙ length_cells table w (physically_equal table) u cu

      widths : cured_size table kind t ≡ cured_size table kind u
      widths = one-class-before t u ct cu one (length (cells_of table t)) ∙ ap (before kind (cells_of table u)) (equal_counts table w t u one.equal)
