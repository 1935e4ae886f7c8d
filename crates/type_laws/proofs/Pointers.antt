use Rattle.std.proofs.Common.{◌≡◌, ℕ, zero, suc, ◌≤◌, Bool, true, false, ◌&&◌, not, if◌then◌else◌, List, [], ◌∷◌, length, take, map, nat_lt, ◌==◌, Option, None, Some, slice_get, refl, ap, sym, ◌∙◌, true≢false, arith}
use Rattle.std.proofs.lemmas.Bool.Decides.{Decides-eqb}
use lib.Pointwise.{pointwise, pointwise_long}
use Rattle.cc_base.specs.declared.number.TypeId.{TypeId}
use Rattle.cc_base.specs.declared.number.NodeId.{NodeId}
use Rattle.cc_base.specs.declared.kind.Kind.{Kind}
use Rattle.c_types.specs.declared.shape.TypeShape.{TypeShape}
use Rattle.c_types.specs.declared.shape.TypeShape.TheVariants.{Void, Integer, Pointer, Array, Function, Struct, Union}
use Rattle.c_types.specs.Table.{Table, shape_at, is_function, is_function_shape}
use Rattle.c_types.specs.Cells.{Cell, raw, pointer, mixed, incomplete, Relation, same_type, alike, all_alike, begins}
use Rattle.c_types.specs.Equality.{slot_of, same_slot, makeup_of, same_makeup, made_alike, physically_equal, cells_of, begins_with}
use Rattle.c_types.specs.Flows.{HeldPointer, pointer_in_cell, pointer_of_shape, and_then, pointer_in, pointer_at, StandAlike, Correspond, top, inside, IsOfOneClass, Covers}
use Rattle.c_types.specs.Sound.{IsWellFormed}
use Rattle.c_types.proofs.Shapes.{first_true, second_true}
use Rattle.type_laws.proofs.Relations.{equal_equiv, cells_equiv, same_id}
use Rattle.type_laws.proofs.Levels.{still}

-- Where two types are alike, a pointer in one has its counterpart in the other.

-- a counterpart of the pointer q among the pointers that `find` gives
abbrev Counterpart : Relation → (ℕ → Option HeldPointer) → ℕ → HeldPointer → Type 0
Counterpart E find i q = (p : HeldPointer) × (find i ≡ Some p) × (E p.to q.to ≡ true)

none_some : (p : HeldPointer) → None ≡ Some p → ⊥
none_some p h = cc

some_same : (p q : HeldPointer) → Some p ≡ Some q → p ≡ q
some_same p q h = cc

module _ (E : Relation) where
  cell_counterpart : (x y : Cell) (q : HeldPointer) → alike E x y ≡ true → pointer_in_cell y ≡ Some q
      → (p : HeldPointer) × (pointer_in_cell x ≡ Some p) × (E p.to q.to ≡ true)
  cell_counterpart (pointer node to zero) (pointer n u zero) q h k =
      (record { node = node; to = to }, refl, ap (λ (z : HeldPointer). E to z.to) (sym (some_same (record { node = n; to = u }) q k)) ∙ second_true (zero == zero) (E to u) h)
  cell_counterpart (pointer node to (suc i)) (pointer n u zero) q h k =
      let e : suc i ≡ zero = (Decides-eqb (suc i) zero).0 (first_true (suc i == zero) (E to u) h) in absurd (omega arith)
  cell_counterpart raw (pointer n u zero) q h k = absurd (true≢false (sym h))
  cell_counterpart (mixed v i) (pointer n u zero) q h k = absurd (true≢false (sym h))
  cell_counterpart (incomplete t) (pointer n u zero) q h k = absurd (true≢false (sym h))
  cell_counterpart x (pointer n u (suc j)) q h k = absurd (none_some q k)
  cell_counterpart x raw q h k = absurd (none_some q k)
  cell_counterpart x (mixed v i) q h k = absurd (none_some q k)
  cell_counterpart x (incomplete t) q h k = absurd (none_some q k)

  cells_counterpart : (xs ys : List Cell) (i : ℕ) (q : HeldPointer) → all_alike E xs ys ≡ true → and_then (slice_get ys i) pointer_in_cell ≡ Some q
      → (p : HeldPointer) × (and_then (slice_get xs i) pointer_in_cell ≡ Some p) × (E p.to q.to ≡ true)
  cells_counterpart [] [] i q h k = absurd (none_some q k)
  cells_counterpart (x ∷ xs) [] i q h k = absurd (true≢false (sym h))
  cells_counterpart [] (y ∷ ys) i q h k = absurd (true≢false (sym h))
  cells_counterpart (x ∷ xs) (y ∷ ys) zero q h k = cell_counterpart x y q (first_true (alike E x y) _ h) k
  cells_counterpart (x ∷ xs) (y ∷ ys) (suc i) q h k = cells_counterpart xs ys i q (second_true (alike E x y) _ h) k

  slot_counterpart : (t u : TypeId) (s r : TypeShape) (q : HeldPointer) → same_slot E (slot_of t s) (slot_of u r) ≡ true → pointer_of_shape r ≡ Some q
      → (p : HeldPointer) × (pointer_of_shape s ≡ Some p) × (E p.to q.to ≡ true)
  slot_counterpart t u (Pointer node to) (Pointer n x) q h k =
      (record { node = node; to = to }, refl, ap (λ (z : HeldPointer). E to z.to) (sym (some_same (record { node = n; to = x }) q k)) ∙ h)
  slot_counterpart t u Void (Pointer n x) q h k = absurd (true≢false (sym h))
  slot_counterpart t u (Integer b g) (Pointer n x) q h k = absurd (true≢false (sym h))
  slot_counterpart t u (Array e c) (Pointer n x) q h k = absurd (true≢false (sym h))
  slot_counterpart t u (Function ps a) (Pointer n x) q h k = absurd (true≢false (sym h))
  slot_counterpart t u (Struct g) (Pointer n x) q h k = absurd (true≢false (sym h))
  slot_counterpart t u (Union g) (Pointer n x) q h k = absurd (true≢false (sym h))
  slot_counterpart t u s Void q h k = absurd (none_some q k)
  slot_counterpart t u s (Integer b g) q h k = absurd (none_some q k)
  slot_counterpart t u s (Array e c) q h k = absurd (none_some q k)
  slot_counterpart t u s (Function ps a) q h k = absurd (none_some q k)
  slot_counterpart t u s (Struct g) q h k = absurd (none_some q k)
  slot_counterpart t u s (Union g) q h k = absurd (none_some q k)

  slots_counterpart : (table : Table) (xs ys : List TypeId) (i : ℕ) (q : HeldPointer)
      → pointwise (same_slot E) (map (λ p. slot_of p (shape_at table p)) xs) (map (λ p. slot_of p (shape_at table p)) ys) ≡ true
      → and_then (slice_get ys i) (λ p. pointer_of_shape (shape_at table p)) ≡ Some q
      → (p : HeldPointer) × (and_then (slice_get xs i) (λ p. pointer_of_shape (shape_at table p)) ≡ Some p) × (E p.to q.to ≡ true)
  slots_counterpart table [] [] i q h k = absurd (none_some q k)
  slots_counterpart table (x ∷ xs) [] i q h k = absurd (true≢false (sym h))
  slots_counterpart table [] (y ∷ ys) i q h k = absurd (true≢false (sym h))
  slots_counterpart table (x ∷ xs) (y ∷ ys) zero q h k =
      slot_counterpart x y (shape_at table x) (shape_at table y) q (first_true (same_slot E (slot_of x (shape_at table x)) (slot_of y (shape_at table y))) _ h) k
  slots_counterpart table (x ∷ xs) (y ∷ ys) (suc i) q h k =
      slots_counterpart table xs ys i q (second_true (same_slot E (slot_of x (shape_at table x)) (slot_of y (shape_at table y))) _ h) k

-- reading the first cells reads the cells
get_taken : (n : ℕ) (xs : List Cell) (i : ℕ) (q : HeldPointer) → and_then (slice_get (take n xs) i) pointer_in_cell ≡ Some q → and_then (slice_get xs i) pointer_in_cell ≡ Some q
get_taken zero xs i q h = absurd (none_some q h)
get_taken (suc n) [] i q h = h
get_taken (suc n) (x ∷ xs) zero q h = h
get_taken (suc n) (x ∷ xs) (suc i) q h = get_taken n xs i q h

module _ (table : Table) where
  equal : Relation
  equal = physically_equal table

  makeup_counterpart : (t u : TypeId) (s r : TypeShape) (i : ℕ) (q : HeldPointer)
      → same_makeup (physically_equal table) (makeup_of table (physically_equal table) t s) (makeup_of table (physically_equal table) u r) ≡ true
      → pointer_in table u r i ≡ Some q → (p : HeldPointer) × (pointer_in table t s i ≡ Some p) × (physically_equal table p.to q.to ≡ true)
  makeup_counterpart t u (Function ps a) (Function qs b) i q h k = slots_counterpart (physically_equal table) table (a ∷ ps) (b ∷ qs) i q h k
  makeup_counterpart t u (Function ps a) r i q h k = absurd (true≢false (sym h))
  makeup_counterpart t u s (Function qs b) i q h k = absurd (true≢false (sym h))
  makeup_counterpart t u s r i q h k = cells_counterpart (physically_equal table) (cells_of table t) (cells_of table u) i q h k

  begins_counterpart : (t u : TypeId) (s r : TypeShape) (i : ℕ) (q : HeldPointer) → is_function_shape s ≡ false → is_function_shape r ≡ false
      → begins (physically_equal table) (cells_of table t) (cells_of table u) ≡ true
      → pointer_in table u r i ≡ Some q → (p : HeldPointer) × (pointer_in table t s i ≡ Some p) × (physically_equal table p.to q.to ≡ true)
  begins_counterpart t u (Function ps a) r i q f g h k = absurd (true≢false f)
  begins_counterpart t u s (Function qs b) i q f g h k = absurd (true≢false g)
  begins_counterpart t u s r i q f g h k =
      let c = cells_counterpart (physically_equal table) (take (length (cells_of table u)) (cells_of table t)) (cells_of table u) i q h k in
      (c.0, get_taken (length (cells_of table u)) (cells_of table t) i c.0 c.1, c.2)

  not_true : (b : Bool) → not b ≡ true → b ≡ false
  not_true true h = absurd (true≢false (sym h))
  not_true false h = refl

  -- t has a counterpart of each pointer of u
  unfoldable pub Mirrors : TypeId → TypeId → Type 0
  Mirrors t u = (i : ℕ) (q : HeldPointer) → pointer_at table u i ≡ Some q
      → (p : HeldPointer) × (pointer_at table t i ≡ Some p) × (physically_equal table p.to q.to ≡ true)

  pub begins_mirrors : (t u : TypeId) → begins_with table t u ≡ true → Mirrors t u
  unfolding Mirrors
  begins_mirrors t u h i q k =
      let rest = second_true (not (is_function table t)) _ h in
      begins_counterpart t u (shape_at table t) (shape_at table u) i q (not_true (is_function table t) (first_true (not (is_function table t)) _ h))
      (not_true (is_function table u) (first_true (not (is_function table u)) _ rest)) (second_true (not (is_function table u)) _ rest) k

  pub equal_mirrors : IsWellFormed table → (t u : TypeId) → physically_equal table t u ≡ true → Mirrors t u
  unfolding Mirrors
  equal_mirrors w t u h i q k = by (nat_lt t.0 (length table)) (nat_lt u.0 (length table)) (sym (ap (λ E. E t u) (still table w)) ∙ h)
    where
      same : same_type t u ≡ true → (p : HeldPointer) × (pointer_at table t i ≡ Some p) × (physically_equal table p.to q.to ≡ true)
      same e = (q, ap (λ n. pointer_at table (record { 0 = n }) i) (same_id t u e) ∙ k, (equal_equiv table).refl q.to)

      by : (a b : Bool) → (if a && b then made_alike table (physically_equal table) t u else same_type t u) ≡ true
          → (p : HeldPointer) × (pointer_at table t i ≡ Some p) × (physically_equal table p.to q.to ≡ true)
      by true true e = makeup_counterpart t u (shape_at table t) (shape_at table u) i q e k
      by true false e = same e
      by false true e = same e
      by false false e = same e

  -- ---- pointers that correspond

  pub own_pointers : (t : TypeId) (p q : HeldPointer) → Correspond table (StandAlike table t t) p q → p ≡ q
  own_pointers t p q (top a b (i, x, y)) = some_same p q (sym x ∙ y)
  own_pointers t p q (inside a b c d h (i, x, y)) =
      some_same p q (sym x ∙ ap (λ (z : HeldPointer). pointer_at table z.to i) (own_pointers t a b h) ∙ y)

  pub turned : (t u : TypeId) (p q : HeldPointer) → Correspond table (StandAlike table t u) p q → Correspond table (StandAlike table u t) q p
  turned t u p q (top a b (i, x, y)) = top q p (i, y, x)
  turned t u p q (inside a b c d h (i, x, y)) = inside b a q p (turned t u a b h) (i, y, x)

  -- a pointer between two that correspond
  pub between : IsWellFormed table → (t u v : TypeId) → Mirrors u v → (p r : HeldPointer) → Correspond table (StandAlike table t v) p r
      → (q : HeldPointer) × Correspond table (StandAlike table t u) p q × Correspond table (StandAlike table u v) q r × (physically_equal table q.to r.to ≡ true)
  unfolding Mirrors
  between w t u v m p r (top a b (i, x, y)) =
      let c = m i r y in (c.0, top p c.0 (i, x, c.1), top c.0 r (i, c.1, y), c.2)
  between w t u v m p r (inside a b g d h (i, x, y)) =
      let k = between w t u v m a b h in
      let c = equal_mirrors w k.0.to b.to k.3 i r y in
      (c.0, inside a k.0 p c.0 k.1 (i, x, c.1), inside k.0 b c.0 r k.2 (i, c.1, y), c.2)

  -- ---- prefixes

  take_alike : (n : ℕ) (xs ys : List Cell) → all_alike (physically_equal table) xs ys ≡ true → all_alike (physically_equal table) (take n xs) (take n ys) ≡ true
  take_alike zero xs ys h = refl
  take_alike (suc n) [] [] h = refl
  take_alike (suc n) (x ∷ xs) (y ∷ ys) h =
      λ i. first_true (alike (physically_equal table) x y) _ h i && take_alike n xs ys (second_true (alike (physically_equal table) x y) _ h) i
  take_alike (suc n) [] (y ∷ ys) h = absurd (true≢false (sym h))
  take_alike (suc n) (x ∷ xs) [] h = absurd (true≢false (sym h))

  take_all : (xs : List Cell) → take (length xs) xs ≡ xs
  take_all [] = refl
  take_all (x ∷ xs) = ap (λ l. x ∷ l) (take_all xs)

  -- what begins with as much as is taken anyhow
  take_fewer : (xs : List Cell) (m n : ℕ) → m ≤ n → take m (take n xs) ≡ take m xs
  take_fewer xs zero n h = refl
  take_fewer xs (suc m) zero h = absurd (omega arith)
  take_fewer [] (suc m) (suc n) h = refl
  take_fewer (x ∷ xs) (suc m) (suc n) h = ap (λ l. x ∷ l) (take_fewer xs m n (omega arith))

  taken_length : (n : ℕ) (xs : List Cell) → length (take n xs) ≤ length xs
  taken_length zero xs = omega arith
  taken_length (suc n) [] = omega arith
  taken_length (suc n) (x ∷ xs) = let h = taken_length n xs in omega arith

  begins_own : (xs : List Cell) → begins (physically_equal table) xs xs ≡ true
  begins_own xs = ap (λ l. all_alike (physically_equal table) l xs) (take_all xs) ∙ (cells_equiv (equal_equiv table)).refl xs

  begins_twice : (xs ys zs : List Cell) → begins (physically_equal table) xs ys ≡ true → begins (physically_equal table) ys zs ≡ true → begins (physically_equal table) xs zs ≡ true
  begins_twice xs ys zs h k =
      let long : length zs ≤ length ys = (let e = pointwise_long (alike (physically_equal table)) (take (length zs) ys) zs k in let l = taken_length (length zs) ys in omega arith) in
      let a = ap (λ l. all_alike (physically_equal table) l (take (length zs) ys)) (sym (take_fewer xs (length zs) (length ys) long))
      ∙ take_alike (length zs) (take (length ys) xs) ys h in
      (cells_equiv (equal_equiv table)).congr (take (length zs) xs) (take (length zs) ys) zs a ∙ k

  pub begins_with_own : (t : TypeId) → is_function table t ≡ false → begins_with table t t ≡ true
  begins_with_own t f = λ i. not (f i) && (not (f i) && begins_own (cells_of table t) i)

  pub begins_with_twice : (t u v : TypeId) → begins_with table t u ≡ true → begins_with table u v ≡ true → begins_with table t v ≡ true
  begins_with_twice t u v h k =
      let a = second_true (not (is_function table t)) _ h in let b = second_true (not (is_function table u)) _ k in
      λ i. first_true (not (is_function table t)) _ h i
      && (first_true (not (is_function table v)) _ b i
      && begins_twice (cells_of table t) (cells_of table u) (cells_of table v) (second_true (not (is_function table u)) _ a) (second_true (not (is_function table v)) _ b) i)

  -- ---- one class, and coverage

  module _ (kind : NodeId → Kind) where
    pub class_own : (t : TypeId) → IsOfOneClass table kind t t
    class_own t = record { equal = (equal_equiv table).refl t; kinds = λ p q h. ap (λ (z : HeldPointer). kind z.node) (own_pointers t p q h) }

    pub class_turned : (t u : TypeId) → IsOfOneClass table kind t u → IsOfOneClass table kind u t
    class_turned t u c = record { equal = (equal_equiv table).symm u t ∙ c.equal; kinds = λ p q h. sym (c.kinds q p (turned u t p q h)) }

    pub class_twice : IsWellFormed table → (t u v : TypeId) → IsOfOneClass table kind t u → IsOfOneClass table kind u v → IsOfOneClass table kind t v
    class_twice w t u v c d = record {
      equal = (equal_equiv table).congr t u v c.equal ∙ d.equal;
      kinds = λ p r h. let m = between w t u v (equal_mirrors w u v d.equal) p r h in c.kinds p m.0 m.1 ∙ d.kinds m.0 r m.2;
    }

    pub covers_own : (t : TypeId) → is_function table t ≡ false → Covers table kind t t
    covers_own t f = record { begins = begins_with_own t f; kinds = λ p q h. ap (λ (z : HeldPointer). kind z.node) (own_pointers t p q h) }

    pub covers_twice : IsWellFormed table → (t u v : TypeId) → Covers table kind t u → Covers table kind u v → Covers table kind t v
    covers_twice w t u v c d = record {
      begins = begins_with_twice t u v c.begins d.begins;
      kinds = λ p r h. let m = between w t u v (begins_mirrors u v d.begins) p r h in c.kinds p m.0 m.1 ∙ d.kinds m.0 r m.2;
    }
