use Rattle.std.specs.Prelude.{IsTrue}
use Rattle.std.proofs.Common.{◌≡◌, ℕ, ◌*◌, ◌%◌, ◌<◌, Bool, true, false, not, ◌&&◌, ◌||◌, if◌then◌else◌, List, [], ◌∷◌, length, take, map, nat_lt, Some, refl, ap, sym, subst, ◌∙◌, true≢false, arith}
use Rattle.std.specs.List.{Contains, range_with_len}
use Rattle.std.specs.Int.{IsGcd}
use Rattle.std.proofs.lemmas.List.{length-map}
use Rattle.std.proofs.lemmas.List.FromFn.{get_or-map-range_with_len, length-map-range_with_len}
use Rattle.cc_base.specs.declared.number.TypeId.{TypeId}
use Rattle.cc_base.specs.declared.number.NodeId.{NodeId}
use Rattle.cc_base.specs.declared.kind.Kind.{Kind}
use lib.Pointwise.{pointwise_long}
use Rattle.c_types.specs.declared.shape.TypeShape.{TypeShape}
use Rattle.c_types.specs.declared.shape.TypeShape.TheVariants.{Function}
use Rattle.c_types.specs.Table.{Table, IsType, shape_at, is_function_shape, is_function, is_empty}
use Rattle.c_types.specs.Cells.{Cell, raw, same_type, alike, all_alike, begins}
use Rattle.c_types.specs.Equality.{makeup_of, same_makeup, made_alike, physically_equal, cells_of, begins_with, repeated_cell, repeat_alike, tile}
use Rattle.c_types.specs.Flows.{HeldPointer, pointer_at, top, inside, CorrespondByPlace, HaveEqualKinds, IsOfOneClass, Covers}
use Rattle.c_types.specs.Sound.{IsWellFormed}
use Rattle.c_types.proofs.Shapes.{first_true, second_true}
use Rattle.type_laws.proofs.Relations.{equal_equiv, cells_equiv, same_id}
use Rattle.type_laws.proofs.Levels.{still}
use Rattle.type_laws.proofs.Pointers.{Mirrors, equal_mirrors, begins_mirrors, between}
use Rattle.phys_types.specs.Numbers.{same_number}
use Rattle.phys_types.specs.Laws.{HasCounterpart}
use Rattle.phys_types.specs.Rounds.{first_place}
use Rattle.phys_types.proofs.Agreeing.{cells_into}
use Rattle.phys_types.proofs.Settling.{settle}
use Rattle.phys_types.proofs.Periods.{repeated, agreeing_everywhere}
use Rattle.phys_types.proofs.RoundLemmas.{place_tells}
use Rattle.phys_types.proofs.Classes.{types_closed, agreeing, alike_from_settled, tile_one_way, function_tiles, tile_turned}

-- Laws on covering, classes and tiling.

-- ---- what corresponding pointers point to

module _ (table : Table) (kind : NodeId → Kind) (t u : TypeId) (p q : HeldPointer) (i : ℕ) (a : pointer_at table t i ≡ Some p) (b : pointer_at table u i ≡ Some q) where
  deeper : (r s : HeldPointer) → CorrespondByPlace table p.to q.to r s → CorrespondByPlace table t u r s
  deeper r s (top c d h) = inside p q r s (top p q (i, a, b)) h
  deeper r s (inside c d e f h k) = inside c d r s (deeper c d h) k

  pointees : HaveEqualKinds kind (CorrespondByPlace table t u) → IsTrue (physically_equal table p.to q.to) → (kind p.node ≡ kind q.node) × IsOfOneClass table kind p.to q.to
  pointees h e = (h p q (top p q (i, a, b)), record { equal = e; kinds = λ r s c. h r s (deeper r s c) })

pub opened : (table : Table) (t u : TypeId) → Mirrors table t u → (i : ℕ) (q : HeldPointer) → pointer_at table u i ≡ Some q
    → (p : HeldPointer) × (pointer_at table t i ≡ Some p) × (physically_equal table p.to q.to ≡ true)
unfolding Mirrors
opened table t u m = m

mirrored : (table : Table) (kind : NodeId → Kind) (t u : TypeId) (i : ℕ) (q : HeldPointer) → Mirrors table t u → HaveEqualKinds kind (CorrespondByPlace table t u) → pointer_at table u i ≡ Some q
    → HasCounterpart table kind t i q
mirrored table kind t u i q m h b =
    let c = opened table t u m i q b in
    let k = pointees table kind t u c.0 q i c.1 b h c.2 in (c.0, c.1, k.0, k.1)

pub facts_of_class : (table : Table) (kind : NodeId → Kind) (t u : TypeId) (i : ℕ) (q : HeldPointer) → IsWellFormed table → IsOfOneClass table kind t u → pointer_at table u i ≡ Some q
    → HasCounterpart table kind t i q
facts_of_class table kind t u i q w c b = mirrored table kind t u i q (equal_mirrors table w t u c.equal) c.kinds b

pub facts_of_cover : (table : Table) (kind : NodeId → Kind) (t u : TypeId) (i : ℕ) (q : HeldPointer) → IsWellFormed table → Covers table kind t u → pointer_at table u i ≡ Some q
    → HasCounterpart table kind t i q
facts_of_cover table kind t u i q w c b = mirrored table kind t u i q (begins_mirrors table t u c.begins) c.kinds b

-- ---- equal types have the same prefixes

made_cells : (table : Table) (u v : TypeId) (s r : TypeShape) → shape_at table u ≡ s → shape_at table v ≡ r → is_function_shape s ≡ false
    → same_makeup (physically_equal table) (makeup_of table (physically_equal table) u s) (makeup_of table (physically_equal table) v r) ≡ true
    → (is_function_shape r ≡ false) × (all_alike (physically_equal table) (cells_of table u) (cells_of table v) ≡ true)
made_cells table u v (Function ps a) r x y f h = absurd (true≢false f)
made_cells table u v s (Function qs b) x y f h = absurd (true≢false (sym h))
made_cells table u v s r x y f h = (refl, h)

pub equal_cells : (table : Table) → IsWellFormed table → (u v : TypeId) → is_function table u ≡ false → physically_equal table u v ≡ true
    → (is_function table v ≡ false) × (all_alike (physically_equal table) (cells_of table u) (cells_of table v) ≡ true)
equal_cells table w u v f h = by (nat_lt u.0 (length table)) (nat_lt v.0 (length table)) (sym (ap (λ E. E u v) (still table w)) ∙ h)
  where
    same : same_type u v ≡ true → (is_function table v ≡ false) × (all_alike (physically_equal table) (cells_of table u) (cells_of table v) ≡ true)
    same e =
        let P : ℕ → Type 0 = λ n. (is_function table (record { 0 = n }) ≡ false) × (all_alike (physically_equal table) (cells_of table u) (cells_of table (record { 0 = n })) ≡ true) in
        subst P (same_id u v e) (f, (cells_equiv (equal_equiv table)).refl (cells_of table u))

    by : (a b : Bool) → (if a && b then made_alike table (physically_equal table) u v else same_type u v) ≡ true
        → (is_function table v ≡ false) × (all_alike (physically_equal table) (cells_of table u) (cells_of table v) ≡ true)
    by true true e = made_cells table u v (shape_at table u) (shape_at table v) refl refl f e
    by true false e = same e
    by false true e = same e
    by false false e = same e

not_true : (b : Bool) → not b ≡ true → b ≡ false
not_true true h = absurd (true≢false (sym h))
not_true false h = refl

pub begins_equal : (table : Table) → IsWellFormed table → (t u v : TypeId) → begins_with table t u ≡ true → physically_equal table u v ≡ true → begins_with table t v ≡ true
begins_equal table w t u v h e =
    let rest = second_true (not (is_function table t)) _ h in
    let f = not_true (is_function table u) (first_true (not (is_function table u)) _ rest) in
    let c = equal_cells table w u v f e in
    let l = pointwise_long (alike (physically_equal table)) (cells_of table u) (cells_of table v) c.1 in
    let b = second_true (not (is_function table u)) (begins (physically_equal table) (cells_of table t) (cells_of table u)) rest in
    λ i. first_true (not (is_function table t)) _ h i
    && (not (c.0 i)
    && ((ap (λ n. all_alike (physically_equal table) (take n (cells_of table t)) (cells_of table v)) (sym l)
    ∙ (cells_equiv (equal_equiv table)).congr (take (length (cells_of table u)) (cells_of table t)) (cells_of table u) (cells_of table v) b ∙ c.1) i))

-- ---- what is of one class with something covered

pub covers_class : (table : Table) (kind : NodeId → Kind) (t u v : TypeId) → IsWellFormed table → Covers table kind t u → IsOfOneClass table kind u v → Covers table kind t v
covers_class table kind t u v w c d = record {
  begins = begins_equal table w t u v c.begins d.equal;
  kinds = λ p r h.
      let m = between table w t u v (equal_mirrors table w u v d.equal) p r h in
      c.kinds p m.0 m.1 ∙ d.kinds m.0 r m.2;
}

-- ---- types that tile

module _ (table : Table) (w : IsWellFormed table) where
  ids : List TypeId
  ids = map (λ (k : ℕ). record { 0 = k }) (range_with_len 0 (length table))

  pub number : TypeId → ℕ
  number t = first_place (λ x. physically_equal table x t) (map (λ (k : ℕ). record { 0 = k }) (range_with_len 0 (length table)))

  in_ids : (t : TypeId) → IsType table t → Contains (map (λ (k : ℕ). record { 0 = k }) (range_with_len 0 (length table))) t
  in_ids t h = (
    t.0,
    subst (λ n. t.0 < n) (sym (length-map-range_with_len {X = TypeId} (λ (k : ℕ). record { 0 = k }) 0 (length table))) h,
    get_or-map-range_with_len (λ (k : ℕ). record { 0 = k }) 0 (length table) t.0 t.0 t h (omega arith),
  )

  pub numbered : (t u : TypeId) → IsType table t → IsType table u → same_number number t u ≡ physically_equal table t u
  unfolding number
  numbered t u a b = place_tells (physically_equal table) (equal_equiv table) (map (λ (k : ℕ). record { 0 = k }) (range_with_len 0 (length table))) t u (in_ids t a) (in_ids u b)

  some_cells : (xs : List Cell) → not (is_empty xs) ≡ true → 0 < length xs
  some_cells [] h = absurd (true≢false (sym h))
  some_cells (x ∷ xs) h = omega arith

  module _ (t u : TypeId) (g : ℕ) (a : IsType table t) (b : IsType table u) (e : tile table t u ≡ true) (d : IsGcd (length (cells_of table t)) (length (cells_of table u)) g) where
    everywhere : ((i j : ℕ) → i % g ≡ j % g → repeated raw (map (settle number) (cells_of table t)) i ≡ repeated raw (map (settle number) (cells_of table t)) j)
        × ((i : ℕ) → repeated raw (map (settle number) (cells_of table t)) i ≡ repeated raw (map (settle number) (cells_of table u)) i)
    everywhere =
        let lt = length-map (cells_of table t) (settle number) in let lu = length-map (cells_of table u) (settle number) in
        let rest = second_true (not (is_empty (cells_of table t))) _ e in
        let p = some_cells (cells_of table t) (first_true (not (is_empty (cells_of table t))) _ e) in
        let q = some_cells (cells_of table u) (first_true (not (is_empty (cells_of table u))) _ rest) in
        let r = second_true (not (is_empty (cells_of table u))) (repeat_alike (physically_equal table) (cells_of table t) (cells_of table u)) rest in
        agreeing_everywhere raw (map (settle number) (cells_of table t)) (map (settle number) (cells_of table u)) g (omega arith) (omega arith)
        (subst (λ m. IsGcd m (length (map (settle number) (cells_of table u))) g) (sym lt) (subst (λ n. IsGcd (length (cells_of table t)) n g) (sym lu) d))
        (λ i l. agreeing table w number numbered (cells_of table t) (cells_of table u) (cells_into table w (IsType table) (types_closed table w) (physically_equal table) t a)
        (cells_into table w (IsType table) (types_closed table w) (physically_equal table) u b) r i (subst (λ k. i < k) (λ j. lt j * lu j) l))

    pub tiles_within : (i j : ℕ) → i % g ≡ j % g → alike (physically_equal table) (repeated_cell (cells_of table t) i) (repeated_cell (cells_of table t) j) ≡ true
    tiles_within i j h =
        let hx = cells_into table w (IsType table) (types_closed table w) (physically_equal table) t a in
        alike_from_settled table w number numbered (cells_of table t) (cells_of table t) hx hx i j (everywhere.0 i j h)

    pub tiles_across : (i j : ℕ) → i % g ≡ j % g → alike (physically_equal table) (repeated_cell (cells_of table t) i) (repeated_cell (cells_of table u) j) ≡ true
    tiles_across i j h =
        alike_from_settled table w number numbered (cells_of table t) (cells_of table u) (cells_into table w (IsType table) (types_closed table w) (physically_equal table) t a)
        (cells_into table w (IsType table) (types_closed table w) (physically_equal table) u b) i j (everywhere.0 i j h ∙ everywhere.1 j)

  pub tiles_begin : (t u : TypeId) → tile table t u ≡ true → (begins_with table t u || begins_with table u t) ≡ true
  tiles_begin t u e = by (begins_with table t u) (begins_with table u t) (is_function table t) (is_function table u) refl refl refl refl
    where
      by : (a b f g : Bool) → begins_with table t u ≡ a → begins_with table u t ≡ b → is_function table t ≡ f → is_function table u ≡ g → (a || b) ≡ true
      by true b f g p q r s = refl
      by false true f g p q r s = refl
      by false false true g p q r s = absurd (true≢false (sym e ∙ function_tiles table w t u r))
      by false false false true p q r s = absurd (true≢false (sym e ∙ tile_turned table t u ∙ function_tiles table w u t s))
      by false false false false p q r s = absurd (true≢false (sym e ∙ tile_one_way table t u r s p q))
