-- The bytes of each pointer among the cells of a type stand in order, by going down through the types that it holds by value.
use Rattle.std.proofs.Common.{◌≡◌, ℕ, zero, suc, ◌+◌, ◌-◌, ◌<◌, ◌≤◌, ◌⊎◌, Bool, true, false, List, [], ◌∷◌, ◌++◌, length, map, replicate, slice_get, Some, nat_lt, refl, ap, sym, subst, ◌∙◌, ⊎_elim, arith, if◌then◌else◌}
use Rattle.std.specs.List.{Contains, fold, repeat, range_with_len, list_all}
use Rattle.std.proofs.lemmas.Option.{slice_get_within}
use Rattle.cc_base.specs.declared.number.TypeId.{TypeId}
use Rattle.cc_base.specs.declared.number.NodeId.{NodeId}
use Rattle.c_types.specs.declared.shape.TypeShape.{TypeShape}
use Rattle.c_types.specs.declared.shape.TypeShape.TheVariants.{Void, Integer, Pointer, Array, Function, Struct, Union}
use Rattle.c_types.specs.Table.{Table, shape_at, members_at, parts_of_shape}
use Rattle.c_types.specs.Layouts.{rounded, size_of, align_of}
use Rattle.c_types.specs.Cells.{Cell, raw, pointer, mixed, incomplete, Relation, pointer_cells, padded_to, member_cells, longest, union_cells, cells_of_shape, cells_at, begins, holds_pointer, AreOrdered}
use Rattle.c_types.specs.Equality.{cells_of, physically_equal}
use Rattle.c_types.specs.Sound.{IsWellFormed}
use Rattle.c_types.proofs.Lists.{contains_head, contains_tail}
use Rattle.c_types.proofs.Cells.{cells_are, length_pointer}

pub get_front : {A : Type 0} (xs ys : List A) (k : ℕ) → k < length xs → slice_get (xs ++ ys) k ≡ slice_get xs k
get_front [] ys k h = absurd (omega arith)
get_front (x ∷ xs) ys zero h = refl
get_front (x ∷ xs) ys (suc k) h = get_front xs ys k (omega arith)

pub get_back : {A : Type 0} (xs ys : List A) (j : ℕ) → slice_get (xs ++ ys) (length xs + j) ≡ slice_get ys j
get_back [] ys j = let e : 0 + j ≡ j = omega arith in ap (slice_get ys) e
get_back (x ∷ xs) ys j = let e : suc (length xs) + j ≡ suc (length xs + j) = omega arith in ap (slice_get (x ∷ xs ++ ys)) e ∙ get_back xs ys j

-- which of two lists, one behind the other, has an element at a place
pub data Which {A : Type 0} (xs ys : List A) (k : ℕ) (z : A) : Type 0 where
  old : slice_get xs k ≡ Some z → k < length xs → Which xs ys k z
  new : (j : ℕ) → k ≡ length xs + j → slice_get ys j ≡ Some z → Which xs ys k z

pub which : {A : Type 0} (xs ys : List A) (k : ℕ) (z : A) → slice_get (xs ++ ys) k ≡ Some z → Which xs ys k z
which xs ys k z e = ⊎_elim
    (λ h. old (sym (get_front xs ys k h) ∙ e) h)
    (λ h. new (k - length xs) (omega arith) (sym (get_back xs ys (k - length xs)) ∙ (let f : length xs + (k - length xs) ≡ k = omega arith in ap (slice_get (xs ++ ys)) f) ∙ e)) (case k (length xs))
  where
    case : (a b : ℕ) → (a < b) ⊎ (b ≤ a)
    case a b = grind arith

no_pointers : (cells : List Cell) → ((i j : ℕ) (n : NodeId) (t : TypeId) → slice_get cells i ≡ Some (pointer n t j) → ⊥) → AreOrdered cells
no_pointers cells none = record { least = λ i j n t e. absurd (none i j n t e); back = λ i j n t e. absurd (none (suc i) (suc j) n t e); on = λ i j n t e h. absurd (none i j n t e) }

none_ordered : AreOrdered []
none_ordered = no_pointers [] (λ i j n t e. absurd (cc (e)))

raw_ordered : (k : ℕ) → AreOrdered (replicate k raw)
raw_ordered k = no_pointers (replicate k raw) (of k)
  where
    of : (k i j : ℕ) (n : NodeId) (t : TypeId) → slice_get (replicate k raw) i ≡ Some (pointer n t j) → ⊥
    of zero i j n t e = absurd (cc (e))
    of (suc k) zero j n t e = absurd (cc (e))
    of (suc k) (suc i) j n t e = of k i j n t e

incomplete_ordered : (u : TypeId) → AreOrdered (incomplete u ∷ [])
incomplete_ordered u = no_pointers (incomplete u ∷ []) of
  where
    of : (i j : ℕ) (n : NodeId) (t : TypeId) → slice_get (incomplete u ∷ []) i ≡ Some (pointer n t j) → ⊥
    of zero j n t e = absurd (cc (e))
    of (suc i) j n t e = absurd (cc (e))

mixed_ordered : (u : TypeId) (a k : ℕ) → AreOrdered (map (mixed u) (range_with_len a k))
mixed_ordered u a k = no_pointers (map (mixed u) (range_with_len a k)) (of a k)
  where
    of : (a k i j : ℕ) (n : NodeId) (t : TypeId) → slice_get (map (mixed u) (range_with_len a k)) i ≡ Some (pointer n t j) → ⊥
    of a zero i j n t e = absurd (cc (e))
    of a (suc k) zero j n t e = absurd (cc (e))
    of a (suc k) (suc i) j n t e = of (a + 1) k i j n t e

pointer_byte : (node : NodeId) (to : TypeId) (a k i : ℕ) → i < k → slice_get (map (pointer node to) (range_with_len a k)) i ≡ Some (pointer node to (a + i))
pointer_byte node to a zero i h = absurd (omega arith)
pointer_byte node to a (suc k) zero h = let e : a ≡ a + 0 = omega arith in ap (λ j. Some (pointer node to j)) e
pointer_byte node to a (suc k) (suc i) h = let e : a + 1 + i ≡ a + suc i = omega arith in pointer_byte node to (a + 1) k i (omega arith) ∙ ap (λ j. Some (pointer node to j)) e

pointer_ordered : (node : NodeId) (to : TypeId) → AreOrdered (pointer_cells node to)
pointer_ordered node to = record {
  least = λ i j n t e. let s = small i (pointer n t j) e in let q = pointer_byte node to 0 8 i s in let z : 0 + i ≡ j = cc (q, e) in (omega arith, omega arith);
  back = λ i j n t e.
      let s = small (suc i) (pointer n t (suc j)) e in let q = pointer_byte node to 0 8 (suc i) s in let z : 0 + suc i ≡ suc j = cc (q, e) in
      let m : node ≡ n = cc (q, e) in let u : to ≡ t = cc (q, e) in let y : 0 + i ≡ j = omega arith in
      pointer_byte node to 0 8 i (omega arith) ∙ ap (λ x. Some (pointer x to (0 + i))) m ∙ ap (λ x. Some (pointer n x (0 + i))) u ∙ ap (λ x. Some (pointer n t x)) y;
  on = λ i j n t e h.
      let s = small i (pointer n t j) e in let q = pointer_byte node to 0 8 i s in let z : 0 + i ≡ j = cc (q, e) in
      let m : node ≡ n = cc (q, e) in let u : to ≡ t = cc (q, e) in let y : 0 + suc i ≡ suc j = omega arith in
      pointer_byte node to 0 8 (suc i) (omega arith) ∙ ap (λ x. Some (pointer x to (0 + suc i))) m ∙ ap (λ x. Some (pointer n x (0 + suc i))) u ∙ ap (λ x. Some (pointer n t x)) y;
}
  where
    small : (i : ℕ) (c : Cell) → slice_get (pointer_cells node to) i ≡ Some c → i < 8
    small i c e = let h = slice_get_within (pointer_cells node to) i c e in let l = length_pointer node to in omega (arith, h, l)

append_ordered : (xs ys : List Cell) → AreOrdered xs → AreOrdered ys → AreOrdered (xs ++ ys)
append_ordered xs ys a b = record {
  least = λ i j n t e. least i j n t (which xs ys i (pointer n t j) e);
  back = λ i j n t e. back i j n t (which xs ys (suc i) (pointer n t (suc j)) e);
  on = λ i j n t e h. on i j n t h (which xs ys i (pointer n t j) e);
}
  where
    least : (i j : ℕ) (n : NodeId) (t : TypeId) → Which xs ys i (pointer n t j) → (j ≤ 7) × (j ≤ i)
    least i j n t (old e h) = a.least i j n t e
    least i j n t (new k q e) = let l = b.least k j n t e in (l.0, let m = l.1 in omega (arith, m, q))

    back : (i j : ℕ) (n : NodeId) (t : TypeId) → Which xs ys (suc i) (pointer n t (suc j)) → slice_get (xs ++ ys) i ≡ Some (pointer n t j)
    back i j n t (old e h) = get_front xs ys i (omega arith) ∙ a.back i j n t e
    back i j n t (new zero q e) = let l = (b.least zero (suc j) n t e).1 in absurd (omega arith)
    back i j n t (new (suc k) q e) = let f : i ≡ length xs + k = omega (arith, q) in ap (slice_get (xs ++ ys)) f ∙ get_back xs ys k ∙ b.back k j n t e

    on : (i j : ℕ) (n : NodeId) (t : TypeId) → j < 7 → Which xs ys i (pointer n t j) → slice_get (xs ++ ys) (suc i) ≡ Some (pointer n t (suc j))
    on i j n t h (old e l) = let f = a.on i j n t e h in get_front xs ys (suc i) (slice_get_within xs (suc i) (pointer n t (suc j)) f) ∙ f
    on i j n t h (new k q e) = let f : suc i ≡ length xs + suc k = omega (arith, q) in ap (slice_get (xs ++ ys)) f ∙ get_back xs ys (suc k) ∙ b.on k j n t e h

padded_ordered : (n : ℕ) (cells : List Cell) → AreOrdered cells → AreOrdered (padded_to n cells)
padded_ordered n cells h = append_ordered cells (replicate (n - length cells) raw) h (raw_ordered (n - length cells))

repeat_ordered : (k : ℕ) (cells : List Cell) → AreOrdered cells → AreOrdered (repeat k cells)
repeat_ordered zero cells h = none_ordered
repeat_ordered (suc k) cells h = append_ordered cells (repeat k cells) h (repeat_ordered k cells h)

members_ordered : (align : TypeId → ℕ) (f : TypeId → List Cell) (a : List Cell) (ms : List TypeId) → AreOrdered a → ((m : TypeId) → Contains ms m → AreOrdered (f m))
    → AreOrdered (fold (λ cells m. padded_to (rounded (length cells) (align m)) cells ++ f m) a ms)
members_ordered align f a [] h each = h
members_ordered align f a (m ∷ ms) h each =
    members_ordered align f (padded_to (rounded (length a) (align m)) a ++ f m) ms
    (append_ordered (padded_to (rounded (length a) (align m)) a) (f m) (padded_ordered (rounded (length a) (align m)) a h) (each m (contains_head m ms)))
    (λ x k. each x (contains_tail m ms x k))

longest_ordered : (f : TypeId → List Cell) (ms : List TypeId) → ((m : TypeId) → Contains ms m → AreOrdered (f m)) → AreOrdered (longest (map f ms))
longest_ordered f [] each = none_ordered
longest_ordered f (m ∷ ms) each = by (nat_lt (length (f m)) (length (longest (map f ms)))) (longest_ordered f ms (λ x k. each x (contains_tail m ms x k)))
  where
    by : (b : Bool) → AreOrdered (longest (map f ms)) → AreOrdered (if b then longest (map f ms) else f m)
    by true h = h
    by false h = each m (contains_head m ms)

union_ordered : (E : Relation) (t : TypeId) (size : ℕ) (holds : Bool) (cs : List (List Cell)) → AreOrdered (longest cs) → AreOrdered (union_cells E t size holds cs)
union_ordered E t size false cs h = raw_ordered size
union_ordered E t size true cs h = by (list_all (begins E (longest cs)) cs)
  where
    by : (b : Bool) → AreOrdered (if b then padded_to size (longest cs) else map (mixed t) (range_with_len 0 size))
    by true = padded_ordered size (longest cs) h
    by false = mixed_ordered t 0 size

shape_ordered : (table : Table) (E : Relation) (f : TypeId → List Cell) (t : TypeId) (s : TypeShape) (ms : List TypeId)
    → ((m : TypeId) → Contains (parts_of_shape s ms) m → AreOrdered (f m)) → AreOrdered (cells_of_shape table E f t s ms)
shape_ordered table E f t Void ms each = none_ordered
shape_ordered table E f t (Integer bytes signed) ms each = raw_ordered bytes
shape_ordered table E f t (Pointer node to) ms each = pointer_ordered node to
shape_ordered table E f t (Array element count) ms each = repeat_ordered count (f element) (each element (contains_head element []))
shape_ordered table E f t (Function ps r) ms each = none_ordered
shape_ordered table E f t (Struct tag) [] each = incomplete_ordered t
shape_ordered table E f t (Union tag) [] each = incomplete_ordered t
shape_ordered table E f t (Struct tag) (m ∷ ms) each =
    padded_ordered (size_of table t) (member_cells (align_of table) f (m ∷ ms)) (members_ordered (align_of table) f [] (m ∷ ms) none_ordered each)
shape_ordered table E f t (Union tag) (m ∷ ms) each =
    union_ordered E t (size_of table t) (holds_pointer table t) (map f (m ∷ ms)) (longest_ordered f (m ∷ ms) each)

module _ (table : Table) (w : IsWellFormed table) where
  ordered_below : (E : Relation) (n : ℕ) (t : TypeId) → w.order.0 t < n → AreOrdered (cells_at table E t)
  ordered_below E zero t b = absurd (omega arith)
  ordered_below E (suc n) t b =
      subst AreOrdered (sym (cells_are table w.order.0 w.order.1 E t))
      (shape_ordered table E (cells_at table E) t (shape_at table t) (members_at table t)
      (λ m k. let f = w.order.1.falls t m k in ordered_below E n m (omega arith)))

  -- whether unions are mixed by physical equality or by another relation
  pub cells_at_ordered : (E : Relation) (t : TypeId) → AreOrdered (cells_at table E t)
  cells_at_ordered E t = ordered_below E (suc (w.order.0 t)) t (omega arith)

  pub cells_ordered : (t : TypeId) → AreOrdered (cells_of table t)
  cells_ordered t = cells_at_ordered (physically_equal table) t

-- where cells in order begin a pointer, they hold all its eight bytes
pub pointer_bytes : (cells : List Cell) (k : ℕ) (n : NodeId) (t : TypeId) → AreOrdered cells → slice_get cells k ≡ Some (pointer n t 0)
    → (j : ℕ) → j ≤ 7 → slice_get cells (k + j) ≡ Some (pointer n t j)
pointer_bytes cells k n t are e zero h = subst (λ (i : ℕ). slice_get cells i ≡ Some (pointer n t 0)) (omega arith) e
pointer_bytes cells k n t are e (suc j) h =
    subst (λ (i : ℕ). slice_get cells i ≡ Some (pointer n t (suc j))) (omega arith)
    (are.on (k + j) j n t (pointer_bytes cells k n t are e j (omega arith)) (omega arith))

-- and the first byte of a pointer stands as many bytes before each of its bytes as that byte's number says
pub first_byte : (cells : List Cell) → AreOrdered cells → (j i : ℕ) (n : NodeId) (t : TypeId) → slice_get cells i ≡ Some (pointer n t j) → slice_get cells (i - j) ≡ Some (pointer n t 0)
first_byte cells o zero i n t e = let f : i - 0 ≡ i = omega arith in ap (slice_get cells) f ∙ e
first_byte cells o (suc j) zero n t e = absurd (let l = (o.least zero (suc j) n t e).1 in omega arith)
first_byte cells o (suc j) (suc i) n t e = let f : suc i - suc j ≡ i - j = omega arith in ap (slice_get cells) f ∙ first_byte cells o j i n t (o.back i j n t e)
