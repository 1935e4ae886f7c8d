-- A complete type holds no struct or union that was never completed; so completeness passes along a class and along tiles.
use Rattle.std.proofs.Common.{◌≡◌, ℕ, zero, suc, ◌+◌, ◌-◌, ◌<◌, Bool, true, false, List, [], ◌∷◌, ◌++◌, length, map, replicate, slice_get, Some, nat_lt, refl, ap, sym, subst, ◌∙◌, arith, if◌then◌else◌}
use Rattle.std.specs.List.{Contains, fold, repeat, range_with_len, list_all}
use Rattle.std.specs.Prelude.{◌%◌}
use Rattle.cc_base.specs.declared.number.TypeId.{TypeId}
use Rattle.cc_base.specs.declared.number.NodeId.{NodeId}
use Rattle.c_types.specs.declared.shape.TypeShape.{TypeShape}
use Rattle.c_types.specs.declared.shape.TypeShape.TheVariants.{Void, Integer, Pointer, Array, Function, Struct, Union}
use Rattle.c_types.specs.Table.{Table, shape_at, members_at, parts_of_shape, IsComplete, is_complete_entry, is_function, is_function_shape}
use Rattle.c_types.specs.Layouts.{rounded, size_of, align_of}
use Rattle.c_types.specs.Cells.{Cell, raw, pointer, mixed, incomplete, Relation, padded_to, member_cells, longest, union_cells, cells_of_shape, cells_at, begins, holds_pointer}
use Rattle.c_types.specs.Equality.{cells_of, physically_equal, repeated_cell}
use Rattle.c_types.specs.Sound.{IsWellFormed}
use Rattle.std.proofs.lemmas.List.Elements.{All-contains}
use Rattle.src_mem.specs.State.{Setting}
use Rattle.c_types.specs.Flows.{CellsAgree}
use Rattle.facts_kept.proofs.Flow.{rep-there}
use Rattle.c_types.proofs.Lists.{contains_head, contains_tail}
use Rattle.c_types.proofs.Cells.{cells_are, length_cells}

abbrev pub NoHole : List Cell → Type 0
NoHole cells = (i : ℕ) (t : TypeId) → slice_get cells i ≡ Some (incomplete t) → Prim.⊥

none-whole : NoHole []
none-whole i t e = cc (e)

raw-whole : (k : ℕ) → NoHole (replicate k raw)
raw-whole zero i t e = cc (e)
raw-whole (suc k) zero t e = cc (e)
raw-whole (suc k) (suc i) t e = raw-whole k i t e

mixed-whole : (u : TypeId) (a k : ℕ) → NoHole (map (mixed u) (range_with_len a k))
mixed-whole u a zero i t e = cc (e)
mixed-whole u a (suc k) zero t e = cc (e)
mixed-whole u a (suc k) (suc i) t e = mixed-whole u (a + 1) k i t e

pointer_bytes : (node : NodeId) (to : TypeId) (a k : ℕ) → NoHole (map (pointer node to) (range_with_len a k))
pointer_bytes node to a zero i t e = cc (e)
pointer_bytes node to a (suc k) zero t e = cc (e)
pointer_bytes node to a (suc k) (suc i) t e = pointer_bytes node to (a + 1) k i t e

append-whole : (xs ys : List Cell) → NoHole xs → NoHole ys → NoHole (xs ++ ys)
append-whole [] ys a b i t e = b i t e
append-whole (x ∷ xs) ys a b zero t e = a zero t e
append-whole (x ∷ xs) ys a b (suc i) t e = append-whole xs ys (λ k v f. a (suc k) v f) b i t e

padded-whole : (n : ℕ) (cells : List Cell) → NoHole cells → NoHole (padded_to n cells)
padded-whole n cells h = append-whole cells (replicate (n - length cells) raw) h (raw-whole (n - length cells))

repeat-whole : (k : ℕ) (cells : List Cell) → NoHole cells → NoHole (repeat k cells)
repeat-whole zero cells h = none-whole
repeat-whole (suc k) cells h = append-whole cells (repeat k cells) h (repeat-whole k cells h)

members-whole : (align : TypeId → ℕ) (f : TypeId → List Cell) (a : List Cell) (ms : List TypeId) → NoHole a
    → ((m : TypeId) → Contains ms m → NoHole (f m))
    → NoHole (fold (λ cells m. padded_to (rounded (length cells) (align m)) cells ++ f m) a ms)
members-whole align f a [] h each = h
members-whole align f a (m ∷ ms) h each =
    members-whole align f (padded_to (rounded (length a) (align m)) a ++ f m) ms
    (append-whole (padded_to (rounded (length a) (align m)) a) (f m) (padded-whole (rounded (length a) (align m)) a h) (each m (contains_head m ms)))
    (λ x k. each x (contains_tail m ms x k))

longest-whole : (f : TypeId → List Cell) (ms : List TypeId) → ((m : TypeId) → Contains ms m → NoHole (f m)) → NoHole (longest (map f ms))
longest-whole f [] each = none-whole
longest-whole f (m ∷ ms) each = by (nat_lt (length (f m)) (length (longest (map f ms)))) (longest-whole f ms (λ x k. each x (contains_tail m ms x k)))
  where
    by : (b : Bool) → NoHole (longest (map f ms)) → NoHole (if b then longest (map f ms) else f m)
    by true h = h
    by false h = each m (contains_head m ms)

union-whole : (E : Relation) (t : TypeId) (size : ℕ) (holds : Bool) (cs : List (List Cell)) → NoHole (longest cs)
    → NoHole (union_cells E t size holds cs)
union-whole E t size false cs h = raw-whole size
union-whole E t size true cs h = by (list_all (begins E (longest cs)) cs)
  where
    by : (b : Bool) → NoHole (if b then padded_to size (longest cs) else map (mixed t) (range_with_len 0 size))
    by true = padded-whole size (longest cs) h
    by false = mixed-whole t 0 size

shape-whole : (table : Table) (E : Relation) (f : TypeId → List Cell) (t : TypeId) (s : TypeShape) (ms : List TypeId) → is_complete_entry s ms ≡ true
    → ((m : TypeId) → Contains (parts_of_shape s ms) m → NoHole (f m)) → NoHole (cells_of_shape table E f t s ms)
shape-whole table E f t Void ms c each = none-whole
shape-whole table E f t (Integer bytes signed) ms c each = raw-whole bytes
shape-whole table E f t (Pointer node to) ms c each = pointer_bytes node to 0 8
shape-whole table E f t (Array element count) ms c each = repeat-whole count (f element) (each element (contains_head element []))
shape-whole table E f t (Function ps r) ms c each = none-whole
shape-whole table E f t (Struct tag) [] c each = absurd (cc (c))
shape-whole table E f t (Union tag) [] c each = absurd (cc (c))
shape-whole table E f t (Struct tag) (m ∷ ms) c each =
    padded-whole (size_of table t) (member_cells (align_of table) f (m ∷ ms)) (members-whole (align_of table) f [] (m ∷ ms) none-whole each)
shape-whole table E f t (Union tag) (m ∷ ms) c each =
    union-whole E t (size_of table t) (holds_pointer table t) (map f (m ∷ ms)) (longest-whole f (m ∷ ms) each)

module _ (table : Table) (w : IsWellFormed table) where
  whole-below : (E : Relation) (n : ℕ) (t : TypeId) → w.order.0 t < n → IsComplete table t → NoHole (cells_at table E t)
  whole-below E zero t b c = absurd (omega arith)
  whole-below E (suc n) t b c =
      subst NoHole (sym (cells_are table w.order.0 w.order.1 E t))
      (shape-whole table E (cells_at table E) t (shape_at table t) (members_at table t) c
      (λ m k. let f = w.order.1.falls t m k in whole-below E n m (omega arith)
      (All-contains (IsComplete table) (parts_of_shape (shape_at table t) (members_at table t)) m (w.each t).parts k)))

  pub cells-whole : (t : TypeId) → IsComplete table t → NoHole (cells_of table t)
  cells-whole t c = whole-below (physically_equal table) (suc (w.order.0 t)) t (omega arith) c

  -- a data type with a cell that isn't a hole is complete
  pub complete-cell : (u : TypeId) → is_function table u ≡ false → (d : Cell) → slice_get (cells_of table u) 0 ≡ Some d
      → ((v : TypeId) → d ≡ incomplete v → Prim.⊥) → IsComplete table u
  complete-cell u f d e hole =
      by (shape_at table u) (members_at table u) f
      (sym (ap (λ l. slice_get l 0) (cells_are table w.order.0 w.order.1 (physically_equal table) u)) ∙ e)
    where
      by : (s : TypeShape) (ms : List TypeId) → is_function_shape s ≡ false
          → slice_get (cells_of_shape table (physically_equal table) (cells_at table (physically_equal table)) u s ms) 0 ≡ Some d
          → is_complete_entry s ms ≡ true
      by Void ms g h = absurd (cc (h))
      by (Integer bytes signed) ms g h = refl
      by (Pointer node to) ms g h = refl
      by (Array element count) ms g h = refl
      by (Function ps r) ms g h = absurd (cc (g))
      by (Struct tag) [] g h = absurd (hole u (cc (h)))
      by (Union tag) [] g h = absurd (hole u (cc (h)))
      by (Struct tag) (m ∷ ms) g h = refl
      by (Union tag) (m ∷ ms) g h = refl

  -- a complete type has cells, as many as its size
  pub complete-some : (t : TypeId) → IsComplete table t → (0 < length (cells_of table t)) × (length (cells_of table t) ≡ size_of table t)
  complete-some t c = let l = length_cells table w (physically_equal table) t c in let s = (w.sized t c).some in (omega (arith, l, s), l)

  pub complete-data : (t : TypeId) → IsComplete table t → is_function table t ≡ false
  complete-data t c = by (shape_at table t) (members_at table t) c
    where
      by : (s : TypeShape) (ms : List TypeId) → is_complete_entry s ms ≡ true → is_function_shape s ≡ false
      by Void ms h = refl
      by (Integer n q) ms h = refl
      by (Pointer n t) ms h = refl
      by (Array t n) ms h = refl
      by (Function ps q) ms h = absurd (cc (h))
      by (Struct n) ms h = refl
      by (Union n) ms h = refl

module _ (w : Setting) (sound : IsWellFormed w.table) where
  agree-hole : (c : Cell) (v : TypeId) → CellsAgree w.table w.kind c (incomplete v) → c ≡ incomplete v
  agree-hole raw v h = absurd h
  agree-hole (pointer n t i) v h = absurd h
  agree-hole (mixed u i) v h = absurd h
  agree-hole (incomplete t) v h = ap incomplete h

  zero-mod : (n : ℕ) → 0 % n ≡ 0
  zero-mod n = grind arith

  -- where repetitions agree, both types are complete, or none is
  pub complete-like : (t u : TypeId) → IsComplete w.table t → is_function w.table u ≡ false → 0 < length (cells_of w.table u)
      → CellsAgree w.table w.kind (repeated_cell (cells_of w.table t) 0) (repeated_cell (cells_of w.table u) 0) → IsComplete w.table u
  complete-like t u c f some h =
      complete-cell w.table sound u f (repeated_cell (cells_of w.table u) 0)
      (ap (slice_get (cells_of w.table u)) (sym (zero-mod (length (cells_of w.table u)))) ∙ rep-there (cells_of w.table u) 0 some)
      (λ v e. cells-whole w.table sound t c (0 % length (cells_of w.table t)) v (rep-there (cells_of w.table t) 0 (complete-some w.table sound t c).0
      ∙ ap Some
      (agree-hole (repeated_cell (cells_of w.table t) 0) v
      (subst (λ d. CellsAgree w.table w.kind (repeated_cell (cells_of w.table t) 0) d) e h))))

-- a function has no cells
pub function-empty : (table : Table) → IsWellFormed table → (t : TypeId) → is_function table t ≡ true → cells_of table t ≡ []
function-empty table w t h = cells_are table w.order.0 w.order.1 (physically_equal table) t ∙ by (shape_at table t) (members_at table t) h
  where
    by : (s : TypeShape) (ms : List TypeId) → is_function_shape s ≡ true
        → cells_of_shape table (physically_equal table) (cells_at table (physically_equal table)) t s ms ≡ []
    by Void ms h = absurd (cc (h))
    by (Integer n q) ms h = absurd (cc (h))
    by (Pointer n t) ms h = absurd (cc (h))
    by (Array t n) ms h = absurd (cc (h))
    by (Function ps q) ms h = refl
    by (Struct n) ms h = absurd (cc (h))
    by (Union n) ms h = absurd (cc (h))
