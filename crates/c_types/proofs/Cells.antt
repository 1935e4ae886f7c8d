use Rattle.std.proofs.Common.{◌≡◌, ℕ, zero, suc, ◌+◌, ◌*◌, ◌-◌, ◌<◌, ◌≤◌, max, Bool, true, false, if◌then◌else◌, List, [], ◌∷◌, ◌++◌, length, map, replicate, nat_lt, refl, ap, sym, ◌∙◌, true≢false, arith}
use Rattle.std.specs.List.{Contains, fold, repeat, range_with_len, list_all}
use Rattle.std.proofs.lemmas.List.{length-append, length-map, length-replicate}
use Rattle.std.proofs.lemmas.List.Elements.{All-contains}
use Rattle.cc_base.specs.declared.number.TypeId.{TypeId}
use Rattle.c_types.specs.declared.layout.Layout.{Layout}
use Rattle.c_types.specs.declared.shape.TypeShape.{TypeShape}
use Rattle.c_types.specs.declared.shape.TypeShape.TheVariants.{Void, Integer, Pointer, Array, Function, Struct, Union}
use Rattle.c_types.specs.Table.{Table, shape_at, members_at, parts_of_shape, parts_at, IsRanked, IsComplete, is_complete_entry}
use Rattle.c_types.specs.Layouts.{rounded, members_end, greatest_align, greatest_size, struct_layout, union_layout, layout_of_shape, layout_of, size_of, align_of}
use Rattle.c_types.specs.Cells.{Cell, raw, pointer, mixed, Relation, pointer_cells, padded_to, member_cells, longest, union_cells, aggregate_cells, cells_of_shape, cells_step, cells_at, begins, holds_pointer}
use Rattle.c_types.specs.Sound.{IsWellFormed}
use Rattle.c_types.proofs.Lists.{map_same, contains_head, contains_tail}
use Rattle.c_types.proofs.Descent.{descend_is, rank_bound, layout_is}
use Rattle.c_types.proofs.Ends.{rounded_up}

-- The cells of a type are made of the cells of its parts, and there are as many as the type has bytes.

member_cells_same : (align : TypeId → ℕ) (f g : TypeId → List Cell) (a : List Cell) (ms : List TypeId) → ((m : TypeId) → Contains ms m → f m ≡ g m)
    → fold (λ cells m. padded_to (rounded (length cells) (align m)) cells ++ f m) a ms ≡ fold (λ cells m. padded_to (rounded (length cells) (align m)) cells ++ g m) a ms
member_cells_same align f g a [] h = refl
member_cells_same align f g a (m ∷ ms) h =
    ap (λ c. fold (λ cells x. padded_to (rounded (length cells) (align x)) cells ++ f x) (padded_to (rounded (length a) (align m)) a ++ c) ms) (h m (contains_head m ms))
    ∙ member_cells_same align f g (padded_to (rounded (length a) (align m)) a ++ g m) ms (λ x k. h x (contains_tail m ms x k))

pub cells_local : (table : Table) (E : Relation) (f g : TypeId → List Cell) (t : TypeId) (s : TypeShape) (ms : List TypeId)
    → ((m : TypeId) → Contains (parts_of_shape s ms) m → f m ≡ g m) → cells_of_shape table E f t s ms ≡ cells_of_shape table E g t s ms
cells_local table E f g t Void ms h = refl
cells_local table E f g t (Integer bytes signed) ms h = refl
cells_local table E f g t (Pointer node to) ms h = refl
cells_local table E f g t (Array element count) ms h = ap (repeat count) (h element (contains_head element []))
cells_local table E f g t (Function ps r) ms h = refl
cells_local table E f g t (Struct tag) ms h =
    ap (λ c. aggregate_cells t ms (padded_to (size_of table t) c)) (member_cells_same (align_of table) f g [] ms h)
cells_local table E f g t (Union tag) ms h =
    ap (λ c. aggregate_cells t ms (union_cells E t (size_of table t) (holds_pointer table t) c)) (map_same f g ms h)

module _ (table : Table) (rank : TypeId → ℕ) (r : IsRanked table rank) where
  pub cells_are : (E : Relation) (t : TypeId) → cells_at table E t ≡ cells_step table E (cells_at table E) t
  unfolding cells_at
  cells_are E t =
      descend_is (cells_step table E) [] (parts_at table) rank
      (λ f g u h. cells_local table E f g u (shape_at table u) (members_at table u) h) r.falls (suc (length table)) t (rank_bound table rank r t)

-- ---- lengths

pub length_padded : (n : ℕ) (cells : List Cell) → length cells ≤ n → length (padded_to n cells) ≡ n
length_padded n cells h = length-append cells (replicate (n - length cells) raw) ∙ ap (λ k. length cells + k) (length-replicate (n - length cells) raw) ∙ omega arith

length_range : (a n : ℕ) → length (range_with_len a n) ≡ n
length_range a zero = refl
length_range a (suc n) = ap suc (length_range (a + 1) n)

pub length_pointer : (node : _) (to : TypeId) → length (pointer_cells node to) ≡ 8
length_pointer node to = length-map (range_with_len 0 8) (pointer node to) ∙ length_range 0 8

length_repeat : (n : ℕ) (xs : List Cell) → length (repeat n xs) ≡ n * length xs
length_repeat zero xs = omega arith
length_repeat (suc n) xs = length-append xs (repeat n xs) ∙ ap (λ k. length xs + k) (length_repeat n xs) ∙ mul_step n (length xs)
  where
    mul_step : (a b : ℕ) → b + a * b ≡ suc a * b
    mul_step a b = grind arith

pub length_members : (f : TypeId → List Cell) (l : TypeId → Layout) (a : List Cell) (ms : List TypeId) → ((m : TypeId) → Contains ms m → length (f m) ≡ (l m).size)
    → length (fold (λ cells m. padded_to (rounded (length cells) (l m).align) cells ++ f m) a ms) ≡ fold (λ end (m : Layout). rounded end m.align + m.size) (length a) (map l ms)
length_members f l a [] h = refl
length_members f l a (m ∷ ms) h =
    length_members f l (padded_to (rounded (length a) (l m).align) a ++ f m) ms (λ x k. h x (contains_tail m ms x k))
    ∙ ap (λ n. fold (λ end (x : Layout). rounded end x.align + x.size) n (map l ms))
    (length-append (padded_to (rounded (length a) (l m).align) a) (f m)
    ∙ (λ i. length_padded (rounded (length a) (l m).align) a (rounded_up (length a) (l m).align) i + h m (contains_head m ms) i))

size_start : (a : ℕ) (ls : List Layout) → a ≤ fold (λ n (m : Layout). max n m.size) a ls
size_start a [] = omega arith
size_start a (l ∷ ls) = let h = size_start (max a l.size) ls in omega arith

size_grows : (a b : ℕ) (ls : List Layout) → a ≤ b → fold (λ n (m : Layout). max n m.size) a ls ≤ fold (λ n (m : Layout). max n m.size) b ls
size_grows a b [] h = h
size_grows a b (l ∷ ls) h = size_grows (max a l.size) (max b l.size) ls (omega arith)

pub length_longest : (f : TypeId → List Cell) (l : TypeId → Layout) (ms : List TypeId) → ((m : TypeId) → Contains ms m → length (f m) ≡ (l m).size)
    → length (longest (map f ms)) ≤ greatest_size (map l ms)
length_longest f l [] h = omega arith
length_longest f l (m ∷ ms) h = by (nat_lt (length (f m)) (length (longest (map f ms)))) (length_longest f l ms (λ x c. h x (contains_tail m ms x c)))
  where
    here : length (f m) ≤ greatest_size (map l (m ∷ ms))
    here = let e = h m (contains_head m ms) in let s = size_start (max 0 (l m).size) (map l ms) in omega arith

    by : (b : Bool) → length (longest (map f ms)) ≤ greatest_size (map l ms) → length (if b then longest (map f ms) else f m) ≤ greatest_size (map l (m ∷ ms))
    by true k = let g = size_grows 0 (max 0 (l m).size) (map l ms) (omega arith) in omega arith
    by false k = here

length_union : (E : Relation) (t : TypeId) (size : ℕ) (holds : Bool) (cs : List (List Cell)) → length (longest cs) ≤ size → length (union_cells E t size holds cs) ≡ size
length_union E t size false cs h = length-replicate size raw
length_union E t size true cs h = by (list_all (begins E (longest cs)) cs)
  where
    by : (b : Bool) → length (if b then padded_to size (longest cs) else map (mixed t) (range_with_len 0 size)) ≡ size
    by true = length_padded size (longest cs) h
    by false = length-map (range_with_len 0 size) (mixed t) ∙ length_range 0 size

size_is : (table : Table) (t : TypeId) (l : Layout) → layout_of table t ≡ l → size_of table t ≡ l.size
size_is table t l e = ap (λ (x : Layout). x.size) e

length_shape : (table : Table) (E : Relation) (f : TypeId → List Cell) (t : TypeId) (s : TypeShape) (ms : List TypeId)
    → layout_of table t ≡ layout_of_shape (layout_of table) s ms → is_complete_entry s ms ≡ true
    → ((m : TypeId) → Contains (parts_of_shape s ms) m → length (f m) ≡ size_of table m) → length (cells_of_shape table E f t s ms) ≡ size_of table t
length_shape table E f t Void ms e c h = absurd (true≢false (sym c))
length_shape table E f t (Integer bytes signed) ms e c h = length-replicate bytes raw ∙ sym (size_is table t (layout_of_shape (layout_of table) (Integer bytes signed) ms) e)
length_shape table E f t (Pointer node to) ms e c h = length_pointer node to ∙ sym (size_is table t (layout_of_shape (layout_of table) (Pointer node to) ms) e)
length_shape table E f t (Array element count) ms e c h =
    length_repeat count (f element) ∙ ap (λ n. count * n) (h element (contains_head element []))
    ∙ sym (size_is table t (layout_of_shape (layout_of table) (Array element count) ms) e)
length_shape table E f t (Function ps r) ms e c h = absurd (true≢false (sym c))
length_shape table E f t (Struct tag) [] e c h = absurd (true≢false (sym c))
length_shape table E f t (Union tag) [] e c h = absurd (true≢false (sym c))
length_shape table E f t (Struct tag) (m ∷ ms) e c h =
    let k = length_members f (layout_of table) [] (m ∷ ms) h in
    let s = size_is table t (struct_layout (map (layout_of table) (m ∷ ms))) e in
    let r = rounded_up (members_end (map (layout_of table) (m ∷ ms))) (greatest_align (map (layout_of table) (m ∷ ms))) in
    length_padded (size_of table t) (member_cells (align_of table) f (m ∷ ms)) (omega arith)
length_shape table E f t (Union tag) (m ∷ ms) e c h =
    let k = length_longest f (layout_of table) (m ∷ ms) h in
    let s = size_is table t (union_layout (map (layout_of table) (m ∷ ms))) e in
    let r = rounded_up (greatest_size (map (layout_of table) (m ∷ ms))) (greatest_align (map (layout_of table) (m ∷ ms))) in
    length_union E t (size_of table t) (holds_pointer table t) (map f (m ∷ ms)) (omega arith)

module _ (table : Table) (w : IsWellFormed table) where
  length_below : (E : Relation) (n : ℕ) (t : TypeId) → w.order.0 t < n → IsComplete table t → length (cells_at table E t) ≡ size_of table t
  length_below E zero t b c = absurd (omega arith)
  length_below E (suc n) t b c =
      ap length (cells_are table w.order.0 w.order.1 E t)
      ∙ length_shape table E (cells_at table E) t (shape_at table t) (members_at table t) (layout_is table w.order.0 w.order.1 t) c
      (λ m k. let f = w.order.1.falls t m k in length_below E n m (omega arith) (All-contains (IsComplete table) (parts_at table t) m (w.each t).parts k))

  -- a complete type has as many cells as bytes
  pub length_cells : (E : Relation) (t : TypeId) → IsComplete table t → length (cells_at table E t) ≡ size_of table t
  length_cells E t c = length_below E (suc (w.order.0 t)) t (omega arith) c
