-- The pointers of a type begin where the spots of its layout say.
use Rattle.std.proofs.Common.{◌≡◌, ℕ, zero, suc, ◌+◌, ◌-◌, ◌<◌, Bool, true, false, cond, List, [], ◌∷◌, ◌++◌, length, map, replicate, slice_get, get_or, None, Some, refl, ap, sym, ◌∙◌, arith, true≢false}
use Rattle.std.specs.Prelude.{is_some}
use Rattle.std.specs.List.{All, range_with_len, filter}
use Rattle.std.proofs.lemmas.List.{length-replicate}
use Rattle.std.proofs.lemmas.Option.{slice_get-get_or}
use Rattle.cc_base.specs.declared.number.TypeId.{TypeId}
use Rattle.c_types.specs.declared.shape.TypeShape.{TypeShape}
use Rattle.c_types.specs.declared.shape.TypeShape.TheVariants.{Void, Integer, Pointer as PointerShape, Array, Function, Struct, Union}
use Rattle.c_types.specs.Table.{Table, IsComplete, is_complete_entry, shape_at, members_at}
use Rattle.c_types.specs.Layouts.{size_of}
use Rattle.c_types.specs.Cells.{Cell, raw, mixed, holds_pointer, holds_in_shape}
use Rattle.c_types.specs.Equality.{cells_of, physically_equal}
use Rattle.c_types.specs.Flows.{HeldPointer, and_then, pointer_at, pointer_in, pointer_in_cell}
use Rattle.c_types.specs.Sound.{IsWellFormed}
use Rattle.c_types.proofs.Cells.{length_cells}
use Rattle.src_mem.specs.Uses.{pointer_offsets}
use Rattle.phys_types.specs.declared.spot.Item.{Item}
use Rattle.phys_types.specs.declared.spot.Item.TheVariants.{Pointer, Mixed, Incomplete}
use Rattle.phys_types.specs.declared.spot.Spot.{Spot}
use Rattle.phys_types.specs.declared.spot.Layout.{Layout}
use Rattle.phys_types.specs.Spots.{item_size, item_cells, cells_from, AreSpots}
use Rattle.phys_types.specs.Shown.{IsLayoutOf}
use Rattle.phys_types.specs.Standing.{pointer_of_item}
use Rattle.phys_types.proofs.SpotPointers.{found_in, cell_of_spot}
use Rattle.phys_types.proofs.Spreading.{length_item}
use Rattle.cure_objects.specs.Starts.{item_starts, pointer_starts, IsPointerStart, IsItemStart, IsSpotOf, TellsPointers}

-- Starts among cells

-- the places, from a on, of the cells that are first bytes of pointers
starts-from : ℕ → List Cell → List ℕ
starts-from a [] = []
starts-from a (c ∷ cs) = cond (is_some (pointer_in_cell c)) (a ∷ starts-from (a + 1) cs) (starts-from (a + 1) cs)

filtered : (p : ℕ → Bool) (a : ℕ) (xs : List Cell) → ((j : ℕ) → p (a + j) ≡ is_some (found_in xs j))
    → filter p (range_with_len a (length xs)) ≡ starts-from a xs
unfolding starts-from
filtered p a [] h = refl
filtered p a (c ∷ cs) h =
    ap (λ b. cond b (a ∷ filter p (range_with_len (a + 1) (length cs))) (filter p (range_with_len (a + 1) (length cs)))) (ap p (same a) ∙ h 0)
    ∙ ap (λ ns. cond (is_some (pointer_in_cell c)) (a ∷ ns) ns) (filtered p (a + 1) cs (λ j. ap p (next a j) ∙ h (suc j)))
  where
    same : (a : ℕ) → a ≡ a + 0
    same a = omega arith

    next : (a j : ℕ) → a + 1 + j ≡ a + suc j
    next a j = omega arith

joined : (b : Bool) (a : ℕ) (xs ys : List ℕ) → cond b (a ∷ (xs ++ ys)) (xs ++ ys) ≡ cond b (a ∷ xs) xs ++ ys
joined true a xs ys = refl
joined false a xs ys = refl

starts-append : (a : ℕ) (xs ys : List Cell) → starts-from a (xs ++ ys) ≡ starts-from a xs ++ starts-from (a + length xs) ys
unfolding starts-from
starts-append a [] ys = ap (λ n. starts-from n ys) (same a)
  where
    same : (a : ℕ) → a ≡ a + 0
    same a = omega arith
starts-append a (c ∷ cs) ys =
    ap (λ ns. cond (is_some (pointer_in_cell c)) (a ∷ ns) ns)
    (starts-append (a + 1) cs ys ∙ ap (λ n. starts-from (a + 1) cs ++ starts-from n ys) (next a (length cs)))
    ∙ joined (is_some (pointer_in_cell c)) a (starts-from (a + 1) cs) (starts-from (a + suc (length cs)) ys)
  where
    next : (a j : ℕ) → a + 1 + j ≡ a + suc j
    next a j = omega arith

starts-raw : (a n : ℕ) → starts-from a (replicate n raw) ≡ []
unfolding starts-from
starts-raw a zero = refl
starts-raw a (suc n) = starts-raw (a + 1) n

starts-mixed : (a : ℕ) (t : TypeId) (is : List ℕ) → starts-from a (map (mixed t) is) ≡ []
unfolding starts-from
starts-mixed a t [] = refl
starts-mixed a t (i ∷ is) = starts-mixed (a + 1) t is

starts-item : (a : ℕ) (x : Item) → starts-from a (item_cells x) ≡ item_starts a x
unfolding starts-from
starts-item a (Pointer node to) = refl
starts-item a (Mixed t n) = starts-mixed a t (range_with_len 0 n)
starts-item a (Incomplete t) = refl

starts-spots : (size : TypeId → ℕ) (at end : ℕ) (ss : List Spot) → AreSpots size at ss end → starts-from at (cells_from at ss end) ≡ pointer_starts ss
starts-spots size at end [] h = starts-raw at (end - at)
starts-spots size at end (s ∷ ss) h =
    let more = cells_from (s.start + item_size s.item) ss end in
    let gap = replicate (s.start - at) raw in
    let here : at + length gap ≡ s.start = let l = length-replicate (s.start - at) raw in let g = h.0 in omega arith in
    let past : s.start + length (item_cells s.item) ≡ s.start + item_size s.item = ap (λ n. s.start + n) (length_item s.item) in
    starts-append at gap (item_cells s.item ++ more)
    ∙ ap (λ ns. ns ++ starts-from (at + length gap) (item_cells s.item ++ more)) (starts-raw at (s.start - at))
    ∙ ap (λ n. starts-from n (item_cells s.item ++ more)) here
    ∙ starts-append s.start (item_cells s.item) more
    ∙ ap (λ ns. ns ++ starts-from (s.start + length (item_cells s.item)) more) (starts-item s.start s.item)
    ∙ ap (λ n. item_starts s.start s.item ++ starts-from n more) past
    ∙ ap (λ ns. item_starts s.start s.item ++ ns) (starts-spots size (s.start + item_size s.item) end ss h.2)

-- What holds a pointer is complete, and is no function

shape-complete : (f : TypeId → Bool) (shape : TypeShape) (members : List TypeId) → holds_in_shape f shape members ≡ true
    → is_complete_entry shape members ≡ true
shape-complete f Void members h = absurd (true≢false (sym h))
shape-complete f (Integer bytes signed) members h = refl
shape-complete f (PointerShape node to) members h = refl
shape-complete f (Array element count) members h = refl
shape-complete f (Function parameters result) members h = absurd (true≢false (sym h))
shape-complete f (Struct tag) [] h = absurd (true≢false (sym h))
shape-complete f (Struct tag) (m ∷ ms) h = refl
shape-complete f (Union tag) [] h = absurd (true≢false (sym h))
shape-complete f (Union tag) (m ∷ ms) h = refl

shape-found : (f : TypeId → Bool) (table : Table) (t : TypeId) (shape : TypeShape) (members : List TypeId) → holds_in_shape f shape members ≡ true
    → (i : ℕ) → pointer_in table t shape i ≡ found_in (cells_of table t) i
shape-found f table t Void members h i = refl
shape-found f table t (Integer bytes signed) members h i = refl
shape-found f table t (PointerShape node to) members h i = refl
shape-found f table t (Array element count) members h i = refl
shape-found f table t (Function parameters result) members h i = absurd (true≢false (sym h))
shape-found f table t (Struct tag) members h i = refl
shape-found f table t (Union tag) members h i = refl

complete-holder : (table : Table) (t : TypeId) → holds_pointer table t ≡ true → IsComplete table t
unfolding holds_pointer
complete-holder table t h = shape-complete _ (shape_at table t) (members_at table t) h

found-holder : (table : Table) (t : TypeId) → holds_pointer table t ≡ true → (i : ℕ) → pointer_at table t i ≡ found_in (cells_of table t) i
unfolding holds_pointer
found-holder table t h i = shape-found _ table t (shape_at table t) (members_at table t) h i

-- A pointer's first byte

found-within : (xs : List Cell) (i : ℕ) (p : HeldPointer) → found_in xs i ≡ Some p → i < length xs
found-within [] i p h = absurd (none p h)
  where
    none : (p : HeldPointer) → None ≡ Some p → ⊥
    none p h = cc
found-within (c ∷ cs) zero p h = omega arith
found-within (c ∷ cs) (suc i) p h = let r = found-within cs i p h in omega arith

module _ (table : Table) (formed : IsWellFormed table) (t : TypeId) (layout : Layout) (shown : IsLayoutOf table (physically_equal table) t layout)
    (h : layout.holds ≡ true) where
  holder : holds_pointer table t ≡ true
  holder = sym shown.holds ∙ h

  start-of : (k : ℕ) (s : Spot) (p : HeldPointer) → slice_get layout.spots.items k ≡ Some s
      → found_in (cells_of table t) s.start ≡ Some p → IsPointerStart table t s.start p
  start-of k s p e found = record {
    there = found-holder table t holder s.start ∙ found;
    complete = complete-holder table t holder;
    within = (let l = found-within (cells_of table t) s.start p found in
        let m = length_cells table formed (physically_equal table) t (complete-holder table t holder) in omega arith);
    whole = record { whole = λ n u i q. none p (sym (ap (λ c. and_then c pointer_in_cell) q) ∙ found) };
  }
    where
      none : (p : HeldPointer) → None ≡ Some p → ⊥
      none p h = cc

  item-start : (k : ℕ) (s : Spot) (item : Item) → slice_get layout.spots.items k ≡ Some s → s.item ≡ item → IsItemStart table t s.start item
  item-start k s (Pointer node to) e is = start-of k s (record { node = node; to = to }) e
      (ap (λ cs. found_in cs s.start) (sym shown.cells) ∙ ap (found_in (cells_from 0 layout.spots.items layout.size)) (same s.start)
      ∙ cell_of_spot (size_of table) 0 layout.size layout.spots.items k s (record { node = node; to = to }) shown.spots e (ap pointer_of_item is))
    where
      same : (a : ℕ) → a ≡ a - 0
      same a = omega arith
  item-start k s (Mixed u n) e is = tt
  item-start k s (Incomplete u) e is = tt

  spots-are : All (IsSpotOf table t) layout.spots.items
  spots-are i d l = item-start i (get_or layout.spots.items i d) (get_or layout.spots.items i d).item (slice_get-get_or layout.spots.items i d l) refl

  offsets-are : pointer_offsets table t ≡ pointer_starts layout.spots.items
  offsets-are =
      filtered (λ i. is_some (pointer_at table t i)) 0 (cells_of table t)
      (λ j. ap is_some (found-holder table t holder (0 + j) ∙ ap (found_in (cells_of table t)) (same j)))
      ∙ ap (starts-from 0) (sym shown.cells)
      ∙ starts-spots (size_of table) 0 layout.size layout.spots.items shown.spots
    where
      same : (j : ℕ) → 0 + j ≡ j
      same j = omega arith

pub pointers_told : (table : Table) (t : TypeId) (layout : Layout) → IsWellFormed table → IsLayoutOf table (physically_equal table) t layout
    → TellsPointers table t layout
pointers_told table t layout formed shown = record {
  holds = shown.holds;
  spots = λ h. spots-are table formed t layout shown h;
  offsets = λ h. offsets-are table formed t layout shown h;
}
