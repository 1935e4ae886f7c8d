-- The pointers among the cells of a type have nodes that the types of the table have, by going down through the types that it
-- holds by value.
use Rattle.std.proofs.Common.{ℕ, zero, suc, ◌+◌, ◌-◌, ◌<◌, Bool, true, false, List, [], ◌∷◌, ◌++◌, length, map, replicate, nat_lt, sym, subst, arith, if◌then◌else◌}
use Rattle.std.specs.Prelude.{⊤}
use Rattle.std.specs.List.{All, Contains, fold, repeat, range_with_len, list_all}
use Rattle.cc_base.specs.declared.number.TypeId.{TypeId}
use Rattle.cc_base.specs.declared.number.NodeId.{NodeId}
use Rattle.c_types.specs.declared.shape.TypeShape.{TypeShape}
use Rattle.c_types.specs.declared.shape.TypeShape.TheVariants as shape
use Rattle.c_types.specs.Table.{Table, AreNodesOf, shape_at, members_at, parts_of_shape}
use Rattle.c_types.specs.Layouts.{rounded, size_of, align_of}
use Rattle.c_types.specs.Cells.{Cell, raw, pointer, mixed, incomplete, Relation, padded_to, longest, union_cells, cells_of_shape, cells_at, begins, holds_pointer}
use Rattle.c_types.specs.Sound.{IsWellFormed}
use Rattle.c_types.proofs.Lists.{contains_head, contains_tail}
use Rattle.c_types.proofs.Cells.{cells_are}
use Rattle.phys_types.specs.declared.spot.Spot.{Spot}
use Rattle.phys_types.specs.declared.spot.Item.{Item}
use Rattle.phys_types.specs.declared.spot.Item.TheVariants.{Pointer, Mixed, Incomplete}
use Rattle.phys_types.specs.Spots.{item_cells, item_size, cells_from}
use Rattle.fat_layouts.specs.Stops.{HasNode}

abbrev pub CellHas : ℕ → Cell → Type 0
CellHas count (pointer node to i) = node.0 < count
CellHas count raw = ⊤
CellHas count (mixed t i) = ⊤
CellHas count (incomplete t) = ⊤

abbrev pub EachHas : ℕ → List Cell → Type 0
EachHas count [] = ⊤
EachHas count (x ∷ xs) = CellHas count x × EachHas count xs

module _ (n : ℕ) where
  joined : (xs ys : List Cell) → EachHas n xs → EachHas n ys → EachHas n (xs ++ ys)
  joined [] ys h k = k
  joined (x ∷ xs) ys h k = (h.0, joined xs ys h.1 k)

  front : (xs ys : List Cell) → EachHas n (xs ++ ys) → EachHas n xs
  front [] ys h = tt
  front (x ∷ xs) ys h = (h.0, front xs ys h.1)

  back : (xs ys : List Cell) → EachHas n (xs ++ ys) → EachHas n ys
  back [] ys h = h
  back (x ∷ xs) ys h = back xs ys h.1

  raws : (k : ℕ) → EachHas n (replicate k raw)
  raws zero = tt
  raws (suc k) = (tt, raws k)

  repeated : (k : ℕ) (xs : List Cell) → EachHas n xs → EachHas n (repeat k xs)
  repeated zero xs h = tt
  repeated (suc k) xs h = joined xs (repeat k xs) h (repeated k xs h)

  -- the first of some copies
  pub first_has : (k : ℕ) (xs : List Cell) → 0 < k → EachHas n (repeat k xs) → EachHas n xs
  first_has zero xs l h = absurd (omega arith)
  first_has (suc k) xs l h = front xs (repeat k xs) h

  padded : (k : ℕ) (xs : List Cell) → EachHas n xs → EachHas n (padded_to k xs)
  padded k xs h = joined xs (replicate (k - length xs) raw) h (raws (k - length xs))

  pointers : (node : NodeId) (to : TypeId) (is : List ℕ) → node.0 < n → EachHas n (map (pointer node to) is)
  pointers node to [] h = tt
  pointers node to (i ∷ is) h = (h, pointers node to is h)

  mixes : (t : TypeId) (is : List ℕ) → EachHas n (map (mixed t) is)
  mixes t [] = tt
  mixes t (i ∷ is) = (tt, mixes t is)

  members : (align : TypeId → ℕ) (f : TypeId → List Cell) (a : List Cell) (ms : List TypeId) → EachHas n a → ((m : TypeId) → Contains ms m → EachHas n (f m))
      → EachHas n (fold (λ cells m. padded_to (rounded (length cells) (align m)) cells ++ f m) a ms)
  members align f a [] h k = h
  members align f a (m ∷ ms) h k =
      members align f (padded_to (rounded (length a) (align m)) a ++ f m) ms
      (joined (padded_to (rounded (length a) (align m)) a) (f m) (padded (rounded (length a) (align m)) a h) (k m (contains_head m ms)))
      (λ x c. k x (contains_tail m ms x c))

  the_longest : (f : TypeId → List Cell) (ms : List TypeId) → ((m : TypeId) → Contains ms m → EachHas n (f m)) → EachHas n (longest (map f ms))
  the_longest f [] k = tt
  the_longest f (m ∷ ms) k = by (nat_lt (length (f m)) (length (longest (map f ms)))) (the_longest f ms (λ x c. k x (contains_tail m ms x c)))
    where
      by : (b : Bool) → EachHas n (longest (map f ms)) → EachHas n (if b then longest (map f ms) else f m)
      by true h = h
      by false h = k m (contains_head m ms)

  unions : (E : Relation) (t : TypeId) (size : ℕ) (holds : Bool) (cs : List (List Cell)) → EachHas n (longest cs) → EachHas n (union_cells E t size holds cs)
  unions E t size false cs h = raws size
  unions E t size true cs h = by (list_all (begins E (longest cs)) cs)
    where
      by : (b : Bool) → EachHas n (if b then padded_to size (longest cs) else map (mixed t) (range_with_len 0 size))
      by true = padded size (longest cs) h
      by false = mixes t (range_with_len 0 size)

  shapes : (table : Table) (E : Relation) (f : TypeId → List Cell) (t : TypeId) (s : TypeShape) (ms : List TypeId) → AreNodesOf n s
      → ((m : TypeId) → Contains (parts_of_shape s ms) m → EachHas n (f m)) → EachHas n (cells_of_shape table E f t s ms)
  shapes table E f t shape.Void ms h k = tt
  shapes table E f t (shape.Integer bytes signed) ms h k = raws bytes
  shapes table E f t (shape.Pointer node to) ms h k = pointers node to (range_with_len 0 8) h
  shapes table E f t (shape.Array element count) ms h k = repeated count (f element) (k element (contains_head element []))
  shapes table E f t (shape.Function ps r) ms h k = tt
  shapes table E f t (shape.Struct tag) [] h k = (tt, tt)
  shapes table E f t (shape.Union tag) [] h k = (tt, tt)
  shapes table E f t (shape.Struct tag) (m ∷ ms) h k =
      padded (size_of table t) (fold (λ cells x. padded_to (rounded (length cells) (align_of table x)) cells ++ f x) [] (m ∷ ms)) (members (align_of table) f [] (m ∷ ms) tt k)
  shapes table E f t (shape.Union tag) (m ∷ ms) h k =
      unions E t (size_of table t) (holds_pointer table t) (map f (m ∷ ms)) (the_longest f (m ∷ ms) k)

  -- so do the items of spots
  pub items_have : (at : ℕ) (ss : List Spot) (end : ℕ) → EachHas n (cells_from at ss end) → All (λ s. HasNode n s.item) ss
  items_have at [] end h = λ i d l. absurd (omega (arith, l))
  items_have at (s ∷ ss) end h = of (items_have (s.start + item_size s.item) ss end (back (item_cells s.item) (cells_from (s.start + item_size s.item) ss end) rest))
    where
      rest : EachHas n (item_cells s.item ++ cells_from (s.start + item_size s.item) ss end)
      rest = back (replicate (s.start - at) raw) (item_cells s.item ++ cells_from (s.start + item_size s.item) ss end) h

      one : (x : Item) → EachHas n (item_cells x) → HasNode n x
      one (Pointer node to) k = k.0
      one (Mixed t size) k = tt
      one (Incomplete t) k = tt

      of : All (λ (r : Spot). HasNode n r.item) ss → All (λ (r : Spot). HasNode n r.item) (s ∷ ss)
      of k zero d l = one s.item (front (item_cells s.item) (cells_from (s.start + item_size s.item) ss end) rest)
      of k (suc i) d l = k i d (omega (arith, l))

module _ (table : Table) (w : IsWellFormed table) (n : ℕ) (shaped : (t : TypeId) → AreNodesOf n (shape_at table t)) where
  have_below : (E : Relation) (k : ℕ) (t : TypeId) → w.order.0 t < k → EachHas n (cells_at table E t)
  have_below E zero t b = absurd (omega arith)
  have_below E (suc k) t b =
      subst (EachHas n) (sym (cells_are table w.order.0 w.order.1 E t))
      (shapes n table E (cells_at table E) t (shape_at table t) (members_at table t) (shaped t)
      (λ m c. let f = w.order.1.falls t m c in have_below E k m (omega arith)))

  pub cells_have : (E : Relation) (t : TypeId) → EachHas n (cells_at table E t)
  cells_have E t = have_below E (suc (w.order.0 t)) t (omega arith)
