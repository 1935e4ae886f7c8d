-- Each pointer that a type holds stands in the table; each mixed union is a union that is complete.
use Rattle.std.proofs.Common.{◌≡◌, ℕ, zero, suc, ◌-◌, ◌≤◌, Bool, true, false, List, [], ◌∷◌, ◌++◌, length, get_or, map, replicate, Some, nat_lt, if◌then◌else◌, refl, ap, sym, subst, ◌∙◌, arith}
use Rattle.std.specs.List.{fold, repeat, range_with_len, list_all}
use Rattle.std.proofs.lemmas.Bool.Decides.{nat_tests}
use Rattle.std.proofs.lemmas.Option.{get_or_from_slice_get}
use Rattle.std.proofs.Math.ListN.{get_or-eq_default}
use Rattle.cc_base.specs.declared.number.TypeId.{TypeId}
use Rattle.cc_base.specs.declared.number.NodeId.{NodeId}
use Rattle.c_types.specs.declared.shape.TypeShape.{TypeShape}
use Rattle.c_types.specs.declared.shape.TypeShape.TheVariants.{Void, Integer, Pointer, Array, Function, Struct, Union}
use Rattle.c_types.specs.Table.{Table, Entry, HasShape, IsType, IsComplete, shape_at, members_at, entry_at, void_entry, is_complete_entry, descend, is_function}
use Rattle.c_types.specs.Layouts.{rounded, size_of, align_of}
use Rattle.c_types.specs.Cells.{Cell, raw, pointer, mixed, incomplete, Relation, begins, padded_to, member_cells, longest, union_cells, cells_of_shape, cells_step, cells_at, holds_pointer}
use Rattle.c_types.specs.Equality.{physically_equal, cells_of}
use Rattle.c_types.specs.Flows.{HeldPointer, pointer_at, pointer_of_shape}
use Rattle.c_types.specs.Contents.{HoldsMixed}
use Rattle.c_types.specs.Table.{IsUnion, is_union_shape}
use Rattle.phys_types.proofs.Classes.{function_tag}
use Rattle.phys_types.proofs.Reached.{cell_at, at_cell, at_slot}

-- what a union's shape is
pub union_tag : (s : TypeShape) → is_union_shape s ≡ true → (tag : ℕ) × (s ≡ Union tag)
union_tag (Union tag) h = (tag, refl)
union_tag Void h = absurd (cc (h))
union_tag (Integer b s) h = absurd (cc (h))
union_tag (Pointer n t) h = absurd (cc (h))
union_tag (Array e n) h = absurd (cc (h))
union_tag (Function ps r) h = absurd (cc (h))
union_tag (Struct t) h = absurd (cc (h))

module _ (table : Table) where
  -- the pointer type of this node and pointee stands in the table
  abbrev pub HasPointer : NodeId → TypeId → Type 0
  HasPointer n u = (x : TypeId) × HasShape table x (Pointer n u)

  abbrev Good : Cell → Type 0
  Good (pointer n u i) = HasPointer n u
  Good (mixed v i) = IsUnion table v × IsComplete table v
  Good raw = Unit {0}
  Good (incomplete t) = Unit {0}

  abbrev EachGood : List Cell → Type 0
  EachGood [] = Unit {0}
  EachGood (x ∷ xs) = Good x × EachGood xs

  good-append : (xs ys : List Cell) → EachGood xs → EachGood ys → EachGood (xs ++ ys)
  good-append [] ys h k = k
  good-append (x ∷ xs) ys h k = (h.0, good-append xs ys h.1 k)

  good-raw : (n : ℕ) → EachGood (replicate n raw)
  good-raw zero = tt
  good-raw (suc n) = (tt, good-raw n)

  good-repeat : (n : ℕ) (xs : List Cell) → EachGood xs → EachGood (repeat n xs)
  good-repeat zero xs h = tt
  good-repeat (suc n) xs h = good-append xs (repeat n xs) h (good-repeat n xs h)

  good-padded : (n : ℕ) (xs : List Cell) → EachGood xs → EachGood (padded_to n xs)
  good-padded n xs h = good-append xs (replicate (n - length xs) raw) h (good-raw (n - length xs))

  good-pointer : (node : NodeId) (to : TypeId) (is : List ℕ) → HasPointer node to → EachGood (map (pointer node to) is)
  good-pointer node to [] h = tt
  good-pointer node to (i ∷ is) h = (h, good-pointer node to is h)

  good-mixed : (t : TypeId) (is : List ℕ) → IsUnion table t × IsComplete table t → EachGood (map (mixed t) is)
  good-mixed t [] h = tt
  good-mixed t (i ∷ is) h = (h, good-mixed t is h)

  good-members : (align : TypeId → ℕ) (f : TypeId → List Cell) (a : List Cell) (ms : List TypeId) → EachGood a → ((m : TypeId) → EachGood (f m))
      → EachGood (fold (λ cells m. padded_to (rounded (length cells) (align m)) cells ++ f m) a ms)
  good-members align f a [] h k = h
  good-members align f a (m ∷ ms) h k =
      good-members align f (padded_to (rounded (length a) (align m)) a ++ f m) ms
      (good-append (padded_to (rounded (length a) (align m)) a) (f m) (good-padded (rounded (length a) (align m)) a h) (k m)) k

  good-longest : (f : TypeId → List Cell) (ms : List TypeId) → ((m : TypeId) → EachGood (f m)) → EachGood (longest (map f ms))
  good-longest f [] k = tt
  good-longest f (m ∷ ms) k = by (nat_lt (length (f m)) (length (longest (map f ms)))) (good-longest f ms k)
    where
      by : (b : Bool) → EachGood (longest (map f ms)) → EachGood (if b then longest (map f ms) else f m)
      by true h = h
      by false h = k m

  good-union : (E : Relation) (t : TypeId) (size : ℕ) (holds : Bool) (f : TypeId → List Cell) (ms : List TypeId) → ((m : TypeId) → EachGood (f m)) → IsUnion table t × IsComplete table t
      → EachGood (union_cells E t size holds (map f ms))
  good-union E t size false f ms k u = good-raw size
  good-union E t size true f ms k u = by (list_all (begins E (longest (map f ms))) (map f ms))
    where
      by : (b : Bool) → EachGood (if b then padded_to size (longest (map f ms)) else map (mixed t) (range_with_len 0 size))
      by true = good-padded size (longest (map f ms)) (good-longest f ms k)
      by false = good-mixed t (range_with_len 0 size) u

  void_outside : (t : TypeId) → nat_lt t.0 (length table) ≡ false → entry_at table t ≡ void_entry
  void_outside t e = get_or-eq_default table void_entry (let l : length table ≤ t.0 = grind (arith, nat_tests) in l)

  -- what has a shape other than void is in the table
  pub in-table : (t : TypeId) → (shape_at table t ≡ Void → ⊥) → IsType table t
  in-table t h = by (nat_lt t.0 (length table)) refl
    where
      by : (b : Bool) → nat_lt t.0 (length table) ≡ b → IsType table t
      by true e = grind (arith, nat_tests)
      by false e = absurd (h (ap (λ (x : Entry). x.shape) (void_outside t e)))

  pointer-type : (t : TypeId) (n : NodeId) (u : TypeId) → shape_at table t ≡ Pointer n u → HasPointer n u
  pointer-type t n u e = (t, (in-table t (λ v. absurd (cc (e, v))), e))

  good-shape : (E : Relation) (f : TypeId → List Cell) (t : TypeId) (s : TypeShape) (ms : List TypeId) → shape_at table t ≡ s → members_at table t ≡ ms
      → ((m : TypeId) → EachGood (f m)) → EachGood (cells_of_shape table E f t s ms)
  good-shape E f t Void ms e g h = tt
  good-shape E f t (Integer bytes signed) ms e g h = good-raw bytes
  good-shape E f t (Pointer node to) ms e g h = good-pointer node to (range_with_len 0 8) (pointer-type t node to e)
  good-shape E f t (Array element count) ms e g h = good-repeat count (f element) (h element)
  good-shape E f t (Function ps r) ms e g h = tt
  good-shape E f t (Struct tag) [] e g h = (tt, tt)
  good-shape E f t (Union tag) [] e g h = (tt, tt)
  good-shape E f t (Struct tag) (m ∷ ms) e g h = good-padded (size_of table t) (member_cells (align_of table) f (m ∷ ms)) (good-members (align_of table) f [] (m ∷ ms) tt h)
  good-shape E f t (Union tag) (m ∷ ms) e g h =
      good-union E t (size_of table t) (holds_pointer table t) f (m ∷ ms) h (ap is_union_shape e, (λ i. is_complete_entry (e i) (g i)))

  good-descent : (E : Relation) (n : ℕ) (t : TypeId) → EachGood (descend (cells_step table E) [] n t)
  good-descent E zero t = tt
  good-descent E (suc n) t = good-shape E (descend (cells_step table E) [] n) t (shape_at table t) (members_at table t) refl refl (good-descent E n)

  good-cells : (t : TypeId) → EachGood (cells_of table t)
  unfolding cells_at
  good-cells t = good-descent (physically_equal table) (suc (length table)) t

  good-at : (xs : List Cell) (i : ℕ) → EachGood xs → Good (get_or xs i raw)
  good-at [] i h = tt
  good-at (x ∷ xs) zero h = h.0
  good-at (x ∷ xs) (suc i) h = good-at xs i h.1

  pub mixed-is-union : (t v : TypeId) → HoldsMixed table t v → IsUnion table v × IsComplete table v
  mixed-is-union t v h = subst Good (get_or_from_slice_get (cells_of table t) h.0 (mixed v h.1) raw h.2) (good-at (cells_of table t) h.0 (good-cells t))

  shape-of : (x : TypeId) (s : TypeShape) (p : HeldPointer) → shape_at table x ≡ s → pointer_of_shape s ≡ Some p → HasPointer p.node p.to
  shape-of x (Pointer n u) p e h = let z : record { node = n; to = u } ≡ p = cc (h) in subst (λ (q : HeldPointer). HasPointer q.node q.to) z (pointer-type x n u e)
  shape-of x Void p e h = absurd (cc (h))
  shape-of x (Integer b s) p e h = absurd (cc (h))
  shape-of x (Array b s) p e h = absurd (cc (h))
  shape-of x (Function b s) p e h = absurd (cc (h))
  shape-of x (Struct b) p e h = absurd (cc (h))
  shape-of x (Union b) p e h = absurd (cc (h))

  -- a pointer that stands in a type has its pointer type in the table
  pub held-in-table : (t : TypeId) (i : ℕ) (p : HeldPointer) → pointer_at table t i ≡ Some p → HasPointer p.node p.to
  held-in-table t i p h = by (is_function table t) refl
    where
      by : (b : Bool) → is_function table t ≡ b → HasPointer p.node p.to
      by true f =
          let g = function_tag table (shape_at table t) f in
          let s = at_slot table t g.0 g.1 i p g.2 h in shape-of s.0 (shape_at table s.0) p refl s.2
      by false f =
          let c = cell_at (cells_of table t) i p (sym (at_cell table t i f) ∙ h) in subst Good c.1 (good-at (cells_of table t) i (good-cells t))
