-- A complete type that holds no pointer is raw.
use Rattle.std.proofs.Common.{◌≡◌, ℕ, zero, suc, ◌-◌, ◌<◌, ◌≤◌, true, false, ◌&&◌, List, [], ◌∷◌, ◌++◌, map, length, replicate, slice_get, Some, refl, sym, subst, ◌∙◌, arith}
use Rattle.std.specs.List.{Contains, fold, repeat}
use Rattle.std.proofs.lemmas.List.Elements.{All-contains}
use Rattle.cc_base.specs.declared.number.TypeId.{TypeId}
use Rattle.c_types.specs.declared.shape.TypeShape.{TypeShape}
use Rattle.c_types.specs.declared.shape.TypeShape.TheVariants.{Void, Integer, Pointer, Array, Function, Struct, Union}
use Rattle.c_types.specs.Table.{Table, IsComplete, shape_at, members_at, parts_of_shape, is_complete_entry}
use Rattle.c_types.specs.Layouts.{rounded, size_of, align_of}
use Rattle.c_types.specs.Cells.{Cell, raw, Relation, alike, begins, padded_to, member_cells, union_cells, cells_of_shape, cells_at, holds_pointer, holds_in_shape}
use Rattle.c_types.specs.Equality.{cells_of, physically_equal}
use Rattle.c_types.specs.Sound.{IsWellFormed}
use Rattle.c_types.proofs.Lists.{contains_head, contains_tail}
use Rattle.c_types.proofs.Cells.{cells_are}
use Rattle.constraint_laws.proofs.NonePointers.{holds_is, any-none}

-- all raw
abbrev pub AllRaw : List Cell → Type 0
AllRaw cells = (i : ℕ) (c : Cell) → slice_get cells i ≡ Some c → c ≡ raw

none-raw : AllRaw []
none-raw i c e = absurd (cc (e))

raw-raw : (k : ℕ) → AllRaw (replicate k raw)
raw-raw zero i c e = absurd (cc (e))
raw-raw (suc k) zero c e = cc (e)
raw-raw (suc k) (suc i) c e = raw-raw k i c e

append-raw : (xs ys : List Cell) → AllRaw xs → AllRaw ys → AllRaw (xs ++ ys)
append-raw [] ys a b i c e = b i c e
append-raw (x ∷ xs) ys a b zero c e = a zero c e
append-raw (x ∷ xs) ys a b (suc i) c e = append-raw xs ys (λ k d f. a (suc k) d f) b i c e

repeat-raw : (k : ℕ) (cells : List Cell) → AllRaw cells → AllRaw (repeat k cells)
repeat-raw zero cells h = none-raw
repeat-raw (suc k) cells h = append-raw cells (repeat k cells) h (repeat-raw k cells h)

padded-raw : (n : ℕ) (cells : List Cell) → AllRaw cells → AllRaw (padded_to n cells)
padded-raw n cells h = append-raw cells (replicate (n - length cells) raw) h (raw-raw (n - length cells))

members-raw : (align : TypeId → ℕ) (f : TypeId → List Cell) (a : List Cell) (ms : List TypeId) → AllRaw a → ((m : TypeId) → Contains ms m → AllRaw (f m))
    → AllRaw (fold (λ cells m. padded_to (rounded (length cells) (align m)) cells ++ f m) a ms)
members-raw align f a [] h each = h
members-raw align f a (m ∷ ms) h each =
    members-raw align f (padded_to (rounded (length a) (align m)) a ++ f m) ms
    (append-raw (padded_to (rounded (length a) (align m)) a) (f m) (padded-raw (rounded (length a) (align m)) a h) (each m (contains_head m ms)))
    (λ x k. each x (contains_tail m ms x k))

shape-raw : (table : Table) (E : Relation) (f : TypeId → List Cell) (t : TypeId) (s : TypeShape) (ms : List TypeId) → holds_pointer table t ≡ false → holds_in_shape (holds_pointer table) s ms ≡ false → is_complete_entry s ms ≡ true
    → ((m : TypeId) → Contains (parts_of_shape s ms) m → holds_pointer table m ≡ false → AllRaw (f m)) → AllRaw (cells_of_shape table E f t s ms)
shape-raw table E f t Void ms n h c each = none-raw
shape-raw table E f t (Integer bytes signed) ms n h c each = raw-raw bytes
shape-raw table E f t (Pointer node to) ms n h c each = absurd (cc (h))
shape-raw table E f t (Array element count) ms n h c each = repeat-raw count (f element) (each element (contains_head element []) h)
shape-raw table E f t (Function ps r) ms n h c each = none-raw
shape-raw table E f t (Struct tag) [] n h c each = absurd (cc (c))
shape-raw table E f t (Union tag) [] n h c each = absurd (cc (c))
shape-raw table E f t (Struct tag) (m ∷ ms) n h c each =
    padded-raw (size_of table t) (member_cells (align_of table) f (m ∷ ms)) (members-raw (align_of table) f [] (m ∷ ms) none-raw (λ x k. each x k (any-none (holds_pointer table) (m ∷ ms) h x k)))
shape-raw table E f t (Union tag) (m ∷ ms) n h c each =
    subst (λ b. AllRaw (union_cells E t (size_of table t) b (map f (m ∷ ms)))) (sym n) (raw-raw (size_of table t))

module _ (table : Table) (w : IsWellFormed table) where
  raw-below : (n : ℕ) (t : TypeId) → w.order.0 t < n → IsComplete table t → holds_pointer table t ≡ false → AllRaw (cells_of table t)
  raw-below zero t b c h = absurd (omega (arith, b))
  raw-below (suc n) t b c h =
      subst AllRaw (sym (cells_are table w.order.0 w.order.1 (physically_equal table) t))
      (shape-raw table (physically_equal table) (cells_at table (physically_equal table)) t (shape_at table t) (members_at table t) h (sym (holds_is table w t) ∙ h) c
      (λ m k g. let f = w.order.1.falls t m k in raw-below n m (omega (arith, f, b)) (All-contains (IsComplete table) (parts_of_shape (shape_at table t) (members_at table t)) m (w.each t).parts k) g))

  pub all-raw : (t : TypeId) → IsComplete table t → holds_pointer table t ≡ false → AllRaw (cells_of table t)
  all-raw t c h = raw-below (suc (w.order.0 t)) t (omega arith) c h

-- what is raw begins with what is raw and no longer
pub raw-begins : (E : Relation) (xs ys : List Cell) → AllRaw xs → AllRaw ys → length ys ≤ length xs → begins E xs ys ≡ true
raw-begins E [] [] a b l = refl
raw-begins E (x ∷ xs) [] a b l = refl
raw-begins E [] (y ∷ ys) a b l = absurd (omega (arith, l))
raw-begins E (x ∷ xs) (y ∷ ys) a b l =
    λ i. alike E (a 0 x refl i) (b 0 y refl i) && raw-begins E xs ys (λ j c e. a (suc j) c e) (λ j c e. b (suc j) c e) (omega (arith, l)) i
