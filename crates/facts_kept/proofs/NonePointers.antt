-- A type that holds no pointer has no pointer's byte; and so blocks are filled by their type.
use Rattle.std.proofs.Common.{◌≡◌, ◌≢◌, ℕ, zero, suc, ◌+◌, ◌-◌, ◌%◌, ◌/◌, ◌*◌, ◌<◌, Bool, true, false, ◌||◌, List, [], ◌∷◌, ◌++◌, map, length, replicate, slice_get, Some, refl, ap, sym, subst, ◌∙◌, arith, if◌then◌else◌}
use Rattle.std.specs.List.{Contains, fold, repeat, list_any}
use Rattle.std.specs.Prelude.{slice_index_or, ⊤}
use Rattle.std.proofs.Math.Nat.{mod-add-div', add-mul-mod_self_right, mod-mod, mod-mod_of_dvd, dvd-mul_right}
use native.Mathlib.Nat.{mod-eq_of_lt}
use Rattle.std.proofs.lemmas.Option.{slice_get_within}
use Rattle.cc_base.specs.declared.number.TypeId.{TypeId}
use Rattle.cc_base.specs.declared.number.NodeId.{NodeId}
use Rattle.cc_base.specs.declared.kind.Kind.{Kind}
use Rattle.cc_base.specs.declared.kind.Kind.TheVariants.{Safe, Seq, Rtti, Wild}
use Rattle.c_types.specs.declared.shape.TypeShape.{TypeShape}
use Rattle.c_types.specs.declared.shape.TypeShape.TheVariants.{Void, Integer, Pointer, Array, Function, Struct, Union}
use Rattle.c_types.specs.Table.{Table, shape_at, members_at, parts_of_shape, IsComplete, is_complete_entry}
use Rattle.c_types.specs.Layouts.{rounded, size_of, align_of}
use Rattle.c_types.specs.Cells.{Cell, raw, pointer, mixed, incomplete, Relation, padded_to, member_cells, union_cells, cells_of_shape, cells_at, holds_pointer, holds_in_shape, AreOrdered}
use Rattle.c_types.specs.Equality.{cells_of, physically_equal, repeated_cell}
use Rattle.c_types.specs.Sound.{IsWellFormed}
use Rattle.c_types.proofs.Lists.{contains_head, contains_tail}
use Rattle.c_types.proofs.Cells.{cells_are}
use Rattle.src_mem.specs.Memory.{Planned, new_block, new_variable, block_size, block_cells}
use Rattle.src_mem.specs.State.{Setting}
use Rattle.c_types.proofs.OrderedPointers.{cells_ordered}
use Rattle.src_mem.specs.Outlines.{outline}
use Rattle.facts_kept.proofs.Flow.{rep-there}
use Rattle.facts_kept.proofs.Complete.{complete-some, cells-whole}
use Rattle.phys_types.proofs.Structs.{holds_is}
use Rattle.facts_kept.proofs.Blocks.{NoPointers, whole-ordered, block-get, block-length, IsFilled}

-- a byte that is neither a pointer's nor a mixed union's
abbrev IsBare : Cell → Type 0
IsBare raw = ⊤
IsBare (incomplete t) = ⊤
IsBare other = Prim.⊥

abbrev AreBare : List Cell → Type 0
AreBare cells = (i : ℕ) (c : Cell) → slice_get cells i ≡ Some c → IsBare c

bare-none : (cells : List Cell) → AreBare cells → NoPointers cells
bare-none cells h i m t j e = h i (pointer m t j) e

none-none : AreBare []
none-none i c e = absurd (cc (e))

raw-none : (k : ℕ) → AreBare (replicate k raw)
raw-none zero i c e = absurd (cc (e))
raw-none (suc k) zero c e = let f : raw ≡ c = cc (e) in subst IsBare f tt
raw-none (suc k) (suc i) c e = raw-none k i c e

append-none : (xs ys : List Cell) → AreBare xs → AreBare ys → AreBare (xs ++ ys)
append-none [] ys a b i c e = b i c e
append-none (x ∷ xs) ys a b zero c e = a zero c e
append-none (x ∷ xs) ys a b (suc i) c e = append-none xs ys (λ k d f. a (suc k) d f) b i c e

padded-none : (n : ℕ) (cells : List Cell) → AreBare cells → AreBare (padded_to n cells)
padded-none n cells h = append-none cells (replicate (n - length cells) raw) h (raw-none (n - length cells))

repeat-none : (k : ℕ) (cells : List Cell) → AreBare cells → AreBare (repeat k cells)
repeat-none zero cells h = none-none
repeat-none (suc k) cells h = append-none cells (repeat k cells) h (repeat-none k cells h)

members-none : (align : TypeId → ℕ) (f : TypeId → List Cell) (a : List Cell) (ms : List TypeId) → AreBare a
    → ((m : TypeId) → Contains ms m → AreBare (f m))
    → AreBare (fold (λ cells m. padded_to (rounded (length cells) (align m)) cells ++ f m) a ms)
members-none align f a [] h each = h
members-none align f a (m ∷ ms) h each =
    members-none align f (padded_to (rounded (length a) (align m)) a ++ f m) ms
    (append-none (padded_to (rounded (length a) (align m)) a) (f m) (padded-none (rounded (length a) (align m)) a h) (each m (contains_head m ms)))
    (λ x k. each x (contains_tail m ms x k))

incomplete-none : (u : TypeId) → AreBare (incomplete u ∷ [])
incomplete-none u zero c e = let f : incomplete u ≡ c = cc (e) in subst IsBare f tt
incomplete-none u (suc i) c e = absurd (cc (e))

any-at : (f : TypeId → Bool) (ms : List TypeId) (k : ℕ) (d : TypeId) → k < length ms → list_any f ms ≡ false → f (slice_index_or ms k d) ≡ false
any-at f [] k d l h = absurd (omega (arith, l))
any-at f (x ∷ ms) zero d l h = by (f x) refl
  where
    by : (b : Bool) → f x ≡ b → f x ≡ false
    by false e = e
    by true e = absurd (let g : list_any f (x ∷ ms) ≡ true = ap (λ b. b || list_any f ms) e in cc (g, h))
any-at f (x ∷ ms) (suc k) d l h = any-at f ms k d (omega (arith, l)) (by (f x) h)
  where
    by : (b : Bool) → (b || list_any f ms) ≡ false → list_any f ms ≡ false
    by false e = e
    by true e = absurd (cc (e))

pub any-none : (f : TypeId → Bool) (ms : List TypeId) → list_any f ms ≡ false → (m : TypeId) → Contains ms m → f m ≡ false
any-none f ms h m c = sym (ap f c.2) ∙ any-at f ms c.0 m c.1 h

shape-none : (table : Table) (E : Relation) (f : TypeId → List Cell) (t : TypeId) (s : TypeShape) (ms : List TypeId) → holds_pointer table t ≡ false
    → holds_in_shape (holds_pointer table) s ms ≡ false
    → ((m : TypeId) → Contains (parts_of_shape s ms) m → holds_pointer table m ≡ false → AreBare (f m))
    → AreBare (cells_of_shape table E f t s ms)
shape-none table E f t Void ms n h each = none-none
shape-none table E f t (Integer bytes signed) ms n h each = raw-none bytes
shape-none table E f t (Pointer node to) ms n h each = absurd (cc (h))
shape-none table E f t (Array element count) ms n h each = repeat-none count (f element) (each element (contains_head element []) h)
shape-none table E f t (Function ps r) ms n h each = none-none
shape-none table E f t (Struct tag) [] n h each = incomplete-none t
shape-none table E f t (Union tag) [] n h each = incomplete-none t
shape-none table E f t (Struct tag) (m ∷ ms) n h each =
    padded-none (size_of table t) (member_cells (align_of table) f (m ∷ ms))
    (members-none (align_of table) f [] (m ∷ ms) none-none (λ x c. each x c (any-none (holds_pointer table) (m ∷ ms) h x c)))
shape-none table E f t (Union tag) (m ∷ ms) n h each =
    subst (λ b. AreBare (union_cells E t (size_of table t) b (map f (m ∷ ms)))) (sym n) (raw-none (size_of table t))

module _ (table : Table) (w : IsWellFormed table) where
  none-below : (n : ℕ) (t : TypeId) → w.order.0 t < n → holds_pointer table t ≡ false → AreBare (cells_of table t)
  none-below zero t b h = absurd (omega (arith, b))
  none-below (suc n) t b h =
      subst AreBare (sym (cells_are table w.order.0 w.order.1 (physically_equal table) t))
      (shape-none table (physically_equal table) (cells_at table (physically_equal table)) t (shape_at table t) (members_at table t) h
      (sym (holds_is table w t) ∙ h)
      (λ m k g. let f = w.order.1.falls t m k in none-below n m (omega (arith, f, b)) g))

  -- what holds no pointer has no pointer's byte
  pub no-pointers : (t : TypeId) → holds_pointer table t ≡ false → NoPointers (cells_of table t)
  no-pointers t h = bare-none (cells_of table t) (none-below (suc (w.order.0 t)) t (omega arith) h)

  -- and if it has a size, consists of integers' bytes
  all-raw : (t : TypeId) → IsComplete table t → holds_pointer table t ≡ false → (i : ℕ) → repeated_cell (cells_of table t) i ≡ raw
  all-raw t complete h i = of (repeated_cell (cells_of table t) i) (rep-there (cells_of table t) i (complete-some table w t complete).0)
    where
      bare : AreBare (cells_of table t)
      bare = none-below (suc (w.order.0 t)) t (omega arith) h

      of : (c : Cell) → slice_get (cells_of table t) (i % length (cells_of table t)) ≡ Some c → c ≡ raw
      of raw e = refl
      of (pointer n u j) e = absurd (bare (i % length (cells_of table t)) (pointer n u j) e)
      of (mixed u j) e = absurd (bare (i % length (cells_of table t)) (mixed u j) e)
      of (incomplete u) e = absurd (cells-whole table w t complete (i % length (cells_of table t)) u e)

none-ordered : (cells : List Cell) → NoPointers cells → AreOrdered cells
none-ordered cells none =
    record {
      least = λ i j n t e. absurd (none i n t j e);
      back = λ i j n t e. absurd (none (suc i) n t (suc j) e);
      on = λ i j n t e h. absurd
          (none i n t j e);
    }

-- a block for a pointer that isn't WILD is filled by its type, and its pointers are whole
module _ (w : Setting) (sound : IsWellFormed w.table) where
  -- what holds pointers is there as whole elements
  block-whole : (t : TypeId) (n : ℕ) → holds_pointer w.table t ≡ true → (k : Kind) → k ≢ Wild → block_size w.table k t n % length (cells_of w.table t) ≡ 0
  block-whole t n e k v = ap (λ z. z % length (cells_of w.table t)) (size k v ∙ ap (λ z. n - n % z) (sym length-size)) ∙ rest n (length (cells_of w.table t))
    where
      size : (k : Kind) → k ≢ Wild → block_size w.table k t n ≡ n - n % size_of w.table t
      size Safe v = ap (λ b. if b then n - n % size_of w.table t else n) e
      size Seq v = ap (λ b. if b then n - n % size_of w.table t else n) e
      size Rtti v = ap (λ b. if b then n - n % size_of w.table t else n) e
      size Wild v = absurd (v refl)

      -- what holds a pointer is complete: it has as many cells as bytes
      length-size : length (cells_of w.table t) ≡ size_of w.table t
      length-size = (complete-some w.table sound t (complete-holder (shape_at w.table t) (members_at w.table t) (sym (holds_is w.table sound t) ∙ e))).1
        where
          complete-holder : (s : TypeShape) (ms : List TypeId) → holds_in_shape (holds_pointer w.table) s ms ≡ true → is_complete_entry s ms ≡ true
          complete-holder Void ms h = absurd (cc (h))
          complete-holder (Integer b s) ms h = absurd (cc (h))
          complete-holder (Pointer a b) ms h = refl
          complete-holder (Array a b) ms h = refl
          complete-holder (Function ps r) ms h = absurd (cc (h))
          complete-holder (Struct tag) [] h = absurd (cc (h))
          complete-holder (Union tag) [] h = absurd (cc (h))
          complete-holder (Struct tag) (x ∷ xs) h = refl
          complete-holder (Union tag) (x ∷ xs) h = refl

      rest : (n m : ℕ) → (n - n % m) % m ≡ 0
      rest n m = let x = mod-add-div' n m in let y : n - n % m ≡ 0 + n / m * m = omega (arith, x) in
          ap (λ z. z % m) y ∙ add-mul-mod_self_right 0 (n / m) m ∙ zero-mod m
        where
          zero-mod : (n : ℕ) → 0 % n ≡ 0
          zero-mod n = grind arith

  block-ordered : (node : NodeId) (t : TypeId) (n : ℕ) → w.kind node ≢ Wild
      → AreOrdered (block_cells (cells_of w.table t) (block_size w.table (w.kind node) t n))
  block-ordered node t n u = by (cells_of w.table t) refl
    where
      one : (b : Bool) → holds_pointer w.table t ≡ b → (k : Kind) → k ≢ Wild → (c : Cell) (cs : List Cell) → cells_of w.table t ≡ c ∷ cs → (m : ℕ)
          → m ≡ block_size w.table k t n → AreOrdered (block_cells (cells_of w.table t) m)
      one false e k v c cs f m g = none-ordered (block_cells (cells_of w.table t) m) (λ i a b j h.
          let some : 0 < length (cells_of w.table t) = (let z : length (cells_of w.table t) ≡ suc (length cs) = ap length f in omega (arith, z)) in
          let l = slice_get_within (block_cells (cells_of w.table t) m) i (pointer a b j) h in
          let x = block-get (cells_of w.table t) m i some (let y = block-length (cells_of w.table t) m in omega (arith, l, y)) in
          no-pointers w.table sound t e (i % length (cells_of w.table t)) a b j (rep-there (cells_of w.table t) i some ∙ sym x ∙ h))
      one true e k v c cs f m g =
          whole-ordered (cells_of w.table t) (block_cells (cells_of w.table t) m) m some
          (record { len = block-length (cells_of w.table t) m; get = λ i h. block-get (cells_of w.table t) m i some h })
          (cells_ordered w.table sound t) (ap (λ z. z % length (cells_of w.table t)) g ∙ block-whole t n e k v)
        where
          some : 0 < length (cells_of w.table t)
          some = let z : length (cells_of w.table t) ≡ suc (length cs) = ap length f in omega (arith, z)

      by : (cells : List Cell) → cells_of w.table t ≡ cells → AreOrdered (block_cells (cells_of w.table t) (block_size w.table (w.kind node) t n))
      by [] e =
          subst (λ cs. AreOrdered (block_cells cs (block_size w.table (w.kind node) t n))) (sym e)
          (none-ordered (replicate (block_size w.table (w.kind node) t n) raw)
          (bare-none (replicate (block_size w.table (w.kind node) t n) raw) (raw-none (block_size w.table (w.kind node) t n))))
      by (c ∷ cs) e = one (holds_pointer w.table t) refl (w.kind node) u c cs e (block_size w.table (w.kind node) t n) refl

  pub block-filled : (node : NodeId) (t : TypeId) (n : ℕ) → w.kind node ≢ Wild
      → IsFilled w sound t (outline (new_block w.table node t (block_size w.table (w.kind node) t n)))
  block-filled node t n u = record {
    untagged = u;
    ordered = block-ordered node t n u;
    celled = block-length (cells_of w.table t) (block_size w.table (w.kind node) t n);
    filled = λ some i h. block-get (cells_of w.table t) (block_size w.table (w.kind node) t n) i some h;
    again = λ c h i. repeats c i (holds_pointer w.table t) refl;
  }
    where
      product : (m k : ℕ) → m % k ≡ 0 → m ≡ k * (m / k)
      product m k h = let x = mod-add-div' m k in let y : m / k * k ≡ k * (m / k) = turned (m / k) k in omega (arith, x, y, h)
        where
          turned : (a b : ℕ) → a * b ≡ b * a
          turned a b = grind arith

      repeats : IsComplete w.table t → (i : ℕ) → (b : Bool) → holds_pointer w.table t ≡ b
          → repeated_cell (cells_of w.table t) (i % block_size w.table (w.kind node) t n) ≡ repeated_cell (cells_of w.table t) i
      repeats c i false e =
          all-raw w.table sound t c e (i % block_size w.table (w.kind node) t n) ∙ sym (all-raw w.table sound t c e i)
      repeats c i true e =
          let m = block_size w.table (w.kind node) t n in let k = length (cells_of w.table t) in
          ap (λ z. slice_index_or (cells_of w.table t) z raw)
          (ap (λ z. i % z % length (cells_of w.table t)) (product m k (block-whole t n e (w.kind node) u))
          ∙ mod-mod_of_dvd k i (dvd-mul_right k (m / k)))

  -- and a variable by its own
  pub variable-filled : (depth : ℕ) (v : Planned) → IsComplete w.table v.type → w.kind v.node ≢ Wild
      → IsFilled w sound v.type (outline (new_variable w.table depth v))
  variable-filled depth v c u = record {
    untagged = u;
    ordered = cells_ordered w.table sound v.type;
    celled = n;
    filled =
        λ some i h. ap (slice_get (cells_of w.table v.type)) (sym (mod-eq_of_lt (subst (λ k. i < k) (sym n) h))) ∙ rep-there
        (cells_of w.table v.type) i some;
    again = λ c h i. ap (λ k. repeated_cell (cells_of w.table v.type) (i % k)) (sym n)
        ∙ ap (λ k. slice_index_or (cells_of w.table v.type) k raw) (mod-mod i (length (cells_of w.table v.type)));
  }
    where
      n : length (cells_of w.table v.type) ≡ size_of w.table v.type
      n = (complete-some w.table sound v.type c).1
