-- A copy moves no more pointers than are counted of its type.
use Rattle.std.specs.List.{Contains, fold, repeat, range_with_len, list_all, filter}
use Rattle.std.proofs.Common.{◌≡◌, ℕ, zero, suc, ◌+◌, ◌-◌, ◌*◌, ◌<◌, ◌≤◌, Bool, true, false, List, [], ◌∷◌, ◌++◌, length, map, replicate, slice_get, Option, Some, None, is_some, nat_lt, refl, ap, sym, ◌∙◌, arith, if◌then◌else◌, cond}
use Rattle.std.proofs.lemmas.List.Elements.{All-contains}
use Rattle.std.proofs.lemmas.Bool.Decides.{nat_tests}
use Rattle.cc_base.specs.declared.number.TypeId.{TypeId}
use Rattle.cc_base.specs.declared.number.NodeId.{NodeId}
use Rattle.c_types.specs.declared.shape.TypeShape.{TypeShape}
use Rattle.c_types.specs.declared.shape.TypeShape.TheVariants.{Void, Integer, Pointer, Array, Function, Struct, Union}
use Rattle.c_types.specs.Table.{Table, IsComplete, shape_at, members_at, parts_of_shape, parts_at}
use Rattle.c_types.specs.Layouts.{rounded, size_of, align_of}
use Rattle.c_types.specs.Cells.{Cell, raw, pointer, mixed, incomplete, Relation, pointer_cells, padded_to, member_cells, longest, union_cells, cells_of_shape, cells_at, begins, holds_pointer}
use Rattle.c_types.specs.Equality.{cells_of, physically_equal}
use Rattle.c_types.specs.Flows.{pointer_in_cell, and_then, pointer_at, pointer_in}
use Rattle.c_types.specs.PointerCounts.{largest_member, of_some, pointers_of_shape}
use Rattle.c_types.specs.Sound.{IsWellFormed}
use Rattle.c_types.proofs.Lists.{contains_head, contains_tail}
use Rattle.c_types.proofs.Cells.{cells_are, length_cells}

abbrev first_of : Cell → ℕ
first_of (pointer n u zero) = 1
first_of (pointer n u (suc i)) = 0
first_of raw = 0
first_of (mixed u i) = 0
first_of (incomplete t) = 0

abbrev pointers : List Cell → ℕ
pointers [] = 0
pointers (c ∷ cs) = first_of c + pointers cs

raw_none : (k : ℕ) → pointers (replicate k raw) ≡ 0
raw_none zero = refl
raw_none (suc k) = let r = raw_none k in omega (arith, r)

mixed_none : (t : TypeId) (a k : ℕ) → pointers (map (mixed t) (range_with_len a k)) ≡ 0
mixed_none t a zero = refl
mixed_none t a (suc k) = let r = mixed_none t (a + 1) k in omega (arith, r)

pointer_one : (node : NodeId) (to : TypeId) → pointers (pointer_cells node to) ≡ 1
pointer_one node to = refl

append_sum : (xs ys : List Cell) → pointers (xs ++ ys) ≡ pointers xs + pointers ys
append_sum [] ys = omega arith
append_sum (x ∷ xs) ys = let r = append_sum xs ys in omega (arith, r)

padded_same : (n : ℕ) (cells : List Cell) → pointers (padded_to n cells) ≡ pointers cells
padded_same n cells = let a = append_sum cells (replicate (n - length cells) raw) in let b = raw_none (n - length cells) in omega (arith, a, b)

mul_step : (n m : ℕ) → suc n * m ≡ m + n * m
mul_step n m = grind (arith)

repeat_most : (k x : ℕ) (cells : List Cell) → pointers cells ≤ x → pointers (repeat k cells) ≤ k * x
repeat_most zero x cells h = omega arith
repeat_most (suc k) x cells h =
    let a = append_sum cells (repeat k cells) in let r = repeat_most k x cells h in let m = mul_step k x in omega (arith, a, r, m, h)

module _ (T : Table) (f : TypeId → List Cell) (g size : TypeId → ℕ) where
  abbrev Fits : TypeId → Type 0
  Fits m = (pointers (f m) ≤ g m) × (length (f m) ≡ size m)

  members_most : (align : TypeId → ℕ) (a : List Cell) (b : ℕ) (ms : List TypeId) → pointers a ≤ b → ((m : TypeId) → Contains ms m → Fits m)
      → pointers (fold (λ cells m. padded_to (rounded (length cells) (align m)) cells ++ f m) a ms) ≤ fold (λ (n : ℕ) (m : TypeId). n + g m) b ms
  members_most align a b [] h each = h
  members_most align a b (m ∷ ms) h each =
      let p = padded_same (rounded (length a) (align m)) a in
      let q = append_sum (padded_to (rounded (length a) (align m)) a) (f m) in
      let own = (each m (contains_head m ms)).0 in
      members_most align (padded_to (rounded (length a) (align m)) a ++ f m) (b + g m) ms (omega (arith, p, q, own, h))
      (λ x c. each x (contains_tail m ms x c))

  abbrev of_cells : Option TypeId → List Cell
  of_cells None = []
  of_cells (Some m) = f m

  abbrev FitsSome : Option TypeId → Type 0
  FitsSome None = Unit {0}
  FitsSome (Some m) = Fits m

  either_fits : (b : Bool) (m n : TypeId) → Fits m → Fits n → Fits (if b then n else m)
  either_fits true m n p q = q
  either_fits false m n p q = p

  fits_most : (o : Option TypeId) → FitsSome o → pointers (of_cells o) ≤ of_some g o
  fits_most None h = omega arith
  fits_most (Some m) h = h.0

  abbrev longer : List Cell → List Cell → List Cell
  longer x r = if nat_lt (length x) (length r) then r else x

  lt_true : (a b : ℕ) → nat_lt a b ≡ true → a < b
  lt_true a b h = grind (arith, nat_tests)

  lt_false : (a b : ℕ) → nat_lt a b ≡ false → b ≤ a
  lt_false a b h = grind (arith, nat_tests)

  is_lt : (a b : ℕ) → a < b → nat_lt a b ≡ true
  is_lt a b h = grind (arith, nat_tests)

  no_lt : (a b : ℕ) → b ≤ a → nat_lt a b ≡ false
  no_lt a b h = grind (arith, nat_tests)

  -- of three lists the longest, from the left and from the right
  three : (x y r : List Cell) → longer (longer x y) r ≡ longer x (longer y r)
  three x y r = by (nat_lt (length x) (length y)) refl (nat_lt (length y) (length r)) refl
    where
      pick : (a b : List Cell) (c : Bool) → nat_lt (length a) (length b) ≡ c → longer a b ≡ (if c then b else a)
      pick a b c h = ap (λ (d : Bool). if d then b else a) h

      by : (c : Bool) → nat_lt (length x) (length y) ≡ c → (d : Bool) → nat_lt (length y) (length r) ≡ d
          → longer (longer x y) r ≡ longer x (longer y r)
      by true p true q =
          ap (λ (z : List Cell). longer z r) (pick x y true p) ∙ (pick y r true q
          ∙ sym (ap (λ (z : List Cell). longer x z) (pick y r true q) ∙ pick x r true
          (let a = lt_true (length x) (length y) p in let b = lt_true (length y) (length r) q in is_lt (length x) (length r)
          (omega (arith, a, b)))))
      by true p false q =
          ap (λ (z : List Cell). longer z r) (pick x y true p) ∙ (pick y r false q
          ∙ sym (ap (λ (z : List Cell). longer x z) (pick y r false q) ∙ pick x y true p))
      by false p true q = ap (λ (z : List Cell). longer z r) (pick x y false p) ∙ sym (ap (λ (z : List Cell). longer x z) (pick y r true q))
      by false p false q =
          ap (λ (z : List Cell). longer z r) (pick x y false p)
          ∙ (pick x r false (let a = lt_false (length x) (length y) p in let b = lt_false (length y) (length r) q in no_lt (length x) (length r)
          (omega (arith, a, b)))
          ∙ sym (ap (λ (z : List Cell). longer x z) (pick y r false q) ∙ pick x y false p))

  chosen_same : (found m : TypeId) (b : Bool) → nat_lt (length (f found)) (length (f m)) ≡ b → f (if b then m else found) ≡ longer (f found) (f m)
  chosen_same found m true h = sym (ap (λ (d : Bool). if d then f m else f found) h)
  chosen_same found m false h = sym (ap (λ (d : Bool). if d then f m else f found) h)

  -- the first of the greatest: from the left by sizes, from the right by cells
  found_longest : (found : TypeId) (ms : List TypeId) → Fits found → ((m : TypeId) → Contains ms m → Fits m)
      → (of_cells (largest_member size (Some found) ms) ≡ longer (f found) (longest (map f ms))) × FitsSome (largest_member size (Some found) ms)
  found_longest found [] p each = (sym (no_longer (f found)), p)
    where
      no_longer : (x : List Cell) → longer x [] ≡ x
      no_longer x = ap (λ (d : Bool). if d then [] else x) (no_lt (length x) 0 (omega arith))
  found_longest found (m ∷ ms) p each =
      let own = each m (contains_head m ms) in
      let next : TypeId = if nat_lt (size found) (size m) then m else found in
      let r = found_longest next ms (either_fits (nat_lt (size found) (size m)) found m p own) (λ x c. each x (contains_tail m ms x c)) in
      let same : f next ≡ longer (f found) (f m) = chosen_same found m (nat_lt (size found) (size m))
      (sym (ap (λ (a : ℕ). nat_lt a (size m)) (sym p.1) ∙ ap (λ (a : ℕ). nat_lt (length (f found)) a) (sym own.1))) in
      (r.0 ∙ (ap (λ (z : List Cell). longer z (longest (map f ms))) same ∙ three (f found) (f m) (longest (map f ms))), r.1)

  -- a union's cells
  union_most : (E : Relation) (t : TypeId) (k : ℕ) (holds : Bool) (m : TypeId) (ms : List TypeId) → Fits m → ((x : TypeId) → Contains ms x → Fits x)
      → pointers (union_cells E t k holds (map f (m ∷ ms))) ≤ of_some g (largest_member size None (m ∷ ms))
  union_most E t k false m ms p each = let r = raw_none k in omega (arith, r)
  union_most E t k true m ms p each = by (list_all (begins E (longest (map f (m ∷ ms)))) (map f (m ∷ ms)))
    where
      by : (b : Bool)
          → pointers (if b then padded_to k (longest (map f (m ∷ ms))) else map (mixed t) (range_with_len 0 k)) ≤ of_some g
          (largest_member size None (m ∷ ms))
      by true =
          let r = found_longest m ms p each in
          let a = padded_same k (longest (map f (m ∷ ms))) in
          let b = fits_most (largest_member size (Some m) ms) r.1 in
          let c = ap (λ (z : List Cell). pointers z) r.0 in omega (arith, a, b, c)
      by false = let r = mixed_none t 0 k in omega (arith, r)

shape_most : (T : Table) (E : Relation) (f : TypeId → List Cell) (g : TypeId → ℕ) (t : TypeId) (x : TypeShape) (ms : List TypeId)
    → ((m : TypeId) → Contains (parts_of_shape x ms) m → Fits T f g (size_of T) m)
    → pointers (cells_of_shape T E f t x ms) ≤ pointers_of_shape (size_of T) g x ms
shape_most T E f g t Void ms each = omega arith
shape_most T E f g t (Integer bytes signed) ms each = let r = raw_none bytes in omega (arith, r)
shape_most T E f g t (Pointer node to) ms each = let r = pointer_one node to in omega (arith, r)
shape_most T E f g t (Array element count) ms each = repeat_most count (g element) (f element) (each element (contains_head element [])).0
shape_most T E f g t (Function ps r) ms each = omega arith
shape_most T E f g t (Struct n) [] each = omega arith
shape_most T E f g t (Union n) [] each = omega arith
shape_most T E f g t (Struct n) (m ∷ ms) each =
    let a = padded_same (size_of T t) (member_cells (align_of T) f (m ∷ ms)) in
    let b = members_most T f g (size_of T) (align_of T) [] 0 (m ∷ ms) (omega arith) each in omega (arith, a, b)
shape_most T E f g t (Union n) (m ∷ ms) each =
    union_most T f g (size_of T) E t (size_of T t) (holds_pointer T t) m ms (each m (contains_head m ms)) (λ x c. each x (contains_tail m ms x c))

module _ (T : Table) (w : IsWellFormed T) (g : TypeId → ℕ)
    (counts : (t : TypeId) → g t ≡ pointers_of_shape (size_of T) g (shape_at T t) (members_at T t)) where
  below : (E : Relation) (n : ℕ) (t : TypeId) → w.order.0 t < n → pointers (cells_at T E t) ≤ g t
  below E zero t b = absurd (omega (arith, b))
  below E (suc n) t b =
      let is = ap (λ (z : List Cell). pointers z) (cells_are T w.order.0 w.order.1 E t) in
      let r = shape_most T E (cells_at T E) g t (shape_at T t) (members_at T t)
      (λ m c. let fall = w.order.1.falls t m c in (
        below E n m (omega (arith, b, fall)),
        length_cells T w E m (All-contains (IsComplete T) (parts_at T t) m (w.each t).parts c),
      )) in
      let own = counts t in omega (arith, is, r, own)

  pub cells-most : (t : TypeId) → pointers (cells_of T t) ≤ g t
  cells-most t = below (physically_equal T) (suc (w.order.0 t)) t (omega arith)

-- the offsets of pointers are as many

begins-one : (x : Cell) → (if is_some (pointer_in_cell x) then 1 else 0) ≡ first_of x
begins-one raw = refl
begins-one (mixed u i) = refl
begins-one (incomplete t) = refl
begins-one (pointer n u zero) = refl
begins-one (pointer n u (suc i)) = refl

counted : (b : Bool) (a : ℕ) (rest : List ℕ) → length (cond b (a ∷ rest) rest) ≡ (if b then 1 else 0) + length rest
counted true a rest = omega arith
counted false a rest = omega arith

offsets_are : (p : ℕ → Bool) (xs : List Cell) (a : ℕ) → ((j : ℕ) → p (a + j) ≡ is_some (and_then (slice_get xs j) pointer_in_cell))
    → length (filter p (range_with_len a (length xs))) ≡ pointers xs
offsets_are p [] a h = refl
offsets_are p (x ∷ xs) a h =
    let here = ap p (zero-right a) ∙ h 0 in
    let rest = offsets_are p xs (a + 1) (λ j. ap p (shift a j) ∙ h (suc j)) in
    let one = ap (λ (b : Bool). if b then 1 else 0) here ∙ begins-one x in
    let both = counted (p a) a (filter p (range_with_len (a + 1) (length xs))) in
    omega (arith, rest, one, both)
  where
    zero-right : (n : ℕ) → n ≡ n + 0
    zero-right n = omega arith

    shift : (n j : ℕ) → n + 1 + j ≡ n + suc j
    shift n j = omega arith

abbrev offsets : Table → TypeId → List ℕ
offsets T t = filter (λ i. is_some (pointer_at T t i)) (range_with_len 0 (length (cells_of T t)))

data_offsets : (T : Table) (t : TypeId) (x : TypeShape) → shape_at T t ≡ x
    → ((j : ℕ) → is_some (pointer_in T t x j) ≡ is_some (and_then (slice_get (cells_of T t) j) pointer_in_cell))
    → length (offsets T t) ≡ pointers (cells_of T t)
data_offsets T t x e h = offsets_are (λ i. is_some (pointer_at T t i)) (cells_of T t) 0
    (λ j. ap (λ (i : ℕ). is_some (pointer_at T t i)) (zero-left j) ∙ (ap (λ (y : TypeShape). is_some (pointer_in T t y j)) e ∙ h j))
  where
    zero-left : (n : ℕ) → 0 + n ≡ n
    zero-left n = omega arith

pub offsets-most : (T : Table) (w : IsWellFormed T) (t : TypeId) (x : TypeShape) → shape_at T t ≡ x → length (offsets T t) ≤ pointers (cells_of T t)
offsets-most T w t (Function ps r) e =
    let none : cells_of T t ≡ [] = cells_are T w.order.0 w.order.1 (physically_equal T) t ∙ ap
    (λ (y : TypeShape). cells_of_shape T (physically_equal T) (cells_at T (physically_equal T)) t y (members_at T t)) e in
    let zero_ : length (offsets T t) ≡ 0 = ap (λ (cs : List Cell). length (filter (λ i. is_some (pointer_at T t i)) (range_with_len 0 (length cs))))
    none in
    omega (arith, zero_)
offsets-most T w t Void e = let r = data_offsets T t Void e (λ j. refl) in omega (arith, r)
offsets-most T w t (Integer bytes signed) e = let r = data_offsets T t (Integer bytes signed) e (λ j. refl) in omega (arith, r)
offsets-most T w t (Pointer n u) e = let r = data_offsets T t (Pointer n u) e (λ j. refl) in omega (arith, r)
offsets-most T w t (Array u n) e = let r = data_offsets T t (Array u n) e (λ j. refl) in omega (arith, r)
offsets-most T w t (Struct n) e = let r = data_offsets T t (Struct n) e (λ j. refl) in omega (arith, r)
offsets-most T w t (Union n) e = let r = data_offsets T t (Union n) e (λ j. refl) in omega (arith, r)
