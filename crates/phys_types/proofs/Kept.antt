-- What is kept of types as a part and a count.
use Rattle.std.proofs.Common.{◌≡◌, ℕ, zero, suc, ◌+◌, ◌*◌, ◌<◌, ◌≤◌, ◌⊎◌, inl, inr, List, [], ◌∷◌, ◌++◌, length, get_or, map, take, refl, ap, sym, subst, ◌∙◌, append_assoc, true, arith}
use Rattle.std.specs.List.{Contains, repeat}
use Rattle.std.proofs.Math.Nat.{mul_assoc, mul-le-mul_right}
use Rattle.std.proofs.lemmas.List.{append-nil, take_all}
use Rattle.std.proofs.lemmas.List.Elements.{All-contains}
use Rattle.cc_base.specs.declared.number.TypeId.{TypeId}
use Rattle.c_types.specs.declared.layout.Layout.{Layout as Measure}
use Rattle.c_types.specs.declared.shape.TypeShape.{TypeShape}
use Rattle.c_types.specs.declared.shape.TypeShape.TheVariants.{Array}
use Rattle.c_types.specs.Table.{Table, IsComplete, shape_at, members_at, parts_at, parts_of_shape, is_complete_entry}
use Rattle.c_types.specs.Layouts.{size_of, layout_of, layout_of_shape}
use Rattle.c_types.specs.Cells.{Cell, Relation, cells_of_shape, cells_at, holds_pointer, holds_in_shape}
use Rattle.c_types.specs.Sound.{IsWellFormed, IsProper}
use Rattle.c_types.proofs.Lists.{contains_head}
use Rattle.c_types.proofs.Descent.{layout_is}
use Rattle.c_types.proofs.Cells.{cells_are, length_cells}
use Rattle.phys_types.specs.declared.keeping.Repeated.{Repeated}
use Rattle.phys_types.specs.declared.spot.Layout.{Layout}
use Rattle.phys_types.specs.declared.spot.Spot.{Spot}
use Rattle.phys_types.specs.Spots.{cells_from, AreSpots, shifted, copies}
use Rattle.phys_types.specs.Shown.{IsLayoutOf, all_size, all_spots, IsKeptOf, IsLowKept, ArePartsShown, IsMadeOf, IsTimes}
use Rattle.phys_types.proofs.Loops.{copies_none}
use Rattle.phys_types.proofs.Parts.{cells_low, low_spots}
use Rattle.phys_types.proofs.Spreading.{spots_copied, cells_copied, length_all}
use Rattle.phys_types.proofs.Structs.{holds_is}

-- ---- one copy

zero_plus : (n : ℕ) → 0 + n ≡ n
zero_plus n = omega arith

once : (n : ℕ) → 1 * n ≡ n
once n = omega arith

pub unmoved : (ss : List Spot) → map (shifted 0) ss ≡ ss
unmoved [] = refl
unmoved (s ∷ ss) = λ i. record { start = still s.start i; item = s.item } ∷ unmoved ss i
  where
    still : (n : ℕ) → n + 0 ≡ n
    still n = omega arith

one_copy : (k : ℕ) (ss : List Spot) → copies 1 k 0 ss ≡ ss
one_copy k ss = append-nil (map (shifted 0) ss) ∙ unmoved ss

once_spots : (n k : ℕ) (ss : List Spot) → n ≡ 1 → copies n k 0 ss ≡ ss
once_spots n k ss e = ap (λ (m : ℕ). copies m k 0 ss) e ∙ one_copy k ss

once_size : (n k : ℕ) → n ≡ 1 → n * k ≡ k
once_size n k e = ap (λ (m : ℕ). m * k) e ∙ once k

once_cells : (n k : ℕ) (ss : List Spot) → n ≡ 1 → cells_from 0 (copies n k 0 ss) (n * k) ≡ cells_from 0 ss k
once_cells n k ss e = λ i. cells_from 0 (once_spots n k ss e i) (once_size n k e i)

-- ---- copies of copies

repeat_sum : (a b : ℕ) (xs : List Cell) → repeat a xs ++ repeat b xs ≡ repeat (a + b) xs
repeat_sum zero b xs = ap (λ (n : ℕ). repeat n xs) (sym (zero_plus b))
repeat_sum (suc a) b xs =
    append_assoc xs (repeat a xs) (repeat b xs) ∙ ap (λ (ys : List Cell). xs ++ ys) (repeat_sum a b xs) ∙ ap (λ (n : ℕ). repeat n xs) (next a b)
  where
    next : (a b : ℕ) → suc (a + b) ≡ suc a + b
    next a b = omega arith

repeat_times : (n c : ℕ) (xs : List Cell) → repeat n (repeat c xs) ≡ repeat (n * c) xs
repeat_times zero c xs = ap (λ (n : ℕ). repeat n xs) (none c)
  where
    none : (c : ℕ) → 0 ≡ 0 * c
    none c = omega arith
repeat_times (suc n) c xs =
    ap (λ (ys : List Cell). repeat c xs ++ ys) (repeat_times n c xs) ∙ repeat_sum c (n * c) xs ∙ ap (λ (m : ℕ). repeat m xs) (next n c)
  where
    next : (n c : ℕ) → c + n * c ≡ suc n * c
    next n c = grind arith

module _ (size : TypeId → ℕ) where
  copied_cells : (n k : ℕ) (ss : List Spot) → AreSpots size 0 ss k → cells_from 0 (copies n k 0 ss) (n * k) ≡ repeat n (cells_from 0 ss k)
  copied_cells n k ss h = ap (cells_from 0 (copies n k 0 ss)) (sym (zero_plus (n * k))) ∙ cells_copied size n k 0 ss h

  copied_spots : (n k : ℕ) (ss : List Spot) → AreSpots size 0 ss k → AreSpots size 0 (copies n k 0 ss) (n * k)
  copied_spots n k ss h = subst (AreSpots size 0 (copies n k 0 ss)) (zero_plus (n * k)) (spots_copied size n k 0 ss h)

step : (c n : ℕ) → suc c * n ≡ n + c * n
step c n = grind arith

no_less : (c n : ℕ) → 0 < c → n ≤ c * n
no_less zero n h = absurd (omega arith)
no_less (suc c) n h = let e = step c n in omega arith

-- ---- what is kept of a type

module _ (table : Table) (E : Relation) (t : TypeId) where
  -- all of it is the layout
  pub kept_spots : (k : Repeated) → IsKeptOf table E t k → AreSpots (size_of table) 0 (all_spots k) (all_size k)
  kept_spots k h = copied_spots (size_of table) k.count k.part.size k.part.spots.items h.spots

  pub kept_cells : (k : Repeated) → IsKeptOf table E t k → repeat k.count (cells_from 0 k.part.spots.items k.part.size) ≡ cells_at table E t
  kept_cells k h = sym (copied_cells (size_of table) k.count k.part.size k.part.spots.items h.spots) ∙ h.cells

  pub kept_size : (k : Repeated) → IsKeptOf table E t k → all_size k ≡ length (cells_at table E t)
  kept_size k h = sym (length_all (size_of table) (all_spots k) (all_size k) (kept_spots k h)) ∙ ap length h.cells

  pub kept_low : IsWellFormed table → (k : Repeated) → IsKeptOf table E t k → IsLowKept k
  kept_low w k h =
      let all : all_size k ≤ 1048576 = (let l = cells_low table w E t in let e = kept_size k h in omega arith) in
      let part : k.part.size ≤ 1048576 = (let l = no_less k.count k.part.size h.some in omega arith) in
      ((low_spots (size_of table) 0 k.part.spots.items k.part.size h.spots part, part), all)

  -- the part is, if it stands once
  pub kept_once : (k : Repeated) → k.count ≡ 1 → IsKeptOf table E t k → IsLayoutOf table E t k.part
  kept_once k e h = record {
    spots = h.spots;
    cells = sym (once_cells k.count k.part.size k.part.spots.items e) ∙ h.cells;
    holds = h.holds;
  }

  pub kept_made : (k : Repeated) (x : Layout) → IsKeptOf table E t k → IsMadeOf (all_size k) (all_spots k) k.part.holds x → IsLayoutOf table E t x
  kept_made k x h m = record {
    spots = subst (AreSpots (size_of table) 0 x.spots.items) (sym m.size_is) (subst (λ (ss : List Spot). AreSpots (size_of table) 0 ss (all_size k)) (sym m.spots_are) (kept_spots k h));
    cells = (λ i. cells_from 0 (m.spots_are i) (m.size_is i)) ∙ h.cells;
    holds = m.holds_are ∙ h.holds;
  }

  -- a layout is kept as it is
  pub once_kept : (k : Repeated) → k.count ≡ 1 → IsLayoutOf table E t k.part → IsKeptOf table E t k
  once_kept k e h = record {
    some = omega arith;
    spots = h.spots;
    cells = once_cells k.count k.part.size k.part.spots.items e ∙ h.cells;
    holds = h.holds;
  }

  -- copies of a part that are the type's cells are kept as they are, or as a part and a count
  pub times_kept : (n : ℕ) (part : Layout) → 0 < n → AreSpots (size_of table) 0 part.spots.items part.size
      → cells_from 0 (copies n part.size 0 part.spots.items) (n * part.size) ≡ cells_at table E t → part.holds ≡ holds_pointer table t
      → (x : Repeated) → IsTimes n part x → IsKeptOf table E t x
  times_kept n part l a c h x (inl (f, m)) = record {
    some = subst (λ (k : ℕ). 0 < k) (sym f) l;
    spots = subst (AreSpots (size_of table) 0 x.part.spots.items) (sym m.size_is) (subst (λ (ss : List Spot). AreSpots (size_of table) 0 ss part.size) (sym m.spots_are) a);
    cells = (λ i. cells_from 0 (copies (f i) (m.size_is i) 0 (m.spots_are i)) (f i * m.size_is i)) ∙ c;
    holds = m.holds_are ∙ h;
  }
  times_kept n part l a c h x (inr (f, m)) =
      once_kept x f
      (record {
        spots =
            subst (AreSpots (size_of table) 0 x.part.spots.items) (sym m.size_is)
            (subst (λ (ss : List Spot). AreSpots (size_of table) 0 ss (n * part.size)) (sym m.spots_are) (copied_spots (size_of table) n part.size part.spots.items a));
        cells = (λ i. cells_from 0 (m.spots_are i) (m.size_is i)) ∙ c;
        holds = m.holds_are ∙ h;
      })

-- ---- an array

module _ (table : Table) (w : IsWellFormed table) (E : Relation) (t element : TypeId) (n : ℕ) (e : shape_at table t ≡ Array element n) where
  some_elements : 0 < n
  some_elements = subst IsProper e (w.each t).proper

  element_complete : IsComplete table element
  element_complete =
      let P : TypeShape → Type 0 = λ s. (m : TypeId) → Contains (parts_of_shape s (members_at table t)) m → IsComplete table m in
      subst P e (λ m k. All-contains (IsComplete table) (parts_at table t) m (w.each t).parts k) element (contains_head element [])

  array_size : size_of table t ≡ n * size_of table element
  array_size =
      ap (λ (l : Measure). l.size) (layout_is table w.order.0 w.order.1 t ∙ ap (λ s. layout_of_shape (layout_of table) s (members_at table t)) e)

  array_complete : is_complete_entry (shape_at table t) (members_at table t) ≡ true
  array_complete = ap (λ s. is_complete_entry s (members_at table t)) e

  array_cells : cells_at table E t ≡ repeat n (cells_at table E element)
  array_cells = cells_are table w.order.0 w.order.1 E t ∙ ap (λ s. cells_of_shape table E (cells_at table E) t s (members_at table t)) e

  array_holds : holds_pointer table t ≡ holds_pointer table element
  array_holds = holds_is table w t ∙ ap (λ s. holds_in_shape (holds_pointer table) s (members_at table t)) e

  module _ (k : Repeated) (h : IsKeptOf table E element k) where
    abbrev P : List Cell
    P = cells_from 0 k.part.spots.items k.part.size

    element_size : k.count * k.part.size ≡ size_of table element
    element_size = kept_size table E element k h ∙ length_cells table w E element element_complete

    all_times : n * (k.count * k.part.size) ≤ 1048576
    all_times =
        let m = (w.sized t array_complete).most in
        subst (λ (x : ℕ). n * x ≤ 1048576) (sym element_size) (let z = array_size in omega arith)

    pub array_small : (n * k.count) * k.part.size ≤ 1048576
    array_small = subst (λ (x : ℕ). x ≤ 1048576) (sym (mul_assoc n k.count k.part.size)) all_times

    part_some : 0 < k.part.size
    part_some = by k.part.size refl
      where
        by : (x : ℕ) → k.part.size ≡ x → 0 < k.part.size
        by zero f =
            let z : k.count * k.part.size ≡ k.count * 0 = ap (λ (x : ℕ). k.count * x) f in
            let s = (w.sized element element_complete).some in let q = element_size in absurd (omega arith)
        by (suc x) f = omega arith

    -- how often the part stands
    pub array_count : n * k.count ≤ 1048576
    array_count = let s = array_small in let l = more (n * k.count) k.part.size part_some in omega arith
      where
        more : (a b : ℕ) → 0 < b → a ≤ a * b
        more a zero b = absurd (omega arith)
        more a (suc x) b = by (mul_step a x)
          where
            mul_step : (a x : ℕ) → a * suc x ≡ a + a * x
            mul_step a x = grind arith

            by : a * suc x ≡ a + a * x → a ≤ a * suc x
            by q = omega arith

    all_cells : repeat (n * k.count) P ≡ cells_at table E t
    all_cells =
        sym (repeat_times n k.count P)
        ∙ ap (repeat n) (sym (copied_cells (size_of table) k.count k.part.size k.part.spots.items h.spots) ∙ h.cells)
        ∙ sym array_cells

    count_some : 0 < n * k.count
    count_some = let l = no_less n k.count some_elements in let b = h.some in omega arith

    pub array_kept : (x : Repeated) → IsTimes (n * k.count) k.part x → IsKeptOf table E t x
    array_kept x m =
        times_kept table E t (n * k.count) k.part count_some h.spots
        (copied_cells (size_of table) (n * k.count) k.part.size k.part.spots.items h.spots ∙ all_cells) (h.holds ∙ sym array_holds) x m

-- what is kept of the element of an array
pub element_kept : (table : Table) (E : Relation) (places : List ℕ) (built : List Repeated) (t element : TypeId) (n : ℕ) (part : Repeated) → shape_at table t ≡ Array element n
    → ArePartsShown table E places built t → ((d : Repeated) → part ≡ get_or built (get_or places element.0 0) d) → IsKeptOf table E element part
element_kept table E places built t element n part e h r =
    subst (IsKeptOf table E element) (sym (r part))
    (h element part (subst (λ s. Contains (parts_of_shape s (members_at table t)) element) (sym e) (contains_head element [])))

-- ---- the first spots

-- the same first ones behind the same
take_joined : (xs A B : List Spot) (l : ℕ) → ((k : ℕ) → k ≤ l → take k A ≡ take k B) → take l (xs ++ A) ≡ take l (xs ++ B)
take_joined [] A B l h = h l (omega arith)
take_joined (x ∷ xs) A B zero h = refl
take_joined (x ∷ xs) A B (suc l) h = ap (λ (zs : List Spot). x ∷ zs) (take_joined xs A B l (λ k b. h k (omega (arith, b))))

front_some : (m n limit k at : ℕ) (s : Spot) (ss : List Spot) → m ≤ n → limit ≤ m → take limit (copies m k at (s ∷ ss)) ≡ take limit (copies n k at (s ∷ ss))
front_some m n zero k at s ss a b = refl
front_some zero n (suc l) k at s ss a b = absurd (omega arith)
front_some (suc m) zero (suc l) k at s ss a b = absurd (omega arith)
front_some (suc m) (suc n) (suc l) k at s ss a b =
    ap (λ (zs : List Spot). shifted at s ∷ zs)
    (take_joined (map (shifted at) ss) (copies m k (at + k) (s ∷ ss)) (copies n k (at + k) (s ∷ ss)) l
    (λ j c. front_some m n j k (at + k) s ss (omega arith) (omega (arith, c))))

-- as many copies as there are first spots are enough
pub front_copies : (m n limit k : ℕ) (ss : List Spot) → m ≤ n → (limit ≤ m) ⊎ (m ≡ n) → take limit (copies m k 0 ss) ≡ take limit (copies n k 0 ss)
front_copies m n limit k ss a (inr e) = ap (λ (j : ℕ). take limit (copies j k 0 ss)) e
front_copies m n limit k [] a (inl l) = ap (take limit) (copies_none m k 0 ∙ sym (copies_none n k 0))
front_copies m n limit k (s ∷ ss) a (inl l) = front_some m n limit k 0 s ss a l

pub fewer_small : (m n k : ℕ) → m ≤ n → n * k ≤ 1048576 → m * k ≤ 1048576
fewer_small m n k a b = let l = mul-le-mul_right k a in omega arith

-- a part that stands once, and has few spots, is its own front
pub once_front : (k : Repeated) (limit : ℕ) → k.count ≡ 1 → length k.part.spots.items ≤ limit → k.part.spots.items ≡ take limit (all_spots k)
once_front k limit e l = sym (ap (take limit) (once_spots k.count k.part.size k.part.spots.items e) ∙ take_all limit k.part.spots.items l)

pub once_all : (k : Repeated) → k.count ≡ 1 → k.part.size ≡ all_size k
once_all k e = sym (once_size k.count k.part.size e)
