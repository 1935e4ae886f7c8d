use Rattle.std.proofs.Common.{◌≡◌, ℕ, zero, suc, ◌+◌, ◌-◌, ◌<◌, Bool, true, false, ◌&&◌, if◌then◌else◌, List, [], ◌∷◌, ◌++◌, length, get_or, take, map, replicate, nat_lt, ◌==◌, refl, ap, sym, subst, ◌∙◌, true≢false, append_assoc, arith}
use Rattle.std.specs.List.{Contains, fold, repeat, range_with_len, list_all}
use Rattle.std.specs.Cmp.{IsEquivalence}
use Rattle.std.proofs.lemmas.Bool.Decides.{Decides-eqb}
use Rattle.std.proofs.lemmas.List.{map-append, length-map, length-append, take-map}
use Rattle.std.proofs.Math.Seq.{get_or-append_seam}
use lib.Pointwise.{pointwise}
use Rattle.cc_base.specs.declared.number.TypeId.{TypeId}
use Rattle.cc_base.specs.declared.number.NodeId.{NodeId}
use Rattle.c_types.specs.declared.shape.TypeShape.{TypeShape}
use Rattle.c_types.specs.declared.shape.TypeShape.TheVariants.{Void, Integer, Pointer, Array, Function, Struct, Union}
use Rattle.c_types.specs.Table.{Table, shape_at, members_at, parts_of_shape, is_complete_entry}
use Rattle.c_types.specs.Layouts.{rounded, size_of, align_of}
use Rattle.c_types.specs.Cells.{Cell, raw, pointer, mixed, incomplete, Relation, same_type, alike, all_alike, begins, padded_to, member_cells, longest, union_cells, cells_of_shape, cells_at, holds_pointer}
use Rattle.c_types.specs.Equality.{Slot, nothing, integer, pointer_to, other, same_slot, Makeup, code, bytes, makeup_of, same_makeup, makeup_at, made_alike}
use Rattle.c_types.specs.Sound.{IsWellFormed}
use Rattle.c_types.proofs.Lists.{contains_head, contains_tail}
use Rattle.c_types.proofs.Shapes.{first_true, second_true}
use Rattle.c_types.proofs.Cells.{cells_are, length_cells}
use Rattle.type_laws.proofs.Relations.{alike_equiv, same_id}

-- A wider relation makes fewer unions mixed. The cells under the wider one are the cells under the
-- narrower one, each byte of a mixed union replaced by what its union then has there.

abbrev pub refine : (TypeId → List Cell) → Cell → Cell
refine C raw = raw
refine C (pointer node to i) = pointer node to i
refine C (mixed u i) = get_or (C u) i (mixed u i)
refine C (incomplete t) = incomplete t

-- ---- refining commutes with how cells are made

module _ (C : TypeId → List Cell) where
  over_raw : (n : ℕ) → map (refine C) (replicate n raw) ≡ replicate n raw
  over_raw zero = refl
  over_raw (suc n) = ap (λ cs. raw ∷ cs) (over_raw n)

  over_pointers : (node : NodeId) (to : TypeId) (is : List ℕ) → map (refine C) (map (pointer node to) is) ≡ map (pointer node to) is
  over_pointers node to [] = refl
  over_pointers node to (i ∷ is) = ap (λ cs. pointer node to i ∷ cs) (over_pointers node to is)

  over_repeat : (n : ℕ) (xs : List Cell) → map (refine C) (repeat n xs) ≡ repeat n (map (refine C) xs)
  over_repeat zero xs = refl
  over_repeat (suc n) xs = map-append (refine C) xs (repeat n xs) ∙ ap (λ cs. map (refine C) xs ++ cs) (over_repeat n xs)

  over_padded : (n : ℕ) (xs : List Cell) → map (refine C) (padded_to n xs) ≡ padded_to n (map (refine C) xs)
  over_padded n xs =
      map-append (refine C) xs (replicate (n - length xs) raw)
      ∙ ap (λ cs. map (refine C) xs ++ cs) (over_raw (n - length xs) ∙ ap (λ k. replicate (n - k) raw) (sym (length-map xs (refine C))))

  over_members : (align : TypeId → ℕ) (g h : TypeId → List Cell) (a : List Cell) (ms : List TypeId) → ((m : TypeId) → Contains ms m → map (refine C) (g m) ≡ h m)
      → map (refine C) (fold (λ cells m. padded_to (rounded (length cells) (align m)) cells ++ g m) a ms)
      ≡ fold (λ cells m. padded_to (rounded (length cells) (align m)) cells ++ h m) (map (refine C) a) ms
  over_members align g h a [] k = refl
  over_members align g h a (m ∷ ms) k =
      over_members align g h (padded_to (rounded (length a) (align m)) a ++ g m) ms (λ x c. k x (contains_tail m ms x c))
      ∙ ap (λ b. fold (λ cells x. padded_to (rounded (length cells) (align x)) cells ++ h x) b ms)
      (map-append (refine C) (padded_to (rounded (length a) (align m)) a) (g m)
      ∙ (λ i. (over_padded (rounded (length a) (align m)) a ∙ ap (λ n. padded_to (rounded n (align m)) (map (refine C) a)) (sym (length-map a (refine C)))) i
      ++ k m (contains_head m ms) i))

  over_choice : (b : Bool) (x y : List Cell) → (if b then map (refine C) x else map (refine C) y) ≡ map (refine C) (if b then x else y)
  over_choice true x y = refl
  over_choice false x y = refl

  over_longest : (cs : List (List Cell)) → longest (map (map (refine C)) cs) ≡ map (refine C) (longest cs)
  over_longest [] = refl
  over_longest (c ∷ cs) =
      (λ i. if nat_lt (length-map c (refine C) i) ((ap length (over_longest cs) ∙ length-map (longest cs) (refine C)) i) then over_longest cs i else map (refine C) c)
      ∙ over_choice (nat_lt (length c) (length (longest cs))) (longest cs) c

  same_mapped : (g h : TypeId → List Cell) (ms : List TypeId) → ((m : TypeId) → Contains ms m → map (refine C) (g m) ≡ h m) → map h ms ≡ map (map (refine C)) (map g ms)
  same_mapped g h [] k = refl
  same_mapped g h (m ∷ ms) k = λ i. sym (k m (contains_head m ms)) i ∷ same_mapped g h ms (λ x c. k x (contains_tail m ms x c)) i

-- the elements of a list, read one by one
read_from : (g : ℕ → Cell) (front xs : List Cell) → map (λ i. get_or (front ++ xs) i (g i)) (range_with_len (length front) (length xs)) ≡ xs
read_from g front [] = refl
read_from g front (x ∷ xs) =
    let e : front ++ x ∷ xs ≡ (front ++ x ∷ []) ++ xs = sym (append_assoc front (x ∷ []) xs) in
    let n : length front + 1 ≡ length (front ++ x ∷ []) = sym (length-append front (x ∷ [])) in
    λ i. get_or-append_seam front x xs (g (length front)) i
    ∷ ((λ j. map (λ k. get_or (e j) k (g k)) (range_with_len (n j) (length xs))) ∙ read_from g (front ++ x ∷ []) xs) i

read_mixed : (C : TypeId → List Cell) (t : TypeId) (is : List ℕ) → map (refine C) (map (mixed t) is) ≡ map (λ i. get_or (C t) i (mixed t i)) is
read_mixed C t [] = refl
read_mixed C t (i ∷ is) = ap (λ cs. get_or (C t) i (mixed t i) ∷ cs) (read_mixed C t is)

-- ---- alike cells stay alike

module _ (E F : Relation) (sub : (t u : TypeId) → E t u ≡ true → F t u ≡ true) (q : IsEquivalence F) (C : TypeId → List Cell) where
  keeps : (x y : Cell) → alike E x y ≡ true → alike F (refine C x) (refine C y) ≡ true
  keeps raw raw h = refl
  keeps (pointer node to i) (pointer n u j) h = λ k. first_true (i == j) (E to u) h k && sub to u (second_true (i == j) (E to u) h) k
  keeps (mixed u i) (mixed v j) h =
      let s = same_id u v (first_true (same_type u v) (i == j) h) in
      let e = (Decides-eqb i j).0 (second_true (same_type u v) (i == j) h) in
      let P : TypeId → ℕ → Type 0 = λ x k. alike F (get_or (C u) i (mixed u i)) (get_or (C x) k (mixed x k)) ≡ true in
      let own : P u i = (alike_equiv q).refl (get_or (C u) i (mixed u i)) in
      let Q : ℕ → ℕ → Type 0 = λ n k. P (record { 0 = n }) k in
      subst (λ k. Q v.0 k) e (subst (λ n. Q n i) s own)
  keeps (incomplete t) (incomplete u) h = h
  keeps x y h = absurd (true≢false (sym h))

  keeps_all : (xs ys : List Cell) → all_alike E xs ys ≡ true → all_alike F (map (refine C) xs) (map (refine C) ys) ≡ true
  keeps_all [] [] h = refl
  keeps_all (x ∷ xs) (y ∷ ys) h = λ i. keeps x y (first_true (alike E x y) _ h) i && keeps_all xs ys (second_true (alike E x y) _ h) i
  keeps_all [] (y ∷ ys) h = absurd (true≢false (sym h))
  keeps_all (x ∷ xs) [] h = absurd (true≢false (sym h))

  keeps_begins : (xs ys : List Cell) → begins E xs ys ≡ true → begins F (map (refine C) xs) (map (refine C) ys) ≡ true
  keeps_begins xs ys h =
      ap (λ zs. all_alike F zs (map (refine C) ys)) (ap (λ n. take n (map (refine C) xs)) (length-map ys (refine C)) ∙ take-map (refine C) (length ys) xs)
      ∙ keeps_all (take (length ys) xs) ys h

  keeps_each : (xs : List Cell) (cs : List (List Cell)) → list_all (begins E xs) cs ≡ true → list_all (begins F (map (refine C) xs)) (map (map (refine C)) cs) ≡ true
  keeps_each xs [] h = refl
  keeps_each xs (c ∷ cs) h = λ i. keeps_begins xs c (first_true (begins E xs c) _ h) i && keeps_each xs cs (second_true (begins E xs c) _ h) i

  keeps_slot : (x y : Slot) → same_slot E x y ≡ true → same_slot F x y ≡ true
  keeps_slot nothing nothing h = refl
  keeps_slot (integer a s) (integer b r) h = h
  keeps_slot (pointer_to t) (pointer_to u) h = sub t u h
  keeps_slot (other t) (other u) h = sub t u h
  keeps_slot x y h = absurd (true≢false (sym h))

  keeps_slots : (xs ys : List Slot) → pointwise (same_slot E) xs ys ≡ true → pointwise (same_slot F) xs ys ≡ true
  keeps_slots [] [] h = refl
  keeps_slots (x ∷ xs) (y ∷ ys) h = λ i. keeps_slot x y (first_true (same_slot E x y) _ h) i && keeps_slots xs ys (second_true (same_slot E x y) _ h) i
  keeps_slots [] (y ∷ ys) h = absurd (true≢false (sym h))
  keeps_slots (x ∷ xs) [] h = absurd (true≢false (sym h))

  -- ---- the cells of a union, and of any type

  over_union : (t : TypeId) (size : ℕ) (holds : Bool) (cs : List (List Cell)) → C t ≡ union_cells F t size holds (map (map (refine C)) cs) → length (C t) ≡ size
      → map (refine C) (union_cells E t size holds cs) ≡ union_cells F t size holds (map (map (refine C)) cs)
  over_union t size false cs own len = over_raw C size
  over_union t size true cs own len = by (list_all (begins E (longest cs)) cs) refl
    where
      by : (b : Bool) → list_all (begins E (longest cs)) cs ≡ b
          → map (refine C) (if b then padded_to size (longest cs) else map (mixed t) (range_with_len 0 size)) ≡ union_cells F t size true (map (map (refine C)) cs)
      by true e =
          over_padded C size (longest cs)
          ∙ ap (padded_to size) (sym (over_longest C cs))
          ∙ ap (λ b. if b then padded_to size (longest (map (map (refine C)) cs)) else map (mixed t) (range_with_len 0 size))
          (sym (ap (λ l. list_all (begins F l) (map (map (refine C)) cs)) (over_longest C cs) ∙ keeps_each (longest cs) cs e))
      by false e =
          read_mixed C t (range_with_len 0 size)
          ∙ ap (λ n. map (λ i. get_or (C t) i (mixed t i)) (range_with_len 0 n)) (sym len)
          ∙ read_from (mixed t) [] (C t)
          ∙ own

  over_shape : (table : Table) (g : TypeId → List Cell) (t : TypeId) (s : TypeShape) (ms : List TypeId)
      → ((m : TypeId) → Contains (parts_of_shape s ms) m → map (refine C) (g m) ≡ C m)
      → C t ≡ cells_of_shape table F C t s ms → (is_complete_entry s ms ≡ true → length (C t) ≡ size_of table t)
      → map (refine C) (cells_of_shape table E g t s ms) ≡ cells_of_shape table F C t s ms
  over_shape table g t Void ms h own len = refl
  over_shape table g t (Integer n signed) ms h own len = over_raw C n
  over_shape table g t (Pointer node to) ms h own len = over_pointers C node to (range_with_len 0 8)
  over_shape table g t (Array element count) ms h own len = over_repeat C count (g element) ∙ ap (repeat count) (h element (contains_head element []))
  over_shape table g t (Function ps r) ms h own len = refl
  over_shape table g t (Struct tag) [] h own len = refl
  over_shape table g t (Union tag) [] h own len = refl
  over_shape table g t (Struct tag) (m ∷ ms) h own len =
      over_padded C (size_of table t) (member_cells (align_of table) g (m ∷ ms))
      ∙ ap (padded_to (size_of table t)) (over_members C (align_of table) g C [] (m ∷ ms) h)
  over_shape table g t (Union tag) (m ∷ ms) h own len =
      let e = same_mapped C g C (m ∷ ms) h in
      over_union t (size_of table t) (holds_pointer table t) (map g (m ∷ ms))
      (own ∙ ap (union_cells F t (size_of table t) (holds_pointer table t)) e) (len refl)
      ∙ ap (union_cells F t (size_of table t) (holds_pointer table t)) (sym e)

module _ (table : Table) (w : IsWellFormed table) (E F : Relation) (sub : (t u : TypeId) → E t u ≡ true → F t u ≡ true) (q : IsEquivalence F) where
  refined_below : (n : ℕ) (t : TypeId) → w.order.0 t < n → map (refine (cells_at table F)) (cells_at table E t) ≡ cells_at table F t
  refined_below zero t b = absurd (omega arith)
  refined_below (suc n) t b =
      ap (map (refine (cells_at table F))) (cells_are table w.order.0 w.order.1 E t)
      ∙ over_shape E F sub q (cells_at table F) table (cells_at table E) t (shape_at table t) (members_at table t)
      (λ m k. let r = w.order.1.falls t m k in refined_below n m (omega arith))
      (cells_are table w.order.0 w.order.1 F t) (λ c. length_cells table w F t c)
      ∙ sym (cells_are table w.order.0 w.order.1 F t)

  pub refined : (t : TypeId) → map (refine (cells_at table F)) (cells_at table E t) ≡ cells_at table F t
  refined t = refined_below (suc (w.order.0 t)) t (omega arith)

  abbrev refine_makeup : Makeup → Makeup
  refine_makeup (code xs) = code xs
  refine_makeup (bytes cs) = bytes (map (refine (cells_at table F)) cs)

  makeup_refined : (t : TypeId) (s : TypeShape) → refine_makeup (makeup_of table E t s) ≡ makeup_of table F t s
  makeup_refined t (Function ps r) = refl
  makeup_refined t Void = ap bytes (refined t)
  makeup_refined t (Integer n signed) = ap bytes (refined t)
  makeup_refined t (Pointer node to) = ap bytes (refined t)
  makeup_refined t (Array element count) = ap bytes (refined t)
  makeup_refined t (Struct tag) = ap bytes (refined t)
  makeup_refined t (Union tag) = ap bytes (refined t)

  -- pointees that are equal by the narrower relation are so by G
  module _ (G : Relation) (into : (t u : TypeId) → E t u ≡ true → G t u ≡ true) (p : IsEquivalence G) where
    keeps_makeup : (x y : Makeup) → same_makeup E x y ≡ true → same_makeup G (refine_makeup x) (refine_makeup y) ≡ true
    keeps_makeup (code xs) (code ys) h = keeps_slots E G into p (cells_at table F) xs ys h
    keeps_makeup (bytes xs) (bytes ys) h = keeps_all E G into p (cells_at table F) xs ys h
    keeps_makeup (code xs) (bytes ys) h = absurd (true≢false (sym h))
    keeps_makeup (bytes xs) (code ys) h = absurd (true≢false (sym h))

    -- types made alike under the narrower relation look alike, where unions are mixed or not by the wider one and pointees are equal by G
    pub looks_alike : (t u : TypeId) → made_alike table E t u ≡ true → same_makeup G (makeup_at table F t) (makeup_at table F u) ≡ true
    looks_alike t u h =
        (λ i. same_makeup G (sym (makeup_refined t (shape_at table t)) i) (sym (makeup_refined u (shape_at table u)) i))
        ∙ keeps_makeup (makeup_at table E t) (makeup_at table E u) h

  -- types made alike under the narrower relation are so under the wider one
  pub wider : (t u : TypeId) → made_alike table E t u ≡ true → made_alike table F t u ≡ true
  wider = looks_alike F sub q
