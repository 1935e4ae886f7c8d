use Rattle.std.proofs.Common.{◌≡◌, ℕ, ◌+◌, ◌-◌, ◌<◌, ◌≤◌, Bool, true, false, ◌&&◌, ◌||◌, if◌then◌else◌, List, [], ◌∷◌, ◌++◌, length, get_or, take, map, replicate, nat_lt, nat_le, refl, ap, sym, subst, ◌∙◌, true≢false, arith}
use Rattle.std.specs.List.{All, fold, list_all, list_any, range_with_len}
use Rattle.std.proofs.lemmas.Bool.{ltb-true, ltb-false, lt-ltb, leb-true, le-leb}
use Rattle.std.proofs.lemmas.List.{take_more, append-nil, map-append}
use Rattle.std.proofs.lemmas.List.Elements.{All-contains}
use Rattle.cc_base.specs.declared.number.TypeId.{TypeId}
use Rattle.c_types.specs.declared.shape.TypeShape.{TypeShape}
use Rattle.c_types.specs.declared.shape.TypeShape.TheVariants.{Void, Integer, Pointer, Array, Function, Struct, Union}
use Rattle.c_types.specs.declared.layout.Layout.{Layout as Measure}
use Rattle.c_types.specs.Table.{Table, IsUnion, is_union_shape, shape_at, members_at, parts_of_shape, is_complete_entry, IsComplete}
use Rattle.c_types.specs.Layouts.{union_layout, layout_of, layout_of_shape, size_of, greatest_size, greatest_align}
use Rattle.c_types.specs.Cells.{Cell, raw, mixed, Relation, begins, padded_to, longest, union_cells, cells_of_shape, cells_at, holds_pointer, holds_in_shape}
use Rattle.c_types.specs.Sound.{IsWellFormed}
use Rattle.c_types.proofs.Descent.{layout_is}
use Rattle.c_types.proofs.Ends.{rounded_up}
use Rattle.c_types.proofs.Shapes.{first_true, second_true}
use Rattle.c_types.proofs.Cells.{cells_are, length_cells, length_longest}
use Rattle.phys_types.specs.declared.spot.Item.TheVariants.{Mixed}
use Rattle.phys_types.specs.declared.spot.Layout.{Layout}
use Rattle.phys_types.specs.Spots.{cells_from, AreSpots}
use Rattle.phys_types.specs.Numbers.{same_number}
use Rattle.phys_types.specs.Shown.{IsLayoutOf, AreLayoutsOf, larger, begins_spots, union_spots, IsUnionOf}
use Rattle.phys_types.proofs.Spreading.{spots_to, cells_padded, length_all}
use Rattle.phys_types.proofs.Fronts.{fronts, begins_is, spots_from_cells, cells_from_spots, both_true}
use Rattle.phys_types.proofs.Structs.{holds_is}

-- The layout of a union, from those of its members.

pub same_answer : (a b : Bool) → (a ≡ true → b ≡ true) → (b ≡ true → a ≡ true) → a ≡ b
same_answer true b h k = sym (h refl)
same_answer false true h k = k refl
same_answer false false h k = refl

union_tag : (s : TypeShape) → is_union_shape s ≡ true → (tag : ℕ) × (s ≡ Union tag)
union_tag (Union tag) h = (tag, refl)
union_tag Void h = absurd (true≢false (sym h))
union_tag (Integer b s) h = absurd (true≢false (sym h))
union_tag (Pointer n t) h = absurd (true≢false (sym h))
union_tag (Array e n) h = absurd (true≢false (sym h))
union_tag (Function ps r) h = absurd (true≢false (sym h))
union_tag (Struct t) h = absurd (true≢false (sym h))

-- one element more
pub map_more : {A B : Type 0} (f : A → B) (xs : List A) (i : ℕ) (d : A) → i < length xs → map f (take (i + 1) xs) ≡ map f (take i xs) ++ f (get_or xs i d) ∷ []
map_more f xs i d l = ap (map f) (take_more xs i d l) ∙ map-append f (take i xs) (get_or xs i d ∷ [])

-- one layout more
layouts_push : (table : Table) (E : Relation) (ms : List TypeId) (ps : List Layout) (m : TypeId) (p : Layout) → AreLayoutsOf table E ms ps → IsLayoutOf table E m p
    → AreLayoutsOf table E (ms ++ m ∷ []) (ps ++ p ∷ [])
layouts_push table E [] [] m p h k = (k, tt)
layouts_push table E [] (q ∷ ps) m p h k = absurd h
layouts_push table E (n ∷ ms) [] m p h k = absurd h
layouts_push table E (n ∷ ms) (q ∷ ps) m p h k = (h.0, layouts_push table E ms ps m p h.1 k)

pub layouts_more : (table : Table) (E : Relation) (ms : List TypeId) (ps : List Layout) (i : ℕ) (d : TypeId) (p : Layout) → i < length ms
    → AreLayoutsOf table E (take i ms) ps → IsLayoutOf table E (get_or ms i d) p → AreLayoutsOf table E (take (i + 1) ms) (ps ++ p ∷ [])
layouts_more table E ms ps i d p l h k =
    subst (λ xs. AreLayoutsOf table E xs (ps ++ p ∷ [])) (sym (take_more ms i d l)) (layouts_push table E (take i ms) ps (get_or ms i d) p h k)

-- ---- the largest

longer : List Cell → List Cell → List Cell
longer x y = if nat_lt (length x) (length y) then y else x

longest_fold : (a : List Cell) (cs : List (List Cell)) → fold longer a cs ≡ (if nat_lt (length a) (length (longest cs)) then longest cs else a)
unfolding longer
longest_fold a [] = by (nat_lt (length a) 0) refl
  where
    by : (b : Bool) → nat_lt (length a) 0 ≡ b → a ≡ (if b then [] else a)
    by true e = let l = ltb-true (length a) 0 e in absurd (omega arith)
    by false e = refl
longest_fold a (c ∷ cs) =
    longest_fold (if nat_lt (length a) (length c) then c else a) cs
    ∙ by (nat_lt (length a) (length c)) (nat_lt (length c) (length (longest cs))) (nat_lt (length a) (length (longest cs))) refl refl refl
  where
    L : List Cell
    L = longest cs

    by : (x y z : Bool) → nat_lt (length a) (length c) ≡ x → nat_lt (length c) (length (longest cs)) ≡ y → nat_lt (length a) (length (longest cs)) ≡ z
        → (if nat_lt (length (if x then c else a)) (length (longest cs)) then longest cs else (if x then c else a))
        ≡ (if nat_lt (length a) (length (if y then longest cs else c)) then (if y then longest cs else c) else a)
    by true true z e f g =
        let p = ltb-true (length a) (length c) e in let q = ltb-true (length c) (length (longest cs)) f in
        (λ i. if f i then longest cs else c) ∙ sym (λ i. if lt-ltb (length a) (length (longest cs)) (omega arith) i then longest cs else a)
    by true false z e f g = (λ i. if f i then longest cs else c) ∙ sym (λ i. if e i then c else a)
    by false true true e f g = refl
    by false true false e f g = refl
    by false false true e f g =
        let p = ltb-false (length a) (length c) e in let q = ltb-false (length c) (length (longest cs)) f in let r = ltb-true (length a) (length (longest cs)) g in absurd (omega arith)
    by false false false e f g = (λ i. if g i then longest cs else a) ∙ sym (λ i. if e i then c else a)

longest_is : (c : List Cell) (cs : List (List Cell)) → fold longer c (c ∷ cs) ≡ longest (c ∷ cs)
unfolding longer
longest_is c cs = ap (λ x. fold longer x cs) (own (nat_lt (length c) (length c))) ∙ longest_fold c cs ∙ turn (nat_lt (length c) (length (longest cs)))
  where
    own : (b : Bool) → (if b then c else c) ≡ c
    own true = refl
    own false = refl

    turn : (b : Bool) → (if b then longest cs else c) ≡ (if b then longest cs else c)
    turn b = refl

module _ (table : Table) (number : TypeId → ℕ) where
  -- a layout shows some cells
  record Shows (x : Layout) (cells : List Cell) : Type 0 where
    spots_of : AreSpots (size_of table) 0 x.spots.items x.size
    cells_of : cells_from 0 x.spots.items x.size ≡ cells

  shows : (E : Relation) (m : TypeId) (p : Layout) → IsLayoutOf table E m p → Shows p (cells_at table E m)
  shows E m p h = record { spots_of = h.spots; cells_of = h.cells }

  shown_size : (x : Layout) (cells : List Cell) → Shows x cells → x.size ≡ length cells
  shown_size x cells h = sym (length_all (size_of table) x.spots.items x.size h.spots_of) ∙ ap length h.cells_of

  larger_shows : (x y : Layout) (a b : List Cell) → Shows x a → Shows y b → Shows (larger x y) (longer a b)
  unfolding longer
  larger_shows x y a b h k =
      subst (λ n. Shows (larger x y) (if nat_lt (length a) n then b else a)) (shown_size y b k)
      (subst (λ n. Shows (larger x y) (if nat_lt n y.size then b else a)) (shown_size x a h) (by (nat_lt x.size y.size)))
    where
      by : (c : Bool) → Shows (if c then y else x) (if c then b else a)
      by true = k
      by false = h

  fold_shows : (E : Relation) (x : Layout) (a : List Cell) (ms : List TypeId) (ps : List Layout) → Shows x a → AreLayoutsOf table E ms ps
      → Shows (fold larger x ps) (fold longer a (map (cells_at table E) ms))
  fold_shows E x a [] [] h k = h
  fold_shows E x a [] (p ∷ ps) h k = absurd k
  fold_shows E x a (m ∷ ms) [] h k = absurd k
  fold_shows E x a (m ∷ ms) (p ∷ ps) h k =
      fold_shows E (larger x p) (longer a (cells_at table E m)) ms ps (larger_shows x p a (cells_at table E m) h (shows E m p k.0)) k.1

  largest_shows : (E : Relation) (m : TypeId) (p : Layout) (ms : List TypeId) (ps : List Layout) → IsLayoutOf table E m p → AreLayoutsOf table E ms ps
      → Shows (fold larger p (p ∷ ps)) (longest (map (cells_at table E) (m ∷ ms)))
  largest_shows E m p ms ps h k =
      subst (Shows (fold larger p (p ∷ ps))) (longest_is (cells_at table E m) (map (cells_at table E) ms))
      (fold_shows E p (cells_at table E m) (m ∷ ms) (p ∷ ps) (shows E m p h) (h, k))

  -- ---- beginning

  pub begins_shown : (x y : Layout) → AreSpots (size_of table) 0 x.spots.items x.size → AreSpots (size_of table) 0 y.spots.items y.size
      → begins_spots number x y ≡ begins (same_number number) (cells_from 0 x.spots.items x.size) (cells_from 0 y.spots.items y.size)
  begins_shown x y h k =
      same_answer (begins_spots number x y) (fronts (same_number number) (cells_from 0 x.spots.items x.size) (cells_from 0 y.spots.items y.size))
      (λ e. cells_from_spots number (size_of table) 0 x.spots.items y.spots.items x.size y.size h k
      (leb-true y.size x.size (first_true (nat_le y.size x.size) _ e)) (second_true (nat_le y.size x.size) _ e))
      (λ e. let s = spots_from_cells number (size_of table) 0 x.spots.items y.spots.items x.size y.size h k e in
      both_true (nat_le y.size x.size) _ (le-leb y.size x.size s.0) s.1)
      ∙ sym (begins_is (same_number number) (cells_from 0 x.spots.items x.size) (cells_from 0 y.spots.items y.size))

  begins_cells : (x y : Layout) (a b : List Cell) → Shows x a → Shows y b → begins_spots number x y ≡ begins (same_number number) a b
  begins_cells x y a b h k =
      begins_shown x y h.spots_of k.spots_of ∙ (λ i. begins (same_number number) (h.cells_of i) (k.cells_of i))

  all_begin : (x : Layout) (a : List Cell) (ms : List TypeId) (ps : List Layout) → Shows x a → AreLayoutsOf table (same_number number) ms ps
      → list_all (begins_spots number x) ps ≡ list_all (begins (same_number number) a) (map (cells_at table (same_number number)) ms)
  all_begin x a [] [] h k = refl
  all_begin x a [] (p ∷ ps) h k = absurd k
  all_begin x a (m ∷ ms) [] h k = absurd k
  all_begin x a (m ∷ ms) (p ∷ ps) h k =
      λ i. begins_cells x p a (cells_at table (same_number number) m) h (shows (same_number number) m p k.0) i && all_begin x a ms ps h k.1 i

  any_holds : (E : Relation) (ms : List TypeId) (ps : List Layout) → AreLayoutsOf table E ms ps → list_any (λ (p : Layout). p.holds) ps ≡ list_any (holds_pointer table) ms
  any_holds E [] [] k = refl
  any_holds E [] (p ∷ ps) k = absurd k
  any_holds E (m ∷ ms) [] k = absurd k
  any_holds E (m ∷ ms) (p ∷ ps) k = λ i. k.0.holds i || any_holds E ms ps k.1 i

  -- ---- the union

  module _ (w : IsWellFormed table) where
    mixed_cells : (t : TypeId) (n : ℕ) → cells_from 0 (record { start = 0; item = Mixed t n } ∷ []) n ≡ map (mixed t) (range_with_len 0 n)
    mixed_cells t n = ap (λ k. map (mixed t) (range_with_len 0 n) ++ replicate k raw) (none n) ∙ append-nil (map (mixed t) (range_with_len 0 n))
      where
        none : (n : ℕ) → n - (0 + n) ≡ 0
        none n = omega arith

    raw_cells : (n : ℕ) → replicate (n - 0) raw ≡ replicate n raw
    raw_cells n = ap (λ k. replicate k raw) (less n)
      where
        less : (n : ℕ) → n - 0 ≡ n
        less n = omega arith

    fits : (t : TypeId) (tag : ℕ) → shape_at table t ≡ Union tag → length (longest (map (cells_at table (same_number number)) (members_at table t))) ≤ size_of table t
    fits t tag e =
        let P : TypeShape → Type 0 = λ s. All (IsComplete table) (parts_of_shape s (members_at table t)) in
        let k = length_longest (cells_at table (same_number number)) (layout_of table) (members_at table t)
        (λ m c. length_cells table w (same_number number) m (All-contains (IsComplete table) (members_at table t) m (subst P e (w.each t).parts) c)) in
        let s : size_of table t ≡ (union_layout (map (layout_of table) (members_at table t))).size =
        ap (λ (l : Measure). l.size) (layout_is table w.order.0 w.order.1 t ∙ ap (λ s. layout_of_shape (layout_of table) s (members_at table t)) e) in
        let r = rounded_up (greatest_size (map (layout_of table) (members_at table t))) (greatest_align (map (layout_of table) (members_at table t))) in
        omega arith

    -- the spots that are taken for a union with these members are its cells'
    spots_right : (t : TypeId) (m : TypeId) (p : Layout) (ms : List TypeId) (ps : List Layout) → AreLayoutsOf table (same_number number) (m ∷ ms) (p ∷ ps)
        → 0 < size_of table t → length (longest (map (cells_at table (same_number number)) (m ∷ ms))) ≤ size_of table t
        → AreSpots (size_of table) 0 (union_spots number t (size_of table t) (p ∷ ps) (p ∷ ps)) (size_of table t)
        × (cells_from 0 (union_spots number t (size_of table t) (p ∷ ps) (p ∷ ps)) (size_of table t)
        ≡ union_cells (same_number number) t (size_of table t) (list_any (holds_pointer table) (m ∷ ms)) (map (cells_at table (same_number number)) (m ∷ ms)))
    spots_right t m p ms ps k some fit =
        subst (λ b. Right b (list_all (begins_spots number (fold larger p (p ∷ ps))) (p ∷ ps)) (list_any (holds_pointer table) (m ∷ ms)) (list_all (begins (same_number number) X) Cs))
        (sym (any_holds (same_number number) (m ∷ ms) (p ∷ ps) k))
        (subst (λ b. Right (list_any (holds_pointer table) (m ∷ ms)) b (list_any (holds_pointer table) (m ∷ ms)) (list_all (begins (same_number number) X) Cs))
        (sym (all_begin (fold larger p (p ∷ ps)) X (m ∷ ms) (p ∷ ps) big k))
        (by (list_any (holds_pointer table) (m ∷ ms)) (list_all (begins (same_number number) X) Cs)))
      where
        Cs : List (List Cell)
        Cs = map (cells_at table (same_number number)) (m ∷ ms)

        X : List Cell
        X = longest (map (cells_at table (same_number number)) (m ∷ ms))

        big : Shows (fold larger p (p ∷ ps)) (longest (map (cells_at table (same_number number)) (m ∷ ms)))
        big = largest_shows (same_number number) m p ms ps k.0 k.1

        Right : Bool → Bool → Bool → Bool → Type 0
        Right a b c d =
            AreSpots (size_of table) 0 (if a then (if b then (fold larger p (p ∷ ps)).spots.items else record { start = 0; item = Mixed t (size_of table t) } ∷ []) else []) (size_of table t)
            × (cells_from 0 (if a then (if b then (fold larger p (p ∷ ps)).spots.items else record { start = 0; item = Mixed t (size_of table t) } ∷ []) else []) (size_of table t)
            ≡ (if c then (if d then padded_to (size_of table t) (longest (map (cells_at table (same_number number)) (m ∷ ms))) else map (mixed t) (range_with_len 0 (size_of table t))) else replicate (size_of table t) raw))

        less : (fold larger p (p ∷ ps)).size ≤ size_of table t
        less = let e = shown_size (fold larger p (p ∷ ps)) (longest (map (cells_at table (same_number number)) (m ∷ ms))) (largest_shows (same_number number) m p ms ps k.0 k.1) in omega arith

        by : (a b : Bool) → Right a b a b
        by false b = (omega arith, raw_cells (size_of table t))
        by true false = ((omega arith, (refl, some), omega arith), mixed_cells t (size_of table t))
        by true true = (
          spots_to (size_of table) 0 (fold larger p (p ∷ ps)).spots.items (fold larger p (p ∷ ps)).size (size_of table t) (largest_shows (same_number number) m p ms ps k.0 k.1).spots_of less,
          sym (cells_padded (size_of table) (fold larger p (p ∷ ps)).size (size_of table t) (fold larger p (p ∷ ps)).spots.items (largest_shows (same_number number) m p ms ps k.0 k.1).spots_of less)
              ∙ ap (padded_to (size_of table t)) (largest_shows (same_number number) m p ms ps k.0 k.1).cells_of,
        )

    pub union_shown : (t : TypeId) (ps : List Layout) (layout : Layout) (size : ℕ) → IsUnion table t → IsComplete table t → size ≡ size_of table t
        → AreLayoutsOf table (same_number number) (members_at table t) ps → IsUnionOf number t size ps layout → IsLayoutOf table (same_number number) t layout
    union_shown t ps layout size u c z k h = by (members_at table t) ps refl refl
      where
        tag : (n : ℕ) × (shape_at table t ≡ Union n)
        tag = union_tag (shape_at table t) u

        by : (ms : List TypeId) (qs : List Layout) → members_at table t ≡ ms → ps ≡ qs → IsLayoutOf table (same_number number) t layout
        by [] qs e f = absurd (true≢false (sym c ∙ (λ j. is_complete_entry (tag.1 j) (e j))))
        by (m ∷ ms) [] e f = absurd (subst (λ xs. AreLayoutsOf table (same_number number) xs []) e (subst (AreLayoutsOf table (same_number number) (members_at table t)) f k))
        by (m ∷ ms) (q ∷ qs) e f =
            let both = subst (λ xs. AreLayoutsOf table (same_number number) xs (q ∷ qs)) e (subst (AreLayoutsOf table (same_number number) (members_at table t)) f k) in
            let fit = subst (λ xs. length (longest (map (cells_at table (same_number number)) xs)) ≤ size_of table t) e (fits t tag.0 tag.1) in
            let r = spots_right t m q ms qs both (w.sized t c).some fit in
            let s : layout.spots.items ≡ union_spots number t (size_of table t) (q ∷ qs) (q ∷ qs) =
            h.spots_are ∙ ap (λ n. union_spots number t n ps ps) z ∙ ap (λ xs. union_spots number t (size_of table t) xs xs) f in
            let y = h.size_is ∙ z in
            let held : list_any (holds_pointer table) (m ∷ ms) ≡ holds_pointer table t =
            ap (λ xs. holds_in_shape (holds_pointer table) (Union tag.0) xs) (sym e) ∙ ap (λ g. holds_in_shape (holds_pointer table) g (members_at table t)) (sym tag.1) ∙ sym (holds_is table w t) in
            record {
              spots = subst (AreSpots (size_of table) 0 layout.spots.items) (sym y) (subst (λ xs. AreSpots (size_of table) 0 xs (size_of table t)) (sym s) r.0);
              cells = ap (cells_from 0 layout.spots.items) y ∙ ap (λ xs. cells_from 0 xs (size_of table t)) s ∙ r.1
                  ∙ ap (λ b. union_cells (same_number number) t (size_of table t) b (map (cells_at table (same_number number)) (m ∷ ms))) held
                  ∙ ap (cells_of_shape table (same_number number) (cells_at table (same_number number)) t (Union tag.0)) (sym e)
                  ∙ ap (λ g. cells_of_shape table (same_number number) (cells_at table (same_number number)) t g (members_at table t)) (sym tag.1)
                  ∙ sym (cells_are table w.order.0 w.order.1 (same_number number) t);
              holds = h.holds_are ∙ ap (list_any (λ (p : Layout). p.holds)) f ∙ any_holds (same_number number) (m ∷ ms) (q ∷ qs) both ∙ held;
            }
