-- Types that are the same, nodes aside, are physically equal.
use Rattle.std.proofs.Common.{◌≡◌, ℕ, zero, suc, ◌<◌, Bool, true, false, ◌&&◌, ◌||◌, List, [], ◌∷◌, ◌++◌, length, map, nat_lt, ◌==◌, if◌then◌else◌, refl, ap, sym, subst, ◌∙◌, inl, inr, ◌⊎◌, true≢false, arith}
use Rattle.std.specs.List.{Contains, repeat, range_with_len}
use Rattle.std.proofs.lemmas.Bool.Decides.{Decides-eqb, nat_tests}
use Rattle.std.proofs.lemmas.List.Elements.{All-contains}
use Rattle.std.proofs.lemmas.Cmp.{nat_eq_equiv}
use lib.Pointwise.{pointwise}
use Rattle.cc_base.specs.declared.number.TypeId.{TypeId}
use Rattle.cc_base.specs.declared.number.NodeId.{NodeId}
use Rattle.c_types.specs.declared.shape.TypeShape.{TypeShape}
use Rattle.c_types.specs.declared.shape.TypeShape.TheVariants.{Void, Integer, Pointer, Array, Function, Struct, Union}
use Rattle.c_types.specs.Table.{Table, IsType, shape_at, members_at, named_by, parts_of_shape}
use Rattle.c_types.specs.Cells.{Cell, raw, pointer, mixed, incomplete, Relation, same_type, alike, all_alike, pointer_cells, cells_of_shape, cells_at}
use Rattle.c_types.specs.Equality.{Slot, nothing, integer, pointer_to, other, slot_of, same_bool, same_slot, Makeup, code, bytes, makeup_of, same_makeup, made_alike, within, physically_equal}
use Rattle.c_types.specs.Sameness.{same_shape, is_same_type}
use Rattle.c_types.specs.Sound.{IsWellFormed}
use Rattle.c_types.proofs.Cells.{cells_are}
use Rattle.c_types.proofs.Lists.{contains_head, contains_tail}
use Rattle.c_types.proofs.Shapes.{first_true, second_true}
use Rattle.c_types.proofs.Sameness.{same_is}
use Rattle.type_laws.proofs.Relations.{same_type_equiv, same_id}
use Rattle.type_laws.proofs.Levels.{widest}

or-left : (a b : Bool) → a ≡ true → (a || b) ≡ true
or-left a b h = ap (λ x. x || b) h

or-right : (a b : Bool) → b ≡ true → (a || b) ≡ true
or-right true b h = refl
or-right false b h = h

either : (a b : Bool) → (a || b) ≡ true → (a ≡ true) ⊎ (b ≡ true)
either true b h = inl refl
either false b h = inr h

one-bool : (a b : Bool) → same_bool a b ≡ true → a ≡ b
one-bool true true h = refl
one-bool false false h = refl
one-bool true false h = absurd (true≢false (sym h))
one-bool false true h = absurd (true≢false (sym h))

bool-own : (a : Bool) → same_bool a a ≡ true
bool-own true = refl
bool-own false = refl

one-id : (t u : TypeId) → same_type t u ≡ true → t ≡ u
one-id t u h = ap (λ (n : ℕ). record { 0 = n }) (same_id t u h)

-- Lists that are alike

module _ (E : Relation) where
  all-append : (xs ys vs ws : List Cell) → all_alike E xs ys ≡ true → all_alike E vs ws ≡ true → all_alike E (xs ++ vs) (ys ++ ws) ≡ true
  all-append [] [] vs ws h k = k
  all-append [] (y ∷ ys) vs ws h k = absurd (true≢false (sym h))
  all-append (x ∷ xs) [] vs ws h k = absurd (true≢false (sym h))
  all-append (x ∷ xs) (y ∷ ys) vs ws h k = λ i. first_true (alike E x y) _ h i && all-append xs ys vs ws (second_true (alike E x y) _ h) k i

  all-repeat : (n : ℕ) (xs ys : List Cell) → all_alike E xs ys ≡ true → all_alike E (repeat n xs) (repeat n ys) ≡ true
  all-repeat zero xs ys h = refl
  all-repeat (suc n) xs ys h = all-append xs ys (repeat n xs) (repeat n ys) h (all-repeat n xs ys h)

  all-pointers : (n m : NodeId) (t u : TypeId) (is : List ℕ) → E t u ≡ true → all_alike E (map (pointer n t) is) (map (pointer m u) is) ≡ true
  all-pointers n m t u [] h = refl
  all-pointers n m t u (i ∷ is) h = λ j. (nat_eq_equiv.refl i j && h j) && all-pointers n m t u is h j

  module _ (own : (t : TypeId) → E t t ≡ true) where
    alike-own : (x : Cell) → alike E x x ≡ true
    alike-own raw = refl
    alike-own (pointer n t i) = λ j. nat_eq_equiv.refl i j && own t j
    alike-own (mixed t i) = λ j. same_type_equiv.refl t j && nat_eq_equiv.refl i j
    alike-own (incomplete t) = same_type_equiv.refl t

    all-own : (xs : List Cell) → all_alike E xs xs ≡ true
    all-own [] = refl
    all-own (x ∷ xs) = λ i. alike-own x i && all-own xs i

    slot-own : (x : Slot) → same_slot E x x ≡ true
    slot-own nothing = refl
    slot-own (integer a s) = λ j. nat_eq_equiv.refl a j && bool-own s j
    slot-own (pointer_to t) = own t
    slot-own (other t) = own t

    slots-own : (xs : List Slot) → pointwise (same_slot E) xs xs ≡ true
    slots-own [] = refl
    slots-own (x ∷ xs) = λ i. slot-own x i && slots-own xs i

    makeup-own : (x : Makeup) → same_makeup E x x ≡ true
    makeup-own (code xs) = slots-own xs
    makeup-own (bytes xs) = all-own xs

module _ (table : Table) (w : IsWellFormed table) where
  abbrev R : Relation
  R = within table (λ t u. same_type t u || is_same_type table t u)

  R-own : (t : TypeId) → R t t ≡ true
  R-own t = by (nat_lt t.0 (length table))
    where
      by : (a : Bool) → (if a && a then (same_type t t || is_same_type table t t) else same_type t t) ≡ true
      by true = or-left (same_type t t) (is_same_type table t t) (same_type_equiv.refl t)
      by false = same_type_equiv.refl t

  less : (t : TypeId) → IsType table t → nat_lt t.0 (length table) ≡ true
  less t h = grind (arith, nat_tests)

  R-same : (t u : TypeId) → IsType table t → IsType table u → is_same_type table t u ≡ true → R t u ≡ true
  R-same t u a b h =
      ap (λ c. if c && nat_lt u.0 (length table) then (same_type t u || is_same_type table t u) else same_type t u) (less t a)
      ∙ ap (λ c. if c then (same_type t u || is_same_type table t u) else same_type t u) (less u b)
      ∙ or-right (same_type t u) (is_same_type table t u) h

  one-shape : (t u : TypeId) → IsType table t → IsType table u → shape_at table u ≡ shape_at table t → t ≡ u
  one-shape t u a b e = w.distinct t u a (b, e)

  named : (t x : TypeId) (s : TypeShape) → shape_at table t ≡ s → Contains (named_by s) x → IsType table x
  named t x s e c = All-contains (IsType table) (named_by (shape_at table t)) x (w.each t).named (subst (λ z. Contains (named_by z) x) (sym e) c)

  cells-shaped : (t : TypeId) (s : TypeShape) → shape_at table t ≡ s → cells_at table R t ≡ cells_of_shape table R (cells_at table R) t s (members_at table t)
  cells-shaped t s e = cells_are table w.order.0 w.order.1 R t ∙ ap (λ z. cells_of_shape table R (cells_at table R) t z (members_at table t)) e

  both : (t u : TypeId) (xs ys : List Cell) → cells_at table R t ≡ xs → cells_at table R u ≡ ys → all_alike R xs ys ≡ true → all_alike R (cells_at table R t) (cells_at table R u) ≡ true
  both t u xs ys e f h = (λ i. all_alike R (e i) (f i)) ∙ h

  abbrev Before : ℕ → Type 0
  Before n = (x y : TypeId) → w.order.0 x < n → IsType table x → IsType table y → is_same_type table x y ≡ true → all_alike R (cells_at table R x) (cells_at table R y) ≡ true

  cells-same : (n : ℕ) (t u : TypeId) → w.order.0 t < n → IsType table t → IsType table u → is_same_type table t u ≡ true → all_alike R (cells_at table R t) (cells_at table R u) ≡ true
  cells-same zero t u l a b h = absurd (omega (arith, l))
  cells-same (suc n) t u l a b h = by (λ x y m c d k. cells-same n x y m c d k) (shape_at table t) (shape_at table u) refl refl (sym (same_is table w t u a) ∙ h)
    where
      equal : (s : TypeShape) → shape_at table t ≡ s → shape_at table u ≡ s → all_alike R (cells_at table R t) (cells_at table R u) ≡ true
      equal s e f = ap (λ y. all_alike R (cells_at table R t) (cells_at table R y)) (sym (one-shape t u a b (f ∙ sym e))) ∙ all-own R R-own (cells_at table R t)

      by : Before n → (s r : TypeShape) → shape_at table t ≡ s → shape_at table u ≡ r → same_shape (is_same_type table) s r ≡ true → all_alike R (cells_at table R t) (cells_at table R u) ≡ true
      by before Void Void e f k = equal Void e f
      by before (Integer c s) (Integer d r) e f k =
          equal (Integer c s) e (f ∙ sym (λ i. Integer ((Decides-eqb c d).0 (first_true (c == d) _ k) i) (one-bool s r (second_true (c == d) _ k) i)))
      by before (Struct c) (Struct d) e f k = equal (Struct c) e (f ∙ sym (ap Struct ((Decides-eqb c d).0 k)))
      by before (Union c) (Union d) e f k = equal (Union c) e (f ∙ sym (ap Union ((Decides-eqb c d).0 k)))
      by before (Pointer m x) (Pointer o y) e f k =
          both t u (pointer_cells m x) (pointer_cells o y) (cells-shaped t (Pointer m x) e) (cells-shaped u (Pointer o y) f)
          (all-pointers R m o x y (range_with_len 0 8) (R-same x y (named t x (Pointer m x) e (contains_head x [])) (named u y (Pointer o y) f (contains_head y [])) k))
      by before (Array x c) (Array y d) e f k =
          let z : c ≡ d = (Decides-eqb c d).0 (first_true (c == d) _ k) in
          let g = w.order.1.falls t x (subst (λ s. Contains (parts_of_shape s (members_at table t)) x) (sym e) (contains_head x [])) in
          both t u (repeat c (cells_at table R x)) (repeat c (cells_at table R y)) (cells-shaped t (Array x c) e)
          (cells-shaped u (Array y d) f ∙ ap (λ j. repeat j (cells_at table R y)) (sym z))
          (all-repeat R c (cells_at table R x) (cells_at table R y)
          (before x y (omega (arith, l, g)) (named t x (Array x c) e (contains_head x [])) (named u y (Array y d) f (contains_head y [])) (second_true (c == d) _ k)))
      by before (Function ps c) (Function qs d) e f k = both t u [] [] (cells-shaped t (Function ps c) e) (cells-shaped u (Function qs d) f) refl
      by before s r e f k = absurd (true≢false (sym k))

  slot-same : (p q : TypeId) → IsType table p → IsType table q → is_same_type table p q ≡ true → same_slot R (slot_of p (shape_at table p)) (slot_of q (shape_at table q)) ≡ true
  slot-same p q a b h = by (shape_at table p) (shape_at table q) refl refl (sym (same_is table w p q a) ∙ h) (R-same p q a b h)
    where
      by : (s r : TypeShape) → shape_at table p ≡ s → shape_at table q ≡ r → same_shape (is_same_type table) s r ≡ true → R p q ≡ true → same_slot R (slot_of p s) (slot_of q r) ≡ true
      by Void Void e f k o = refl
      by (Integer c s) (Integer d r) e f k o = k
      by (Struct c) (Struct d) e f k o = o
      by (Union c) (Union d) e f k o = o
      by (Pointer m x) (Pointer u y) e f k o = R-same x y (named p x (Pointer m x) e (contains_head x [])) (named q y (Pointer u y) f (contains_head y [])) k
      by (Array x c) (Array y d) e f k o = o
      by (Function ps c) (Function qs d) e f k o = o
      by s r e f k o = absurd (true≢false (sym k))

  slots-same : (ps qs : List TypeId) → ((p : TypeId) → Contains ps p → IsType table p) → ((q : TypeId) → Contains qs q → IsType table q)
      → pointwise (is_same_type table) ps qs ≡ true → pointwise (same_slot R) (map (λ p. slot_of p (shape_at table p)) ps) (map (λ p. slot_of p (shape_at table p)) qs) ≡ true
  slots-same [] [] a b h = refl
  slots-same [] (q ∷ qs) a b h = absurd (true≢false (sym h))
  slots-same (p ∷ ps) [] a b h = absurd (true≢false (sym h))
  slots-same (p ∷ ps) (q ∷ qs) a b h =
      λ i. slot-same p q (a p (contains_head p ps)) (b q (contains_head q qs)) (first_true (is_same_type table p q) _ h) i
      && slots-same ps qs (λ x c. a x (contains_tail p ps x c)) (λ x c. b x (contains_tail q qs x c)) (second_true (is_same_type table p q) _ h) i

  made-same : (t u : TypeId) → IsType table t → IsType table u → is_same_type table t u ≡ true → made_alike table R t u ≡ true
  made-same t u a b h = by (shape_at table t) (shape_at table u) refl refl (sym (same_is table w t u a) ∙ h) (cells-same (suc (w.order.0 t)) t u (omega arith) a b h)
    where
      by : (s r : TypeShape) → shape_at table t ≡ s → shape_at table u ≡ r → same_shape (is_same_type table) s r ≡ true → all_alike R (cells_at table R t) (cells_at table R u) ≡ true
          → same_makeup R (makeup_of table R t s) (makeup_of table R u r) ≡ true
      by Void Void e f k c = c
      by (Integer x s) (Integer y r) e f k c = c
      by (Struct x) (Struct y) e f k c = c
      by (Union x) (Union y) e f k c = c
      by (Pointer m x) (Pointer o y) e f k c = c
      by (Array x m) (Array y o) e f k c = c
      by (Function ps x) (Function qs y) e f k c =
          slots-same (x ∷ ps) (y ∷ qs) (λ p. named t p (Function ps x) e) (λ q. named u q (Function qs y) f) k
      by s r e f k c = absurd (true≢false (sym k))

  step : (t u : TypeId) → R t u ≡ true → within table (made_alike table R) t u ≡ true
  step t u = by (nat_lt t.0 (length table)) (nat_lt u.0 (length table)) refl refl
    where
      typed : (x : TypeId) → nat_lt x.0 (length table) ≡ true → IsType table x
      typed x e = grind (arith, nat_tests)

      by : (a b : Bool) → nat_lt t.0 (length table) ≡ a → nat_lt u.0 (length table) ≡ b → (if a && b then (same_type t u || is_same_type table t u) else same_type t u) ≡ true
          → (if a && b then made_alike table R t u else same_type t u) ≡ true
      by true true x y h = elim (either (same_type t u) (is_same_type table t u) h) [
        | inl e ↦ ap (λ z. made_alike table R t z) (sym (one-id t u e)) ∙ makeup-own R R-own (makeup_of table R t (shape_at table t))
        | inr e ↦ made-same t u (typed t x) (typed u y) e
      ]
      by true false x y h = h
      by false true x y h = h
      by false false x y h = h

  pub same-is-equal : (t u : TypeId) → IsType table t → IsType table u → is_same_type table t u ≡ true → physically_equal table t u ≡ true
  same-is-equal t u a b h = widest table w R step t u (R-same t u a b h)
