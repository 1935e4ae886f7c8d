use Rattle.std.proofs.Common.{◌≡◌, ℕ, suc, Bool, true, false, ◌&&◌, List, [], ◌∷◌, map, ◌==◌, refl, ap, sym, subst, ◌∙◌, arith}
use Rattle.std.specs.List.{All}
use Rattle.std.proofs.lemmas.Bool.Decides.{Decides-eqb}
use lib.Pointwise.{pointwise, pointwise_long}
use Rattle.cc_base.specs.declared.number.TypeId.{TypeId}
use Rattle.c_types.specs.declared.shape.TypeShape.{TypeShape}
use Rattle.c_types.specs.declared.shape.TypeShape.TheVariants.{Void, Integer, Pointer, Array, Function, Struct, Union}
use Rattle.c_types.specs.Table.{Table, IsType, shape_at, named_by}
use Rattle.c_types.specs.Layouts.{size_of}
use Rattle.c_types.specs.Cells.{Relation, alike, all_alike, cells_at}
use Rattle.c_types.specs.Equality.{bytes, slot_of, same_slot, makeup_of, makeup_at, same_makeup}
use Rattle.c_types.specs.Sound.{IsWellFormed}
use Rattle.phys_types.specs.declared.spot.Layout.{Layout}
use Rattle.phys_types.specs.declared.spot.Spot.{Spot}
use Rattle.phys_types.specs.Spots.{cells_from, AreSpots}
use Rattle.phys_types.specs.Numbers.{same_number, same_spots}
use Rattle.phys_types.specs.Shown.{IsLayoutOf}
use Rattle.phys_types.proofs.Spreading.{length_all}
use Rattle.phys_types.proofs.Repeating.{cells_from_same, same_from_cells}
use Rattle.phys_types.proofs.Unions.{same_answer}

-- Whether two types are made alike.

pub pointwise_map : {X Y : Type 0} (E : Y → Y → Bool) (f : X → Y) (xs ys : List X) → pointwise E (map f xs) (map f ys) ≡ pointwise (λ x y. E (f x) (f y)) xs ys
pointwise_map E f [] [] = refl
pointwise_map E f [] (y ∷ ys) = refl
pointwise_map E f (x ∷ xs) [] = refl
pointwise_map E f (x ∷ xs) (y ∷ ys) = ap (λ b. E (f x) (f y) && b) (pointwise_map E f xs ys)

pub named_types : (table : Table) → IsWellFormed table → (t : TypeId) (ps : List TypeId) (r : TypeId) → shape_at table t ≡ Function ps r → All (IsType table) (r ∷ ps)
named_types table w t ps r e = subst (λ s. All (IsType table) (named_by s)) e (w.each t).named

pub all_tail : (P : TypeId → Type 0) (x : TypeId) (xs : List TypeId) → All P (x ∷ xs) → All P xs
all_tail P x xs h i d l = h (suc i) d (omega arith)

pub all_head : (P : TypeId → Type 0) (x : TypeId) (xs : List TypeId) → All P (x ∷ xs) → P x
all_head P x xs h = h 0 x (omega arith)

-- the makeups are those where unions are mixed or not by Z
module _ (table : Table) (Z E : Relation) (t u : TypeId) where
  pub code_alike : (ps qs : List TypeId) (r s : TypeId) (a b : Bool) → shape_at table t ≡ Function ps r → shape_at table u ≡ Function qs s
      → a ≡ same_slot E (slot_of r (shape_at table r)) (slot_of s (shape_at table s)) → a ≡ true
      → b ≡ pointwise (λ p q. same_slot E (slot_of p (shape_at table p)) (slot_of q (shape_at table q))) ps qs → b ≡ same_makeup E (makeup_at table Z t) (makeup_at table Z u)
  code_alike ps qs r s a b e f k l m =
      m
      ∙ sym (pointwise_map (same_slot E) (λ p. slot_of p (shape_at table p)) ps qs)
      ∙ ap (λ x. x && pointwise (same_slot E) (map (λ p. slot_of p (shape_at table p)) ps) (map (λ p. slot_of p (shape_at table p)) qs)) (sym l ∙ k)
      ∙ (λ i. same_makeup E (makeup_of table Z t (sym e i)) (makeup_of table Z u (sym f i)))

  pub bytes_of : (t : TypeId) (s : TypeShape) → ((ps : List TypeId) (r : TypeId) → s ≡ Function ps r → ⊥) → makeup_of table Z t s ≡ bytes (cells_at table Z t)
  bytes_of t Void n = refl
  bytes_of t (Integer b s) n = refl
  bytes_of t (Pointer m v) n = refl
  bytes_of t (Array e c) n = refl
  bytes_of t (Function ps r) n = absurd (n ps r refl)
  bytes_of t (Struct g) n = refl
  bytes_of t (Union g) n = refl

  data_alike : ((ps : List TypeId) (r : TypeId) → shape_at table t ≡ Function ps r → ⊥) → ((ps : List TypeId) (r : TypeId) → shape_at table u ≡ Function ps r → ⊥)
      → same_makeup E (makeup_at table Z t) (makeup_at table Z u) ≡ all_alike E (cells_at table Z t) (cells_at table Z u)
  data_alike n m = λ i. same_makeup E (bytes_of t (shape_at table t) n i) (bytes_of u (shape_at table u) m i)

module _ (table : Table) (Z : Relation) (number : TypeId → ℕ) (t u : TypeId) (i j : ℕ) (xs ys : List Spot)
    (n : (ps : List TypeId) (r : TypeId) → shape_at table t ≡ Function ps r → ⊥) (m : (ps : List TypeId) (r : TypeId) → shape_at table u ≡ Function ps r → ⊥)
    (hs : AreSpots (size_of table) 0 xs i) (h : cells_from 0 xs i ≡ cells_at table Z t)
    (ks : AreSpots (size_of table) 0 ys j) (k : cells_from 0 ys j ≡ cells_at table Z u) where
  abbrev alike_is : Bool
  alike_is = same_makeup (same_number number) (makeup_at table Z t) (makeup_at table Z u)

  cells_is : all_alike (same_number number) (cells_from 0 xs i) (cells_from 0 ys j) ≡ alike_is
  cells_is = (λ l. all_alike (same_number number) (h l) (k l)) ∙ sym (data_alike table Z (same_number number) t u n m)

  pub spots_alike : (b : Bool) → i ≡ j → b ≡ same_spots number xs ys → b ≡ alike_is
  spots_alike b e f =
      let other : AreSpots (size_of table) 0 ys i = subst (AreSpots (size_of table) 0 ys) (sym e) ks in
      f
      ∙ same_answer (same_spots number xs ys) (all_alike (same_number number) (cells_from 0 xs i) (cells_from 0 ys i))
      (cells_from_same number (size_of table) 0 i xs ys hs other)
      (same_from_cells number (size_of table) 0 i xs ys hs other)
      ∙ ap (λ l. all_alike (same_number number) (cells_from 0 xs i) (cells_from 0 ys l)) e
      ∙ cells_is

  pub lengths_apart : (i ≡ j → ⊥) → false ≡ alike_is
  lengths_apart e = by (all_alike (same_number number) (cells_from 0 xs i) (cells_from 0 ys j)) refl
    where
      by : (b : Bool) → all_alike (same_number number) (cells_from 0 xs i) (cells_from 0 ys j) ≡ b → false ≡ alike_is
      by true f =
          absurd (e (sym (length_all (size_of table) xs i hs)
          ∙ pointwise_long (alike (same_number number)) (cells_from 0 xs i) (cells_from 0 ys j) f
          ∙ length_all (size_of table) ys j ks))
      by false f = sym f ∙ cells_is

module _ (table : Table) (Z : Relation) (number : TypeId → ℕ) (t u : TypeId) (x y : Layout)
    (n : (ps : List TypeId) (r : TypeId) → shape_at table t ≡ Function ps r → ⊥) (m : (ps : List TypeId) (r : TypeId) → shape_at table u ≡ Function ps r → ⊥)
    (h : IsLayoutOf table Z t x) (k : IsLayoutOf table Z u y) where
  pub same_size_alike : (b : Bool) → x.size ≡ y.size → b ≡ same_spots number x.spots.items y.spots.items → b ≡ same_makeup (same_number number) (makeup_at table Z t) (makeup_at table Z u)
  same_size_alike = spots_alike table Z number t u x.size y.size x.spots.items y.spots.items n m h.spots h.cells k.spots k.cells

  pub other_size_apart : (x.size ≡ y.size → ⊥) → false ≡ same_makeup (same_number number) (makeup_at table Z t) (makeup_at table Z u)
  other_size_apart = lengths_apart table Z number t u x.size y.size x.spots.items y.spots.items n m h.spots h.cells k.spots k.cells

pub not_equal : (a b : ℕ) → (a ≡ b → ⊥) → (a == b) ≡ false
not_equal a b h = by (a == b) refl
  where
    by : (c : Bool) → (a == b) ≡ c → (a == b) ≡ false
    by true e = absurd (h ((Decides-eqb a b).0 e))
    by false e = e
