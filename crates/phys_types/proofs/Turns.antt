use Rattle.std.proofs.Common.{◌≡◌, ℕ, ◌-◌, Bool, true, false, not, List, ◌∷◌, nat_le, slice_get, Some, refl, ap, sym, ◌∙◌, true≢false, arith}
use Rattle.cc_base.specs.declared.number.TypeId.{TypeId}
use Rattle.c_types.specs.declared.shape.TypeShape.TheVariants.{Function}
use Rattle.c_types.specs.Table.{Table, IsType, shape_at, is_function}
use Rattle.c_types.specs.Layouts.{size_of}
use Rattle.c_types.specs.Equality.{physically_equal, begins_with}
use Rattle.c_types.specs.Flows.{HeldPointer, pointer_at, StandAlike}
use Rattle.c_types.specs.Sound.{IsWellFormed}
use Rattle.c_types.proofs.Shapes.{first_true, second_true}
use Rattle.type_laws.proofs.Relations.{equal_equiv}
use Rattle.type_laws.proofs.Pointers.{begins_with_own}
use Rattle.phys_types.specs.declared.spot.Spot.{Spot}
use Rattle.phys_types.specs.declared.spot.Layout.{Layout}
use Rattle.phys_types.specs.Spots.{cells_from}
use Rattle.phys_types.specs.Numbers.{begin_with_spots}
use Rattle.phys_types.specs.Shown.{IsLayoutOf, begins_spots}
use Rattle.phys_types.specs.Standing.{pointer_of_item, IsAtSpot, IsAtSlot, StandInTurn}
use Rattle.phys_types.proofs.Classes.{begins_right}
use Rattle.phys_types.proofs.LawLemmas.{number, numbered, equal_cells, begins_equal}
use Rattle.phys_types.proofs.SpotPointers.{found_in, spot_of_cell, cell_of_spot, one_place, front_there}
use Rattle.phys_types.proofs.Reached.{at_cell, at_slot, slot_at}

-- Pointers at the same place have the same number among the spots of their types, or among the results and parameters.

not_true : (b : Bool) → not b ≡ true → b ≡ false
not_true true h = absurd (true≢false (sym h))
not_true false h = refl

same_spot_there : (s r : Spot) → Some s ≡ Some r → s ≡ r
same_spot_there s r h = cc

module _ (table : Table) (t : TypeId) (x : Layout) (h : IsLayoutOf table (physically_equal table) t x) (f : is_function table t ≡ false) where
  -- a pointer is a spot that begins at its place
  pub spot_at : (i : ℕ) (p : HeldPointer) → pointer_at table t i ≡ Some p
      → (k : ℕ) × (s : Spot) × (slice_get x.spots.items k ≡ Some s) × (pointer_of_item s.item ≡ Some p) × (s.start ≡ i)
  spot_at i p e =
      let c = spot_of_cell (size_of table) 0 x.size x.spots.items i p h.spots (ap (λ xs. found_in xs i) h.cells ∙ sym (at_cell table t i f) ∙ e) in
      (c.0, c.1, c.2, c.3, (let z = c.4 in omega arith))

  pub at_spot : (k : ℕ) (s : Spot) (p : HeldPointer) → slice_get x.spots.items k ≡ Some s → pointer_of_item s.item ≡ Some p → pointer_at table t s.start ≡ Some p
  at_spot k s p a b =
      at_cell table t s.start f
      ∙ ap (λ xs. found_in xs s.start) (sym h.cells)
      ∙ ap (found_in (cells_from 0 x.spots.items x.size)) (none s.start)
      ∙ cell_of_spot (size_of table) 0 x.size x.spots.items k s p h.spots a b
    where
      none : (n : ℕ) → n ≡ n - 0
      none n = omega arith

module _ (table : Table) (w : IsWellFormed table) where
  pub begins_data : (t u : TypeId) → begins_with table t u ≡ true → (is_function table t ≡ false) × (is_function table u ≡ false)
  begins_data t u h =
      let rest = second_true (not (is_function table t)) _ h in
      (not_true (is_function table t) (first_true (not (is_function table t)) _ h), not_true (is_function table u) (first_true (not (is_function table u)) _ rest))

  pub equal_begins : (t u : TypeId) → is_function table t ≡ false → physically_equal table t u ≡ true → begins_with table t u ≡ true
  equal_begins t u f e = begins_equal table w t t u (begins_with_own table t f) e

  module _ (t u : TypeId) (x y : Layout) (a : IsType table t) (b : IsType table u) (h : IsLayoutOf table (physically_equal table) t x) (k : IsLayoutOf table (physically_equal table) u y)
      (e : begins_with table t u ≡ true) where
    pub spots_begin : begins_spots (number table w) x y ≡ true
    spots_begin = let f = begins_data t u e in begins_right table w (number table w) (numbered table w) x y t u a b h k f.0 f.1 ∙ e

    front : begin_with_spots (number table w) y.size x.spots.items y.spots.items ≡ true
    front = second_true (nat_le y.size x.size) _ spots_begin

    -- a spot of u stands where the spot of t with its number does
    pub there : (i : ℕ) (r : Spot) → slice_get y.spots.items i ≡ Some r → (s : Spot) × (slice_get x.spots.items i ≡ Some s) × (s.start ≡ r.start)
    there i r c = front_there (number table w) y.size x.spots.items y.spots.items i r front c

    pub turns_from_alike : (p q : HeldPointer) → StandAlike table t u p q → StandInTurn (IsAtSpot x.spots.items) (IsAtSpot y.spots.items) p q
    turns_from_alike p q (i, c, d) =
        let f = begins_data t u e in
        let l = spot_at table t x h f.0 i p c in let m = spot_at table u y k f.1 i q d in
        let n = there m.0 m.1 m.2 in
        let z = one_place (size_of table) 0 x.size x.spots.items l.0 m.0 l.1 n.0 h.spots l.2 n.1 (l.4 ∙ sym m.4 ∙ sym n.2) in
        (m.0, (l.1, ap (λ j. slice_get x.spots.items j) (sym z) ∙ l.2, l.3), (m.1, m.2, m.3))

    pub alike_from_turns : (p q : HeldPointer) → StandInTurn (IsAtSpot x.spots.items) (IsAtSpot y.spots.items) p q → StandAlike table t u p q
    alike_from_turns p q (i, (s, c, d), (r, l, m)) =
        let f = begins_data t u e in
        let n = there i r l in
        let z : s.start ≡ r.start = ap (λ (v : Spot). v.start) (same_spot_there s n.0 (sym c ∙ n.1)) ∙ n.2 in
        (r.start, ap (pointer_at table t) (sym z) ∙ at_spot table t x h f.0 i s p c d, at_spot table u y k f.1 i r q l m)

  -- ---- functions

  pub equal_function : (t u : TypeId) → physically_equal table t u ≡ true → is_function table t ≡ true → is_function table u ≡ true
  equal_function t u e f = by (is_function table u) refl
    where
      by : (b : Bool) → is_function table u ≡ b → is_function table u ≡ true
      by true g = g
      by false g = absurd (true≢false (sym f ∙ (equal_cells table w u t g ((equal_equiv table).symm u t ∙ e)).0))

  pub slots_from_alike : (t u : TypeId) (ps qs : List TypeId) (r s : TypeId) → shape_at table t ≡ Function ps r → shape_at table u ≡ Function qs s
      → (p q : HeldPointer) → StandAlike table t u p q → StandInTurn (IsAtSlot table (r ∷ ps)) (IsAtSlot table (s ∷ qs)) p q
  slots_from_alike t u ps qs r s e f p q (i, a, b) = (i, at_slot table t ps r i p e a, at_slot table u qs s i q f b)

  pub alike_from_slots : (t u : TypeId) (ps qs : List TypeId) (r s : TypeId) → shape_at table t ≡ Function ps r → shape_at table u ≡ Function qs s
      → (p q : HeldPointer) → StandInTurn (IsAtSlot table (r ∷ ps)) (IsAtSlot table (s ∷ qs)) p q → StandAlike table t u p q
  alike_from_slots t u ps qs r s e f p q (i, a, b) = (i, slot_at table t ps r i p e a, slot_at table u qs s i q f b)
