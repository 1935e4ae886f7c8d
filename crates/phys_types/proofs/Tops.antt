use Rattle.std.proofs.Common.{◌≡◌, ℕ, ◌⊎◌, inl, inr, Bool, true, false, ◌||◌, List, length, sym, subst, ◌∙◌, true≢false}
use Rattle.std.specs.Int.{IsGcd}
use Rattle.std.proofs.lemmas.Nat.Gcd.{IsGcd-swap}
use Rattle.cc_base.specs.declared.number.TypeId.{TypeId}
use Rattle.c_types.specs.declared.flow_class.FlowClass.{FlowClass}
use Rattle.c_types.specs.declared.flow_class.FlowClass.TheVariants.{UpTile, Up, DownTile, Down, Tile}
use Rattle.c_types.specs.Table.{Table, IsType}
use Rattle.c_types.specs.Equality.{physically_equal, begins_with, tile}
use Rattle.c_types.specs.Flows.{flow_class, HeldPointer, StandAlike, StandInTiles, CorrespondAtTop}
use Rattle.c_types.specs.Sound.{IsWellFormed}
use Rattle.phys_types.specs.declared.spot.Layout.{Layout}
use Rattle.phys_types.specs.declared.spot.Spot.{Spot}
use Rattle.phys_types.specs.Found.{Pairs, Gains}
use Rattle.phys_types.specs.Numbers.{spots_before}
use Rattle.phys_types.specs.Shown.{IsLayoutOf}
use Rattle.phys_types.specs.Standing.{IsAtSpot, StandInTurn, StandInColumns}
use Rattle.phys_types.proofs.Periods.{some_gcd}
use Rattle.phys_types.proofs.Classes.{tile_turned}
use Rattle.phys_types.proofs.LawLemmas.{tiles_begin}
use Rattle.phys_types.proofs.FoundLemmas.{gains_as}
use Rattle.phys_types.proofs.Turns.{begins_data, turns_from_alike, alike_from_turns}
use Rattle.phys_types.proofs.Columns.{columns_from_tiles, tiles_from_columns, unit_some, unit_ordered, long_rows, short_rows}
use Rattle.phys_types.proofs.Reached.{Tells, class_tells}

-- The pointers that correspond at the top, by the class of a flow.

turned_turn : (xs ys : List Spot) (p q : HeldPointer) → StandInTurn (IsAtSpot xs) (IsAtSpot ys) p q → StandInTurn (IsAtSpot ys) (IsAtSpot xs) q p
turned_turn xs ys p q (i, a, b) = (i, b, a)

turned_alike : (table : Table) (t u : TypeId) (p q : HeldPointer) → StandAlike table t u p q → StandAlike table u t q p
turned_alike table t u p q (i, a, b) = (i, b, a)

module _ (table : Table) (w : IsWellFormed table) (t u : TypeId) (x y : Layout) (a : IsType table t) (b : IsType table u) (h : IsLayoutOf table (physically_equal table) t x)
    (k : IsLayoutOf table (physically_equal table) u y) (m n : Pairs) (xs ys : List Spot) (i : xs ≡ x.spots.items) (j : ys ≡ y.spots.items) where
  given_turns : Gains (StandInTurn (IsAtSpot xs) (IsAtSpot ys)) m n → Gains (StandInTurn (IsAtSpot x.spots.items) (IsAtSpot y.spots.items)) m n
  given_turns g =
      subst (λ zs. Gains (StandInTurn (IsAtSpot zs) (IsAtSpot y.spots.items)) m n) i (subst (λ zs. Gains (StandInTurn (IsAtSpot xs) (IsAtSpot zs)) m n) j g)

  told : (c : FlowClass) → flow_class table t u ≡ c → Tells table w t u c
  told c e = subst (Tells table w t u) e (class_tells table w t u)

  of_class : (c : FlowClass) → flow_class table t u ≡ c → Gains (CorrespondAtTop table c t u) m n → Gains (CorrespondAtTop table (flow_class table t u) t u) m n
  of_class c e g = subst (λ d. Gains (CorrespondAtTop table d t u) m n) (sym e) g

  -- where the first type begins with the second
  pub alike_front : begins_with table t u ≡ true → Gains (StandInTurn (IsAtSpot xs) (IsAtSpot ys)) m n → Gains (StandAlike table t u) m n
  alike_front e g =
      gains_as (StandInTurn (IsAtSpot x.spots.items) (IsAtSpot y.spots.items)) (StandAlike table t u) m n
      (alike_from_turns table w t u x y a b h k e) (turns_from_alike table w t u x y a b h k e) (given_turns g)

  -- where the second begins with the first
  pub alike_back : begins_with table u t ≡ true → Gains (StandInTurn (IsAtSpot xs) (IsAtSpot ys)) m n → Gains (StandAlike table t u) m n
  alike_back e g =
      gains_as (StandInTurn (IsAtSpot x.spots.items) (IsAtSpot y.spots.items)) (StandAlike table t u) m n
      (λ p q s. turned_alike table u t q p (alike_from_turns table w u t y x b a k h e q p (turned_turn x.spots.items y.spots.items p q s)))
      (λ p q s. turned_turn y.spots.items x.spots.items q p (turns_from_alike table w u t y x b a k h e q p (turned_alike table t u p q s)))
      (given_turns g)

  -- where two types aren't equal, but one begins with the other
  pub alike_near : (c : Bool) → c ≡ physically_equal table t u → c ≡ false
      → (physically_equal table t u ≡ true) ⊎ ((begins_with table t u ≡ true) ⊎ (begins_with table u t ≡ true))
      → Gains (StandInTurn (IsAtSpot xs) (IsAtSpot ys)) m n → Gains (StandAlike table t u) m n
  alike_near c e f near g = elim near [
    | inl q ↦ absurd (true≢false (sym q ∙ sym e ∙ f))
    | inr r ↦ elim r [ inl q ↦ alike_front q g | inr q ↦ alike_back q g ]
  ]

  pub top_up : flow_class table t u ≡ Up → Gains (StandInTurn (IsAtSpot xs) (IsAtSpot ys)) m n → Gains (CorrespondAtTop table (flow_class table t u) t u) m n
  top_up e g = of_class Up e (alike_front (told Up e) g)

  pub top_down : flow_class table t u ≡ Down → Gains (StandInTurn (IsAtSpot xs) (IsAtSpot ys)) m n → Gains (CorrespondAtTop table (flow_class table t u) t u) m n
  top_down e g = of_class Down e (alike_back (told Down e) g)

  given_columns : (c d : ℕ) → c ≡ d → Gains (StandInColumns c xs ys c) m n → Gains (StandInColumns d x.spots.items y.spots.items d) m n
  given_columns c d e g =
      subst (λ v. Gains (StandInColumns v x.spots.items y.spots.items v) m n) e
      (subst (λ zs. Gains (StandInColumns c zs y.spots.items c) m n) i (subst (λ zs. Gains (StandInColumns c xs zs c) m n) j g))

  pub top_up_tile : (c : ℕ) → ((g : ℕ) → IsGcd x.size y.size g → c ≡ length (spots_before g x.spots.items)) → flow_class table t u ≡ UpTile
      → Gains (StandInColumns c xs ys c) m n → Gains (CorrespondAtTop table (flow_class table t u) t u) m n
  top_up_tile c f e g =
      let z = told UpTile e in
      let d = some_gcd x.size y.size in
      let o = begins_data table w t u z.0 in
      let first : List Spot = spots_before d.0 x.spots.items in
      let l : Gains (StandInColumns (length first) x.spots.items y.spots.items (length first)) m n = given_columns c (length first) (f d.0 d.1) g in
      let some = unit_some table w t u x y a b h k z.0 z.1 d.0 d.1 in
      let ordered = unit_ordered table w t u x y a b h k z.0 z.1 d.0 d.1 in
      let long = long_rows table w t u x y a b h k z.0 z.1 d.0 d.1 in
      let short = short_rows table w t u x y a b h k z.0 z.1 d.0 d.1 in
      of_class UpTile e
      (gains_as (StandInColumns (length first) x.spots.items y.spots.items (length first)) (StandInTiles table t u) m n
      (tiles_from_columns table d.0 first some ordered t u x y h k o.0 o.1 long short d.1) (columns_from_tiles table d.0 first some ordered t u x y h k o.0 o.1 long short d.1) l)

  pub top_down_tile : (c : ℕ) → ((g : ℕ) → IsGcd y.size x.size g → c ≡ length (spots_before g y.spots.items)) → flow_class table t u ≡ DownTile
      → Gains (StandInColumns c xs ys c) m n → Gains (CorrespondAtTop table (flow_class table t u) t u) m n
  top_down_tile c f e g =
      let z = told DownTile e in
      let v : tile table u t ≡ true = sym (tile_turned table t u) ∙ z.1 in
      let d = some_gcd y.size x.size in
      let o = begins_data table w u t z.0 in
      let first : List Spot = spots_before d.0 y.spots.items in
      let l : Gains (StandInColumns (length first) x.spots.items y.spots.items (length first)) m n = given_columns c (length first) (f d.0 d.1) g in
      let some = unit_some table w u t y x b a k h z.0 v d.0 d.1 in
      let ordered = unit_ordered table w u t y x b a k h z.0 v d.0 d.1 in
      let long = long_rows table w u t y x b a k h z.0 v d.0 d.1 in
      let short = short_rows table w u t y x b a k h z.0 v d.0 d.1 in
      let s : IsGcd x.size y.size d.0 = IsGcd-swap y.size x.size d.0 d.1 in
      of_class DownTile e
      (gains_as (StandInColumns (length first) x.spots.items y.spots.items (length first)) (StandInTiles table t u) m n
      (tiles_from_columns table d.0 first some ordered t u x y h k o.1 o.0 short long s) (columns_from_tiles table d.0 first some ordered t u x y h k o.1 o.0 short long s) l)

  pub no_tile : flow_class table t u ≡ Tile → ⊥
  no_tile e =
      let z = told Tile e in
      true≢false (sym (tiles_begin table w t u z.2) ∙ (λ v. z.0 v || z.1 v))
