use Rattle.std.proofs.Common.{◌≡◌, ℕ, ◌<◌, Bool, true, false, ◌&&◌, ◌||◌, if◌then◌else◌, nat_lt, List, length, get_or, refl, ap, sym, subst, ◌∙◌, true≢false, arith}
use Rattle.std.specs.List.{Contains}
use Rattle.std.proofs.lemmas.List.Elements.{All-contains}
use Rattle.cc_base.specs.declared.number.TypeId.{TypeId}
use Rattle.std.specs.Int.{IsGcd}
use Rattle.c_types.specs.declared.flow_class.FlowClass.{FlowClass}
use Rattle.c_types.specs.declared.flow_class.FlowClass.TheVariants.{UpTile, Up, DownTile, Down, Bad}
use Rattle.c_types.specs.Table.{Table, IsType, is_function}
use Rattle.c_types.specs.Equality.{physically_equal, begins_with}
use Rattle.c_types.specs.Flows.{flow_class}
use Rattle.c_types.specs.Sound.{IsWellFormed}
use Rattle.phys_types.specs.declared.keeping.Repeated.{Repeated}
use Rattle.phys_types.specs.declared.spot.Layout.{Layout}
use Rattle.phys_types.specs.Numbers.{number_in, same_number, repeat_spots}
use Rattle.phys_types.specs.Orders.{IsWholeOrder}
use Rattle.phys_types.specs.Reach.{IsClosed}
use Rattle.phys_types.specs.Rounds.{AreSettled, AreAllKept}
use Rattle.phys_types.specs.Shown.{IsLayoutOf, IsKeptOf, IsKept, begins_spots}
use Rattle.phys_types.specs.Views.{IsPair}
use Rattle.phys_types.proofs.Makeups.{not_equal}
use Rattle.phys_types.proofs.Periods.{some_gcd}
use Rattle.phys_types.proofs.RoundLemmas.{all_low}
use Rattle.phys_types.proofs.Classes.{types_closed, begins_right, tile_right, tile_one_way, function_class, bad_class, up_class, down_class}

-- Two types of a settled table.

module _ (table : Table) (order : List TypeId) (places : List ℕ) (o : IsWholeOrder table order places) where
  in_table : (t : TypeId) → Contains order t → IsType table t
  in_table t c = All-contains (IsType table) order t o.right.types c

  pub order_closed : IsWellFormed table → IsClosed table (Contains order)
  order_closed w = record {
    named = λ t u h c. o.whole u ((types_closed table w).named t u (in_table t h) c);
    members = λ t u h c. o.whole u ((types_closed table w).members t u (in_table t h) c);
  }

  pub place_of : (t : TypeId) → IsType table t → (k : ℕ) × (k < length order) × (get_or order k t ≡ t) × (get_or places t.0 0 ≡ k)
  place_of t h =
      let c = o.whole t h in
      (c.0, c.1, c.2, ap (λ (u : TypeId). get_or places u.0 0) (sym c.2) ∙ o.right.placed c.0 t c.1)

  module _ (numbers : List ℕ) (layouts : List Repeated) (s : AreSettled table order numbers layouts) where
    pub kept_in : (t : TypeId) → IsType table t → IsKept places layouts t
    kept_in t h = let p = place_of t h in let f = o.right.fits in let a = s.all in (omega arith, let e = p.3 in let l = p.1 in omega arith)

    pub kept_is : (t : TypeId) (d : Repeated) → IsType table t → IsKeptOf table (physically_equal table) t (get_or layouts (get_or places t.0 0) d)
    kept_is t d h =
        let p = place_of t h in
        subst (λ n. IsKeptOf table (physically_equal table) t (get_or layouts n d)) (sym p.3)
        (subst (λ u. IsKeptOf table (physically_equal table) u (get_or layouts p.0 d)) p.2
        (s.shown (physically_equal table) (λ a b c e. refl) p.0 t d (let a = s.all in let l = p.1 in omega arith)))

    pub all_kept : IsWellFormed table → AreAllKept table places layouts
    all_kept w = record {
      kept = kept_in;
      low = all_low table w order places o.right (physically_equal table) layouts (s.shown (physically_equal table) (λ a b c e. refl));
      shown = kept_is;
    }

    pub pair_in : (t u : TypeId) (x y : Layout) → IsType table t → IsType table u → IsLayoutOf table (physically_equal table) t x
        → IsLayoutOf table (physically_equal table) u y → IsPair table (number_in numbers) t x u y
    pair_in t u x y h k a b = record {
      equal = λ v z p q. s.equal v z (o.whole v p) (o.whole z q);
      first = a;
      second = b;
    }

-- ---- the answers

pub apart : (number : TypeId → ℕ) (t u : TypeId) (a b : ℕ) → a ≡ number t → b ≡ number u → (a ≡ b → ⊥) → same_number number t u ≡ false
apart number t u a b e f h = not_equal (number t) (number u) (λ g. h (e ∙ g ∙ sym f))

module _ (table : Table) (w : IsWellFormed table) (number : TypeId → ℕ) (t u : TypeId) (x y : Layout) (p : IsPair table number t x u y) (tt' : IsType table t) (uu : IsType table u)
    (other : same_number number t u ≡ false) where
  unequal : physically_equal table t u ≡ false
  unequal = sym (p.equal t u tt' uu) ∙ other

  pub by_function : (b : Bool) → b ≡ (is_function table t || is_function table u) → b ≡ true → Bad ≡ flow_class table t u
  by_function b e h = function_class table w t u unequal (sym e ∙ h)

  module _ (c : Bool) (e : c ≡ (is_function table t || is_function table u)) (h : c ≡ false) where
    neither : (is_function table t ≡ false) × (is_function table u ≡ false)
    neither = by (is_function table t) (is_function table u) (sym e ∙ h)
      where
        by : (a b : Bool) → (a || b) ≡ false → (a ≡ false) × (b ≡ false)
        by false false k = (refl, refl)
        by false true k = absurd (true≢false k)
        by true b k = absurd (true≢false k)

    begins_front : (b : Bool) → b ≡ begins_spots number x y → begins_with table t u ≡ b
    begins_front b f = sym (f ∙ begins_right table w number p.equal x y t u tt' uu p.first p.second neither.0 neither.1)

    begins_back : (b : Bool) → b ≡ begins_spots number y x → begins_with table u t ≡ b
    begins_back b f = sym (f ∙ begins_right table w number p.equal y x u t uu tt' p.second p.first neither.1 neither.0)

    pub upward_class : (b tiled : Bool) (r : FlowClass) → b ≡ begins_spots number x y → b ≡ true
        → ((g : ℕ) → IsGcd x.size y.size g → tiled ≡ (nat_lt 0 y.size && repeat_spots number x.size g x.spots.items))
        → r ≡ (if tiled then UpTile else Up) → r ≡ flow_class table t u
    upward_class b tiled r f k d e' =
        let g = some_gcd x.size y.size in
        e' ∙ up_class table t u tiled unequal (begins_front b f ∙ k)
        (tile_right table w number p.equal x y t u g.0 tiled tt' uu p.first p.second (sym f ∙ k) g.1 (d g.0 g.1))

    pub downward_class : (a b tiled : Bool) (r : FlowClass) → a ≡ begins_spots number x y → a ≡ false → b ≡ begins_spots number y x → b ≡ true
        → ((g : ℕ) → IsGcd y.size x.size g → tiled ≡ (nat_lt 0 x.size && repeat_spots number y.size g y.spots.items))
        → r ≡ (if tiled then DownTile else Down) → r ≡ flow_class table t u
    downward_class a b tiled r f0 k0 f k d e' =
        let g = some_gcd y.size x.size in
        e' ∙ down_class table t u tiled unequal (begins_front a f0 ∙ k0) (begins_back b f ∙ k)
        (tile_right table w number p.equal y x u t g.0 tiled uu tt' p.second p.first (sym f ∙ k) g.1 (d g.0 g.1))

    pub unrelated_class : (a b : Bool) → a ≡ begins_spots number x y → a ≡ false → b ≡ begins_spots number y x → b ≡ false → Bad ≡ flow_class table t u
    unrelated_class a b f0 k0 f k =
        bad_class table t u unequal (begins_front a f0 ∙ k0) (begins_back b f ∙ k)
        (tile_one_way table t u neither.0 neither.1 (begins_front a f0 ∙ k0) (begins_back b f ∙ k))
