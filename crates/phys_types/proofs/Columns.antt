use Rattle.std.proofs.Common.{◌≡◌, ℕ, zero, suc, ◌+◌, ◌-◌, ◌*◌, ◌/◌, ◌%◌, ◌<◌, ◌≤◌, Bool, true, false, ◌&&◌, if◌then◌else◌, List, [], ◌∷◌, ◌++◌, length, map, nat_lt, slice_get, None, Some, refl, ap, sym, subst, ◌∙◌, inl, inr, ◌⊎◌, true≢false, arith}
use Rattle.std.specs.Int.{IsGcd}
use Rattle.std.proofs.lemmas.Bool.{ltb-true}
use Rattle.std.proofs.lemmas.Bool.Decides.{Decides-eqb}
use Rattle.std.proofs.lemmas.Nat.Gcd.{same_from_IsGcd}
use Rattle.std.proofs.Math.Nat.{add-mod_left, add-mul-mod_self_right}
use Rattle.std.proofs.lemmas.List.{length-map}
use Rattle.std.proofs.lemmas.Option.{slice_get_within}
use native.Mathlib.Nat.{mod-eq_of_lt}
use Rattle.cc_base.specs.declared.number.TypeId.{TypeId}
use Rattle.c_types.specs.Table.{Table, IsType, is_function}
use Rattle.c_types.specs.Layouts.{size_of}
use Rattle.c_types.specs.Equality.{physically_equal, cells_of, begins_with, tile}
use Rattle.c_types.specs.Flows.{HeldPointer, StandModulo, StandInTiles}
use Rattle.c_types.specs.Sound.{IsWellFormed}
use Rattle.c_types.proofs.Shapes.{first_true, second_true}
use Rattle.phys_types.specs.declared.spot.Spot.{Spot}
use Rattle.phys_types.specs.declared.spot.Layout.{Layout}
use Rattle.phys_types.specs.Spots.{AreSpots, shifted, copies}
use Rattle.phys_types.specs.Numbers.{same_item, same_spot, same_spots, spots_before, end_within, repeat_spots}
use Rattle.phys_types.specs.Shown.{IsLayoutOf}
use Rattle.phys_types.specs.Standing.{IsInColumn, StandInColumns}
use Rattle.phys_types.proofs.Spreading.{length_all}
use Rattle.phys_types.proofs.Repeating.{before_are_spots}
use Rattle.phys_types.proofs.Tiled.{positive_divisor}
use Rattle.phys_types.proofs.Classes.{tile_right}
use Rattle.phys_types.proofs.LawLemmas.{number, numbered}
use Rattle.phys_types.proofs.SpotPointers.{one_place}
use Rattle.phys_types.proofs.Turns.{spots_begin, there, spot_at, at_spot}

-- The spots of types that tile stand in columns: those whose numbers agree modulo the number of spots in the common unit stand at
-- offsets that agree modulo its size.

no_spot : (s : Spot) → None ≡ Some s → ⊥
no_spot s h = cc

same_there : (s r : Spot) → Some s ≡ Some r → s ≡ r
same_there s r h = cc

-- ---- copies

shifted_at : (n : ℕ) (ss : List Spot) (i : ℕ) (s : Spot) → slice_get (map (shifted n) ss) i ≡ Some s → (f : Spot) × (slice_get ss i ≡ Some f) × (s.start ≡ f.start + n)
shifted_at n [] i s h = absurd (no_spot s h)
shifted_at n (x ∷ ss) zero s h = (x, refl, ap (λ (z : Spot). z.start) (sym (same_there (shifted n x) s h)))
shifted_at n (x ∷ ss) (suc i) s h = shifted_at n ss i s h

pub append_at : (xs ys : List Spot) (i : ℕ) (s : Spot) → slice_get (xs ++ ys) i ≡ Some s
    → ((i < length xs) × (slice_get xs i ≡ Some s)) ⊎ ((length xs ≤ i) × (slice_get ys (i - length xs) ≡ Some s))
append_at [] ys i s h = inr (omega arith, ap (slice_get ys) (none i) ∙ h)
  where
    none : (i : ℕ) → i - 0 ≡ i
    none i = omega arith
append_at (x ∷ xs) ys zero s h = inl (omega arith, h)
append_at (x ∷ xs) ys (suc i) s h = elim (append_at xs ys i s h) [
  | inl a ↦ inl (omega (arith, a.0), a.1)
  | inr a ↦ inr (omega (arith, a.0), ap (slice_get ys) (next i (length xs)) ∙ a.1)
]
  where
    next : (i n : ℕ) → suc i - suc n ≡ i - n
    next i n = omega arith

pub less_mod : (k i : ℕ) → k ≤ i → (i - k) % k ≡ i % k
less_mod k i l = sym (add-mod_left k (i - k)) ∙ ap (λ j. j % k) (back k i l)
  where
    back : (k i : ℕ) → k ≤ i → k + (i - k) ≡ i
    back k i l = omega arith

-- a spot of the copies stands a number of whole sizes after a first one
copy_at : (n g at : ℕ) (first : List Spot) (i : ℕ) (s : Spot) → slice_get (copies n g at first) i ≡ Some s
    → (f : Spot) × (m : ℕ) × (slice_get first (i % length first) ≡ Some f) × (s.start ≡ f.start + (at + m * g))
copy_at zero g at first i s h = absurd (no_spot s h)
copy_at (suc n) g at first i s h = elim (append_at (map (shifted at) first) (copies n g (at + g) first) i s h) [
  | inl a ↦
      let l = length-map first (shifted at) in
      let b : i < length first = (let c = a.0 in omega arith) in
      let r = shifted_at at first i s a.1 in
      (r.0, 0, ap (slice_get first) (mod-eq_of_lt b) ∙ r.1, (let e = r.2 in omega arith))
  | inr a ↦
      let l = length-map first (shifted at) in
      let b : length first ≤ i = (let c = a.0 in omega arith) in
      let r = copy_at n g (at + g) first (i - length first) s (ap (λ k. slice_get (copies n g (at + g) first) (i - k)) (sym l) ∙ a.1) in
      (r.0, suc r.1, ap (slice_get first) (sym (less_mod (length first) i b)) ∙ r.2, r.3 ∙ more r.0.start at r.1 g)
]
  where
    more : (f at m g : ℕ) → f + (at + g + m * g) ≡ f + (at + suc m * g)
    more f at m g = grind arith

before_below : (g : ℕ) (ss : List Spot) (i : ℕ) (f : Spot) → slice_get (spots_before g ss) i ≡ Some f → f.start < g
before_below g [] i f h = absurd (no_spot f h)
before_below g (s ∷ ss) i f h = by (λ j h. before_below g ss j f h) (nat_lt s.start g) refl i h
  where
    by : ((j : ℕ) → slice_get (spots_before g ss) j ≡ Some f → f.start < g) → (b : Bool) → nat_lt s.start g ≡ b → (i : ℕ)
        → slice_get (if b then s ∷ spots_before g ss else []) i ≡ Some f → f.start < g
    by rest true e zero h = subst (λ (z : Spot). z.start < g) (same_there s f h) (ltb-true s.start g e)
    by rest true e (suc i) h = rest i h
    by rest false e i h = absurd (no_spot f h)

-- the spots of a list stand as those of `first` do, in rows
abbrev pub InRows : ℕ → List Spot → List Spot → Type 0
InRows g first ss = (i : ℕ) (s : Spot) → slice_get ss i ≡ Some s → (f : Spot) × (slice_get first (i % length first) ≡ Some f) × (s.start % g ≡ f.start)

module _ (number : TypeId → ℕ) (m g : ℕ) (ss : List Spot) (h : repeat_spots number m g ss ≡ true) where
  rows : InRows g (spots_before g ss) ss
  rows i s a =
      let same = second_true (end_within g (spots_before g ss)) (same_spots number ss (copies (m / g) g 0 (spots_before g ss))) h in
      let c = both ss (copies (m / g) g 0 (spots_before g ss)) i s same a in
      let r = copy_at (m / g) g 0 (spots_before g ss) i c.0 c.1 in
      (r.0, r.2, residue r.0.start r.1 s.start (c.2 ∙ r.3) (before_below g ss (i % length (spots_before g ss)) r.0 r.2))
    where
      none : (a b : ℕ) → a + (0 + b) ≡ a + b
      none a b = omega arith

      residue : (f k s : ℕ) → s ≡ f + (0 + k * g) → f < g → s % g ≡ f
      residue f k s e b = ap (λ n. n % g) (e ∙ none f (k * g)) ∙ add-mul-mod_self_right f k g ∙ mod-eq_of_lt b

      both : (ss rs : List Spot) (i : ℕ) (s : Spot) → same_spots number ss rs ≡ true → slice_get ss i ≡ Some s → (r : Spot) × (slice_get rs i ≡ Some r) × (s.start ≡ r.start)
      both [] rs i s e k = absurd (no_spot s k)
      both (x ∷ ss) [] i s e k = absurd (true≢false (sym e))
      both (x ∷ ss) (y ∷ rs) zero s e k =
          (y, refl, ap (λ (z : Spot). z.start) (sym (same_there x s k)) ∙ (Decides-eqb x.start y.start).0 (first_true _ (same_item number x.item y.item) (first_true (same_spot number x y) _ e)))
      both (x ∷ ss) (y ∷ rs) (suc i) s e k = both ss rs i s (second_true (same_spot number x y) _ e) k

-- ---- two types that stand in rows

module _ (table : Table) (g : ℕ) (first : List Spot) (some : 0 < g) (ordered : AreSpots (size_of table) 0 first g) where
  some_row : (ss : List Spot) → InRows g first ss → (i : ℕ) (s : Spot) → slice_get ss i ≡ Some s → i % length first < length first
  some_row ss r i s a = let c = r i s a in slice_get_within first (i % length first) c.0 c.1

  -- spots at offsets that agree are in one column
  one_column : (xs ys : List Spot) → InRows g first xs → InRows g first ys → (i j : ℕ) (s r : Spot) → slice_get xs i ≡ Some s → slice_get ys j ≡ Some r
      → s.start % g ≡ r.start % g → i % length first ≡ j % length first
  one_column xs ys a b i j s r c d e =
      let k = a i s c in let l = b j r d in
      one_place (size_of table) 0 g first (i % length first) (j % length first) k.0 l.0 ordered k.1 l.1 (sym k.2 ∙ e ∙ l.2)

  -- and the other way round
  one_residue : (xs ys : List Spot) → InRows g first xs → InRows g first ys → (i j : ℕ) (s r : Spot) → slice_get xs i ≡ Some s → slice_get ys j ≡ Some r
      → i % length first ≡ j % length first → s.start % g ≡ r.start % g
  one_residue xs ys a b i j s r c d e =
      let k = a i s c in let l = b j r d in
      k.2 ∙ ap (λ (z : Spot). z.start) (same_there k.0 l.0 (sym k.1 ∙ ap (slice_get first) e ∙ l.1)) ∙ sym l.2

  module _ (t u : TypeId) (x y : Layout) (h : IsLayoutOf table (physically_equal table) t x) (k : IsLayoutOf table (physically_equal table) u y)
      (f : is_function table t ≡ false) (f' : is_function table u ≡ false) (a : InRows g first x.spots.items) (b : InRows g first y.spots.items) where
    columns_from_modulo : (p q : HeldPointer) → StandModulo table g t u p q
        → (c : ℕ) × (c < length first) × IsInColumn (length first) c x.spots.items p × IsInColumn (length first) c y.spots.items q
    columns_from_modulo p q (i, j, m, c, d) =
        let l = spot_at table t x h f i p c in let n = spot_at table u y k f' j q d in
        let e = one_column x.spots.items y.spots.items a b l.0 n.0 l.1 n.1 l.2 n.2 (ap (λ v. v % g) l.4 ∙ m ∙ ap (λ v. v % g) (sym n.4)) in
        (n.0 % length first, some_row y.spots.items b n.0 n.1 n.2, (l.0, e, (l.1, l.2, l.3)), (n.0, refl, (n.1, n.2, n.3)))

    modulo_from_columns : (p q : HeldPointer) (c : ℕ) → IsInColumn (length first) c x.spots.items p → IsInColumn (length first) c y.spots.items q → StandModulo table g t u p q
    modulo_from_columns p q c (i, e, (s, l, m)) (j, d, (r, n, o)) =
        (s.start, r.start, one_residue x.spots.items y.spots.items a b i j s r l n (e ∙ sym d), at_spot table t x h f i s p l m, at_spot table u y k f' j r q n o)

  module _ (t u : TypeId) (x y : Layout) (h : IsLayoutOf table (physically_equal table) t x) (k : IsLayoutOf table (physically_equal table) u y)
      (f : is_function table t ≡ false) (f' : is_function table u ≡ false) (a : InRows g first x.spots.items) (b : InRows g first y.spots.items)
      (d : IsGcd x.size y.size g) where
    sizes : (length (cells_of table t) ≡ x.size) × (length (cells_of table u) ≡ y.size)
    sizes = (ap length (sym h.cells) ∙ length_all (size_of table) x.spots.items x.size h.spots, ap length (sym k.cells) ∙ length_all (size_of table) y.spots.items y.size k.spots)

    own_gcd : (n : ℕ) → IsGcd (length (cells_of table t)) (length (cells_of table u)) n → n ≡ g
    own_gcd n e = same_from_IsGcd x.size y.size n g (subst (λ v. IsGcd v y.size n) sizes.0 (subst (λ v. IsGcd (length (cells_of table t)) v n) sizes.1 e)) d

    pub columns_from_tiles : (p q : HeldPointer) → StandInTiles table t u p q → StandInColumns (length first) x.spots.items y.spots.items (length first) p q
    columns_from_tiles p q (n, e, s) = elim s [
      | inl m ↦
          let c = columns_from_modulo t u x y h k f f' a b p q (subst (λ v. StandModulo table v t u p q) (own_gcd n e) m) in
          (c.0, c.1, inl (c.2, c.3))
      | inr o ↦ elim o [
        | inl m ↦
            let c = columns_from_modulo t t x x h h f f a a p q (subst (λ v. StandModulo table v t t p q) (own_gcd n e) m) in
            (c.0, c.1, inr (inl (c.2, c.3)))
        | inr m ↦
            let c = columns_from_modulo u u y y k k f' f' b b p q (subst (λ v. StandModulo table v u u p q) (own_gcd n e) m) in
            (c.0, c.1, inr (inr (c.2, c.3)))
      ]
    ]

    pub tiles_from_columns : (p q : HeldPointer) → StandInColumns (length first) x.spots.items y.spots.items (length first) p q → StandInTiles table t u p q
    tiles_from_columns p q (c, l, s) = (
      g,
      subst (λ v. IsGcd v (length (cells_of table u)) g) (sym sizes.0) (subst (λ v. IsGcd x.size v g) (sym sizes.1) d),
      elim s [
        | inl m ↦ inl (modulo_from_columns t u x y h k f f' a b p q c m.0 m.1)
        | inr o ↦ elim o [
          | inl m ↦ inr (inl (modulo_from_columns t t x x h h f f a a p q c m.0 m.1))
          | inr m ↦ inr (inr (modulo_from_columns u u y y k k f' f' b b p q c m.0 m.1))
        ]
      ],
    )

-- ---- a type that begins with another and tiles with it

module _ (table : Table) (w : IsWellFormed table) (t u : TypeId) (x y : Layout) (a : IsType table t) (b : IsType table u) (h : IsLayoutOf table (physically_equal table) t x)
    (k : IsLayoutOf table (physically_equal table) u y) (e : begins_with table t u ≡ true) (z : tile table t u ≡ true) (g : ℕ) (d : IsGcd x.size y.size g) where
  tiled : (nat_lt 0 y.size && repeat_spots (number table w) x.size g x.spots.items) ≡ true
  tiled =
      tile_right table w (number table w) (numbered table w) x y t u g (nat_lt 0 y.size && repeat_spots (number table w) x.size g x.spots.items) a b h k
      (spots_begin table w t u x y a b h k e) d refl ∙ z

  repeated_spots : repeat_spots (number table w) x.size g x.spots.items ≡ true
  repeated_spots = second_true (nat_lt 0 y.size) (repeat_spots (number table w) x.size g x.spots.items) tiled

  pub unit_some : 0 < g
  unit_some = let n = ltb-true 0 y.size (first_true (nat_lt 0 y.size) _ tiled) in positive_divisor x.size y.size g d (λ q. omega arith)

  pub unit_ordered : AreSpots (size_of table) 0 (spots_before g x.spots.items) g
  unit_ordered =
      before_are_spots (size_of table) 0 g x.size x.spots.items h.spots (omega arith)
      (first_true (end_within g (spots_before g x.spots.items)) _ repeated_spots)

  pub long_rows : InRows g (spots_before g x.spots.items) x.spots.items
  long_rows = rows (number table w) x.size g x.spots.items repeated_spots

  pub short_rows : InRows g (spots_before g x.spots.items) y.spots.items
  short_rows i r c =
      let s = there table w t u x y a b h k e i r c in
      let l = rows (number table w) x.size g x.spots.items repeated_spots i s.0 s.1 in
      (l.0, l.1, ap (λ n. n % g) (sym s.2) ∙ l.2)
