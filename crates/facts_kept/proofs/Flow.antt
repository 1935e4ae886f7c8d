-- What the class of a flow tells, and what an allowed flow gives: by place for an upward one, and in each place of the
-- endless repetitions for one that tiles.
use Rattle.std.proofs.Common.{◌≡◌, ℕ, zero, suc, ◌+◌, ◌-◌, ◌%◌, ◌/◌, ◌*◌, ◌<◌, ◌≤◌, ◌⊎◌, Bool, true, false, not, ◌&&◌, List, [], ◌∷◌, length, take, slice_get, Some, nat_lt, refl, ap, sym, subst, inl, inr, ◌∙◌, ⊎_elim, arith, if◌then◌else◌}
use Rattle.std.specs.Prelude.{⊤, slice_index_or}
use Rattle.std.specs.List.{list_all, range_with_len}
use Rattle.std.proofs.Math.Nat.{mod-mod_of_dvd, mul-pos, dvd-mul_right, dvd-mul_left, mod-add-div', add-mul-mod_self_right}
use Rattle.std.proofs.lemmas.Option.{slice_get-get_or}
use native.Mathlib.Nat.{mod-lt}
use Rattle.cc_base.specs.declared.number.TypeId.{TypeId}
use Rattle.cc_base.specs.declared.number.NodeId.{NodeId}
use Rattle.cc_base.specs.declared.kind.Kind.{Kind}
use Rattle.c_types.specs.declared.shape.TypeShape.{TypeShape}
use Rattle.c_types.specs.declared.shape.TypeShape.TheVariants.{Void, Integer, Pointer, Array, Function, Struct, Union}
use Rattle.c_types.specs.declared.flow_class.FlowClass.{FlowClass}
use Rattle.c_types.specs.declared.flow_class.FlowClass.TheVariants.{Equal, UpTile, Up, DownTile, Down, Tile, Bad}
use Rattle.c_types.specs.Table.{Table, shape_at, is_function, is_function_shape, is_empty}
use Rattle.c_types.specs.Cells.{Cell, raw, alike, all_alike, same_type, cells_at, begins}
use Rattle.c_types.specs.Equality.{bytes, makeup_of, same_makeup, made_alike, physically_equal, begins_with, cells_of, repeated_cell, tile}
use Rattle.c_types.specs.Flows.{HeldPointer, StandAlike, StandInTiles, Correspond, top, inside, CorrespondAtTop, CorrespondByPlace, HaveEqualKinds, IsOfOneClass, Covers, flow_class, CellsAgree}
use Rattle.kind_sites.specs.Solutions.{is_upward, is_tiled}
use Rattle.c_types.specs.Sound.{IsWellFormed}
use Rattle.type_laws.proofs.Levels.{still}
use Rattle.type_laws.proofs.Relations.{same_id}
use Rattle.type_laws.proofs.Sizes.{equal_counts}
use Rattle.c_types.proofs.OrderedPointers.{cells_ordered}
use Rattle.src_mem.specs.State.{Setting}
use Rattle.phys_types.proofs.Periods.{some_gcd}
use Rattle.type_laws.proofs.OneClass.{data-makeup}
use Rattle.facts_kept.proofs.Agree.{first, second, negated, pointer-there, cells-alike, agree-top, class-cells}

-- What a class tells of the two types

abbrev pub Tells : Table → TypeId → TypeId → FlowClass → Type 0
Tells table t u Equal = physically_equal table t u ≡ true
Tells table t u UpTile = (begins_with table t u ≡ true) × (tile table t u ≡ true)
Tells table t u Up = begins_with table t u ≡ true
Tells table t u DownTile = (begins_with table u t ≡ true) × (tile table t u ≡ true)
Tells table t u Down = begins_with table u t ≡ true
Tells table t u Tile = tile table t u ≡ true
Tells table t u Bad = ⊤

pub class-tells : (table : Table) (t u : TypeId) → Tells table t u (flow_class table t u)
class-tells table t u = by (physically_equal table t u) (begins_with table t u) (begins_with table u t) (tile table t u) refl refl refl refl
  where
    by : (a b c d : Bool) → physically_equal table t u ≡ a → begins_with table t u ≡ b → begins_with table u t ≡ c → tile table t u ≡ d
        → Tells table t u
        (if a then Equal else
        (if b then (if d then UpTile else Up) else (if c then (if d then DownTile else Down) else (if d then Tile else Bad))))
    by true b c d e f g h = e
    by false true c true e f g h = (f, h)
    by false true c false e f g h = f
    by false false true true e f g h = (g, h)
    by false false true false e f g h = g
    by false false false true e f g h = h
    by false false false false e f g h = tt

abbrev pub UpTold : Table → TypeId → TypeId → Type 0
UpTold table t u = (physically_equal table t u ≡ true) ⊎ (begins_with table t u ≡ true)

pub up-told : (table : Table) (t u : TypeId) (class : FlowClass) → Tells table t u class → is_upward class ≡ true → UpTold table t u
up-told table t u Equal h k = inl h
up-told table t u UpTile h k = inr h.0
up-told table t u Up h k = inr h
up-told table t u DownTile h k = absurd (cc (k))
up-told table t u Down h k = absurd (cc (k))
up-told table t u Tile h k = absurd (cc (k))
up-told table t u Bad h k = absurd (cc (k))

pub tiled-told : (table : Table) (t u : TypeId) (class : FlowClass) → Tells table t u class → is_tiled class ≡ true
    → (physically_equal table t u ≡ true) ⊎ (tile table t u ≡ true)
tiled-told table t u Equal h k = inl h
tiled-told table t u UpTile h k = inr h.1
tiled-told table t u Up h k = absurd (cc (k))
tiled-told table t u DownTile h k = inr h.1
tiled-told table t u Down h k = absurd (cc (k))
tiled-told table t u Tile h k = inr h
tiled-told table t u Bad h k = absurd (cc (k))

-- what is physically equal to a data type is one
pub equal-data : (table : Table) → IsWellFormed table → (t u : TypeId) → is_function table t ≡ false → physically_equal table t u ≡ true
    → is_function table u ≡ false
equal-data table w t u ft h = by (nat_lt t.0 (length table)) (nat_lt u.0 (length table)) (sym (ap (λ E. E t u) (still table w)) ∙ h)
  where
    shaped : (s : TypeShape)
        → same_makeup (physically_equal table) (bytes (cells_at table (physically_equal table) t))
        (makeup_of table (physically_equal table) u s) ≡ true
        → is_function_shape s ≡ false
    shaped Void e = refl
    shaped (Integer n q) e = refl
    shaped (Pointer n x) e = refl
    shaped (Array x n) e = refl
    shaped (Function ps q) e = absurd (cc (e))
    shaped (Struct n) e = refl
    shaped (Union n) e = refl

    same : t.0 ≡ u.0 → is_function table u ≡ false
    same e = ap (λ (n : ℕ). is_function table (record { 0 = n })) (sym e) ∙ ft

    by : (a b : Bool) → (if a && b then made_alike table (physically_equal table) t u else same_type t u) ≡ true → is_function table u ≡ false
    by true true e =
        shaped (shape_at table u)
        (sym
        (ap (λ x. same_makeup (physically_equal table) x (makeup_of table (physically_equal table) u (shape_at table u)))
        (data-makeup table (physically_equal table) t (shape_at table t) ft))
        ∙ e)
    by true false e = same (same_id t u e)
    by false true e = same (same_id t u e)
    by false false e = same (same_id t u e)

pub begins-data : (table : Table) (t u : TypeId) → begins_with table t u ≡ true → (is_function table t ≡ false) × (is_function table u ≡ false)
begins-data table t u h =
    let rest = second (not (is_function table t)) _ h in
    (negated (is_function table t) (first (not (is_function table t)) _ h), negated (is_function table u) (first (not (is_function table u)) _ rest))

take-all : (xs : List Cell) → take (length xs) xs ≡ xs
take-all [] = refl
take-all (x ∷ xs) = ap (λ l. x ∷ l) (take-all xs)

pub equal-begins : (table : Table) → IsWellFormed table → (t u : TypeId) → is_function table t ≡ false → physically_equal table t u ≡ true
    → begins_with table t u ≡ true
equal-begins table w t u ft h =
    let fu = equal-data table w t u ft h in
    let n = equal_counts table w t u h in
    let b : begins (physically_equal table) (cells_of table t) (cells_of table u) ≡ true =
    ap (λ k. all_alike (physically_equal table) (take k (cells_of table t)) (cells_of table u)) (sym n) ∙ ap
    (λ l. all_alike (physically_equal table) l (cells_of table u)) (take-all (cells_of table t))
    ∙ cells-alike table w t u ft fu h in
    λ i. not (ft i) && (not (fu i) && b i)

-- Correspondence grows with what stands at the top
pub corresponds-more : (table : Table) (R S : HeldPointer → HeldPointer → Type 0) → ((p q : HeldPointer) → R p q → S p q) → (p q : HeldPointer)
    → Correspond table R p q → Correspond table S p q
corresponds-more table R S sub p q (top a b h) = top p q (sub p q h)
corresponds-more table R S sub r s (inside p q a b before h) = inside p q r s (corresponds-more table R S sub p q before) h

alike-in-tiles : (table : Table) (t u : TypeId) (p q : HeldPointer) → StandAlike table t u p q → StandInTiles table t u p q
alike-in-tiles table t u p q h =
    let g = some_gcd (length (cells_of table t)) (length (cells_of table u)) in (g.0, g.1, inl (h.0, h.0, refl, h.1, h.2))

-- an upward flow has equal kinds by place
pub by-place : (table : Table) (kind : NodeId → Kind) (t u : TypeId) (class : FlowClass) → is_upward class ≡ true
    → HaveEqualKinds kind (Correspond table (CorrespondAtTop table class t u)) → HaveEqualKinds kind (CorrespondByPlace table t u)
by-place table kind t u Equal k h = h
by-place table kind t u UpTile k h =
    λ p q c. h p q (corresponds-more table (StandAlike table t u) (StandInTiles table t u) (alike-in-tiles table t u) p q c)
by-place table kind t u Up k h = h
by-place table kind t u DownTile k h = absurd (cc (k))
by-place table kind t u Down k h = absurd (cc (k))
by-place table kind t u Tile k h = absurd (cc (k))
by-place table kind t u Bad k h = absurd (cc (k))

-- an allowed upward flow: the source's type covers the target's
pub covers-up : (table : Table) → IsWellFormed table → (kind : NodeId → Kind) (t u : TypeId) (class : FlowClass) → is_function table t ≡ false
    → is_upward class ≡ true → Tells table t u class
    → HaveEqualKinds kind (Correspond table (CorrespondAtTop table class t u)) → Covers table kind t u
covers-up table w kind t u class ft k told h = record {
  begins = ⊎_elim (λ e. equal-begins table w t u ft e) (λ e. e) (up-told table t u class told k);
  kinds = by-place table kind t u class k h;
}

-- Repetitions

all-at : (f : ℕ → Bool) (a n i : ℕ) → list_all f (range_with_len a n) ≡ true → i < n → f (a + i) ≡ true
all-at f a zero i h l = absurd (omega arith)
all-at f a (suc n) zero h l = subst (λ k. f k ≡ true) (omega arith) (first (f a) _ h)
all-at f a (suc n) (suc i) h l = subst (λ k. f k ≡ true) (omega arith) (all-at f (a + 1) n i (second (f a) _ h) (omega arith))

pub sub-mod : (g x y j : ℕ) → x % g ≡ y % g → j ≤ x → j ≤ y → (x - j) % g ≡ (y - j) % g
sub-mod g x y j e a b = ⊎_elim (λ l. up g x y j e a b l) (λ l. sym (up g y x j (sym e) b a l)) (total (x / g) (y / g))
  where
    total : (m n : ℕ) → (m ≤ n) ⊎ (n ≤ m)
    total m n = grind arith

    up : (g x y j : ℕ) → x % g ≡ y % g → j ≤ x → j ≤ y → x / g ≤ y / g → (x - j) % g ≡ (y - j) % g
    up g x y j e a b l =
        let c : (y / g - x / g) * g + x / g * g ≡ y / g * g = product (x / g) (y / g) g l in
        let p = mod-add-div' x g in let q = mod-add-div' y g in
        let f : y - j ≡ (x - j) + (y / g - x / g) * g = omega (arith, c, p, q) in
        sym (add-mul-mod_self_right (x - j) (y / g - x / g) g) ∙ ap (λ z. z % g) (sym f)
      where
        product : (m n g : ℕ) → m ≤ n → (n - m) * g + m * g ≡ n * g
        product m n g l = let h : (n - m) + m ≡ n = omega arith in sym (distribute (n - m) m g) ∙ ap (λ z. z * g) h
          where
            distribute : (a b g : ℕ) → (a + b) * g ≡ a * g + b * g
            distribute a b g = grind arith

pub filled-some : (cells : List Cell) → is_empty cells ≡ false → 0 < length cells
filled-some [] h = absurd (cc (h))
filled-some (c ∷ cells) h = omega arith

-- the cell of a repetition is one of the list
pub rep-there : (cells : List Cell) (i : ℕ) → 0 < length cells → slice_get cells (i % length cells) ≡ Some (repeated_cell cells i)
rep-there cells i some = slice_get-get_or cells (i % length cells) raw (mod-lt i some)

pub rep-again : (cells : List Cell) (i n : ℕ) → repeated_cell cells (i % (length cells * n)) ≡ repeated_cell cells i
rep-again cells i n = ap (λ k. slice_index_or cells k raw) (mod-mod_of_dvd (length cells) i (dvd-mul_right (length cells) n))

rep-again' : (cells : List Cell) (i n : ℕ) → repeated_cell cells (i % (n * length cells)) ≡ repeated_cell cells i
rep-again' cells i n = ap (λ k. slice_index_or cells k raw) (mod-mod_of_dvd (length cells) i (dvd-mul_left (length cells) n))

module _ (w : Setting) (sound : IsWellFormed w.table) where
  -- the cells of two repetitions that are alike everywhere
  pub tile-some : (t u : TypeId) → tile w.table t u ≡ true → (0 < length (cells_of w.table t)) × (0 < length (cells_of w.table u))
  tile-some t u h =
      let rest = second (not (is_empty (cells_of w.table t))) _ h in (
        filled-some (cells_of w.table t) (negated (is_empty (cells_of w.table t)) (first (not (is_empty (cells_of w.table t))) _ h)),
        filled-some (cells_of w.table u) (negated (is_empty (cells_of w.table u)) (first (not (is_empty (cells_of w.table u))) _ rest)),
      )

  tile-alike : (t u : TypeId) → tile w.table t u ≡ true → (i : ℕ)
      → alike (physically_equal w.table) (repeated_cell (cells_of w.table t) i) (repeated_cell (cells_of w.table u) i) ≡ true
  tile-alike t u h i =
      let rest = second (not (is_empty (cells_of w.table t))) _ h in
      let all = second (not (is_empty (cells_of w.table u))) _ rest in
      let s = tile-some t u h in
      let a = length (cells_of w.table t) in let b = length (cells_of w.table u) in
      let x = all-at (λ i. alike (physically_equal w.table) (repeated_cell (cells_of w.table t) i) (repeated_cell (cells_of w.table u) i)) 0 (a * b)
      (i % (a * b)) all (mod-lt i (mul-pos s.0 s.1)) in
      let z : 0 + i % (a * b) ≡ i % (a * b) = omega arith in
      sym
      (ap (λ c. alike (physically_equal w.table) c (repeated_cell (cells_of w.table u) (i % (a * b)))) (rep-again (cells_of w.table t) i b) ∙ ap
      (λ c. alike (physically_equal w.table) (repeated_cell (cells_of w.table t) i) c) (rep-again' (cells_of w.table u) i a))
      ∙ sym (ap (λ k. alike (physically_equal w.table) (repeated_cell (cells_of w.table t) k) (repeated_cell (cells_of w.table u) k)) z) ∙ x

  -- at one place of both
  tiles-agree : (t u : TypeId) → is_function w.table t ≡ false → is_function w.table u ≡ false → tile w.table t u ≡ true
      → HaveEqualKinds w.kind (Correspond w.table (StandInTiles w.table t u))
      → (i : ℕ) → CellsAgree w.table w.kind (repeated_cell (cells_of w.table t) i) (repeated_cell (cells_of w.table u) i)
  tiles-agree t u ft fu h same i =
      let s = tile-some t u h in
      let g = some_gcd (length (cells_of w.table t)) (length (cells_of w.table u)) in
      agree-top w sound (StandInTiles w.table t u) same (cells_of w.table t) (cells_of w.table u) (cells_ordered w.table sound t)
      (cells_ordered w.table sound u)
      (i % length (cells_of w.table t)) (i % length (cells_of w.table u)) (repeated_cell (cells_of w.table t) i)
      (repeated_cell (cells_of w.table u) i)
      (rep-there (cells_of w.table t) i s.0) (rep-there (cells_of w.table u) i s.1) (tile-alike t u h i)
      (λ j n m a b l k x y. (
        g.0,
        g.1,
        inl (
          i % length (cells_of w.table t) - j,
          i % length (cells_of w.table u) - j,
          sub-mod g.0 (i % length (cells_of w.table t)) (i % length (cells_of w.table u)) j
              (mod-mod_of_dvd g.0 i g.1.0 ∙ sym (mod-mod_of_dvd g.0 i g.1.1)) l k,
          pointer-there w.table t ft (i % length (cells_of w.table t) - j) n a x,
          pointer-there w.table u fu (i % length (cells_of w.table u) - j) m b y,
        ),
      ))

  equal-agree : (t u : TypeId) → is_function w.table t ≡ false → is_function w.table u ≡ false → 0 < length (cells_of w.table u)
      → IsOfOneClass w.table w.kind t u
      → (i : ℕ) → CellsAgree w.table w.kind (repeated_cell (cells_of w.table t) i) (repeated_cell (cells_of w.table u) i)
  equal-agree t u ft fu some one i =
      let n = equal_counts w.table sound t u one.equal in
      let x = class-cells w sound t u ft fu one (i % length (cells_of w.table u)) (repeated_cell (cells_of w.table u) i)
      (rep-there (cells_of w.table u) i some) in
      let y = rep-there (cells_of w.table t) i (subst (λ k. 0 < k) (sym n) some) in
      let z : x.0 ≡ repeated_cell (cells_of w.table t) i = cc (x.1, y, ap (λ k. slice_get (cells_of w.table t) (i % k)) n) in
      subst (λ c. CellsAgree w.table w.kind c (repeated_cell (cells_of w.table u) i)) z x.2

  pub tile-in-class : (t u : TypeId) (class : FlowClass) → is_tiled class ≡ true
      → HaveEqualKinds w.kind (Correspond w.table (CorrespondAtTop w.table class t u)) → is_function w.table t ≡ false → is_function w.table u ≡ false
      → Tells w.table t u class → 0 < length (cells_of w.table u) → (i : ℕ)
      → CellsAgree w.table w.kind (repeated_cell (cells_of w.table t) i) (repeated_cell (cells_of w.table u) i)
  tile-in-class t u Equal k h ft fu told some = equal-agree t u ft fu some (record { equal = told; kinds = h })
  tile-in-class t u UpTile k h ft fu told some = tiles-agree t u ft fu told.1 h
  tile-in-class t u Up k h ft fu told some = absurd (cc (k))
  tile-in-class t u DownTile k h ft fu told some = tiles-agree t u ft fu told.1 h
  tile-in-class t u Down k h ft fu told some = absurd (cc (k))
  tile-in-class t u Tile k h ft fu told some = tiles-agree t u ft fu told h
  tile-in-class t u Bad k h ft fu told some = absurd (cc (k))
