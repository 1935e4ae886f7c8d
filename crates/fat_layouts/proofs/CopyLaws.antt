-- The widths of cells that are copies of a part, one behind another.
use Rattle.std.proofs.Common.{◌≡◌, ℕ, zero, suc, ◌+◌, ◌*◌, ◌/◌, ◌%◌, ◌<◌, ◌≤◌, ◌⊎◌, inl, inr, List, [], ◌++◌, length, slice_get, refl, ap, sym, subst, ◌∙◌, arith}
use Rattle.std.specs.List.{repeat}
use Rattle.std.proofs.Math.Nat.{mod-lt, mul-le-mul_left, mul-le-mul_right}
use Rattle.std.proofs.lemmas.Nat.{div-add-mod'}
use Rattle.std.proofs.lemmas.List.{length-append}
use Rattle.std.proofs.lemmas.Option.{slice_get_past}
use Rattle.cc_base.specs.declared.number.NodeId.{NodeId}
use Rattle.cc_base.specs.declared.number.TypeId.{TypeId}
use Rattle.cc_base.specs.declared.kind.Kind.{Kind}
use Rattle.cc_base.specs.Kinds.{kind_at}
use Rattle.c_types.specs.Table.{Table, IsComplete}
use Rattle.c_types.specs.Layouts.{size_of}
use Rattle.c_types.specs.Cells.{Cell, IsBetweenPointers}
use Rattle.c_types.specs.Equality.{cells_of, physically_equal}
use Rattle.c_types.specs.Widths.{before, width_of}
use Rattle.c_types.specs.Sound.{IsWellFormed}
use Rattle.c_types.proofs.Cells.{length_cells}
use Rattle.c_types.proofs.OrderedPointers.{get_front, get_back}
use Rattle.type_laws.proofs.Widths.{before-append}
use Rattle.phys_types.specs.Spots.{cells_from}
use Rattle.phys_types.proofs.Spreading.{length_all}
use Rattle.fat_layouts.specs.declared.stops.CuredLayout.{CuredLayout}
use Rattle.fat_layouts.specs.Standing.{IsCuredLayout}
use Rattle.fat_layouts.proofs.StopLaws.{front_widths}

length_copies : (n : ℕ) (P : List Cell) → length (repeat n P) ≡ n * length P
length_copies zero P = omega arith
length_copies (suc n) P = length-append P (repeat n P) ∙ ap (λ (k : ℕ). length P + k) (length_copies n P) ∙ step n (length P)
  where
    step : (n k : ℕ) → k + n * k ≡ suc n * k
    step n k = grind arith

-- the place r behind q copies is within one of n copies, or at the end of the last
abbrev pub IsIn : ℕ → ℕ → ℕ → Type 0
IsIn n q r = (q < n) ⊎ ((q ≡ n) × (r ≡ 0))

less_in : (n q r : ℕ) → IsIn (suc n) (suc q) r → IsIn n q r
less_in n q r (inl l) = inl (omega arith)
less_in n q r (inr (e, f)) = inr (omega arith, f)

further : (q k r : ℕ) → suc q * k + r ≡ k + (q * k + r)
further q k r = grind arith

module _ (kind : NodeId → Kind) (P : List Cell) where
  copies_before : (n q r : ℕ) → IsIn n q r → r ≤ length P → before kind (repeat n P) (q * length P + r) ≡ q * width_of kind P + before kind P r
  copies_before zero zero r (inl l) b = absurd (omega arith)
  copies_before zero zero r (inr (e, f)) b =
      ap (before kind []) (at_start (length P) r f) ∙ sym (ap (λ (k : ℕ). 0 * width_of kind P + before kind P k) f ∙ nothing (width_of kind P))
    where
      at_start : (k r : ℕ) → r ≡ 0 → 0 * k + r ≡ 0
      at_start k r f = omega arith

      nothing : (k : ℕ) → 0 * k + 0 ≡ 0
      nothing k = omega arith
  copies_before zero (suc q) r (inl l) b = absurd (omega arith)
  copies_before zero (suc q) r (inr (e, f)) b = absurd (omega arith)
  copies_before (suc n) zero r i b =
      ap (before kind (P ++ repeat n P)) (none (length P) r) ∙ front_widths kind P (repeat n P) r b ∙ sym (none (width_of kind P) (before kind P r))
    where
      none : (k r : ℕ) → 0 * k + r ≡ r
      none k r = omega arith
  copies_before (suc n) (suc q) r i b =
      ap (before kind (P ++ repeat n P)) (further q (length P) r) ∙ before-append kind P (repeat n P) (q * length P + r)
      ∙ ap (λ (k : ℕ). width_of kind P + k) (copies_before n q r (less_in n q r i) b)
      ∙ sym (further q (width_of kind P) (before kind P r))

  copy_at : (n q r : ℕ) → q < n → r < length P → slice_get (repeat n P) (q * length P + r) ≡ slice_get P r
  copy_at zero q r l b = absurd (omega arith)
  copy_at (suc n) zero r l b = ap (slice_get (P ++ repeat n P)) (none (length P) r) ∙ get_front P (repeat n P) r b
    where
      none : (k r : ℕ) → 0 * k + r ≡ r
      none k r = omega arith
  copy_at (suc n) (suc q) r l b =
      ap (slice_get (P ++ repeat n P)) (further q (length P) r) ∙ get_back P (repeat n P) (q * length P + r) ∙ copy_at n q r (omega arith) b

-- where an offset lies
split : (n k q r : ℕ) → 0 < k → q * k + r ≤ n * k → IsIn n q r
split n k q r some l = of (cases q n)
  where
    cases : (a b : ℕ) → (a < b) ⊎ (b ≤ a)
    cases a b = grind arith

    step : (n k : ℕ) → suc n * k ≡ n * k + k
    step n k = grind arith

    -- more whole copies than there are
    past : n < q → ⊥
    past b = let c : suc n ≤ q = omega arith in let m = mul-le-mul_right k c in let s = step n k in omega arith

    same : n ≤ q → (n < q) ⊎ (q ≤ n) → q ≡ n
    same a (inl b) = absurd (past b)
    same a (inr b) = omega arith

    of : (q < n) ⊎ (n ≤ q) → IsIn n q r
    of (inl a) = inl a
    of (inr a) = let m = mul-le-mul_right k a in inr (same a (cases n q), omega arith)

at_most : (a b c : ℕ) → a < b → c ≡ b → a ≤ c
at_most a b c h e = omega arith

under : (a b c : ℕ) → a < b → c ≡ b → a < c
under a b c h e = omega arith

nothing_left : (b r : ℕ) → b ≤ 3 * r → r ≡ 0 → b ≡ 0
nothing_left b r h e = omega arith

small_copies : (q k r o a b : ℕ) → q * k + r ≡ o → a ≤ 3 * k → b ≤ 3 * r → q * a + b ≤ 3 * o
small_copies q k r o a b e s t = let m = mul-le-mul_left q s in let f = three q k in omega arith
  where
    three : (q k : ℕ) → q * (3 * k) ≡ 3 * (q * k)
    three q k = grind arith

three_bytes : (a o n : ℕ) → a ≤ 3 * o → o ≤ n → n ≤ 1048576 → a ≤ 3145728
three_bytes a o n h k l = omega arith

module _ (table : Table) (w : IsWellFormed table) (kinds : List Kind) (t : TypeId) (x : CuredLayout) (h : IsCuredLayout table kinds t x) (complete : IsComplete table t) where
  abbrev P : List Cell
  P = cells_from 0 h.spots x.size

  part_length : length P ≡ x.size
  part_length = length_all h.part.size h.spots x.size h.part.stand

  all_length : h.count * x.size ≡ size_of table t
  all_length =
      ap (λ (k : ℕ). h.count * k) (sym part_length) ∙ sym (length_copies h.count P) ∙ ap length h.cells ∙ length_cells table w (physically_equal table) t complete

  pub part_some : 0 < x.size
  part_some = by x.size refl
    where
      by : (k : ℕ) → x.size ≡ k → 0 < x.size
      by zero e =
          let z : h.count * x.size ≡ h.count * 0 = ap (λ (k : ℕ). h.count * k) e in
          let s = (w.sized t complete).some in let a = all_length in absurd (omega arith)
      by (suc k) e = omega arith

  -- no pointer goes on behind the part
  pub part_end : IsBetweenPointers (cells_from 0 h.spots x.size) x.size
  part_end =
      let e = part_length in
      let p = slice_get_past P x.size (omega arith) in
      record { whole = λ n u i q. absurd (cc (p, q)) }

  -- the rest is less than a part
  pub rest_within : (o : ℕ) → o % x.size ≤ x.size
  rest_within o = at_most (o % x.size) x.size x.size (mod-lt o part_some) refl

  module _ (o a b : ℕ) (l : o ≤ size_of table t) (small : a ≤ 3 * x.size) (rest : b ≤ 3 * (o % x.size)) where
    pub copies_small : (o / x.size) * a + b ≤ 3145728
    copies_small =
        three_bytes ((o / x.size) * a + b) o (size_of table t) (small_copies (o / x.size) x.size (o % x.size) o a b (div-add-mod' o x.size) small rest) l (w.sized t complete).most

    pub copies_is : IsBetweenPointers (cells_of table t) o → a ≡ before (kind_at kinds) (cells_from 0 h.spots x.size) x.size
        → (IsBetweenPointers (cells_from 0 h.spots x.size) (o % x.size) → b ≡ before (kind_at kinds) (cells_from 0 h.spots x.size) (o % x.size))
        → (o / x.size) * a + b ≡ before (kind_at kinds) (cells_of table t) o
    copies_is between whole part =
        (λ i. (o / x.size) * (whole ∙ ap (before (kind_at kinds) P) (sym part_length)) i + rest_is i)
        ∙ sym (copies_before (kind_at kinds) P h.count (o / x.size) (o % x.size) place (at_most (o % x.size) x.size (length P) (mod-lt o part_some) part_length))
        ∙ (λ i. before (kind_at kinds) (h.cells i) (here i))
      where
        place : IsIn h.count (o / x.size) (o % x.size)
        place =
            split h.count x.size (o / x.size) (o % x.size) part_some
            (subst (λ (z : ℕ). z ≤ h.count * x.size) (sym (div-add-mod' o x.size)) (subst (λ (z : ℕ). o ≤ z) (sym all_length) l))

        here : (o / x.size) * length P + o % x.size ≡ o
        here = ap (λ (k : ℕ). (o / x.size) * k + o % x.size) part_length ∙ div-add-mod' o x.size

        rest_is : b ≡ before (kind_at kinds) P (o % x.size)
        rest_is = of place
          where
            of : IsIn h.count (o / x.size) (o % x.size) → b ≡ before (kind_at kinds) P (o % x.size)
            of (inl q) = part (record {
              whole = λ n u i e. between.whole n u i
                  (ap (slice_get (cells_of table t)) (sym here) ∙ ap (λ (cs : List Cell). slice_get cs ((o / x.size) * length P + o % x.size)) (sym h.cells)
                  ∙ copy_at (kind_at kinds) P h.count (o / x.size) (o % x.size) q (under (o % x.size) x.size (length P) (mod-lt o part_some) part_length) ∙ e);
            })
            of (inr (q, z)) = nothing_left b (o % x.size) rest z ∙ sym (ap (before (kind_at kinds) P) z)
