-- A SEQ or WILD pointer that moves within RANGE stays a value.
use Rattle.std.proofs.Common.{◌≡◌, ℕ, zero, suc, ◌*◌, ◌^◌, ◌<◌, ◌≤◌, ◌≤ℤ◌, ℤ, pos, negsuc, neg_ℤ, ◌+ℤ◌, ◌-ℤ◌, ◌*ℤ◌, true, List, ap, sym, subst, ◌∙◌, arith}
use Rattle.std.specs.Int.{int_div_euclid}
use Rattle.std.proofs.lemmas.Int.{ints}
use Rattle.std.proofs.Math.Nat.{mul-le-mul}
use Rattle.cc_base.specs.declared.number.TypeId.{TypeId}
use Rattle.c_types.specs.Table.{IsComplete}
use Rattle.c_types.specs.Layouts.{size_of}
use Rattle.c_types.specs.Equality.{cells_of, repeated_cell}
use Rattle.c_types.specs.Sound.{IsWellFormed}
use Rattle.integers.specs.Words.{residue}
use Rattle.type_laws.proofs.Stairs.{stair-is, splits, Splits, up_one, residue-is}
use Rattle.src_mem.specs.Outlines.{Outline}
use Rattle.src_mem.specs.Pointers.{Location, distance}
use Rattle.src_mem.specs.Checks.{between, elements_before}
use Rattle.src_mem.specs.State.{Setting}
use Rattle.c_types.specs.Flows.{CellsAgree}
use Rattle.src_mem.specs.Facts.{sequence_least, sequence_most, wild_least, wild_most, IsSequenceAt, IsWildAt}

residue-step : (z : ℤ) (n : ℕ) → 0 < n → residue (z +ℤ pos n) n ≡ residue z n
residue-step z n h = of (splits n z h)
  where
    of : Splits n z → residue (z +ℤ pos n) n ≡ residue z n
    of x =
        ap (λ (y : ℤ). residue (y +ℤ pos n) n) x.is ∙ ap (λ (y : ℤ). residue y n) (up_one x.q n x.r) ∙ residue-is n (x.q +ℤ pos 1) x.r x.below ∙ sym
        (residue-is n x.q x.r x.below) ∙ ap (λ (y : ℤ). residue y n) (sym x.is)

residue-steps : (k n : ℕ) (z : ℤ) → 0 < n → residue (z +ℤ pos (k * n)) n ≡ residue z n
residue-steps zero n z h = ap (λ (y : ℤ). residue y n) (omega (arith, ints))
residue-steps (suc k) n z h =
    let e : z +ℤ pos (suc k * n) ≡ (z +ℤ pos (k * n)) +ℤ pos n = omega (arith, ints) in
    ap (λ (y : ℤ). residue y n) e ∙ residue-step (z +ℤ pos (k * n)) n h ∙ residue-steps k n z h

residue-moved : (k : ℤ) (n : ℕ) (z : ℤ) → 0 < n → residue (z +ℤ k *ℤ pos n) n ≡ residue z n
residue-moved (pos k) n z h =
    let e : z +ℤ pos k *ℤ pos n ≡ z +ℤ pos (k * n) = omega (arith, ints) in ap (λ (y : ℤ). residue y n) e ∙ residue-steps k n z h
residue-moved (negsuc k) n z h =
    let e : (z +ℤ negsuc k *ℤ pos n) +ℤ pos (suc k * n) ≡ z = omega (arith, ints) in
    sym (ap (λ (y : ℤ). residue y n) (sym e) ∙ residue-steps (suc k) n (z +ℤ negsuc k *ℤ pos n) h)

-- an element count in RANGE, and the distance that it makes
quotient : (n : ℕ) (q : ℤ) (r : ℕ) → r < n → elements_before (q *ℤ pos n +ℤ pos r) n ≡ q
quotient n q r h = let e : int_div_euclid (q *ℤ pos n +ℤ pos r) (pos n) *ℤ pos 1 +ℤ pos 0 ≡ q *ℤ pos 1 +ℤ pos 0 = stair-is (λ x. 0) n 1 q r h in
    one (int_div_euclid (q *ℤ pos n +ℤ pos r) (pos n)) q e
  where
    one : (x y : ℤ) → x *ℤ pos 1 +ℤ pos 0 ≡ y *ℤ pos 1 +ℤ pos 0 → x ≡ y
    one (pos a) (pos b) e = grind (arith, ints)
    one (pos a) (negsuc b) e = grind (arith, ints)
    one (negsuc a) (pos b) e = grind (arith, ints)
    one (negsuc a) (negsuc b) e = grind (arith, ints)

abbrev InRange : ℤ → Type 0
InRange z = (sequence_least ≤ℤ z) × (z ≤ℤ sequence_most)

whole-range : (e : ℤ) (n r : ℕ) → n ≤ 1048576 → r < n → between (neg_ℤ (pos (2 ^ 31))) e (pos (2 ^ 31)) ≡ true → InRange (e *ℤ pos n +ℤ pos r)
whole-range (pos a) n r s l h =
    let b : a ≤ 2147483648 = grind (arith, ints) in
    let m : a * n ≤ 2147483648 * 1048576 = mul-le-mul b s in
    (omega (arith, ints), omega (arith, ints))
whole-range (negsuc a) n r s l h =
    let b : suc a ≤ 2147483648 = grind (arith, ints) in
    let m : suc a * n ≤ 2147483648 * 1048576 = mul-le-mul b s in
    (omega (arith, ints), omega (arith, ints))

-- (q + k) n = q n + k n
spread-pos : (q : ℤ) (k n r : ℕ) → (q *ℤ pos n +ℤ pos r) +ℤ pos (k * n) ≡ (q +ℤ pos k) *ℤ pos n +ℤ pos r
spread-pos q zero n r = let e : q +ℤ pos 0 ≡ q = omega (arith, ints) in sym (ap (λ (y : ℤ). y *ℤ pos n +ℤ pos r) e ∙ omega (arith, ints))
spread-pos q (suc k) n r =
    let e : (q *ℤ pos n +ℤ pos r) +ℤ pos (suc k * n) ≡ ((q *ℤ pos n +ℤ pos r) +ℤ pos (k * n)) +ℤ pos n = omega (arith, ints) in
    let f : (q +ℤ pos k) +ℤ pos 1 ≡ q +ℤ pos (suc k) = omega (arith, ints) in
    e ∙ ap (λ (y : ℤ). y +ℤ pos n) (spread-pos q k n r) ∙ up_one (q +ℤ pos k) n r ∙ ap (λ (y : ℤ). y *ℤ pos n +ℤ pos r) f

spread : (q k : ℤ) (n r : ℕ) → (q *ℤ pos n +ℤ pos r) +ℤ k *ℤ pos n ≡ (q +ℤ k) *ℤ pos n +ℤ pos r
spread q (pos k) n r = let e : pos k *ℤ pos n ≡ pos (k * n) = omega (arith, ints) in ap (λ (y : ℤ). (q *ℤ pos n +ℤ pos r) +ℤ y) e ∙ spread-pos q k n r
spread q (negsuc k) n r =
    let here = spread-pos (q +ℤ negsuc k) (suc k) n r in
    let back : (q +ℤ negsuc k) +ℤ pos (suc k) ≡ q = omega (arith, ints) in
    let f : ((q +ℤ negsuc k) *ℤ pos n +ℤ pos r) +ℤ pos (suc k * n) ≡ q *ℤ pos n +ℤ pos r = here ∙ ap (λ (y : ℤ). y *ℤ pos n +ℤ pos r) back in
    ap (λ (y : ℤ). y +ℤ negsuc k *ℤ pos n) (sym f) ∙ cancel ((q +ℤ negsuc k) *ℤ pos n +ℤ pos r) (suc k * n)
  where
    cancel : (x : ℤ) (m : ℕ) → (x +ℤ pos (suc k * n)) +ℤ negsuc k *ℤ pos n ≡ x
    cancel x m = omega (arith, ints)

module _ (w : Setting) (sound : IsWellFormed w.table) (outlines : List Outline) where
  abbrev moved_by : ℤ → ℕ → Location → Location
  moved_by n size l = record l { offset = l.offset +ℤ n *ℤ pos size }

  pub seq-moved : (t : TypeId) (n : ℤ) (l : Location) → IsComplete w.table t → IsSequenceAt w outlines t l
      → between (neg_ℤ (pos (2 ^ 31))) (elements_before (distance l) (size_of w.table t) +ℤ n) (pos (2 ^ 31)) ≡ true
      → IsSequenceAt w outlines t (record l { offset = l.offset +ℤ n *ℤ pos (size_of w.table t) })
  seq-moved t n l c s h = of (splits (size_of w.table t) (distance l) (sound.sized t c).some)
    where
      by : (x : ℤ) (low : ℕ) (y : ℤ) → (x +ℤ y) -ℤ pos low ≡ (x -ℤ pos low) +ℤ y
      by x low y = omega (arith, ints)

      of : Splits (size_of w.table t) (distance l) → IsSequenceAt w outlines t (record l { offset = l.offset +ℤ n *ℤ pos (size_of w.table t) })
      of x =
          let e : elements_before (distance l) (size_of w.table t) ≡ x.q = ap (λ z. elements_before z (size_of w.table t)) x.is ∙ quotient
          (size_of w.table t) x.q x.r x.below in
          let r = whole-range (x.q +ℤ n) (size_of w.table t) x.r (sound.sized t c).most x.below
          (sym (ap (λ z. between (neg_ℤ (pos (2 ^ 31))) (z +ℤ n) (pos (2 ^ 31))) e) ∙ h) in
          let d : distance (record l { offset = l.offset +ℤ n *ℤ pos (size_of w.table t) }) ≡ distance l +ℤ n *ℤ pos
          (size_of w.table t) = by l.offset l.part.low (n *ℤ pos (size_of w.table t)) in
          let f : distance (record l { offset = l.offset +ℤ n *ℤ pos (size_of w.table t) }) ≡ (x.q +ℤ n) *ℤ pos (size_of w.table t) +ℤ pos x.r =
          d ∙ ap (λ z. z +ℤ n *ℤ pos (size_of w.table t)) x.is ∙ spread x.q n (size_of w.table t) x.r in
          record {
            object = s.object;
            located = record { found = s.located.found; ordered = s.located.ordered; inside = s.located.inside };
            typed = record { untagged = s.typed.untagged; low = s.typed.low; high = s.typed.high };
            made = s.made;
            least = subst (λ z. sequence_least ≤ℤ z) (sym f) r.0;
            most = subst (λ z. z ≤ℤ sequence_most) (sym f) r.1;
            filled = s.filled;
            blank = s.blank;
            shifted = λ k. record {
              agree = λ i.
                  let a : distance (record l { offset = l.offset +ℤ n *ℤ pos (size_of w.table t) }) +ℤ pos i ≡ (distance l +ℤ pos i) +ℤ n *ℤ pos
                  (size_of w.table t) =
                  ap (λ z. z +ℤ pos i) d ∙ turn (distance l) (n *ℤ pos (size_of w.table t)) (pos i) in
                  let b : residue (distance (record l { offset = l.offset +ℤ n *ℤ pos (size_of w.table t) }) +ℤ pos i) (size_of w.table t) ≡ residue
                  (distance l +ℤ pos i) (size_of w.table t) =
                  ap (λ z. residue z (size_of w.table t)) a ∙ residue-moved n (size_of w.table t) (distance l +ℤ pos i) (sound.sized t c).some in
                  subst (λ j. CellsAgree w.table w.kind (repeated_cell (cells_of w.table t) j) (repeated_cell (cells_of w.table t) i)) (sym b)
                  ((s.shifted k).agree i);
            };
            unmoved = λ k. absurd (k c);
          }
        where
          turn : (x y z : ℤ) → (x +ℤ y) +ℤ z ≡ (x +ℤ z) +ℤ y
          turn x y z = omega (arith, ints)

  pub wild-moved : (d : ℤ) (l : Location) → IsWildAt w outlines l → between (neg_ℤ (pos (2 ^ 40))) (l.offset +ℤ d) (pos (2 ^ 40)) ≡ true
      → IsWildAt w outlines (record l { offset = l.offset +ℤ d })
  wild-moved d l s h =
      record {
        object = s.object;
        found = s.found;
        tagged = s.tagged;
        low = s.low;
        high = s.high;
        least = low (l.offset +ℤ d) h;
        most = high
            (l.offset +ℤ d) h;
      }
    where
      low : (z : ℤ) → between (neg_ℤ (pos (2 ^ 40))) z (pos (2 ^ 40)) ≡ true → wild_least ≤ℤ z
      low z h = grind (arith, ints)

      high : (z : ℤ) → between (neg_ℤ (pos (2 ^ 40))) z (pos (2 ^ 40)) ≡ true → z ≤ℤ wild_most
      high z h = grind (arith, ints)
