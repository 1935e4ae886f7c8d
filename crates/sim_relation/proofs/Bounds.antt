-- BOUNDS of a SEQ pointer: the test on its words has the value of the condition on its offset.
use Rattle.std.proofs.Common.{◌≡◌, ℕ, zero, suc, ◌+◌, ◌-◌, ◌<◌, ◌≤◌, ◌<ℤ◌, ◌≤ℤ◌, ◌%◌, ◌^◌, ℤ, pos, negsuc, ◌+ℤ◌, ◌-ℤ◌, Bool, true, false, not, ◌&&◌, List, length, slice_get, Option, Some, refl, ap, sym, subst, ◌∙◌, arith, if◌then◌else◌}
use Rattle.std.specs.Prelude.{slice_index_or, int_lt, int_le, ◌==◌}
use Rattle.std.proofs.lemmas.Bool.Decides.{nat_tests}
use Rattle.std.proofs.lemmas.Int.{ints}
use Rattle.std.proofs.lemmas.Option.{slice_get-get_or}
use Rattle.std.proofs.Math.Nat.{mod-eq_of_lt}
use Rattle.cc_base.specs.declared.number.TypeId.{TypeId}
use Rattle.cc_base.specs.declared.number.NodeId.{NodeId}
use Rattle.cc_base.specs.declared.kind.Kind.{Kind}
use Rattle.cc_base.specs.declared.kind.Kind.TheVariants.{Safe, Seq, Rtti, Wild}
use Rattle.c_types.specs.Table.{Table, IsComplete}
use Rattle.c_types.specs.Layouts.{size_of}
use Rattle.c_types.specs.Cells.{Cell, raw, pointer, mixed, incomplete}
use Rattle.c_types.specs.Equality.{cells_of, repeated_cell}
use Rattle.c_types.specs.Flows.{CellsAgree}
use Rattle.c_types.specs.Widths.{cell_width, kind_width, before, stair, cured_size, cured_distance}
use Rattle.type_laws.proofs.Widths.{before-suc, before-mono}
use Rattle.type_laws.proofs.Stairs.{HasSteps, stair-suc, stair-mono, stair-sign, stair-zero, stair-within, steps-stair, IsWithin, same_le, not-less}
use Rattle.integers.specs.Words.{residue, word}
use Rattle.integers.proofs.WordLaws.{residue-below, word-small}
use Rattle.integers.proofs.SignedLaws.{IsNear, is_in_part, in_part-word}
use Rattle.src_mem.specs.Pointers.{Location, At, distance}
use Rattle.src_mem.specs.Memory.{Memory}
use Rattle.src_mem.specs.State.{Setting}
use Rattle.src_mem.specs.Checks.{InBounds, holds, fits_between}
use Rattle.src_mem.specs.Outlines.{Outline, outlines_of}
use Rattle.src_mem.specs.Facts.{IsSequenceAt, IsHeldIn, RepeatType, IsSameShifted}
use Rattle.src_mem.proofs.Right.{filled_part}
use Rattle.cured_code.specs.FlatState.{PlacedArea}
use Rattle.sim_relation.specs.Ground.{Ground, ground, address, cells_in, place, first_word, second_word, third_word}

-- the steps of the widths of a type
abbrev pub step_of : (NodeId → Kind) → List Cell → ℕ → ℕ
step_of kind cs r = cell_width kind (slice_index_or cs r raw)

pub cell-steps : (kind : NodeId → Kind) (cs : List Cell) → 0 < length cs → HasSteps (before kind cs) (step_of kind cs) (length cs)
cell-steps kind cs some = record {
  some = some;
  first = refl;
  next = λ r h. before-suc kind cs r (slice_index_or cs r raw) (slice_get-get_or cs r raw h);
}

pub agree-width : (w : Setting) (c d : Cell) → CellsAgree w.table w.kind c d → cell_width w.kind c ≡ cell_width w.kind d
agree-width w raw raw a = refl
agree-width w raw (pointer m u j) a = absurd a
agree-width w raw (mixed u j) a = refl
agree-width w raw (incomplete u) a = refl
agree-width w (pointer n t i) raw a = absurd a
agree-width w (pointer n t i) (pointer m u j) a = ap (λ (k : ℕ). if k == 7 then kind_width (w.kind n) else 0) a.0 ∙ ap (λ (k : Kind). if j == 7 then kind_width k else 0) a.1
agree-width w (pointer n t i) (mixed u j) a = absurd a
agree-width w (pointer n t i) (incomplete u) a = absurd a
agree-width w (mixed t i) raw a = refl
agree-width w (mixed t i) (pointer m u j) a = absurd a
agree-width w (mixed t i) (mixed u j) a = refl
agree-width w (mixed t i) (incomplete u) a = refl
agree-width w (incomplete t) raw a = refl
agree-width w (incomplete t) (pointer m u j) a = absurd a
agree-width w (incomplete t) (mixed u j) a = refl
agree-width w (incomplete t) (incomplete u) a = refl

pub width-most : (kind : NodeId → Kind) (c : Cell) → cell_width kind c ≤ 24
width-most kind raw = omega arith
width-most kind (pointer n t i) = by (i == 7) (kind n)
  where
    by : (b : Bool) (k : Kind) → (if b then kind_width k else 0) ≤ 24
    by true Safe = omega arith
    by true Seq = omega arith
    by true Rtti = omega arith
    by true Wild = omega arith
    by false k = omega arith
width-most kind (mixed t i) = omega arith
width-most kind (incomplete t) = omega arith

-- what the simulation needs of a complete type: as many cells as bytes, and its last byte ends a pointer or is none's
pub record EndsWhole (table : Table) (kind : NodeId → Kind) (t : TypeId) : Type 0 where
  pub sized : length (cells_of table t) ≡ size_of table t
  pub some : 0 < length (cells_of table t)
  pub last : 0 < step_of kind (cells_of table t) (length (cells_of table t) - 1)
  pub small : length (cells_of table t) < 2 ^ 32

-- the distance once cured of a complete type
pub distance-is : (table : Table) (kind : NodeId → Kind) (t : TypeId) → IsComplete table t → length (cells_of table t) ≡ size_of table t → (z : ℤ)
    → cured_distance table kind t z ≡ stair (before kind (cells_of table t)) (length (cells_of table t)) (before kind (cells_of table t) (length (cells_of table t))) z
distance-is table kind t complete sized z =
    ap (λ (b : Bool). if b then stair (before kind (cells_of table t)) (size_of table t) (cured_size table kind t) z else pos 0) complete
    ∙ ap (λ (n : ℕ). stair (before kind (cells_of table t)) n (before kind (cells_of table t) (length (cells_of table t))) z) (sym sized)

-- the stair of a type's cells
abbrev pub widths : (NodeId → Kind) → List Cell → ℤ → ℤ
widths kind cs z = stair (before kind cs) (length cs) (before kind cs (length cs)) z

-- one more cell of a repetition
one-more : (w : Setting) (cs ts : List Cell) (low i : ℕ) → 0 < length ts
    → pos (before w.kind cs (low + i)) ≡ pos (before w.kind cs low) +ℤ widths w.kind ts (pos i)
    → ((c : Cell) × (slice_get cs (low + i) ≡ Some c) × CellsAgree w.table w.kind c (repeated_cell ts i))
    → pos (before w.kind cs (low + suc i)) ≡ pos (before w.kind cs low) +ℤ widths w.kind ts (pos (suc i))
one-more w cs ts low i some old a =
    let d : before w.kind cs (suc (low + i)) ≡ before w.kind cs (low + i) + cell_width w.kind a.0 = before-suc w.kind cs (low + i) a.0 a.1 in
    let e0 : low + suc i ≡ suc (low + i) = omega arith in
    let e : before w.kind cs (low + suc i) ≡ before w.kind cs (suc (low + i)) = ap (before w.kind cs) e0 in
    let f : cell_width w.kind a.0 ≡ cell_width w.kind (repeated_cell ts i) = agree-width w a.0 (repeated_cell ts i) a.2 in
    let n : widths w.kind ts (pos i +ℤ pos 1) ≡ widths w.kind ts (pos i) +ℤ pos (cell_width w.kind (repeated_cell ts i)) = stair-suc (before w.kind ts) (step_of w.kind ts) (length ts) (cell-steps w.kind ts some) (pos i) in
    let k : pos (suc i) ≡ pos i +ℤ pos 1 = omega (arith, ints) in
    let m : widths w.kind ts (pos (suc i)) ≡ widths w.kind ts (pos i +ℤ pos 1) = ap (widths w.kind ts) k in
    omega (arith, ints, old, d, e, f, n, m)

-- a part that is filled by a type is as long as the type's stair
pub filled-run : (w : Setting) (cs : List Cell) (low high : ℕ) (t : TypeId) → 0 < length (cells_of w.table t) → RepeatType w cs low high t → (i : ℕ) → low + i ≤ high
    → pos (before w.kind cs (low + i)) ≡ pos (before w.kind cs low) +ℤ widths w.kind (cells_of w.table t) (pos i)
filled-run w cs low high t some filled zero h =
    let e0 : low + 0 ≡ low = omega arith in
    let e : before w.kind cs (low + 0) ≡ before w.kind cs low = ap (before w.kind cs) e0 in
    let z : widths w.kind (cells_of w.table t) (pos 0) ≡ pos 0 = stair-zero (before w.kind (cells_of w.table t)) (step_of w.kind (cells_of w.table t)) (length (cells_of w.table t)) (cell-steps w.kind (cells_of w.table t) some) in
    omega (arith, ints, e, z)
filled-run w cs low high t some filled (suc i) h =
    one-more w cs (cells_of w.table t) low i some (filled-run w cs low high t some filled i (omega arith)) (filled.agree i (omega arith))

-- the cells of another type are as wide as the first ones of the endless repetition
abbrev pub AreAsWide : (NodeId → Kind) → List Cell → List Cell → Type 0
AreAsWide kind us ts = (i : ℕ) → i < length us → cell_width kind (slice_index_or us i raw) ≡ cell_width kind (repeated_cell ts i)

pub own-wide : (kind : NodeId → Kind) (ts : List Cell) → AreAsWide kind ts ts
own-wide kind ts i h = ap (λ (k : ℕ). cell_width kind (slice_index_or ts k raw)) (sym (mod-eq_of_lt h))

pub agree-wide : (w : Setting) (us : List Cell) (t : TypeId) → RepeatType w us 0 (length us) t → AreAsWide w.kind us (cells_of w.table t)
agree-wide w us t begins i h = of (begins.agree i (let z : 0 + i ≡ i = omega arith in omega (arith, z, h)))
  where
    of : ((c : Cell) × (slice_get us (0 + i) ≡ Some c) × CellsAgree w.table w.kind c (repeated_cell (cells_of w.table t) i))
        → cell_width w.kind (slice_index_or us i raw) ≡ cell_width w.kind (repeated_cell (cells_of w.table t) i)
    of a =
        let e : slice_get us i ≡ Some (slice_index_or us i raw) = slice_get-get_or us i raw h in
        let z : 0 + i ≡ i = omega arith in
        let f : slice_get us i ≡ Some a.0 = subst (λ (k : ℕ). slice_get us k ≡ Some a.0) z a.1 in
        let same : slice_index_or us i raw ≡ a.0 = cc (e, f) in
        ap (cell_width w.kind) same ∙ agree-width w a.0 (repeated_cell (cells_of w.table t) i) a.2

-- the other type is as long as so many steps
first-steps : (kind : NodeId → Kind) (us ts : List Cell) → 0 < length ts → AreAsWide kind us ts → (i : ℕ) → i ≤ length us
    → pos (before kind us i) ≡ widths kind ts (pos i)
first-steps kind us ts some wide zero h = sym (stair-zero (before kind ts) (step_of kind ts) (length ts) (cell-steps kind ts some))
first-steps kind us ts some wide (suc i) h =
    let l : i < length us = omega (arith, h) in
    let old = first-steps kind us ts some wide i (omega (arith, h)) in
    let e : before kind us (suc i) ≡ before kind us i + cell_width kind (slice_index_or us i raw) = before-suc kind us i (slice_index_or us i raw) (slice_get-get_or us i raw l) in
    let f = wide i l in
    let n : widths kind ts (pos i +ℤ pos 1) ≡ widths kind ts (pos i) +ℤ pos (cell_width kind (repeated_cell ts i)) = stair-suc (before kind ts) (step_of kind ts) (length ts) (cell-steps kind ts some) (pos i) in
    let k : pos (suc i) ≡ pos i +ℤ pos 1 = omega (arith, ints) in
    let m : widths kind ts (pos (suc i)) ≡ widths kind ts (pos i +ℤ pos 1) = ap (widths kind ts) k in
    omega (arith, ints, old, e, f, n, m)

-- a SEQ pointer moves in steps of the type: from where it stands on, steps are as from the start
step-shifted : (w : Setting) (t : TypeId) (z : ℤ) → length (cells_of w.table t) ≡ size_of w.table t → 0 < length (cells_of w.table t) → IsSameShifted w t z → (i : ℕ)
    → step_of w.kind (cells_of w.table t) (residue (z +ℤ pos i) (length (cells_of w.table t))) ≡ cell_width w.kind (repeated_cell (cells_of w.table t) i)
step-shifted w t z sized some shifted i = of (cells_of w.table t) sized some (shifted.agree i)
  where
    of : (ts : List Cell) → length ts ≡ size_of w.table t → 0 < length ts
        → CellsAgree w.table w.kind (repeated_cell ts (residue (z +ℤ pos i) (size_of w.table t))) (repeated_cell ts i)
        → step_of w.kind ts (residue (z +ℤ pos i) (length ts)) ≡ cell_width w.kind (repeated_cell ts i)
    of ts sized some a =
        let r : residue (z +ℤ pos i) (length ts) < length ts = residue-below (z +ℤ pos i) (length ts) some in
        let e : cell_width w.kind (repeated_cell ts (residue (z +ℤ pos i) (size_of w.table t))) ≡ step_of w.kind ts (residue (z +ℤ pos i) (length ts)) =
        ap (λ (k : ℕ). cell_width w.kind (slice_index_or ts (residue (z +ℤ pos i) k % length ts) raw)) (sym sized)
        ∙ ap (λ (k : ℕ). cell_width w.kind (slice_index_or ts k raw)) (mod-eq_of_lt r) in
        sym e ∙ agree-width w (repeated_cell ts (residue (z +ℤ pos i) (size_of w.table t))) (repeated_cell ts i) a

shifted-steps : (w : Setting) (t : TypeId) (z : ℤ) → length (cells_of w.table t) ≡ size_of w.table t → 0 < length (cells_of w.table t) → IsSameShifted w t z → (i : ℕ)
    → widths w.kind (cells_of w.table t) (z +ℤ pos i) ≡ widths w.kind (cells_of w.table t) z +ℤ widths w.kind (cells_of w.table t) (pos i)
shifted-steps w t z sized some shifted zero =
    let e0 : z +ℤ pos 0 ≡ z = omega (arith, ints) in
    let e : widths w.kind (cells_of w.table t) (z +ℤ pos 0) ≡ widths w.kind (cells_of w.table t) z = ap (widths w.kind (cells_of w.table t)) e0 in
    let n : widths w.kind (cells_of w.table t) (pos 0) ≡ pos 0 = stair-zero (before w.kind (cells_of w.table t)) (step_of w.kind (cells_of w.table t)) (length (cells_of w.table t)) (cell-steps w.kind (cells_of w.table t) some) in
    omega (arith, ints, e, n)
shifted-steps w t z sized some shifted (suc i) =
    let old = shifted-steps w t z sized some shifted i in
    let a : widths w.kind (cells_of w.table t) ((z +ℤ pos i) +ℤ pos 1) ≡ widths w.kind (cells_of w.table t) (z +ℤ pos i) +ℤ pos (step_of w.kind (cells_of w.table t) (residue (z +ℤ pos i) (length (cells_of w.table t)))) =
    stair-suc (before w.kind (cells_of w.table t)) (step_of w.kind (cells_of w.table t)) (length (cells_of w.table t)) (cell-steps w.kind (cells_of w.table t) some) (z +ℤ pos i) in
    let b : widths w.kind (cells_of w.table t) (pos i +ℤ pos 1) ≡ widths w.kind (cells_of w.table t) (pos i) +ℤ pos (cell_width w.kind (repeated_cell (cells_of w.table t) i)) =
    stair-suc (before w.kind (cells_of w.table t)) (step_of w.kind (cells_of w.table t)) (length (cells_of w.table t)) (cell-steps w.kind (cells_of w.table t) some) (pos i) in
    let same = step-shifted w t z sized some shifted i in
    let k0 : z +ℤ pos (suc i) ≡ (z +ℤ pos i) +ℤ pos 1 = omega (arith, ints) in
    let k = ap (widths w.kind (cells_of w.table t)) k0 in
    let m0 : pos (suc i) ≡ pos i +ℤ pos 1 = omega (arith, ints) in
    let m = ap (widths w.kind (cells_of w.table t)) m0 in
    omega (arith, ints, old, a, b, same, k, m)

-- so many bytes from d on lie in a part of `len` bytes, exactly where their images do: the last of them ends a pointer, or is none's
part-bounds : (f u : ℕ → ℕ) (n : ℕ) → HasSteps f u n → 0 < u (n - 1) → (d : ℤ) (len m wide : ℕ) → 0 < m → stair f n (f n) (d +ℤ pos m) ≡ stair f n (f n) d +ℤ pos wide
    → 0 < u (residue (d +ℤ pos (m - 1)) n)
    → (not (int_lt (stair f n (f n) d) (pos 0)) && not (int_lt (stair f n (f n) (pos len) -ℤ stair f n (f n) d) (pos wide))) ≡ (int_le (pos 0) d && int_le (d +ℤ pos m) (pos len))
part-bounds f u n s last d len m wide some whole end =
    ap (λ (b : Bool). b && not (int_lt (stair f n (f n) (pos len) -ℤ stair f n (f n) d) (pos wide))) first ∙ ap (λ (b : Bool). int_le (pos 0) d && b) second
  where
    first : not (int_lt (stair f n (f n) d) (pos 0)) ≡ int_le (pos 0) d
    first = ap not (stair-sign f n (f n) (steps-stair f u n s last) d) ∙ not-less d (pos 0)

    before-end : stair f n (f n) (d +ℤ pos m) ≡ stair f n (f n) (d +ℤ pos (m - 1)) +ℤ pos (u (residue (d +ℤ pos (m - 1)) n))
    before-end = ap (stair f n (f n)) (let p = some in omega (arith, ints)) ∙ stair-suc f u n s (d +ℤ pos (m - 1))

    fits : (d +ℤ pos m) ≤ℤ pos len → pos wide ≤ℤ (stair f n (f n) (pos len) -ℤ stair f n (f n) d)
    fits h = let r : stair f n (f n) (d +ℤ pos m) ≤ℤ stair f n (f n) (pos len) = stair-mono f u n s (d +ℤ pos m) (pos len) h in let w = whole in omega (arith, ints)

    not_fits : pos len <ℤ (d +ℤ pos m) → (stair f n (f n) (pos len) -ℤ stair f n (f n) d) <ℤ pos wide
    not_fits h =
        let r : stair f n (f n) (pos len) ≤ℤ stair f n (f n) (d +ℤ pos (m - 1)) = stair-mono f u n s (pos len) (d +ℤ pos (m - 1)) (let p = some in omega (arith, ints)) in
        let w = whole in let b = before-end in omega (arith, ints)

    second : not (int_lt (stair f n (f n) (pos len) -ℤ stair f n (f n) d) (pos wide)) ≡ int_le (d +ℤ pos m) (pos len)
    second = not-less (stair f n (f n) (pos len) -ℤ stair f n (f n) d) (pos wide) ∙ sym (same_le (d +ℤ pos m) (pos len) (pos wide) (stair f n (f n) (pos len) -ℤ stair f n (f n) d) fits not_fits)

-- the source's condition, from the start of the part
source-bounds : (low high : ℕ) (z : ℤ) (n : ℕ) → low ≤ high → fits_between low high z n ≡ (int_le (pos 0) (z -ℤ pos low) && int_le ((z -ℤ pos low) +ℤ pos n) (pos (high - low)))
source-bounds low high z n h = ap (λ (b : Bool). b && int_le (z +ℤ pos n) (pos high)) first ∙ ap (λ (b : Bool). int_le (pos 0) (z -ℤ pos low) && b) second
  where
    first : int_le (pos low) z ≡ int_le (pos 0) (z -ℤ pos low)
    first = same_le (pos low) z (pos 0) (z -ℤ pos low) (λ k. omega (arith, ints)) (λ k. omega (arith, ints))

    second : int_le (z +ℤ pos n) (pos high) ≡ int_le ((z -ℤ pos low) +ℤ pos n) (pos (high - low))
    second = same_le (z +ℤ pos n) (pos high) ((z -ℤ pos low) +ℤ pos n) (pos (high - low)) (λ k. omega (arith, ints)) (λ k. omega (arith, ints))

near : (z : ℤ) (m : ℕ) → IsWithin z m → m < 2 ^ 62 → IsNear z
near (pos n) m h b = let q = h.high in let i : n < 2 ^ 63 = omega (arith, ints) in record { low = refl; high = less-true i }
  where
    less-true : n < 2 ^ 63 → int_lt (pos n) (pos (2 ^ 63)) ≡ true
    less-true i = grind (arith, nat_tests)
near (negsuc n) m h b = let q = h.low in let i : n < 2 ^ 63 = omega (arith, ints) in record { low = most i; high = refl }
  where
    most : n < 2 ^ 63 → int_le (negsuc (2 ^ 63 - 1)) (negsuc n) ≡ true
    most i = grind (arith, nat_tests)

-- from words to distances: a part of `len` flat bytes at p
flat-bounds : (p m len : ℕ) (x : ℤ) → p < 2 ^ 33 → m < 2 ^ 40 → len < 2 ^ 33 → IsWithin x (2 ^ 60)
    → is_in_part (word (pos m)) (word (pos p +ℤ x)) (word (pos p)) (word (pos (p + len))) ≡ (not (int_lt x (pos 0)) && not (int_lt (pos len -ℤ x) (pos m)))
flat-bounds p m len x hp hm hl hx =
    in_part-word (pos m) (pos p +ℤ x) (pos p) (pos (p + len)) (near (pos m) (2 ^ 40) (record { low = omega (arith, ints); high = omega (arith, ints) }) (omega arith))
    (near (pos p +ℤ x) (2 ^ 61) (let a = hx.low in let b = hx.high in record { low = omega (arith, ints); high = omega (arith, ints) }) (omega arith))
    (near (pos p) (2 ^ 40) (record { low = omega (arith, ints); high = omega (arith, ints) }) (omega arith))
    (near (pos (p + len) -ℤ (pos p +ℤ x)) (2 ^ 61) (let a = hx.low in let b = hx.high in record { low = omega (arith, ints); high = omega (arith, ints) }) (omega arith))
    ∙ ap (λ (b : Bool). b && not (int_lt (pos (p + len) -ℤ (pos p +ℤ x)) (pos m))) first
    ∙ ap (λ (z : ℤ). not (int_lt x (pos 0)) && not (int_lt z (pos m))) rest
  where
    first : not (int_lt (pos p +ℤ x) (pos p)) ≡ not (int_lt x (pos 0))
    first = not-less (pos p +ℤ x) (pos p) ∙ same_le (pos p) (pos p +ℤ x) (pos 0) x (λ k. omega (arith, ints)) (λ k. omega (arith, ints)) ∙ sym (not-less x (pos 0))

    rest : pos (p + len) -ℤ (pos p +ℤ x) ≡ pos len -ℤ x
    rest = omega (arith, ints)

-- with its parts as numbers
bounds-parts : (w : Setting) (t u : TypeId) (address low high : ℕ) (cs : List Cell) (z : ℤ) → EndsWhole w.table w.kind t → EndsWhole w.table w.kind u
    → AreAsWide w.kind (cells_of w.table u) (cells_of w.table t) → low ≤ high → RepeatType w cs low high t → IsSameShifted w t (z -ℤ pos low)
    → IsWithin (z -ℤ pos low) (2 ^ 52) → ((i : ℕ) → address + before w.kind cs i < 2 ^ 33) → before w.kind (cells_of w.table u) (length (cells_of w.table u)) < 2 ^ 40
    → is_in_part (word (pos (before w.kind (cells_of w.table u) (length (cells_of w.table u))))) (word (pos (address + before w.kind cs low) +ℤ widths w.kind (cells_of w.table t) (z -ℤ pos low)))
    (word (pos (address + before w.kind cs low))) (word (pos (address + before w.kind cs high))) ≡ fits_between low high z (size_of w.table u)
bounds-parts w t u address low high cs z ends target as_wide ordered filled shifted within inside small =
    ap (λ (k : ℕ). is_in_part (word (pos m)) (word (pos p +ℤ x)) (word (pos p)) (word (pos k))) high_is
    ∙ flat-bounds p m len x (inside low) small (let h = inside high in omega arith) wide
    ∙ ap (λ (y : ℤ). not (int_lt x (pos 0)) && not (int_lt (y -ℤ x) (pos m))) len_is
    ∙ part-bounds (before w.kind ts) (step_of w.kind ts) n steps ends.last (z -ℤ pos low) (high - low) count m target.some whole end
    ∙ sym (source-bounds low high z count ordered)
    ∙ ap (fits_between low high z) target.sized
  where
    ts : List Cell
    ts = cells_of w.table t

    n : ℕ
    n = length (cells_of w.table t)

    p : ℕ
    p = address + before w.kind cs low

    count : ℕ
    count = length (cells_of w.table u)

    m : ℕ
    m = before w.kind (cells_of w.table u) (length (cells_of w.table u))

    len : ℕ
    len = before w.kind cs high - before w.kind cs low

    x : ℤ
    x = widths w.kind (cells_of w.table t) (z -ℤ pos low)

    steps : HasSteps (before w.kind (cells_of w.table t)) (step_of w.kind (cells_of w.table t)) (length (cells_of w.table t))
    steps = cell-steps w.kind (cells_of w.table t) ends.some

    whole : widths w.kind (cells_of w.table t) ((z -ℤ pos low) +ℤ pos (length (cells_of w.table u)))
        ≡ widths w.kind (cells_of w.table t) (z -ℤ pos low) +ℤ pos (before w.kind (cells_of w.table u) (length (cells_of w.table u)))
    whole = shifted-steps w t (z -ℤ pos low) ends.sized ends.some shifted (length (cells_of w.table u))
        ∙ ap (λ (y : ℤ). widths w.kind (cells_of w.table t) (z -ℤ pos low) +ℤ y) (sym (first-steps w.kind (cells_of w.table u) (cells_of w.table t) ends.some as_wide (length (cells_of w.table u)) (omega arith)))

    end : 0 < step_of w.kind (cells_of w.table t) (residue ((z -ℤ pos low) +ℤ pos (length (cells_of w.table u) - 1)) (length (cells_of w.table t)))
    end =
        let e = step-shifted w t (z -ℤ pos low) ends.sized ends.some shifted (length (cells_of w.table u) - 1) in
        let f = as_wide (length (cells_of w.table u) - 1) (let h = target.some in omega (arith, h)) in
        let l = target.last in omega (arith, e, f, l)

    rises : before w.kind cs low ≤ before w.kind cs high
    rises = before-mono w.kind cs low high ordered

    high_is : address + before w.kind cs high ≡ (address + before w.kind cs low) + (before w.kind cs high - before w.kind cs low)
    high_is = let h = rises in omega arith

    to_high : low + (high - low) ≡ high
    to_high = omega arith

    run : pos (before w.kind cs (low + (high - low))) ≡ pos (before w.kind cs low) +ℤ widths w.kind (cells_of w.table t) (pos (high - low))
    run = filled-run w cs low high t ends.some filled (high - low) (omega arith)

    len_is : pos (before w.kind cs high - before w.kind cs low) ≡ widths w.kind (cells_of w.table t) (pos (high - low))
    len_is = let e : before w.kind cs (low + (high - low)) ≡ before w.kind cs high = ap (before w.kind cs) to_high in let r = run in let h = rises in omega (arith, ints)

    wide : IsWithin (widths w.kind (cells_of w.table t) (z -ℤ pos low)) (2 ^ 60)
    wide =
        let h = stair-within (before w.kind (cells_of w.table t)) (step_of w.kind (cells_of w.table t)) (length (cells_of w.table t)) 24 (2 ^ 52) steps (λ r. width-most w.kind (slice_index_or (cells_of w.table t) r raw)) (z -ℤ pos low) within in
        let a = h.low in let b = h.high in record { low = omega (arith, ints); high = omega (arith, ints) }

-- the place of a byte of an object that is there
place-at : (g : Ground) (k i : ℕ) (o : Outline) → slice_get g.outlines k ≡ Some o → place g k i ≡ address g k + before g.kind o.cells i
place-at g k i o e = ap (λ (x : Option Outline). address g k + before g.kind (cells_in x) i) e

-- BOUNDS of a SEQ pointer on its three words is BOUNDS on its offset in its part: for a type that the endless repetition of what it points to begins with
pub sequence-bounds : (w : Setting) (number_of : TypeId → ℕ) (memory : Memory) (areas : List PlacedArea) (depth : ℕ) (t u : TypeId) (l : Location)
    → ((z : ℤ) → cured_distance w.table w.kind l.made z ≡ cured_distance w.table w.kind t z) → IsHeldIn w memory depth Seq t (At l) → IsComplete w.table t → EndsWhole w.table w.kind t → EndsWhole w.table w.kind u
    → AreAsWide w.kind (cells_of w.table u) (cells_of w.table t)
    → before w.kind (cells_of w.table u) (length (cells_of w.table u)) < 2 ^ 40
    → ((o : Outline) (i : ℕ) → slice_get (outlines_of memory) l.object ≡ Some o → address (ground w number_of memory.objects areas) l.object + before w.kind o.cells i < 2 ^ 33)
    → is_in_part (before w.kind (cells_of w.table u) (length (cells_of w.table u)))
    (first_word (ground w number_of memory.objects areas) Seq (At l)) (second_word (ground w number_of memory.objects areas) Seq (At l)) (third_word (ground w number_of memory.objects areas) (At l))
    ≡ holds w memory (InBounds (size_of w.table u) (At l))
sequence-bounds w number_of memory areas depth t u l alike held complete ends target as_wide small inside = of held.value
  where
    of : IsSequenceAt w (outlines_of memory) t l
        → is_in_part (before w.kind (cells_of w.table u) (length (cells_of w.table u)))
        (first_word (ground w number_of memory.objects areas) Seq (At l)) (second_word (ground w number_of memory.objects areas) Seq (At l)) (third_word (ground w number_of memory.objects areas) (At l))
        ≡ holds w memory (InBounds (size_of w.table u) (At l))
    of v =
        ap (λ (z : ℤ). is_in_part m (word (pos (place g l.object l.part.low) +ℤ z)) (place g l.object l.part.low) (place g l.object l.part.high)) (alike (distance l) ∙ distance-is w.table w.kind t complete ends.sized (distance l))
        ∙ ap (λ (k : ℕ). is_in_part m (word (pos k +ℤ x)) k (place g l.object l.part.high)) (place-at g l.object l.part.low v.object v.located.found)
        ∙ ap (λ (k : ℕ). is_in_part m (word (pos low +ℤ x)) low k) (place-at g l.object l.part.high v.object v.located.found)
        ∙ ap (λ (k : ℕ). is_in_part k (word (pos low +ℤ x)) low high) (sym (word-small m (omega arith)))
        ∙ ap (λ (k : ℕ). is_in_part (word (pos m)) (word (pos low +ℤ x)) k high) (sym (word-small low (let h = inside v.object l.part.low v.located.found in omega arith)))
        ∙ ap (λ (k : ℕ). is_in_part (word (pos m)) (word (pos low +ℤ x)) (word (pos low)) k) (sym (word-small high (let h = inside v.object l.part.high v.located.found in omega arith)))
        ∙ bounds-parts w t u (address g l.object) l.part.low l.part.high v.object.cells l.offset ends target as_wide v.located.ordered (filled_part (v.filled complete)) (v.shifted complete)
        (let a = v.least in let b = v.most in record { low = omega (arith, ints); high = omega (arith, ints) }) (λ i. inside v.object i v.located.found) small
      where
        g : Ground
        g = ground w number_of memory.objects areas

        m : ℕ
        m = before w.kind (cells_of w.table u) (length (cells_of w.table u))

        x : ℤ
        x = widths w.kind (cells_of w.table t) (distance l)

        low : ℕ
        low = address (ground w number_of memory.objects areas) l.object + before w.kind v.object.cells l.part.low

        high : ℕ
        high = address (ground w number_of memory.objects areas) l.object + before w.kind v.object.cells l.part.high
