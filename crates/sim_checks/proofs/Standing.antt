-- A SEQ pointer stands in its part, or at its end, exactly where its words say so.
use Rattle.std.proofs.Common.{◌≡◌, ◌∙◌, ℕ, ◌+◌, ◌-◌, ◌<◌, ◌≤◌, ◌%◌, ◌^◌, ℤ, pos, negsuc, ◌+ℤ◌, ◌-ℤ◌, ◌<ℤ◌, ◌≤ℤ◌, Bool, true, false, not, ◌&&◌, List, length, refl, ap, sym, arith, if◌then◌else◌}
use Rattle.std.specs.Prelude.{int_lt, int_le, slice_index_or}
use Rattle.std.proofs.lemmas.Bool.Decides.{nat_tests}
use Rattle.std.proofs.lemmas.Int.{ints}
use Rattle.std.proofs.Math.Nat.{mod-eq_of_lt}
use Rattle.cc_base.specs.declared.kind.Kind.TheVariants.{Seq}
use Rattle.cc_base.specs.declared.number.TypeId.{TypeId}
use Rattle.c_types.specs.Table.{IsComplete, entry_at, is_complete}
use Rattle.c_types.specs.Layouts.{size_of}
use Rattle.c_types.specs.Cells.{Cell, raw}
use Rattle.c_types.specs.Equality.{cells_of, repeated_cell}
use Rattle.c_types.specs.Flows.{CellsAgree}
use Rattle.c_types.specs.Sound.{IsWellFormed}
use Rattle.c_types.specs.Widths.{cell_width, before, stair, cured_size, cured_distance}
use Rattle.type_laws.proofs.OneClass.{move-alike}
use Rattle.type_laws.proofs.Pointers.{class_turned}
use Rattle.type_laws.proofs.Stairs.{HasSteps, IsWithin, steps-stair, stair-sign, stair-step, stair-suc, stair-mono, stair-within, same_le, not-less}
use Rattle.type_laws.proofs.Widths.{before-mono}
use Rattle.integers.specs.Words.{word, residue}
use Rattle.integers.specs.Operators.{signed}
use Rattle.integers.proofs.SignedLaws.{IsNear, signed-word}
use Rattle.integers.proofs.WordLaws.{residue-below, word-small}
use Rattle.src_mem.specs.Pointers.{Location, At, distance}
use Rattle.src_mem.specs.State as source
use Rattle.src_mem.specs.State.{Setting}
use Rattle.src_mem.specs.Checks.{between}
use Rattle.src_mem.specs.Facts.{IsSequenceAt, IsSameShifted}
use Rattle.src_mem.specs.Outlines.{outlines_of}
use Rattle.src_mem.proofs.Right.{filled_part}
use Rattle.cil_facts.proofs.Homes.{complete-along}
use Rattle.cured_code.specs.FlatState as flat
use Rattle.check_forms.specs.declared.slots.PointerSlots.{PointerSlots}
use Rattle.check_forms.specs.Conditions.{is_within_part}
use Rattle.sim_relation.specs.Ground.{Ground, place, first_word}
use Rattle.sim_relation.specs.Related.{ground_of}
use Rattle.sim_relation.proofs.Bounds.{EndsWhole, step_of, cell-steps, agree-width, width-most, distance-is, filled-run, widths}
use Rattle.sim_checks.specs.Rows.{IsChecked}
use Rattle.sim_checks.proofs.Addresses.{IsThere, there}
use Rattle.sim_checks.proofs.Sequences.{long, ends}

-- Stairs

-- as far as the part is long, once cured, exactly where it is so before
stair-part : (f u : ℕ → ℕ) (n : ℕ) → HasSteps f u n → 0 < u (n - 1) → (d : ℤ) (len : ℕ) → 0 < u (residue (d +ℤ pos (n - 1)) n)
    → (not (int_lt (stair f n (f n) d) (pos 0)) && not (int_lt (stair f n (f n) (pos len)) (stair f n (f n) d))) ≡ (int_le (pos 0) d && int_le d (pos len))
stair-part f u n s last d len end =
    ap (λ (b : Bool). b && not (int_lt (stair f n (f n) (pos len)) (stair f n (f n) d)))
    (ap not (stair-sign f n (f n) (steps-stair f u n s last) d) ∙ not-less d (pos 0))
    ∙ ap (λ (b : Bool). int_le (pos 0) d && b)
    (not-less (stair f n (f n) (pos len)) (stair f n (f n) d)
    ∙ sym (same_le d (pos len) (stair f n (f n) d) (stair f n (f n) (pos len)) (λ h. stair-mono f u n s d (pos len) h) beyond))
  where
    case : (x y : ℤ) → y <ℤ x → y ≤ℤ (x -ℤ pos 1)
    case x y h = omega (arith, ints, h)

    -- one step back
    back : stair f n (f n) d ≡ stair f n (f n) (d -ℤ pos 1) +ℤ pos (u (residue (d +ℤ pos (n - 1)) n))
    back =
        let whole : stair f n (f n) (d +ℤ pos n) ≡ stair f n (f n) d +ℤ pos (f n) = stair-step f n (f n) s.some d in
        let up : stair f n (f n) ((d -ℤ pos 1) +ℤ pos n) ≡ stair f n (f n) (d -ℤ pos 1) +ℤ pos (f n) = stair-step f n (f n) s.some (d -ℤ pos 1) in
        let e : d +ℤ pos n ≡ (d +ℤ pos (n - 1)) +ℤ pos 1 = (let p = s.some in omega (arith, ints, p)) in
        let h : (d -ℤ pos 1) +ℤ pos n ≡ d +ℤ pos (n - 1) = (let p = s.some in omega (arith, ints, p)) in
        let one : stair f n (f n) ((d +ℤ pos (n - 1)) +ℤ pos 1) ≡ stair f n (f n) (d +ℤ pos (n - 1)) +ℤ pos (u (residue (d +ℤ pos (n - 1)) n)) =
        stair-suc f u n s (d +ℤ pos (n - 1)) in
        let i = ap (stair f n (f n)) e in let j = ap (stair f n (f n)) h in omega (arith, ints, whole, up, one, i, j)

    beyond : pos len <ℤ d → stair f n (f n) (pos len) <ℤ stair f n (f n) d
    beyond h =
        let m : stair f n (f n) (pos len) ≤ℤ stair f n (f n) (d -ℤ pos 1) = stair-mono f u n s (pos len) (d -ℤ pos 1) (case d (pos len) h) in
        let b = back in omega (arith, ints, m, b, end)

-- the step before the end of an element: a SEQ pointer moves in steps of the type
end-step : (w : Setting) (t : TypeId) (z : ℤ) → EndsWhole w.table w.kind t → IsSameShifted w t z
    → 0 < step_of w.kind (cells_of w.table t) (residue (z +ℤ pos (length (cells_of w.table t) - 1)) (length (cells_of w.table t)))
end-step w t z whole shifted = of (cells_of w.table t) whole.sized whole.some whole.last (shifted.agree (length (cells_of w.table t) - 1))
  where
    of : (ts : List Cell) → length ts ≡ size_of w.table t → 0 < length ts → 0 < step_of w.kind ts (length ts - 1)
        → CellsAgree w.table w.kind (repeated_cell ts (residue (z +ℤ pos (length ts - 1)) (size_of w.table t))) (repeated_cell ts (length ts - 1))
        → 0 < step_of w.kind ts (residue (z +ℤ pos (length ts - 1)) (length ts))
    of ts sized some last a =
        let r : residue (z +ℤ pos (length ts - 1)) (length ts) < length ts = residue-below (z +ℤ pos (length ts - 1)) (length ts) some in
        let e1 : cell_width w.kind (repeated_cell ts (residue (z +ℤ pos (length ts - 1)) (size_of w.table t)))
        ≡ step_of w.kind ts (residue (z +ℤ pos (length ts - 1)) (length ts)) =
        ap (λ (k : ℕ). cell_width w.kind (slice_index_or ts (residue (z +ℤ pos (length ts - 1)) k % length ts) raw)) (sym sized)
        ∙ ap (λ (k : ℕ). cell_width w.kind (slice_index_or ts k raw)) (mod-eq_of_lt r) in
        let l : length ts - 1 < length ts = omega (arith, some) in
        let e2 : cell_width w.kind (repeated_cell ts (length ts - 1)) ≡ step_of w.kind ts (length ts - 1) =
        ap (λ (k : ℕ). cell_width w.kind (slice_index_or ts k raw)) (mod-eq_of_lt l) in
        let f = agree-width w (repeated_cell ts (residue (z +ℤ pos (length ts - 1)) (size_of w.table t))) (repeated_cell ts (length ts - 1)) a in
        omega (arith, e1, e2, f, last)

-- Words

pub near-small : (z : ℤ) → IsWithin z (2 ^ 62) → IsNear z
near-small (pos n) h = let q = h.high in let i : n < 2 ^ 63 = omega (arith, ints, q) in record { low = refl; high = less-true i }
  where
    less-true : n < 2 ^ 63 → int_lt (pos n) (pos (2 ^ 63)) ≡ true
    less-true i = grind (arith, nat_tests)
near-small (negsuc n) h = let q = h.low in let i : n < 2 ^ 63 = omega (arith, ints, q) in record { low = most i; high = refl }
  where
    most : n < 2 ^ 63 → int_le (negsuc (2 ^ 63 - 1)) (negsuc n) ≡ true
    most i = grind (arith, nat_tests)

-- a part of `len` bytes at `low`
within-words : (low len : ℕ) (x : ℤ) → low < 2 ^ 33 → len < 2 ^ 33 → IsWithin x (2 ^ 60)
    → is_within_part (word (pos low +ℤ x)) (word (pos low)) (word (pos (low + len))) ≡ (not (int_lt x (pos 0)) && not (int_lt (pos len) x))
within-words low len x hl hn hx =
    ap (λ (z : ℤ). not (int_lt z (signed (word (pos low)))) && not (int_lt (signed (word (pos (low + len)))) z)) (signed-word (pos low +ℤ x) (near-small (pos low +ℤ x)
    (let a = hx.low in let b = hx.high in record { low = omega (arith, ints, a, hl); high = omega (arith, ints, b, hl) })))
    ∙ ap (λ (z : ℤ). not (int_lt (pos low +ℤ x) z) && not (int_lt (signed (word (pos (low + len)))) (pos low +ℤ x)))
    (signed-word (pos low) (near-small (pos low) (record { low = omega (arith, ints); high = omega (arith, ints, hl) })))
    ∙ ap (λ (z : ℤ). not (int_lt (pos low +ℤ x) (pos low)) && not (int_lt z (pos low +ℤ x)))
    (signed-word (pos (low + len)) (near-small (pos (low + len)) (record { low = omega (arith, ints); high = omega (arith, ints, hl, hn) })))
    ∙ ap (λ (b : Bool). b && not (int_lt (pos (low + len)) (pos low +ℤ x))) first
    ∙ ap (λ (b : Bool). not (int_lt x (pos 0)) && b) last
  where
    first : not (int_lt (pos low +ℤ x) (pos low)) ≡ not (int_lt x (pos 0))
    first = not-less (pos low +ℤ x) (pos low) ∙ same_le (pos low) (pos low +ℤ x) (pos 0) x (λ k. omega (arith, ints, k)) (λ k. omega (arith, ints, k)) ∙ sym (not-less x (pos 0))

    last : not (int_lt (pos (low + len)) (pos low +ℤ x)) ≡ not (int_lt (pos len) x)
    last = not-less (pos (low + len)) (pos low +ℤ x)
        ∙ same_le (pos low +ℤ x) (pos (low + len)) x (pos len) (λ k. omega (arith, ints, k)) (λ k. omega (arith, ints, k)) ∙ sym (not-less (pos len) x)

-- the source's test, from the start of the part
source-within : (low high : ℕ) (z : ℤ) → low ≤ high → between (pos low) z (pos high) ≡ (int_le (pos 0) (z -ℤ pos low) && int_le (z -ℤ pos low) (pos (high - low)))
source-within low high z h =
    ap (λ (b : Bool). b && int_le z (pos high))
    (same_le (pos low) z (pos 0) (z -ℤ pos low) (λ k. omega (arith, ints, k)) (λ k. omega (arith, ints, k)))
    ∙ ap (λ (b : Bool). int_le (pos 0) (z -ℤ pos low) && b)
    (same_le z (pos high) (z -ℤ pos low) (pos (high - low)) (λ k. omega (arith, ints, k, h)) (λ k. omega (arith, ints, k, h)))

-- SEQ

module _ (w : Setting) (number_of : TypeId → ℕ) (s : source.State) (c : flat.State) (depth : ℕ) (t : TypeId) (sound : IsWellFormed w.table) (l : Location)
    (e : ℕ → ℕ) (p : PointerSlots) (x : IsChecked w number_of s c depth Seq t (At l) e p) where
  abbrev g : Ground
  g = ground_of w number_of s c

  abbrev value : IsSequenceAt w (outlines_of s.memory) t l
  value = x.held.value

  -- where its part begins and ends
  low-is : IsThere w number_of s c l.object l.part.low (value).object
  low-is = let v : IsSequenceAt w (outlines_of s.memory) t l = x.held.value in
      there w number_of s c x.related depth l.object l.part.low v.object v.located.found x.held.reaches v.typed.untagged

  high-is : IsThere w number_of s c l.object l.part.high (value).object
  high-is = let v : IsSequenceAt w (outlines_of s.memory) t l = x.held.value in
      there w number_of s c x.related depth l.object l.part.high v.object v.located.found x.held.reaches v.typed.untagged

  -- how far it stands behind the start of its part: within the part, exactly where C says so
  far-alike : (len : ℕ) → place g l.object l.part.high ≡ place g l.object l.part.low + len → (z : ℤ) → cured_distance w.table w.kind l.made (distance l) ≡ z → IsWithin z (2 ^ 60)
      → is_within_part (first_word g Seq (At l)) (place g l.object l.part.low) (place g l.object l.part.high) ≡ (not (int_lt z (pos 0)) && not (int_lt (pos len) z))
  far-alike len high z gone near =
      let a = low-is.below in let b = high-is.below in
      ap (λ k. is_within_part (word (pos (place g l.object l.part.low) +ℤ k)) (place g l.object l.part.low) (place g l.object l.part.high)) gone
      ∙ ap (λ k. is_within_part (word (pos (place g l.object l.part.low) +ℤ z)) (place g l.object l.part.low) k) high
      ∙ ap (λ k. is_within_part (word (pos (place g l.object l.part.low) +ℤ z)) k (place g l.object l.part.low + len))
      (sym (word-small (place g l.object l.part.low) (omega (arith, a))))
      ∙ ap (λ k. is_within_part (word (pos (place g l.object l.part.low) +ℤ z)) (word (pos (place g l.object l.part.low))) k)
      (sym (word-small (place g l.object l.part.low + len) (omega (arith, b, high))))
      ∙ within-words (place g l.object l.part.low) len z (omega (arith, a)) (omega (arith, b, high)) near

  stands-full : IsComplete w.table t
      → is_within_part (first_word g Seq (At l)) (place g l.object l.part.low) (place g l.object l.part.high) ≡ between (pos l.part.low) l.offset (pos l.part.high)
  stands-full complete =
      let v = value in
      let made = complete-along w sound t l.made (class_turned w.table w.kind l.made t v.made) complete in
      far-alike (before w.kind v.object.cells l.part.high - before w.kind v.object.cells l.part.low)
      (let a = low-is.is in let b = high-is.is in let m = before-mono w.kind v.object.cells l.part.low l.part.high v.located.ordered in omega (arith, a, b, m))
      (widths w.kind (cells_of w.table t) (distance l))
      (move-alike w.table sound w.kind l.made t made complete v.made (distance l) ∙ distance-is w.table w.kind t complete (long w sound t complete) (distance l)) wide
      ∙ ap (λ z. not (int_lt (widths w.kind (cells_of w.table t) (distance l)) (pos 0)) && not (int_lt z (widths w.kind (cells_of w.table t) (distance l)))) len_is
      ∙ stair-part (before w.kind (cells_of w.table t)) (step_of w.kind (cells_of w.table t)) (length (cells_of w.table t)) steps (ends w sound t complete).last
      (distance l) (l.part.high - l.part.low) (end-step w t (distance l) (ends w sound t complete) (v.shifted complete))
      ∙ sym (source-within l.part.low l.part.high l.offset v.located.ordered)
    where
      steps : HasSteps (before w.kind (cells_of w.table t)) (step_of w.kind (cells_of w.table t)) (length (cells_of w.table t))
      steps = cell-steps w.kind (cells_of w.table t) (ends w sound t complete).some

      wide : IsWithin (widths w.kind (cells_of w.table t) (distance l)) (2 ^ 60)
      wide =
          let v = value in
          let h = stair-within (before w.kind (cells_of w.table t)) (step_of w.kind (cells_of w.table t)) (length (cells_of w.table t)) 24 (2 ^ 52) steps
          (λ r. width-most w.kind (slice_index_or (cells_of w.table t) r raw)) (distance l)
          (let a = v.least in let b = v.most in record { low = omega (arith, ints, a); high = omega (arith, ints, b) }) in
          let a = h.low in let b = h.high in record { low = omega (arith, ints, a); high = omega (arith, ints, b) }

      len_is : pos (before w.kind (value).object.cells l.part.high - before w.kind (value).object.cells l.part.low) ≡ widths w.kind (cells_of w.table t) (pos (l.part.high - l.part.low))
      len_is =
          let v = value in
          let to : l.part.low + (l.part.high - l.part.low) ≡ l.part.high = (let o = v.located.ordered in omega (arith, o)) in
          let f = filled-run w v.object.cells l.part.low l.part.high t (ends w sound t complete).some (filled_part (v.filled complete)) (l.part.high - l.part.low) (omega (arith, to)) in
          let k = ap (before w.kind v.object.cells) to in
          let m = before-mono w.kind v.object.cells l.part.low l.part.high v.located.ordered in omega (arith, ints, f, k, m)

  stands-none : is_complete (entry_at w.table t) ≡ false
      → is_within_part (first_word g Seq (At l)) (place g l.object l.part.low) (place g l.object l.part.high) ≡ between (pos l.part.low) l.offset (pos l.part.high)
  stands-none none =
      let v = value in
      let d = (v.unmoved (λ h. cc (h, none))).1 in
      far-alike (before w.kind v.object.cells l.part.high - before w.kind v.object.cells l.part.low)
      (let a = low-is.is in let b = high-is.is in let m = before-mono w.kind v.object.cells l.part.low l.part.high v.located.ordered in omega (arith, a, b, m))
      (pos 0) (nothing (is_complete (entry_at w.table l.made)) refl) (record { low = omega (arith, ints); high = omega (arith, ints) })
      ∙ start (before w.kind v.object.cells l.part.high - before w.kind v.object.cells l.part.low)
      ∙ sym (source-within l.part.low l.part.high l.offset v.located.ordered ∙ ap (λ z. int_le (pos 0) z && int_le z (pos (l.part.high - l.part.low))) d)
    where
      start : (n : ℕ) → (not (int_lt (pos 0) (pos 0)) && not (int_lt (pos n) (pos 0))) ≡ (int_le (pos 0) (pos 0) && int_le (pos 0) (pos (l.part.high - l.part.low)))
      start n = grind (arith, nat_tests)

      nothing : (b : Bool) → is_complete (entry_at w.table l.made) ≡ b → cured_distance w.table w.kind l.made (distance l) ≡ pos 0
      nothing true f = absurd (let v = value in let h = complete-along w sound l.made t v.made f in cc (h, none))
      nothing false f =
          ap (λ (q : Bool). if q then stair (before w.kind (cells_of w.table l.made)) (size_of w.table l.made) (cured_size w.table w.kind l.made)
          (distance l) else pos 0) f

  pub stands-alike : is_within_part (first_word g Seq (At l)) (place g l.object l.part.low) (place g l.object l.part.high) ≡ between (pos l.part.low) l.offset (pos l.part.high)
  stands-alike = by (is_complete (entry_at w.table t)) refl
    where
      by : (b : Bool) → is_complete (entry_at w.table t) ≡ b
          → is_within_part (first_word g Seq (At l)) (place g l.object l.part.low) (place g l.object l.part.high) ≡ between (pos l.part.low) l.offset (pos l.part.high)
      by true f = stands-full f
      by false f = stands-none f
