-- What cells hold: a type that another covers, and what a SEQ pointer in bounds points to.
use Rattle.std.proofs.Common.{◌≡◌, ℕ, zero, suc, ◌+◌, ◌-◌, ◌%◌, ◌<◌, ◌≤◌, ◌⊎◌, ℤ, pos, negsuc, ◌+ℤ◌, ◌-ℤ◌, Bool, true, false, List, [], ◌∷◌, length, slice_get, Some, None, refl, ap, sym, subst, inl, inr, ◌∙◌, ⊎_elim, arith}
use Rattle.std.specs.Prelude.{slice_index_or}
use Rattle.std.proofs.lemmas.Int.{ints}
use Rattle.std.proofs.Math.Nat.{mod-mod}
use Rattle.std.proofs.lemmas.Option.{slice_get-get_or, slice_get_within}
use native.Mathlib.Nat.{mod-eq_of_lt}
use Rattle.cc_base.specs.declared.number.TypeId.{TypeId}
use Rattle.cc_base.specs.declared.number.NodeId.{NodeId}
use Rattle.c_types.specs.Table.{IsComplete, is_complete, entry_at, is_function}
use Rattle.c_types.specs.Layouts.{size_of}
use Rattle.c_types.specs.Cells.{Cell, raw, pointer, mixed, incomplete, AreOrdered, IsBetweenPointers}
use Rattle.c_types.specs.Equality.{cells_of, repeated_cell}
use Rattle.c_types.specs.Flows.{IsOfOneClass, Covers, CellsAgree}
use Rattle.c_types.specs.Sound.{IsWellFormed}
use Rattle.type_laws.proofs.Pointers.{class_turned}
use Rattle.integers.specs.Words.{residue}
use Rattle.c_types.proofs.OrderedPointers.{cells_ordered}
use Rattle.src_mem.specs.Outlines.{Outline}
use Rattle.src_mem.specs.Pointers.{Location, distance}
use Rattle.src_mem.specs.Checks.{fits_between}
use Rattle.src_mem.specs.State.{Setting}
use Rattle.src_mem.specs.Facts.{HoldType, StandsAt, IsSequenceAt}
use Rattle.src_mem.proofs.Right.{filled_part}
use Rattle.facts_kept.proofs.Agree.{agree-twice, covered-cells}
use Rattle.facts_kept.proofs.Flow.{equal-data, equal-begins, rep-there}
use Rattle.facts_kept.proofs.Complete.{cells-whole, complete-cell, complete-some}

-- SEQ in bounds
pub in-bounds : (low high : ℕ) (offset : ℤ) (m : ℕ) → fits_between low high offset m ≡ true
    → (at : ℕ) × (offset ≡ pos at) × (low ≤ at) × (at + m ≤ high)
in-bounds low high (pos at) m h = (at, refl, left low high at m h, right low high at m h)
  where
    left : (low high at m : ℕ) → fits_between low high (pos at) m ≡ true → low ≤ at
    left low high at m h = grind (arith, ints)

    right : (low high at m : ℕ) → fits_between low high (pos at) m ≡ true → at + m ≤ high
    right low high at m h = grind (arith, ints)
in-bounds low high (negsuc n) m h = absurd (none low high n m h)
  where
    none : (low high n m : ℕ) → fits_between low high (negsuc n) m ≡ true → Prim.⊥
    none low high n m h = grind (arith, ints)

module _ (w : Setting) (sound : IsWellFormed w.table) where
  pub class-covers : (t u : TypeId) → is_function w.table t ≡ false → IsOfOneClass w.table w.kind t u → Covers w.table w.kind t u
  class-covers t u ft h = record { begins = equal-begins w.table sound t u ft h.equal; kinds = h.kinds }

  -- what is of one class with a data type is one
  pub class-data : (t u : TypeId) → is_function w.table u ≡ false → IsOfOneClass w.table w.kind t u → is_function w.table t ≡ false
  class-data t u fu h = equal-data w.table sound u t fu (class_turned w.table w.kind t u h).equal

  fewer : (cells : List Cell) (n : ℕ) → ((i : ℕ) → i < n → (c : Cell) × (slice_get cells i ≡ Some c)) → n ≤ length cells
  fewer cells zero h = omega arith
  fewer cells (suc n) h = let x = h n (omega arith) in let l = slice_get_within cells n x.0 x.1 in omega (arith, l)

  cell-at : (cells : List Cell) (i : ℕ) → i < length cells → slice_get cells i ≡ Some (slice_index_or cells i raw)
  cell-at cells i h = slice_get-get_or cells i raw h

  pub covered-fewer : (t u : TypeId) → Covers w.table w.kind t u → length (cells_of w.table u) ≤ length (cells_of w.table t)
  covered-fewer t u h =
      fewer (cells_of w.table t) (length (cells_of w.table u))
      (λ i l. let x = covered-cells w sound t u h i (slice_index_or (cells_of w.table u) i raw) (cell-at (cells_of w.table u) i l) in (x.0, x.1))

  -- cells that hold a type hold what it covers
  pub covered-holds : (t u : TypeId) → Covers w.table w.kind t u → (cells : List Cell) (at high : ℕ) → HoldType w cells at high t
      → HoldType w cells at high u
  covered-holds t u h cells at high holds = record {
    room = let l = covered-fewer t u h in let r = holds.room in omega (arith, l, r);
    agree = λ i d e. let x = covered-cells w sound t u h i d e in let y = holds.agree i x.0 x.1 in (y.0, y.1, agree-twice w sound y.0 x.0 d y.2 x.2);
  }

  -- the first cell of a repetition begins no pointer before it
  first-cell : (cells : List Cell) → AreOrdered cells → 0 < length cells → (n : NodeId) (t : TypeId) (i : ℕ)
      → repeated_cell cells 0 ≡ pointer n t (suc i) → Prim.⊥
  first-cell cells o some n t i e =
      let z : 0 % length cells ≡ 0 = zero-mod (length cells) in
      let l = (o.least 0 (suc i) n t (ap (slice_get cells) (sym z) ∙ rep-there cells 0 some ∙ ap Some e)).1 in omega (arith, l)
    where
      zero-mod : (n : ℕ) → 0 % n ≡ 0
      zero-mod n = grind arith

  agree-pointer : (n : NodeId) (t : TypeId) (i : ℕ) (d : Cell) → CellsAgree w.table w.kind (pointer n t i) d
      → (m : NodeId) × (u : TypeId) × (d ≡ pointer m u i)
  agree-pointer n t i raw h = absurd h
  agree-pointer n t i (pointer m u j) h = (m, u, ap (pointer m u) (sym h.0))
  agree-pointer n t i (mixed u j) h = absurd h
  agree-pointer n t i (incomplete u) h = absurd h

  pub first-between : (t : TypeId) (cells : List Cell) (at : ℕ) → 0 < length (cells_of w.table t) → (c : Cell) → slice_get cells at ≡ Some c
      → CellsAgree w.table w.kind c (repeated_cell (cells_of w.table t) 0) → IsBetweenPointers cells at
  first-between t cells at some c e h = record {
    whole = λ n u i f.
        let g : c ≡ pointer n u (suc i) = cc (e, f) in
        let x = agree-pointer n u (suc i) (repeated_cell (cells_of w.table t) 0)
        (subst (λ b. CellsAgree w.table w.kind b (repeated_cell (cells_of w.table t) 0)) g h) in
        first-cell (cells_of w.table t) (cells_ordered w.table sound t) some x.0 x.1 i x.2;
  }

  -- SEQ
  module _ (outlines : List Outline) (t : TypeId) (l : Location) (s : IsSequenceAt w outlines t l) where
    pub seq-cell : IsComplete w.table t → (at : ℕ) → l.offset ≡ pos at → l.part.low ≤ at → (i : ℕ) → at + i < l.part.high
        → (c : Cell) × (slice_get s.object.cells (at + i) ≡ Some c) × CellsAgree w.table w.kind c (repeated_cell (cells_of w.table t) i)
    seq-cell complete at offset low i high =
        let here : l.part.low + (at - l.part.low + i) ≡ at + i = omega (arith, low) in
        let x = (filled_part (s.filled complete)).agree (at - l.part.low + i) (subst (λ k. k < l.part.high) (sym here) high) in
        let n = (complete-some w.table sound t complete).1 in
        let apart : distance l +ℤ pos i ≡ pos (at - l.part.low + i) = ap (λ z. z -ℤ pos l.part.low +ℤ pos i) offset
        ∙ difference at l.part.low i low in
        let rest : residue (distance l +ℤ pos i) (size_of w.table t) ≡ (at - l.part.low + i) % length (cells_of w.table t) =
        ap (λ z. residue z (size_of w.table t)) apart ∙ ap (λ k. (at - l.part.low + i) % k) (sym n) in
        let again : repeated_cell (cells_of w.table t) (residue (distance l +ℤ pos i) (size_of w.table t)) ≡ repeated_cell (cells_of w.table t)
        (at - l.part.low + i) =
        ap (λ k. slice_index_or (cells_of w.table t) (k % length (cells_of w.table t)) raw) rest ∙ ap (λ k. slice_index_or (cells_of w.table t) k raw)
        (mod-mod (at - l.part.low + i) (length (cells_of w.table t))) in
        let y = subst (λ b. CellsAgree w.table w.kind b (repeated_cell (cells_of w.table t) i)) again ((s.shifted complete).agree i) in (
          x.0,
          ap (slice_get s.object.cells) (sym here) ∙ x.1,
          agree-twice w sound x.0 (repeated_cell (cells_of w.table t) (at - l.part.low + i))
              (repeated_cell (cells_of w.table t) i) x.2 y,
        )
      where
        difference : (at low i : ℕ) → low ≤ at → pos at -ℤ pos low +ℤ pos i ≡ pos (at - low + i)
        difference at low i h = grind (arith, ints)

    -- it stands in its part, where it may be one past the end
    pub seq-stands : (at : ℕ) → l.offset ≡ pos at → l.part.low ≤ at → at ≤ l.part.high → StandsAt l s.object at
    seq-stands at offset low high = record { offset = offset; low = low; high = high; whole = by (is_complete (entry_at w.table t)) refl }
      where
        case : (a b : ℕ) → a ≤ b → (a < b) ⊎ (b ≡ a)
        case a b h = grind arith

        sum : (at : ℕ) → at + 0 ≡ at
        sum at = omega arith

        none : (at low : ℕ) → pos at -ℤ pos low ≡ pos 0 → low ≡ at
        none at low h = grind (arith, ints)

        by : (b : Bool) → is_complete (entry_at w.table t) ≡ b → IsBetweenPointers s.object.cells at
        by true c = ⊎_elim
            (λ h. let x = seq-cell c at offset low 0 (subst (λ k. k < l.part.high) (sym (sum at)) h) in
            first-between t s.object.cells at (complete-some w.table sound t c).0 x.0 (ap (slice_get s.object.cells) (sym (sum at)) ∙ x.1) x.2)
            (λ e. subst (IsBetweenPointers s.object.cells) e s.typed.high) (case at l.part.high high)
        by false c =
            let d = (s.unmoved (λ h. cc (h, c))).1 in
            subst (IsBetweenPointers s.object.cells) (none at l.part.low (ap (λ z. z -ℤ pos l.part.low) (sym offset) ∙ d)) s.typed.low

    -- it holds what the type covers, as far as that lies in its part
    pub seq-holds : (u : TypeId) → is_function w.table u ≡ false → Covers w.table w.kind t u → (at : ℕ) → l.offset ≡ pos at → l.part.low ≤ at
        → at + size_of w.table u ≤ l.part.high
        → HoldType w s.object.cells at l.part.high u
    seq-holds u fu h at offset low high = by (is_complete (entry_at w.table t)) refl
      where
        empty : cells_of w.table u ≡ [] → HoldType w s.object.cells at l.part.high u
        empty e =
            record {
              room = let n : length (cells_of w.table u) ≡ 0 = ap length e in omega (arith, n, high);
              agree = λ i d f. absurd
                  (let g : slice_get (cells_of w.table u) i ≡ None = ap (λ x. slice_get x i) e in cc (f, g));
            }

        full : IsComplete w.table t → length (cells_of w.table u) ≡ size_of w.table u → HoldType w s.object.cells at l.part.high u
        full c n = record {
          room = omega (arith, n, high);
          agree = λ i d e.
              let x = covered-cells w sound t u h i d e in
              let k = slice_get_within (cells_of w.table u) i d e in
              let y = seq-cell c at offset low i (omega (arith, n, high, k)) in
              let m = slice_get_within (cells_of w.table t) i x.0 x.1 in
              let same : repeated_cell (cells_of w.table t) i ≡ x.0 =
              let g : slice_get (cells_of w.table t) i ≡ Some (repeated_cell (cells_of w.table t) i) = ap (slice_get (cells_of w.table t))
              (sym (mod-eq_of_lt m)) ∙ rep-there (cells_of w.table t) i (omega (arith, m)) in
              let f = x.1 in cc (f, g) in
              (y.0, y.1, agree-twice w sound y.0 x.0 d (subst (CellsAgree w.table w.kind y.0) same y.2) x.2);
        }

        nothing : (cells : List Cell) → ((c : Cell) → slice_get cells 0 ≡ Some c → Prim.⊥) → cells ≡ []
        nothing [] h = refl
        nothing (c ∷ cells) h = absurd (h c refl)

        -- a complete type covers void or a complete one
        covered : IsComplete w.table t → (cells : List Cell) → cells_of w.table u ≡ cells
            → (cells_of w.table u ≡ []) ⊎ (length (cells_of w.table u) ≡ size_of w.table u)
        covered c [] e = inl e
        covered c (d ∷ ds) e =
            let f : slice_get (cells_of w.table u) 0 ≡ Some d = ap (λ x. slice_get x 0) e in
            let x = covered-cells w sound t u h 0 d f in
            inr (complete-some w.table sound u (complete-cell w.table sound u fu d f
            (λ v g. cells-whole w.table sound t c 0 v (x.1 ∙ ap Some (hole x.0 v (subst (CellsAgree w.table w.kind x.0) g x.2)))))).1
          where
            hole : (c : Cell) (v : TypeId) → CellsAgree w.table w.kind c (incomplete v) → c ≡ incomplete v
            hole raw v h = absurd h
            hole (pointer n t i) v h = absurd h
            hole (mixed u i) v h = absurd h
            hole (incomplete t) v h = ap incomplete h

        by : (b : Bool) → is_complete (entry_at w.table t) ≡ b → HoldType w s.object.cells at l.part.high u
        by true c = ⊎_elim (λ e. empty e) (λ n. full c n) (covered c (cells_of w.table u) refl)
        by false c =
            let e = (s.unmoved (λ k. cc (k, c))).0 in
            empty
            (nothing (cells_of w.table u)
            (λ d f. let x = covered-cells w sound t u h 0 d f in let g : slice_get (cells_of w.table t) 0 ≡ None = ap
            (λ x. slice_get x 0) e in let k = x.1 in cc (g, k)))
