-- Two SEQ pointers of one part point to types with one endless repetition; so they are of one class, if they are physically equal.
use Rattle.std.proofs.Common.{◌≡◌, ℕ, zero, suc, ◌+◌, ◌-◌, ◌%◌, ◌<◌, ◌≤◌, ◌⊎◌, inl, inr, ⊎_elim, true, List, slice_get, Option, Some, None, ap, sym, subst, ◌∙◌, arith}
use Rattle.std.proofs.lemmas.Option.{slice_get_within}
use Rattle.std.proofs.Math.Nat.{mod-eq_of_lt}
use Rattle.cc_base.specs.declared.number.TypeId.{TypeId}
use Rattle.kind_sites.specs.declared.site.Site.{Site}
use Rattle.c_types.specs.Table.{IsComplete, shape_at}
use Rattle.c_types.specs.Cells.{Cell, raw, pointer, mixed, incomplete}
use Rattle.c_types.specs.Equality.{cells_of, repeated_cell, physically_equal}
use Rattle.c_types.specs.Flows.{HeldPointer, pointer_in_cell, and_then, StandAlike, CorrespondByPlace, top, inside, CellsAgree, IsOfOneClass}
use Rattle.c_types.specs.Sound.{IsWellFormed}
use Rattle.type_laws.proofs.OneClass.{data-pointer}
use Rattle.src_mem.specs.Pointers.{Location}
use Rattle.src_mem.specs.Memory.{Planned}
use Rattle.src_mem.specs.State.{Setting}
use Rattle.src_mem.specs.Outlines.{Outline}
use Rattle.src_mem.specs.Facts.{IsSequenceAt, IsBlockFor}
use Rattle.facts_kept.proofs.Agree.{agree-turned, agree-twice}
use Rattle.facts_kept.proofs.Complete.{complete-some, complete-data}
use Rattle.facts_kept.proofs.Flow.{rep-there}
use Rattle.cil_form.specs.Told.{AreSitesTold}

-- the endless repetitions of two types agree
abbrev pub RepetitionsAgree : Setting → TypeId → TypeId → Type 0
RepetitionsAgree w t u = (i : ℕ) → CellsAgree w.table w.kind (repeated_cell (cells_of w.table t) i) (repeated_cell (cells_of w.table u) i)

-- the cell that begins with a pointer
cell-of : (x : Option Cell) (p : HeldPointer) → and_then x pointer_in_cell ≡ Some p → x ≡ Some (pointer p.node p.to 0)
cell-of None p e = absurd (cc (e))
cell-of (Some raw) p e = absurd (cc (e))
cell-of (Some (pointer n t zero)) p e = let same : record { node = n; to = t } ≡ p = cc (e) in ap (λ (q : HeldPointer). Some (pointer q.node q.to 0)) same
cell-of (Some (pointer n t (suc i))) p e = absurd (cc (e))
cell-of (Some (mixed t i)) p e = absurd (cc (e))
cell-of (Some (incomplete t)) p e = absurd (cc (e))

module _ (w : Setting) (sound : IsWellFormed w.table) where
  -- Types whose repetitions agree

  -- pointers that correspond stand at one place, or within two that do
  from-top : (t u : TypeId) (p q : HeldPointer) → CorrespondByPlace w.table t u p q
      → StandAlike w.table t u p q ⊎ ((a b : HeldPointer) × StandAlike w.table t u a b × CorrespondByPlace w.table a.to b.to p q)
  from-top t u p q (top a b h) = inl h
  from-top t u p q (inside a b c d h k) = ⊎_elim (λ x. inr (a, b, x, top p q k)) (λ x. inr (x.0, x.1, x.2, inside a b p q x.3 k)) (from-top t u a b h)

  module _ (t u : TypeId) (complete : IsComplete w.table t) (whole : IsComplete w.table u) (alike : RepetitionsAgree w t u) where
    own-cell : (v : TypeId) → IsComplete w.table v → (i : ℕ) (c : Cell) → slice_get (cells_of w.table v) i ≡ Some c → repeated_cell (cells_of w.table v) i ≡ c
    own-cell v some i c e =
        let less = slice_get_within (cells_of w.table v) i c e in
        let there : slice_get (cells_of w.table v) i ≡ Some (repeated_cell (cells_of w.table v) i) =
        ap (slice_get (cells_of w.table v)) (sym (mod-eq_of_lt less)) ∙ rep-there (cells_of w.table v) i (complete-some w.table sound v some).0 in cc (e, there)

    cells-agree : (i : ℕ) (c d : Cell) → slice_get (cells_of w.table t) i ≡ Some c → slice_get (cells_of w.table u) i ≡ Some d → CellsAgree w.table w.kind c d
    cells-agree i c d e f = subst (λ x. CellsAgree w.table w.kind x d) (own-cell t complete i c e)
        (subst (CellsAgree w.table w.kind (repeated_cell (cells_of w.table t) i)) (own-cell u whole i d f) (alike i))

    stand-alike : (p q : HeldPointer) → StandAlike w.table t u p q → (w.kind p.node ≡ w.kind q.node) × IsOfOneClass w.table w.kind p.to q.to
    stand-alike p q (i, e, f) = of (cells-agree i (pointer p.node p.to 0) (pointer q.node q.to 0)
        (cell-of (slice_get (cells_of w.table t) i) p (sym (data-pointer w.table t (shape_at w.table t) i (complete-data w.table sound t complete)) ∙ e))
        (cell-of (slice_get (cells_of w.table u) i) q (sym (data-pointer w.table u (shape_at w.table u) i (complete-data w.table sound u whole)) ∙ f)))
      where
        of : CellsAgree w.table w.kind (pointer p.node p.to 0) (pointer q.node q.to 0) → (w.kind p.node ≡ w.kind q.node) × IsOfOneClass w.table w.kind p.to q.to
        of x = (x.1, x.2)

    pub class-alike : physically_equal w.table t u ≡ true → IsOfOneClass w.table w.kind t u
    class-alike same = record {
      equal = same;
      kinds = λ p q h. ⊎_elim (λ x. (stand-alike p q x).0) (λ x. (stand-alike x.0 x.1 x.2).1.kinds p q x.3) (from-top t u p q h);
    }

  -- TWO SEQ POINTERS OF ONE PART
  pub repetitions-agree : (sites : List Site) (planned : List Planned) → AreSitesTold w.table planned sites → (outlines : List Outline) (t u : TypeId) (k l : Location)
      → IsSequenceAt w outlines t k → IsSequenceAt w outlines u l → k.object ≡ l.object → k.part.low ≡ l.part.low → k.part.high ≡ l.part.high → IsComplete w.table t
      → IsComplete w.table u → RepetitionsAgree w t u
  repetitions-agree sites planned told outlines t u k l v z object low high complete whole i = ⊎_elim filled empty (case k.part.low k.part.high v.located.ordered)
    where
      case : (a b : ℕ) → a ≤ b → (a < b) ⊎ (a ≡ b)
      case a b h = grind (arith, h)

      one : v.object ≡ z.object
      one = let e : slice_get outlines k.object ≡ Some z.object = ap (slice_get outlines) object ∙ z.located.found in let f = v.located.found in cc (e, f)

      filled : k.part.low < k.part.high → CellsAgree w.table w.kind (repeated_cell (cells_of w.table t) i) (repeated_cell (cells_of w.table u) i)
      filled some =
          let x = (v.filled complete).agree some i in
          let y = (z.filled whole).agree (omega (arith, some, low, high)) i in
          let at : l.part.low + i % (l.part.high - l.part.low) ≡ k.part.low + i % (k.part.high - k.part.low) =
          ap (λ (n : ℕ). n + i % (l.part.high - n)) (sym low) ∙ ap (λ (n : ℕ). k.part.low + i % (n - k.part.low)) (sym high) in
          let e : slice_get v.object.cells (k.part.low + i % (k.part.high - k.part.low)) ≡ Some y.0 =
          ap (λ (o : Outline). slice_get o.cells (k.part.low + i % (k.part.high - k.part.low))) one ∙ ap (slice_get z.object.cells) (sym at) ∙ y.1 in
          let same : y.0 ≡ x.0 = (let f = x.1 in cc (e, f)) in
          agree-twice w sound (repeated_cell (cells_of w.table t) i) x.0 (repeated_cell (cells_of w.table u) i)
          (agree-turned w sound x.0 (repeated_cell (cells_of w.table t) i) x.2)
          (subst (λ (c : Cell). CellsAgree w.table w.kind c (repeated_cell (cells_of w.table u) i)) same y.2)

      empty : k.part.low ≡ k.part.high → CellsAgree w.table w.kind (repeated_cell (cells_of w.table t) i) (repeated_cell (cells_of w.table u) i)
      empty none = of (v.blank complete none) (subst (λ (o : Outline). IsBlockFor w o.node u) (sym one) (z.blank whole (sym low ∙ none ∙ high)))
        where
          of : IsBlockFor w v.object.node t → IsBlockFor w v.object.node u → CellsAgree w.table w.kind (repeated_cell (cells_of w.table t) i) (repeated_cell (cells_of w.table u) i)
          of a b =
              let same : a.to ≡ b.to = told.pointees v.object.node a.to b.to (told.pointers a.pointer v.object.node a.to a.is) (told.pointers b.pointer v.object.node b.to b.is) in
              agree-twice w sound (repeated_cell (cells_of w.table t) i) (repeated_cell (cells_of w.table b.to) i) (repeated_cell (cells_of w.table u) i)
              (subst (λ (x : TypeId). CellsAgree w.table w.kind (repeated_cell (cells_of w.table t) i) (repeated_cell (cells_of w.table x) i)) same
              (agree-turned w sound (repeated_cell (cells_of w.table a.to) i) (repeated_cell (cells_of w.table t) i) (a.agree i))) (b.agree i)
