-- A place moved forward to what stands there is a place: where an initialiser writes.
use Rattle.std.proofs.Common.{◌≡◌, ℕ, ◌+◌, ◌%◌, ◌<◌, pos, ◌+ℤ◌, List, length, slice_get, Some, ap, sym, ◌∙◌, arith}
use Rattle.std.proofs.lemmas.Int.{ints}
use Rattle.cc_base.specs.declared.number.TypeId.{TypeId}
use Rattle.c_types.specs.Table.{IsComplete}
use Rattle.c_types.specs.Cells.{Cell}
use Rattle.c_types.specs.Equality.{cells_of, repeated_cell}
use Rattle.c_types.specs.Flows.{CellsAgree}
use Rattle.c_types.specs.Sound.{IsWellFormed}
use Rattle.src_mem.specs.Pointers.{Location}
use Rattle.src_mem.specs.State.{Setting}
use Rattle.src_mem.specs.Outlines.{Outline}
use Rattle.src_mem.specs.Facts.{IsTypedPlace}
use Rattle.facts_kept.specs.Kept.{IsSub}
use Rattle.facts_kept.proofs.Agree.{agree-twice}
use Rattle.facts_kept.proofs.Flow.{rep-there}
use Rattle.facts_kept.proofs.Complete.{complete-some}
use Rattle.facts_kept.proofs.Holds.{first-between}

module _ (w : Setting) (sound : IsWellFormed w.table) (outlines : List Outline) where
  pub part-place : (t u : TypeId) (offset : ℕ) (l : Location) → IsComplete w.table u → IsSub w t offset u → IsTypedPlace w outlines t l
      → IsTypedPlace w outlines u (record l { offset = l.offset +ℤ pos offset })
  part-place t u offset l c sub p = record {
    object = p.object;
    at = p.at + offset;
    located = record { found = p.located.found; ordered = p.located.ordered; inside = p.located.inside };
    typed = record { untagged = p.typed.untagged; low = p.typed.low; high = p.typed.high };
    stands = record {
      offset = ap (λ z. z +ℤ pos offset) p.stands.offset ∙ plus p.at offset;
      low = let a = p.stands.low in omega (arith, a);
      high = let a = p.holds.room in let b = sub.room in omega (arith, a, b);
      whole = let x = cell 0 (repeated_cell (cells_of w.table u) 0) (first (cells_of w.table u) some) in
          let z : p.at + offset + 0 ≡ p.at + offset = omega arith in
          first-between w sound u p.object.cells (p.at + offset) some x.0 (ap (slice_get p.object.cells) (sym z) ∙ x.1) x.2;
    };
    holds = record { room = let a = p.holds.room in let b = sub.room in omega (arith, a, b); agree = λ i d e. cell i d e };
  }
    where
      some : 0 < length (cells_of w.table u)
      some = (complete-some w.table sound u c).0

      plus : (a b : ℕ) → pos a +ℤ pos b ≡ pos (a + b)
      plus a b = omega (arith, ints)

      first : (cells : List Cell) → 0 < length cells → slice_get cells 0 ≡ Some (repeated_cell cells 0)
      first cells h = ap (slice_get cells) (zero-mod (length cells)) ∙ rep-there cells 0 h
        where
          zero-mod : (n : ℕ) → 0 ≡ 0 % n
          zero-mod n = grind arith

      cell : (i : ℕ) (d : Cell) → slice_get (cells_of w.table u) i ≡ Some d
          → (c : Cell) × (slice_get p.object.cells (p.at + offset + i) ≡ Some c) × CellsAgree w.table w.kind c d
      cell i d e =
          let a = sub.agree i d e in
          let b = p.holds.agree (offset + i) a.0 a.1 in
          let z : p.at + (offset + i) ≡ p.at + offset + i = omega arith in
          (b.0, ap (slice_get p.object.cells) (sym z) ∙ b.1, agree-twice w sound b.0 a.0 d b.2 a.2)
