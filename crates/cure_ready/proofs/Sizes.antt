-- What a use of a pointer to a complete type reaches is small, and not nothing.
use Rattle.std.proofs.Common.{ℕ, ◌<◌, ◌≤◌, length, sym, subst, arith, if◌then◌else◌}
use Rattle.cc_base.specs.declared.kind.Kind.{Kind}
use Rattle.cc_base.specs.declared.kind.Kind.TheVariants.{Safe, Seq, Rtti, Wild}
use Rattle.cc_base.specs.declared.number.NodeId.{NodeId}
use Rattle.cc_base.specs.declared.number.TypeId.{TypeId}
use Rattle.c_types.specs.Table.{Table, IsComplete}
use Rattle.c_types.specs.Layouts.{size_of}
use Rattle.c_types.specs.Equality.{cells_of}
use Rattle.c_types.specs.Widths as widths
use Rattle.c_types.specs.Sound.{IsWellFormed}
use Rattle.c_types.proofs.OrderedPointers.{cells_ordered}
use Rattle.type_laws.proofs.Widths.{before-strict}
use Rattle.facts_kept.proofs.Complete.{complete-some}
use Rattle.cure_ranges.proofs.Widths.{width_few}
use Rattle.cure_rules.specs.Known.{World, AreSizes, reach_by, source_size, cured_size}
use Rattle.cure_points.specs.Lines.{IsSmallReach}
use Rattle.cure_ready.proofs.PartStarts.{whole-between, end-between}

module _ (table : Table) (sound : IsWellFormed table) (kind : NodeId → Kind) (t : TypeId) (complete : IsComplete table t) where
  some : 0 < widths.cured_size table kind t
  some =
      before-strict kind (cells_of table t) 0 (length (cells_of table t)) (cells_ordered table sound t) (whole-between table sound t)
      (end-between table sound t) (complete-some table sound t complete).0 (omega arith)

  few : widths.cured_size table kind t ≤ 3145728
  few =
      let w = width_few kind (cells_of table t) (cells_ordered table sound t) in
      let n = (complete-some table sound t complete).1 in
      let m = (sound.sized t complete).most in
      omega (arith, w, n, m)

abbrev IsSmall : ℕ → Type 0
IsSmall n = (0 < n) × (n ≤ 4194304)

by-kind : (k : Kind) (source cured : ℕ) → IsSmall source → IsSmall cured → IsSmall (reach_by k source cured)
by-kind Wild source cured a b = a
by-kind Safe source cured a b = b
by-kind Seq source cured a b = b
by-kind Rtti source cured a b = b

pub small-reach : (w : World) → IsWellFormed w.whole.table → AreSizes w.whole → (k : Kind) (t : TypeId) → IsComplete w.whole.table t
    → IsSmallReach w k t
small-reach w sound sizes k t complete = by-kind k (source_size w.whole t) (cured_size w.whole t) source cured
  where
    source : IsSmall (source_size w.whole t)
    source =
        subst (λ b. IsSmall (if b then size_of w.whole.table t else 0)) (sym complete)
        ((sound.sized t complete).some, (let m = (sound.sized t complete).most in omega (arith, m)))

    cured : IsSmall (cured_size w.whole t)
    cured =
        subst IsSmall (sym (sizes.size t complete))
        (some w.whole.table sound w.whole.kind t complete, (let f = few w.whole.table sound w.whole.kind t complete in omega (arith, f)))
