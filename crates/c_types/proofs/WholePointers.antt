-- Where the cells of a type begin a pointer, they hold all its eight bytes.
use Rattle.std.proofs.Common.{◌≡◌, ℕ, ◌+◌, ◌≤◌, length, slice_get, Some, arith}
use Rattle.std.proofs.lemmas.Option.{slice_get_within}
use Rattle.cc_base.specs.declared.number.TypeId.{TypeId}
use Rattle.cc_base.specs.declared.number.NodeId.{NodeId}
use Rattle.c_types.specs.Table.{Table}
use Rattle.c_types.specs.Cells.{Relation, pointer, cells_at}
use Rattle.c_types.specs.Sound.{IsWellFormed}
use Rattle.c_types.proofs.OrderedPointers.{cells_at_ordered, pointer_bytes}

pub cells_whole : (table : Table) → IsWellFormed table → (E : Relation) (t : TypeId) (i : ℕ) (n : NodeId) (u : TypeId)
    → slice_get (cells_at table E t) i ≡ Some (pointer n u 0) → i + 8 ≤ length (cells_at table E t)
cells_whole table w E t i n u e =
    let last = slice_get_within (cells_at table E t) (i + 7) (pointer n u 7) (pointer_bytes (cells_at table E t) i n u (cells_at_ordered table w E t) e 7 (omega arith)) in
    omega arith
