-- What the laws of the crate say.
use Rattle.std.specs.Prelude.{◌≡◌, ℕ, ◌%◌, Some, length, IsTrue}
use Rattle.std.specs.Int.{IsGcd}
use Rattle.cc_base.specs.declared.number.TypeId.{TypeId}
use Rattle.cc_base.specs.declared.number.NodeId.{NodeId}
use Rattle.cc_base.specs.declared.kind.Kind.{Kind}
use Rattle.c_types.specs.Table.{Table, IsType}
use Rattle.c_types.specs.Cells.{alike}
use Rattle.c_types.specs.Equality.{physically_equal, cells_of, repeated_cell, tile}
use Rattle.c_types.specs.Flows.{HeldPointer, pointer_at, IsOfOneClass, Covers}
use Rattle.c_types.specs.Sound.{IsWellFormed}
use Rattle.phys_types.specs.Laws.{HasCounterpart}

abbrev pub FactsPassBetweenTypesOfOneClass : Type 0
FactsPassBetweenTypesOfOneClass =
    (table : Table) (kind : NodeId → Kind) (t u : TypeId) (i : ℕ) (q : HeldPointer) → IsWellFormed table → IsOfOneClass table kind t u
    → pointer_at table u i ≡ Some q → HasCounterpart table kind t i q

abbrev pub FactsPassToWhatIsCovered : Type 0
FactsPassToWhatIsCovered =
    (table : Table) (kind : NodeId → Kind) (t u : TypeId) (i : ℕ) (q : HeldPointer) → IsWellFormed table → Covers table kind t u
    → pointer_at table u i ≡ Some q → HasCounterpart table kind t i q

abbrev pub RepetitionsAgreeAcross : Type 0
RepetitionsAgreeAcross =
    (table : Table) (t u : TypeId) (g i j : ℕ) → IsWellFormed table → IsType table t → IsType table u → IsTrue (tile table t u)
    → IsGcd (length (cells_of table t)) (length (cells_of table u)) g → i % g ≡ j % g
    → IsTrue (alike (physically_equal table) (repeated_cell (cells_of table t) i) (repeated_cell (cells_of table u) j))

abbrev pub RepetitionsAgreeWithin : Type 0
RepetitionsAgreeWithin =
    (table : Table) (t u : TypeId) (g i j : ℕ) → IsWellFormed table → IsType table t → IsType table u → IsTrue (tile table t u)
    → IsGcd (length (cells_of table t)) (length (cells_of table u)) g → i % g ≡ j % g
    → IsTrue (alike (physically_equal table) (repeated_cell (cells_of table t) i) (repeated_cell (cells_of table t) j))
