-- Where an instruction on objects is in shape, its lines are cured code of it.
use Rattle.std.specs.Prelude.{◌≡◌, ◌≤◌, ℕ, Some, IsSome}
use Rattle.cc_base.specs.declared.number.TypeId.{TypeId}
use Rattle.c_types.specs.Table.{Table, IsType, IsComplete}
use Rattle.c_types.specs.Layouts.{size_of}
use Rattle.c_types.specs.Cells.{IsBetweenPointers}
use Rattle.c_types.specs.Equality.{cells_of}
use Rattle.src_mem.specs.Memory.{Planned}
use Rattle.cil_form.specs.declared.number.Object.{Object}
use Rattle.cil_form.specs.declared.instr.Access.{Access}
use Rattle.cil_form.specs.Typing.{Context, Typing, IsPart, IsShapedAccess}
use Rattle.check_forms.specs.Pieces.{Piece}
use Rattle.cure_rules.specs.Known.{Whole, World, known_of}
use Rattle.cure_rules.specs.Accesses.{IsCuringAccess, plan_of}
use Rattle.cure_instrs.specs.Cured.{IsIn, IsHome}

-- no pointer has begun before a part of an object and ends in it: so it is in each table that is well formed
abbrev pub ArePartsWhole : Table → Type 0
ArePartsWhole table = (u t : TypeId) (o : ℕ) → IsComplete table u → IsPart table u o t → IsBetweenPointers (cells_of table u) o

unfoldable pub ObjectCured : Access → World → Typing → Piece
ObjectCured i w types code = (k : Context) (after : Typing) → IsIn w k → ArePartsWhole w.whole.table → IsShapedAccess i k types after
    → IsCuringAccess i w (known_of w.slots types) (known_of w.slots after) code

-- Which instructions have code

-- the object is planned, with a home that is SAFE or WILD
unfoldable pub HasPlan : World → Object → Type 0
HasPlan w o = IsSome (plan_of w o) × ((x : Planned) → plan_of w o ≡ Some x → IsHome (w.whole.kind x.node))

-- so many bytes into a type that is complete
unfoldable pub CanPlace : Whole → TypeId → ℕ → Type 0
CanPlace w u offset = IsType w.table u × IsComplete w.table u × (offset ≤ size_of w.table u)
