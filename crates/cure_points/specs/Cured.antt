-- Where an instruction on pointers is in shape, its lines are cured code of it.
use Rattle.std.specs.Prelude.{◌<◌, length}
use Rattle.cc_base.specs.declared.number.TypeId.{TypeId}
use Rattle.c_types.specs.Table.{Table, IsComplete, IsAggregate, members_at}
use Rattle.c_types.specs.Layouts.{offset_of}
use Rattle.c_types.specs.Cells.{IsBetweenPointers}
use Rattle.c_types.specs.Equality.{cells_of}
use Rattle.cil_form.specs.declared.instr.Point.{Point}
use Rattle.cil_form.specs.Typing.{Context, Typing, IsShapedPoint}
use Rattle.check_forms.specs.Pieces.{Piece}
use Rattle.cure_rules.specs.Known.{World, known_of}
use Rattle.cure_rules.specs.Pointing.{IsCuringPoint}
use Rattle.cure_instrs.specs.Cured.{IsIn}

-- no pointer has begun before a member and ends in it: so it is in each table that is well formed
abbrev pub AreMembersWhole : Table → Type 0
AreMembersWhole table = (t : TypeId) (i : _) → IsComplete table t → IsAggregate table t → i < length (members_at table t)
    → IsBetweenPointers (cells_of table t) (offset_of table t i)

unfoldable pub PointCured : Point → World → Typing → Piece
PointCured i w types code = (k : Context) (after : Typing) → IsIn w k → AreMembersWhole w.whole.table → IsShapedPoint i k types after
    → IsCuringPoint i w (known_of w.slots types) (known_of w.slots after) code
