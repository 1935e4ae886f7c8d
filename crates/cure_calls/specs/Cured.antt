-- Where a call or a return is in shape, its lines are cured code of it.
use Rattle.std.specs.Prelude.{◌≡◌, Some}
use Rattle.cc_base.specs.declared.number.TypeId.{TypeId}
use Rattle.cc_base.specs.declared.place.Place.{Place}
use Rattle.cil_form.specs.declared.number.Temp.{Temp}
use Rattle.cil_form.specs.declared.instr.Call.{Call}
use Rattle.cil_form.specs.Typing.{Context, Typing, HoldsOf, IsShapedCall}
use Rattle.check_forms.specs.Pieces.{Piece}
use Rattle.cure_rules.specs.Known.{World, known_of}
use Rattle.cure_rules.specs.Calling.{IsCuringCall}
use Rattle.cure_rules.specs.Code.{Returns}
use Rattle.cure_instrs.specs.Cured.{IsIn}

unfoldable pub CallCured : Call → World → Typing → Piece
CallCured i w types code = (k : Context) (after : Typing) → IsIn w k → IsShapedCall i k types after
    → IsCuringCall i w (known_of w.slots types) (known_of w.slots after) code

unfoldable pub ReturnCured : Temp → TypeId → Place → World → Typing → Piece
ReturnCured v t at w types code = (k : Context) → IsIn w k → k.result ≡ w.result → k.result ≡ Some t → HoldsOf k types v t
    → Returns w (known_of w.slots types) v t at code
