-- Where an instruction is in shape, its lines are cured code of it.
use Rattle.cc_base.specs.declared.kind.Kind.{Kind}
use Rattle.cc_base.specs.declared.kind.Kind.TheVariants.{Safe, Seq, Rtti, Wild}
use Rattle.cc_base.specs.declared.number.TypeId.{TypeId}
use Rattle.c_types.specs.Table.{Table, IsType, shape_at}
use Rattle.cil_form.specs.declared.instr.Convert.{Convert}
use Rattle.cil_form.specs.declared.instr.Convert.TheVariants as convert
use Rattle.cil_form.specs.declared.instr.Allocate.{Allocate}
use Rattle.cil_form.specs.declared.instr.Allocate.TheVariants as allocate
use Rattle.cil_form.specs.declared.instr.RuntimeCall.{RuntimeCall}
use Rattle.cil_form.specs.Typing.{Context, Typing, IsShapedConvert, IsShapedAllocate, IsShapedRuntime}
use Rattle.check_forms.specs.Pieces.{Piece}
use Rattle.cure_rules.specs.Known.{Whole, World, known_of}
use Rattle.cure_rules.specs.Pointing.{IsCuringConvert}
use Rattle.cure_rules.specs.Calling.{IsCuringAllocate, IsCuringRuntime}
use Rattle.cure_instrs.specs.Cured.{IsIn, kind_in}
use Rattle.cure_blocks.specs.Rows.{pointee_at}

unfoldable pub ConvertCured : Convert → World → Typing → Piece
ConvertCured i w types code = (k : Context) (after : Typing) → IsIn w k → IsShapedConvert i k types after
    → IsCuringConvert i w (known_of w.slots types) (known_of w.slots after) code

unfoldable pub AllocateCured : Allocate → World → Typing → Piece
AllocateCured i w types code = (k : Context) (after : Typing) → IsIn w k → IsShapedAllocate i k types after
    → IsCuringAllocate i w (known_of w.slots types) (known_of w.slots after) code

unfoldable pub RuntimeCured : RuntimeCall → World → Typing → Piece
RuntimeCured i w types code = (k : Context) (after : Typing) → IsIn w k → IsShapedRuntime i k types after
    → IsCuringRuntime i w (known_of w.slots types) (known_of w.slots after) code

-- Which conversions have code

-- a pointer that an integer becomes
abbrev pub IsNumbered : Kind → Type 0
IsNumbered Seq = Unit {0}
IsNumbered Wild = Unit {0}
IsNumbered kind = ⊥

-- WILD is converted to WILD alone, and a pointer of one part to no SEQ one, but from SEQ
abbrev pub AreConverted : Kind → Kind → Type 0
AreConverted Wild Wild = Unit {0}
AreConverted Wild to = ⊥
AreConverted Seq Wild = ⊥
AreConverted Seq to = Unit {0}
AreConverted from Safe = Unit {0}
AreConverted from Rtti = Unit {0}
AreConverted from to = ⊥

abbrev pub AreTypes : Table → TypeId → TypeId → Type 0
AreTypes table u v = IsType table u × IsType table v

abbrev pub CanConvert : Convert → Whole → Type 0
CanConvert (convert.ToPointer into from t at) w = IsNumbered (kind_in w t)
CanConvert (convert.Pointer into from t s at) w =
    AreTypes w.table (pointee_at (shape_at w.table t)) (pointee_at (shape_at w.table s)) × AreConverted (kind_in w t) (kind_in w s)
CanConvert i w = Unit {0}

-- a type of the program
abbrev pub IsTypeIn : Table → TypeId → Type 0
IsTypeIn table t = IsType table t

abbrev pub CanAllocate : Allocate → Whole → Type 0
CanAllocate (allocate.Malloc into n node t at) w = IsTypeIn w.table t
CanAllocate (allocate.Calloc into m n node t at) w = IsTypeIn w.table t
