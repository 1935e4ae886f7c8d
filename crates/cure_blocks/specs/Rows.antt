-- The lines of conversions.
use Rattle.std.specs.Prelude.{ℕ, Option, None, slice_index}
use Rattle.cc_base.specs.declared.kind.Kind.{Kind}
use Rattle.cc_base.specs.declared.number.TypeId.{TypeId}
use Rattle.cc_base.specs.declared.place.Place.{Place}
use Rattle.c_types.specs.declared.flow_class.FlowClass.{FlowClass}
use Rattle.c_types.specs.declared.shape.TypeShape.{TypeShape}
use Rattle.c_types.specs.declared.shape.TypeShape.TheVariants as shape
use Rattle.cured_code.specs.declared.instr.Narrow.{Narrow}
use Rattle.check_forms.specs.declared.op.Op.TheVariants as op
use Rattle.check_forms.specs.Pieces.{Piece, Then}
use Rattle.cure_rules.specs.Known.{World, narrow_of_bytes, pointer_slots}
use Rattle.cure_rules.specs.Pointing.{conversion_by, ConvertedWords}
use Rattle.cure_scope.specs.declared.scope.Scope.{Scope}
use Rattle.cure_scope.specs.Scopes.{seat}
use Rattle.cure_scope.specs.Needs.{Guards}

-- the part of a word that an integer of the shape is
abbrev pub narrow_at : TypeShape → Option Narrow
narrow_at (shape.Integer bytes signed) = narrow_of_bytes bytes signed
narrow_at other = None

-- what a pointer's shape points to
abbrev pub pointee_at : TypeShape → TypeId
pointee_at (shape.Pointer n u) = u
pointee_at other = record { 0 = 0 }

abbrev pub node_in : Scope → TypeId → ℕ
node_in k t = slice_index k.nodes.now t.0

-- a pointer in slots from a on is checked, and its words are converted into those from v on
abbrev pub PointerConverted : Kind → Kind → World → FlowClass → TypeId → TypeId → ℕ → ℕ → Place → Piece
PointerConverted from to w class u t v a at =
    Then (Guards (op.Convert (pointer_slots a) (conversion_by from to w seat class u t)) from at) (ConvertedWords from to w class u t v a)
