-- The lines that clear and initialise objects.
use Rattle.std.specs.Prelude.{◌⊎◌, ℕ, [], ◌∷◌}
use Rattle.cc_base.specs.declared.kind.Kind.{Kind}
use Rattle.cc_base.specs.declared.kind.Kind.TheVariants.{Safe, Wild}
use Rattle.cc_base.specs.declared.number.TypeId.{TypeId}
use Rattle.cc_base.specs.declared.number.NodeId.{NodeId}
use Rattle.cc_base.specs.declared.place.Place.{Place}
use Rattle.integers.specs.Arithmetic.{IntegerType}
use Rattle.cil_form.specs.declared.number.Object.{Object}
use Rattle.cured_code.specs.declared.instr.Instr.TheVariants as instr
use Rattle.check_forms.specs.Pieces.{Piece, Line, Never}
use Rattle.check_forms.specs.declared.slots.PointerSlots.{PointerSlots}
use Rattle.cure_rules.specs.Slots.{Address, Base, Offset}
use Rattle.cure_rules.specs.Known.{World, cured_size, source_size}
use Rattle.cure_scope.specs.declared.scope.Scope.{Scope}
use Rattle.cure_scope.specs.Scopes.{seat, whole_of}
use Rattle.cure_instrs.specs.Cured.{IsPointerAt}
use Rattle.cure_instrs.specs.Lines.{start_line, IsIntegerAt, StoredInteger, StoredPointer}

-- an object is cleared, by the kind of its home
abbrev pub Cleared : Kind → Scope → Object → TypeId → Piece
Cleared Safe k o t = Line (start_line k o (seat Address) ∷ instr.Zero (seat Address) (cured_size (whole_of k) t) ∷ [])
Cleared Wild k o t = Line (start_line k o (seat Address) ∷ instr.Tzero (seat Address) (seat Address) (source_size (whole_of k) t) ∷ [])
Cleared kind k o t = Never

-- the address of so many cured bytes into an object
abbrev pub PartSet : Kind → Scope → Object → ℕ → Piece
PartSet Safe k o n = Line (start_line k o (seat Base) ∷ instr.Const (seat Offset) n ∷ instr.Add (seat Address) (seat Base) (seat Offset) ∷ [])
PartSet Wild k o n = Line (start_line k o (seat Base) ∷ instr.Const (seat Offset) n ∷ instr.Add (seat Address) (seat Base) (seat Offset) ∷ [])
PartSet kind k o n = Never

-- the slots that then hold it
abbrev pub part_at : PointerSlots
part_at = record { first = seat Address; second = seat Base; third = 381 }

-- a scalar of type t is stored from slot v, through a pointer of kind `outer` in slots s
unfoldable pub ScalarStored : World → Kind → TypeId → PointerSlots → ℕ → Place → Place → Piece
ScalarStored w outer t s v at assignment code =
    ((i : IntegerType) × IsIntegerAt w.whole t i × StoredInteger w outer t i s v at code)
    ⊎ ((m : NodeId) × (u : TypeId) × IsPointerAt w.whole t m u × StoredPointer w outer (w.whole.kind m) t s v at assignment code)
