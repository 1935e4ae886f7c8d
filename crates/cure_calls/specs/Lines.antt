-- The lines of calls and returns.
use Rattle.std.specs.Prelude.{◌≡◌, ◌≢◌, ◌⊎◌, ℕ, suc, ◌+◌, ◌*◌, ◌<◌, ◌≤◌, List, [], ◌∷◌}
use Rattle.cc_base.specs.declared.number.TypeId.{TypeId}
use Rattle.cc_base.specs.declared.number.NodeId.{NodeId}
use Rattle.cc_base.specs.declared.kind.Kind.{Kind}
use Rattle.cc_base.specs.declared.place.Place.{Place}
use Rattle.c_types.specs.declared.shape.TypeShape.TheVariants as shape
use Rattle.c_types.specs.Table.{IsType, shape_at}
use Rattle.src_mem.specs.Memory.{Planned}
use Rattle.cured_code.specs.declared.instr.Instr.{Instr}
use Rattle.cured_code.specs.declared.instr.Instr.TheVariants as instr
use Rattle.check_forms.specs.Pieces.{Piece, Line, Then, When}
use Rattle.check_forms.specs.Rows.{home_slot}
use Rattle.check_forms.specs.declared.op.Op.TheVariants as op
use Rattle.cure_rules.specs.Known.{Whole, World, words_in, copies, pointer_slots}
use Rattle.cure_rules.specs.Checks.{call_of}
use Rattle.cure_scope.specs.Scopes.{seat}
use Rattle.cure_scope.specs.Needs.{Guards}
use Rattle.cure_instrs.specs.Lines.{HasInteger}
use Rattle.cure_instrs.specs.Cured.{HasPointer, IsPointerAt}

-- the words of arguments, values of numbers from n on, are copied into the row, from its slot j on
unfoldable pub ArgumentRow : World → ℕ → List TypeId → ℕ → Piece
ArgumentRow w n [] j = Line []
ArgumentRow w n (t ∷ ts) j =
    When (j + words_in w.whole t ≤ 381) (Then (Line (copies (words_in w.whole t) j (412 + 3 * n))) (ArgumentRow w (suc n) ts (j + words_in w.whole t)))

-- the values are there, and the row has room for their words
unfoldable pub FitsRow : World → ℕ → List TypeId → ℕ → Type 0
FitsRow w n [] j = Unit {0}
FitsRow w n (t ∷ ts) j = (n < 256) × (j + words_in w.whole t ≤ 381) × FitsRow w (suc n) ts (j + words_in w.whole t)

-- a call through a pointer of the kind to a function of type u, in slot a
abbrev pub CalledBy : World → Kind → TypeId → List TypeId → ℕ → ℕ → ℕ → Place → Piece
CalledBy w kind u parameters first a v at =
    Then (Guards (call_of w seat u (pointer_slots a)) kind at)
    (Then (ArgumentRow w first parameters 0) (Line (instr.Icall (w.whole.signature u) a 0 v ∷ [])))

-- t is a function type with these parameters
unfoldable pub IsFunctionAt : Whole → TypeId → List TypeId → TypeId → Type 0
IsFunctionAt w t parameters result = shape_at w.table t ≡ shape.Function parameters result

unfoldable pub HasFunction : Whole → TypeId → Type 0
HasFunction w t = (parameters : List TypeId) × (result : TypeId) × IsType w.table t × (shape_at w.table t ≡ shape.Function parameters result)

-- a function may be called through a pointer of type t, with the values from number n on
unfoldable pub CanCall : World → TypeId → ℕ → Type 0
CanCall w t n = (w.number ≢ 0) × HasPointer w.whole t × ((m : NodeId) (u : TypeId) → IsPointerAt w.whole t m u → HasFunction w.whole u
    × ((parameters : List TypeId) (result : TypeId) → IsFunctionAt w.whole u parameters result → FitsRow w n parameters 0))

-- what is asked of a pointer that is returned from slot a: it is to none of the variables
abbrev pub ReturnAsks : List Planned → Kind → ℕ → Place → Piece
ReturnAsks [] kind a at = Line []
ReturnAsks (v ∷ vs) kind a at = Guards (op.ReturnPointer (home_slot kind (pointer_slots a))) kind at

-- a value of type t may be returned
unfoldable pub CanReturn : World → TypeId → Type 0
CanReturn w t = (w.number ≢ 0) × (HasInteger w.whole t ⊎ HasPointer w.whole t)
