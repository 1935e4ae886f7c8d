-- What cured code stands in, what is known of temporaries where it has come to, and operands.
use Rattle.std.specs.Prelude.{◌≡◌, ◌⊎◌, ℕ, ◌+◌, ◌≤◌, Bool, true, false, List, [], ◌∷◌, slice_index, Option, Some, None, nat_eq, if◌then◌else◌}
use Rattle.std.specs.List.{Contains}
use Rattle.cc_base.specs.declared.number.TypeId.{TypeId}
use Rattle.cc_base.specs.declared.number.NodeId.{NodeId}
use Rattle.cc_base.specs.declared.kind.Kind.{Kind}
use Rattle.cc_base.specs.declared.kind.Kind.TheVariants.{Wild}
use Rattle.c_types.specs.declared.shape.TypeShape.{TypeShape}
use Rattle.c_types.specs.declared.shape.TypeShape.TheVariants as shape
use Rattle.c_types.specs.Table.{Table, IsComplete, shape_at, entry_at, is_complete}
use Rattle.c_types.specs.Cells.{IsBetweenPointers}
use Rattle.c_types.specs.Equality.{cells_of}
use Rattle.c_types.specs.Layouts.{size_of}
use Rattle.c_types.specs.Widths as widths
use Rattle.integers.specs.Arithmetic.{IntegerType}
use Rattle.flat_mem.specs.Placement.{function_address}
use Rattle.src_mem.specs.Memory.{Planned}
use Rattle.cil_form.specs.declared.number.Temp.{Temp}
use Rattle.cil_form.specs.declared.number.Object.TheVariants as object
use Rattle.cil_form.specs.State.{is_same}
use Rattle.cil_form.specs.Typing.{HeldType, IntegerOf, PointerTo, PlaceOf, Typing, IsTemp}
use Rattle.cured_code.specs.declared.instr.Instr.{Instr}
use Rattle.cured_code.specs.declared.instr.Instr.TheVariants as instr
use Rattle.cured_code.specs.declared.instr.Narrow.{Narrow}
use Rattle.cured_code.specs.declared.instr.Narrow.TheVariants.{S8, S16, S32, U8, U16, U32}
use Rattle.check_forms.specs.Pieces.{Piece, Line}
use Rattle.check_forms.specs.declared.slots.PointerSlots.{PointerSlots}
use Rattle.sim_relation.specs.Ground.{word_number}
use Rattle.sim_relation.specs.Points.{Form, Exact, Zeroed, Low, Sure, Known, Knowledge, Content, Number, Start, End}
use Rattle.cure_rules.specs.Slots.{Slots, Role, slot_of}

-- Where code stands

-- What is the same in all functions of a program: its types and the kinds of its nodes; the bytes that an object of each type takes once
-- cured, of a type that isn't complete none, and those that its first bytes take; the number of the type node that pointers to a type carry;
-- the static objects, and the addresses of their areas; how many functions are defined; the number of the signature of each function
-- type.
pub record Whole : Type 0 where
  pub table : Table
  pub kind : NodeId → Kind
  pub size : TypeId → ℕ
  pub offset : TypeId → ℕ → ℕ
  pub node : TypeId → ℕ
  pub statics : List Planned
  pub addresses : List ℕ
  pub functions : ℕ
  pub signature : TypeId → ℕ

-- A function: its number in the cured program, where function 0 runs the static initialisers; its variables; the type of its result; its
-- slots.
pub record World : Type 0 where
  pub whole : Whole
  pub number : ℕ
  pub variables : List Planned
  pub result : Option TypeId
  pub slots : Slots

-- Types

abbrev pub kind_of : World → NodeId → Kind
kind_of w n = w.whole.kind n

-- The sizes and offsets are those of the types and the kinds.
pub record AreSizes (w : Whole) : Type 0 where
  pub size : (t : TypeId) → IsComplete w.table t → w.size t ≡ widths.cured_size w.table w.kind t
  pub none : (t : TypeId) → is_complete (entry_at w.table t) ≡ false → w.size t ≡ 0
  pub offset : (t : TypeId) (o : ℕ) → IsComplete w.table t → o ≤ size_of w.table t → IsBetweenPointers (cells_of w.table t) o
      → w.offset t o ≡ widths.before w.kind (cells_of w.table t) o

abbrev pub cured_size : Whole → TypeId → ℕ
cured_size w t = w.size t

-- the bytes of a type that isn't complete are none
abbrev pub source_size : Whole → TypeId → ℕ
source_size w t = if is_complete (entry_at w.table t) then size_of w.table t else 0

-- the bytes that a use of kind k reaches: through a WILD pointer as many as in the source
abbrev pub reach_by : Kind → ℕ → ℕ → ℕ
reach_by Wild source cured = source
reach_by kind source cured = cured

abbrev pub reach_of : World → Kind → TypeId → ℕ
reach_of w k t = reach_by k (source_size w.whole t) (cured_size w.whole t)

-- how many words a value takes, by its shape, by its type and as it is held
abbrev pub words_by : (NodeId → Kind) → TypeShape → ℕ
words_by kind (shape.Integer bytes signed) = 1
words_by kind (shape.Pointer n u) = word_number (kind n)
words_by kind other = 0

abbrev pub words_in : Whole → TypeId → ℕ
words_in w t = words_by w.kind (shape_at w.table t)

abbrev pub held_words : Whole → HeldType → ℕ
held_words w (IntegerOf i) = 1
held_words w (PointerTo n u) = word_number (w.kind n)
held_words w (PlaceOf n u) = word_number (w.kind n)

-- t is the integer type i
abbrev pub IsInteger : World → TypeId → IntegerType → Type 0
IsInteger w t i = shape_at w.whole.table t ≡ shape.Integer i.bytes i.signed

-- t is the type of pointers of the node to u
abbrev pub IsPointer : World → TypeId → NodeId → TypeId → Type 0
IsPointer w t n u = shape_at w.whole.table t ≡ shape.Pointer n u

-- what a value of this shape is held as
abbrev pub held_shape : TypeShape → Option HeldType
held_shape (shape.Integer bytes signed) = Some (IntegerOf (record { bytes = bytes; signed = signed }))
held_shape (shape.Pointer n u) = Some (PointerTo n u)
held_shape other = None

abbrev pub held_by : World → TypeId → Option HeldType
held_by w t = held_shape (shape_at w.whole.table t)

-- the address of the last function of the cured program: function 0 comes before those of the source
abbrev pub last_function : World → ℕ
last_function w = function_address w.whole.functions

-- What is known

abbrev pub nothing_known : Knowledge
nothing_known t = None

-- what is known once temporary t is written
abbrev pub with_known : Temp → Option Known → Knowledge → Knowledge
with_known t x known u = if is_same u t then x else known u

-- what `less` knows is known
abbrev pub Includes : Knowledge → Knowledge → Type 0
Includes known less = (t : Temp) (x : Known) → less t ≡ Some x → known t ≡ Some x

-- what is known behind an instruction that writes a temporary; less may be kept of it
abbrev pub Leaves : Knowledge → Temp → Option Known → Knowledge → Type 0
Leaves known into x after = Includes (with_known into x known) after

abbrev pub an_integer : ℕ → Form → IntegerType → Known
an_integer a f i = record { type = IntegerOf i; place = Some a; form = f; sure = [] }

abbrev pub a_pointer : ℕ → NodeId → TypeId → List Sure → Known
a_pointer a n u sure = record { type = PointerTo n u; place = Some a; form = Exact; sure = sure }

abbrev pub a_place : ℕ → NodeId → TypeId → List Sure → Known
a_place a n u sure = record { type = PlaceOf n u; place = Some a; form = Exact; sure = sure }

-- What is known of temporaries of which each has its words, exactly, in its own column, and nothing more is sure.
abbrev pub known_at : ℕ → Option HeldType → Option Known
known_at a None = None
known_at a (Some x) = Some (record { type = x; place = Some a; form = Exact; sure = [] })

abbrev pub known_of : Slots → Typing → Knowledge
known_of s types t = known_at (s.column t) (types t)

-- Columns

abbrev pub column : World → Temp → ℕ
column w t = w.slots.column t

-- t is a temporary whose column has room for so many words
abbrev pub Takes : World → Temp → ℕ → Type 0
Takes w t n = IsTemp t × (n ≤ w.slots.width t)

-- Operands that no temporary holds

abbrev pub IsKept : World → ℕ → Content → Type 0
IsKept w a content = Contains w.slots.kept (record { slot = a; content = content })

-- the line that sets a slot to it
abbrev pub Sets : World → Content → ℕ → Piece
Sets w (Number n) a = Line (instr.Const a n ∷ [])
Sets w (Start (object.Variable k)) a = Line (instr.Frame a k.0 ∷ [])
Sets w (Start (object.Static k)) a = Line (instr.Const a (slice_index w.whole.addresses k.0) ∷ [])
Sets w (End o) a = λ lines. ⊥

-- slot a has it: it is kept there, or it is set in the working slot of the role, right before it is used
abbrev pub Gets : World → Role → Content → ℕ → Piece
Gets w r content a lines = (IsKept w a content × Line [] lines) ⊎ ((a ≡ slot_of w.slots r) × Sets w content a lines)

-- Integers

abbrev pub narrow_by : Bool → Narrow → Narrow → Narrow
narrow_by true n m = n
narrow_by false n m = m

-- the part of a word that an integer of the type is; of 64 bits it is the word
abbrev pub narrow_of_bytes : ℕ → Bool → Option Narrow
narrow_of_bytes bytes signed = if nat_eq bytes 1 then Some (narrow_by signed S8 U8) else (if nat_eq bytes 2 then Some (narrow_by signed S16 U16)
    else (if nat_eq bytes 4 then Some (narrow_by signed S32 U32) else None))

abbrev pub narrow_of : IntegerType → Option Narrow
narrow_of i = narrow_of_bytes i.bytes i.signed

-- slot v becomes the part of slot a that an integer of the type is
abbrev pub narrowed_lines : ℕ → ℕ → Option Narrow → List Instr
narrowed_lines v a None = instr.Copy v a ∷ []
narrowed_lines v a (Some n) = instr.Ext v a n ∷ []

-- in one slot: where it is a whole word, nothing is done
abbrev pub narrowing_lines : ℕ → Option Narrow → List Instr
narrowing_lines v None = []
narrowing_lines v (Some n) = instr.Ext v v n ∷ []

-- An integer whose low bytes stand in slot v is in this form behind the lines.
abbrev pub Narrows : IntegerType → ℕ → Form → Piece
Narrows i v Low lines = Line [] lines
Narrows i v Exact lines = Line (narrowing_lines v (narrow_of i)) lines
Narrows i v Zeroed lines = ⊥

-- an integer of 1, 2, 4 or 8 bytes
abbrev pub IsPlainInteger : World → TypeId → IntegerType → Type 0
IsPlainInteger w t i = IsInteger w t i × ((i.bytes ≡ 1) ⊎ (i.bytes ≡ 2) ⊎ (i.bytes ≡ 4) ⊎ (i.bytes ≡ 8))

-- the integer of temporary t stands exactly in slot a
abbrev pub IsExactly : Knowledge → Temp → IntegerType → ℕ → Type 0
IsExactly known t i a = (x : Known) × (known t ≡ Some x) × (x.type ≡ IntegerOf i) × (x.place ≡ Some a) × (x.form ≡ Exact)

-- it stands in slot a in some form, so that its low bytes alone count
abbrev pub IsLowly : Knowledge → Temp → IntegerType → ℕ → Type 0
IsLowly known t i a = (x : Known) × (known t ≡ Some x) × (x.type ≡ IntegerOf i) × (x.place ≡ Some a)

-- Pointers

-- the slots of a pointer's words, which follow one another
abbrev pub pointer_slots : ℕ → PointerSlots
pointer_slots a = record { first = a; second = a + 1; third = a + 2 }

-- the words of a pointer stand from slot a on
abbrev pub Points : Knowledge → Temp → NodeId → TypeId → ℕ → List Sure → Type 0
Points known t n u a sure = (x : Known) × (known t ≡ Some x) × (x.type ≡ PointerTo n u) × (x.place ≡ Some a) × (x.sure ≡ sure)

-- those of a pointer, or of a place
abbrev pub IsAddress : Knowledge → Temp → NodeId → TypeId → ℕ → List Sure → Type 0
IsAddress known t n u a sure =
    (x : Known) × (known t ≡ Some x) × ((x.type ≡ PointerTo n u) ⊎ (x.type ≡ PlaceOf n u)) × (x.place ≡ Some a) × (x.sure ≡ sure)

-- those of a place, which isn't null
abbrev pub IsPlaced : Knowledge → Temp → NodeId → TypeId → ℕ → List Sure → Type 0
IsPlaced known t n u a sure = (x : Known) × (known t ≡ Some x) × (x.type ≡ PlaceOf n u) × (x.place ≡ Some a) × (x.sure ≡ sure)

-- those of an array: a place, or a pointer where it is checked
abbrev pub IsArrayAt : Bool → Knowledge → Temp → NodeId → TypeId → ℕ → List Sure → Type 0
IsArrayAt true known t n u a sure = IsAddress known t n u a sure
IsArrayAt false known t n u a sure = IsPlaced known t n u a sure

-- so many slots are copied, one by one
abbrev pub copies : ℕ → ℕ → ℕ → List Instr
copies ℕ.zero v a = []
copies (ℕ.suc k) v a = instr.Copy v a ∷ copies k (v + 1) (a + 1)

-- so many slots become 0
abbrev pub noughts : ℕ → ℕ → List Instr
noughts ℕ.zero v = []
noughts (ℕ.suc k) v = instr.Const v 0 ∷ noughts k (v + 1)
