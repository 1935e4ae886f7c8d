-- The lines of loads, stores, clearing and copies.
use Rattle.std.specs.Prelude.{◌≡◌, ◌⊎◌, ⊤, ℕ, ◌+◌, Bool, true, false, List, [], ◌∷◌, slice_get, Option, Some}
use Rattle.cc_base.specs.declared.kind.Kind.{Kind}
use Rattle.cc_base.specs.declared.kind.Kind.TheVariants.{Safe, Seq, Rtti, Wild}
use Rattle.cc_base.specs.declared.number.TypeId.{TypeId}
use Rattle.cc_base.specs.declared.number.NodeId.{NodeId}
use Rattle.cc_base.specs.declared.place.Place.{Place}
use Rattle.c_types.specs.Cells.{holds_pointer}
use Rattle.c_types.specs.Flows.{HeldPointer, pointer_at}
use Rattle.integers.specs.Arithmetic.{IntegerType}
use Rattle.src_mem.specs.Memory.{Planned}
use Rattle.src_mem.specs.Uses.{pointer_offsets}
use Rattle.cil_form.specs.declared.number.Temp.{Temp}
use Rattle.cil_form.specs.declared.number.Object.{Object}
use Rattle.cil_form.specs.declared.number.Object.TheVariants as object
use Rattle.cil_form.specs.declared.instr.Target.{Target}
use Rattle.cil_form.specs.declared.instr.Target.TheVariants as target
use Rattle.cil_form.specs.declared.instr.Access.{Access}
use Rattle.cil_form.specs.declared.instr.Access.TheVariants as access
use Rattle.cil_form.specs.Meaning.{target_node}
use Rattle.cured_code.specs.declared.instr.Instr.{Instr}
use Rattle.cured_code.specs.declared.instr.Instr.TheVariants as instr
use Rattle.check_forms.specs.declared.slots.PointerSlots.{PointerSlots}
use Rattle.check_forms.specs.declared.op.Op.TheVariants as op
use Rattle.check_forms.specs.Rows.{home_slot}
use Rattle.check_forms.specs.Pieces.{Piece, Line, Then, Choice}
use Rattle.sim_relation.specs.Ground.{word_number}
use Rattle.sim_relation.specs.Points.{Form, Exact, Zeroed, Low, Sure, Knowledge, Number, Start}
use Rattle.cure_rules.specs.Slots.{First, Offset, Address, Base, Word, OtherWord, Made, slot_of}
use Rattle.cure_rules.specs.Known.{World, kind_of, cured_size, source_size, column, Takes, Gets, Includes, IsPointer, IsPlainInteger, IsLowly, Points, IsAddress, Leaves, an_integer, a_pointer, pointer_slots, narrow_of, narrowing_lines}
use Rattle.cure_rules.specs.Checks.{Seat, size_at, wild_numbers, read_integer, read_pointer, write_integer, write_pointer, IsGuarded}
use Rattle.cure_rules.specs.Pointing.{cured_offset}

-- Loads

-- an integer that is loaded has zeros above its bytes
abbrev pub NarrowsLoaded : IntegerType → ℕ → Form → Piece
NarrowsLoaded i v Zeroed lines = Line [] lines
NarrowsLoaded i v Exact lines = Line (narrowing_lines v (narrow_of i)) lines
NarrowsLoaded i v Low lines = ⊥

-- the words of a pointer of this kind are loaded from the address in slot a, where no tags are
abbrev pub words_loaded : Kind → ℕ → ℕ → List Instr
words_loaded Safe v a = instr.Ld 8 v a ∷ []
words_loaded Rtti v a = instr.Ldw 2 v a ∷ []
words_loaded Seq v a = instr.Ldw 3 v a ∷ []
words_loaded Wild v a = instr.Ldw 2 v a ∷ []

-- From a tagged area: where the word has a tag its base word counts, else it is null.
abbrev pub TaggedLoaded : World → ℕ → ℕ → Piece
TaggedLoaded w v a = Then (Line (instr.Tagged (slot_of w.slots Word) a (a + 1) ∷ []))
    (Then (Choice (slot_of w.slots Word) (Line (instr.Base (slot_of w.slots OtherWord) a (a + 1) ∷ [])) (Line (instr.Const (slot_of w.slots OtherWord) 0 ∷ [])))
    (Line (instr.Ld 8 v a ∷ instr.Copy (v + 1) (slot_of w.slots OtherWord) ∷ [])))

-- a pointer of the second kind through one of the first: what a WILD pointer points to holds WILD ones
abbrev pub PointerLoaded : Kind → Kind → World → ℕ → ℕ → Piece
PointerLoaded Wild Wild w v a = TaggedLoaded w v a
PointerLoaded Wild kind w v a = λ lines. ⊥
PointerLoaded outer kind w v a = Line (words_loaded kind v a)

abbrev pub LoadsInteger : World → Temp → TypeId → ℕ → Kind → Place → Knowledge → Knowledge → Piece
LoadsInteger w into t a k at known after lines = (i : IntegerType) × (f : Form) × (seat : Seat) × IsPlainInteger w t i × Takes w into 1
    × Then (IsGuarded w (read_integer w seat k t (pointer_slots a)) k at)
    (Then (Line (instr.Ld i.bytes (column w into) a ∷ [])) (NarrowsLoaded i (column w into) f)) lines
    × Leaves known into (Some (an_integer (column w into) f i)) after

abbrev pub LoadsPointer : World → Temp → TypeId → ℕ → Kind → Place → Knowledge → Knowledge → Piece
LoadsPointer w into t a k at known after lines = (n : NodeId) × (u : TypeId) × (seat : Seat) × IsPointer w t n u × Takes w into (word_number (kind_of w n))
    × Then (IsGuarded w (read_pointer w seat k t (pointer_slots a)) k at) (PointerLoaded k (kind_of w n) w (column w into) a) lines
    × Leaves known into (Some (a_pointer (column w into) n u [])) after

-- Stores

-- a home is SAFE or WILD
abbrev pub IsHome : Kind → Type 0
IsHome Safe = ⊤
IsHome Wild = ⊤
IsHome kind = ⊥

-- the slots of an address in an object that is named
abbrev pub part_slots : World → ℕ → PointerSlots
part_slots w b = record { first = slot_of w.slots Address; second = b; third = w.slots.nought }

-- these slots hold the address that a store goes to
abbrev pub Targets : Target → World → Knowledge → TypeId → PointerSlots → Piece
Targets (target.Pointer p n) w known t s lines = (a : ℕ) × (sure : List Sure) × IsAddress known p n t a sure × (s ≡ pointer_slots a) × Line [] lines
Targets (target.Part o home u offset) w known t s lines = (b : ℕ) × (seat : Seat) × IsHome (kind_of w home) × (s ≡ part_slots w b)
    × Then (Gets w Base (Start o) b) (Then (Gets w Offset (Number (cured_offset w (kind_of w home) u offset)) (seat Offset))
    (Line (instr.Add (slot_of w.slots Address) b (seat Offset) ∷ []))) lines

-- Into a tagged area: the words that are touched lose their tags.
abbrev pub integer_stored : Kind → ℕ → PointerSlots → ℕ → List Instr
integer_stored Wild bytes s v = instr.Untag s.first s.second bytes ∷ instr.St bytes s.first v ∷ []
integer_stored kind bytes s v = instr.St bytes s.first v ∷ []

abbrev pub words_stored : Kind → ℕ → ℕ → List Instr
words_stored Safe a v = instr.St 8 a v ∷ []
words_stored Rtti a v = instr.Stw 2 a v ∷ []
words_stored Seq a v = instr.Stw 3 a v ∷ []
words_stored Wild a v = instr.Stw 2 a v ∷ []

-- Into a tagged area: a pointer gets a tag and its base word, and a null pointer is zero without one.
abbrev pub TaggedStored : World → PointerSlots → ℕ → Piece
TaggedStored w s v = Then (Line (instr.Or (slot_of w.slots First) v (v + 1) ∷ []))
    (Choice (slot_of w.slots First) (Line (instr.St 8 s.first v ∷ instr.Mark s.first s.second (v + 1) ∷ [])) (Line (instr.Tzero s.first s.second 8 ∷ [])))

abbrev pub PointerStored : Kind → Kind → World → PointerSlots → ℕ → Piece
PointerStored Wild Wild w s v = TaggedStored w s v
PointerStored Wild kind w s v = λ lines. ⊥
PointerStored outer kind w s v = Line (words_stored kind s.first v)

abbrev pub StoresInteger : World → Temp → TypeId → PointerSlots → Kind → Place → Knowledge → Piece
StoresInteger w v t s k at known lines = (i : IntegerType) × (b : ℕ) × (seat : Seat) × IsPlainInteger w t i × IsLowly known v i b
    × Then (IsGuarded w (write_integer w seat k t s) k at) (Line (integer_stored k i.bytes s b)) lines

abbrev pub StoresPointer : World → Temp → TypeId → PointerSlots → Kind → Place → Place → Knowledge → Piece
StoresPointer w v t s k at assignment known lines = (n : NodeId) × (u : TypeId) × (b : ℕ) × (sure : List Sure) × (seat : Seat)
    × IsPointer w t n u × Points known v n u b sure
    × Then (IsGuarded w (write_pointer w seat k t s (home_slot (kind_of w n) (pointer_slots b)) assignment) k at) (PointerStored k (kind_of w n) w s b) lines

-- Objects as a whole

abbrev pub plan_of : World → Object → Option Planned
plan_of w (object.Static n) = slice_get w.whole.statics n.0
plan_of w (object.Variable n) = slice_get w.variables n.0

abbrev pub ClearedBy : Kind → World → TypeId → ℕ → Piece
ClearedBy Safe w t a = Line (instr.Zero a (cured_size w.whole t) ∷ [])
ClearedBy Wild w t a = Line (instr.Tzero a a (source_size w.whole t) ∷ [])
ClearedBy kind w t a = λ lines. ⊥

-- Each pointer that a struct holds, at these offsets, is loaded in order, and is checked against the target. Slot a holds the source's
-- address, and h the target's home word.
abbrev pub CellsKept : World → Seat → Kind → TypeId → ℕ → ℕ → Place → List ℕ → Piece
CellsKept w seat k t a h assignment [] = Line []
CellsKept w seat k t a h assignment (i ∷ is) = λ lines. (x : HeldPointer) × (pointer_at w.whole.table t i ≡ Some x)
    × Then (Gets w Offset (Number (cured_offset w k t i)) (seat Offset))
    (Then (Line (instr.Add (slot_of w.slots Made) a (seat Offset) ∷ words_loaded (kind_of w x.node) (slot_of w.slots Word) (slot_of w.slots Made)))
    (Then (IsGuarded w (op.KeepCell (home_slot (kind_of w x.node) (pointer_slots (slot_of w.slots Word))) h) k assignment)
    (CellsKept w seat k t a h assignment is))) lines

abbrev pub plain_copied : Kind → PointerSlots → PointerSlots → ℕ → List Instr
plain_copied Wild source to size = instr.Untag to.first to.second size ∷ instr.Move to.first source.first size ∷ []
plain_copied kind source to size = instr.Move to.first source.first size ∷ []

-- A struct with pointers. Both sides are WILD or neither is.
abbrev pub PointersCopied : Kind → Kind → World → Seat → TypeId → PointerSlots → PointerSlots → Place → Piece
PointersCopied Wild Wild w seat t source to assignment = Line (instr.Tmove to.first to.second source.first source.second (source_size w.whole t) ∷ [])
PointersCopied Wild l w seat t source to assignment = λ lines. ⊥
PointersCopied k Wild w seat t source to assignment = λ lines. ⊥
PointersCopied k l w seat t source to assignment =
    Then (CellsKept w seat k t source.first (home_slot l to) assignment (pointer_offsets w.whole.table t)) (Line (instr.Move to.first source.first (cured_size w.whole t) ∷ []))

-- whether the struct holds pointers
abbrev pub CopiedBy : Bool → World → Seat → Seat → Kind → Kind → TypeId → PointerSlots → PointerSlots → Place → Place → Place → Piece
CopiedBy false w seat cells k l t source to from_place to_place assignment =
    Then (IsGuarded w (op.CopyPlain source to l (size_at w seat k t) to_place) k from_place) (Line (plain_copied l source to (source_size w.whole t)))
CopiedBy true w seat cells k l t source to from_place to_place assignment =
    Then (IsGuarded w (op.CopyPointers source to l (size_at w seat k t) (wild_numbers w seat) to_place assignment) k from_place)
    (PointersCopied k l w cells t source to assignment)

abbrev pub IsCuringAccess : Access → World → Knowledge → Knowledge → Piece
IsCuringAccess (access.Load into from n t at) w known after lines = (a : ℕ) × (sure : List Sure) × IsAddress known from n t a sure
    × (LoadsInteger w into t a (kind_of w n) at known after lines ⊎ LoadsPointer w into t a (kind_of w n) at known after lines)
IsCuringAccess (access.Store to v t at assignment) w known after lines = (s : PointerSlots)
    × (Then (Targets to w known t s) (StoresInteger w v t s (kind_of w (target_node to)) at known) lines
    ⊎ Then (Targets to w known t s) (StoresPointer w v t s (kind_of w (target_node to)) at assignment known) lines)
    × Includes known after
IsCuringAccess (access.Clear o) w known after lines = (x : Planned) × (a : ℕ) × (plan_of w o ≡ Some x)
    × Then (Gets w Address (Start o) a) (ClearedBy (kind_of w x.node) w x.type a) lines × Includes known after
IsCuringAccess (access.Copy to to_place from n from_place t assignment) w known after lines = (a : ℕ) × (sure : List Sure) × (s : PointerSlots) × (seat cells : Seat)
    × IsAddress known from n t a sure
    × Then (Targets to w known t s) (CopiedBy (holds_pointer w.whole.table t) w seat cells (kind_of w n) (kind_of w (target_node to)) t (pointer_slots a) s
    from_place to_place assignment) lines
    × Includes known after
