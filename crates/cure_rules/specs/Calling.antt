-- The lines of allocations, calls, and the functions of the C library.
use Rattle.std.specs.Prelude.{◌≡◌, ◌≢◌, ◌⊎◌, ℕ, suc, ◌+◌, ◌<◌, ◌≤◌, Bool, true, false, List, [], ◌∷◌, length, Some, None}
use Rattle.std.specs.List.{Contains}
use Rattle.cc_base.specs.declared.fault.Check.TheVariants as check
use Rattle.cc_base.specs.declared.kind.Kind.{Kind}
use Rattle.cc_base.specs.declared.kind.Kind.TheVariants.{Safe, Seq, Rtti, Wild}
use Rattle.cc_base.specs.declared.number.TypeId.{TypeId}
use Rattle.cc_base.specs.declared.number.NodeId.{NodeId}
use Rattle.cc_base.specs.declared.place.Place.{Place}
use Rattle.c_types.specs.declared.shape.TypeShape.TheVariants as shape
use Rattle.c_types.specs.Table.{shape_at}
use Rattle.c_types.specs.Cells.{holds_pointer}
use Rattle.integers.specs.Arithmetic.{int, unsigned_long}
use Rattle.cil_form.specs.declared.number.Temp.TheVariants as temp
use Rattle.cil_form.specs.declared.instr.Allocate.{Allocate}
use Rattle.cil_form.specs.declared.instr.Allocate.TheVariants as allocate
use Rattle.cil_form.specs.declared.instr.Call.{Call}
use Rattle.cil_form.specs.declared.instr.RuntimeCall.{RuntimeCall}
use Rattle.cil_form.specs.declared.instr.RuntimeCall.TheVariants as runtime
use Rattle.cured_code.specs.declared.instr.Instr.TheVariants as instr
use Rattle.cured_code.specs.declared.instr.Narrow.TheVariants.{U8}
use Rattle.check_forms.specs.declared.op.Op.TheVariants as op
use Rattle.check_forms.specs.Pieces.{Piece, Line, Then, Choice}
use Rattle.check_forms.specs.Conditions.{HasRoom}
use Rattle.check_forms.specs.Rows.{asked}
use Rattle.check_forms.specs.RowChecks.{AreChecks}
use Rattle.sim_relation.specs.Ground.{word_number, function_word}
use Rattle.sim_relation.specs.Points.{Exact, Sure, IsFunction, Known, Knowledge, Number}
use Rattle.cure_rules.specs.Slots.{First, Size, Offset, Word, Amount, Bytes, Charge, Made, slot_of, work_of}
use Rattle.cure_rules.specs.Known.{World, kind_of, cured_size, source_size, column, Takes, Gets, IsPointer, IsExactly, IsLowly, Points, words_in, held_by, known_at, Leaves, an_integer, a_pointer, pointer_slots, copies}
use Rattle.cure_rules.specs.Checks.{Seat, number_at, call_of, IsGuarded}
use Rattle.cure_rules.specs.Pointing.{noded_lines}

-- Blocks

-- whether a block consists of whole elements, which grow as they are cured
abbrev pub has_elements : Kind → Bool → Bool
has_elements Wild holds = false
has_elements kind holds = holds

abbrev pub is_tagged_kind : Kind → Bool
is_tagged_kind Wild = true
is_tagged_kind kind = false

-- A new block for as many bytes as slot n holds, with as many cured ones as slot b then holds.
abbrev pub BlockBy : Bool → World → Seat → Kind → TypeId → ℕ → ℕ → Piece
BlockBy false w seat k t n b lines = (b ≡ n) × Line (instr.New (is_tagged_kind k) (slot_of w.slots Made) n n ∷ []) lines
BlockBy true w seat k t n b lines = (b ≡ slot_of w.slots Bytes)
    × Then (Gets w Size (Number (source_size w.whole t)) (seat Size)) (Then (Gets w Offset (Number (cured_size w.whole t)) (seat Offset))
    (Line (instr.Divu (slot_of w.slots Charge) n (seat Size) ∷ instr.Mul (slot_of w.slots Bytes) (slot_of w.slots Charge) (seat Offset)
    ∷ instr.Mul (slot_of w.slots Charge) (slot_of w.slots Charge) (seat Size)
    ∷ instr.New (is_tagged_kind k) (slot_of w.slots Made) (slot_of w.slots Bytes) (slot_of w.slots Charge) ∷ []))) lines

abbrev pub MakesBlock : World → Seat → Kind → TypeId → ℕ → ℕ → Piece
MakesBlock w seat k t n b = BlockBy (has_elements k (holds_pointer w.whole.table t)) w seat k t n b

-- The words of the pointer to it, from slot v on, where v and the slot after it are written last: v may be the slot of its size.
abbrev pub BlockWords : Kind → World → TypeId → ℕ → ℕ → Piece
BlockWords Safe w t v b = Line (instr.Copy v (slot_of w.slots Made) ∷ [])
BlockWords Rtti w t v b = Line (noded_lines w v (slot_of w.slots Made) t)
BlockWords Wild w t v b = Line (instr.Copy v (slot_of w.slots Made) ∷ instr.Copy (v + 1) (slot_of w.slots Made) ∷ [])
BlockWords Seq w t v b = Then (Choice (slot_of w.slots Made) (Line (instr.Add (v + 2) (slot_of w.slots Made) b ∷ [])) (Line (instr.Const (v + 2) 0 ∷ [])))
    (Line (instr.Copy v (slot_of w.slots Made) ∷ instr.Copy (v + 1) (slot_of w.slots Made) ∷ []))

-- what an allocation gives is checked, and becomes a pointer
abbrev pub GivesBlock : World → Seat → Kind → TypeId → ℕ → ℕ → Place → Piece
GivesBlock w seat k t v b at =
    Then (IsGuarded w (op.Allocate (slot_of w.slots Made) b (number_at seat Size (cured_size w.whole t))) k at) (BlockWords k w t v b)

abbrev pub IsCuringAllocate : Allocate → World → Knowledge → Knowledge → Piece
IsCuringAllocate (allocate.Malloc into n node t at) w known after lines = (a : ℕ) × (b : ℕ) × (seat given : Seat) × IsExactly known n unsigned_long a
    × Takes w into (word_number (kind_of w node))
    × Then (MakesBlock w seat (kind_of w node) t a b) (GivesBlock w given (kind_of w node) t (column w into) b at) lines
    × Leaves known into (Some (a_pointer (column w into) node t [])) after
-- the product of the two sizes wraps where its quotient by the first is another than the second: then the pointer is null
IsCuringAllocate (allocate.Calloc into m n node t at) w known after lines = (p : ℕ) × (q : ℕ) × (b : ℕ) × (seat given : Seat)
    × IsExactly known m unsigned_long p × IsExactly known n unsigned_long q × Takes w into (word_number (kind_of w node))
    × Then (Line (instr.Mul (slot_of w.slots Amount) p q ∷ []))
    (Then (Choice p (Line (instr.Divu (slot_of w.slots First) (slot_of w.slots Amount) p ∷ instr.Ne (slot_of w.slots First) (slot_of w.slots First) q ∷ []))
    (Line (instr.Const (slot_of w.slots First) 0 ∷ [])))
    (Then (Choice (slot_of w.slots First) (Line (instr.Const (slot_of w.slots Made) 0 ∷ [])) (MakesBlock w seat (kind_of w node) t (slot_of w.slots Amount) b))
    (GivesBlock w given (kind_of w node) t (column w into) b at))) lines
    × Leaves known into (Some (a_pointer (column w into) node t [])) after

-- Calls

-- The words of the arguments, values of numbers from n on, are copied into the row, from its slot j on. An integer may have any form, since
-- a parameter is stored by its low bytes.
abbrev pub AreArguments : World → Knowledge → ℕ → List TypeId → ℕ → Piece
AreArguments w known n [] j = Line []
AreArguments w known n (t ∷ ts) j = λ lines. (x : Known) × (a : ℕ) × (known (temp.Value n) ≡ Some x) × (x.place ≡ Some a) × (held_by w t ≡ Some x.type)
    × (j + words_in w.whole t ≤ w.slots.row_width)
    × Then (Line (copies (words_in w.whole t) (w.slots.row + j) a)) (AreArguments w known (suc n) ts (j + words_in w.whole t)) lines

-- a function that is not known is called by its address, and has the signature of the type
abbrev pub CallsAny : World → Knowledge → Call → Kind → TypeId → List TypeId → ℕ → Piece
CallsAny w known call k u parameters a lines = (seat : Seat)
    × Then (IsGuarded w (call_of w seat u (pointer_slots a)) k call.place)
    (Then (AreArguments w known call.first parameters 0) (Line (instr.Icall (w.whole.signature u) a w.slots.row (column w call.into) ∷ []))) lines

-- One that is known is called by its number: there is room for its frame. A pointer that isn't WILD is to a function of its type's class, so
-- nothing else is asked.
abbrev pub CallsKnown : World → Knowledge → Call → Kind → List Sure → List TypeId → Piece
CallsKnown w known call k sure parameters lines = (f : ℕ) × (seat : Seat) × (k ≢ Wild) × Contains sure (IsFunction f) × (f < w.whole.functions)
    × Then (Gets w Word (Number (function_word f)) (seat Word)) (Then (AreChecks (work_of w.slots) (asked check.Depth call.place (HasRoom (seat Word)) ∷ []))
    (Then (AreArguments w known call.first parameters 0) (Line (instr.Call (suc f) w.slots.row (column w call.into) ∷ [])))) lines

abbrev pub IsCuringCall : Call → World → Knowledge → Knowledge → Piece
IsCuringCall call w known after lines = (n : NodeId) × (u : TypeId) × (parameters : List TypeId) × (result : TypeId) × (a : ℕ) × (sure : List Sure)
    × IsPointer w call.ty n u × (shape_at w.whole.table u ≡ shape.Function parameters result) × (call.count ≡ length parameters)
    × (w.number ≢ 0) × Points known call.callee n u a sure × Takes w call.into (words_in w.whole result)
    × (CallsAny w known call (kind_of w n) u parameters a lines ⊎ CallsKnown w known call (kind_of w n) sure parameters lines)
    × Leaves known call.into (known_at (column w call.into) (held_by w result)) after

-- The C library. Nothing is reclaimed by `free`; `putchar` gives the byte that it writes.
abbrev pub IsCuringRuntime : RuntimeCall → World → Knowledge → Knowledge → Piece
IsCuringRuntime (runtime.Free into p) w known after lines = Line [] lines × Leaves known into None after
IsCuringRuntime (runtime.Getchar into) w known after lines = Takes w into 1 × Line (instr.Get (column w into) ∷ []) lines
    × Leaves known into (Some (an_integer (column w into) Exact int)) after
IsCuringRuntime (runtime.Putchar into v) w known after lines = (a : ℕ) × IsLowly known v int a × Takes w into 1
    × Line (instr.Put a ∷ instr.Ext (column w into) a U8 ∷ []) lines × Leaves known into (Some (an_integer (column w into) Exact int)) after
IsCuringRuntime (runtime.Exit into v) w known after lines = (a : ℕ) × IsLowly known v int a × Line (instr.Exit a ∷ []) lines × Leaves known into None after
