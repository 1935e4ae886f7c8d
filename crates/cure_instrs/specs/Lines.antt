-- The lines of instructions whose temporaries each have their own column.
use Rattle.std.specs.Prelude.{◌≡◌, ℕ, ◌+◌, ◌-◌, ◌^◌, Bool, true, false, List, [], ◌∷◌, Option, Some, None, slice_index, if◌then◌else◌}
use Rattle.cc_base.specs.declared.number.NodeId.{NodeId}
use Rattle.cc_base.specs.declared.number.TypeId.{TypeId}
use Rattle.cc_base.specs.declared.kind.Kind.{Kind}
use Rattle.cc_base.specs.declared.kind.Kind.TheVariants.{Safe, Seq, Rtti, Wild}
use Rattle.cc_base.specs.declared.place.Place.{Place}
use Rattle.c_types.specs.declared.shape.TypeShape.TheVariants as shape
use Rattle.c_types.specs.Table.{IsType, shape_at}
use Rattle.c_types.specs.Sound.{IsIntegerSize}
use Rattle.integers.specs.Arithmetic.{IntegerType, bits_of}
use Rattle.cil_form.specs.declared.number.Object.{Object}
use Rattle.cil_form.specs.declared.number.Object.TheVariants as object
use Rattle.cil_form.specs.declared.instr.Operator.{Operator}
use Rattle.cil_form.specs.declared.instr.Operator.TheVariants as operator
use Rattle.cil_form.specs.Typing.{HeldType, IntegerOf, PointerTo, PlaceOf}
use Rattle.cured_code.specs.declared.instr.Instr.{Instr}
use Rattle.cured_code.specs.declared.instr.Instr.TheVariants as instr
use Rattle.check_forms.specs.Pieces.{Piece, Line, Then, Never}
use Rattle.cure_rules.specs.Slots.{First, Mask}
use Rattle.cure_rules.specs.Known.{Whole, World, copies, held_words, narrow_of, narrowing_lines, pointer_slots}
use Rattle.cure_rules.specs.Checks.{divide_by, read_integer, read_pointer, write_integer, write_pointer}
use Rattle.cure_rules.specs.Accesses.{TaggedLoaded, words_loaded, integer_stored, TaggedStored, words_stored}
use Rattle.check_forms.specs.declared.slots.PointerSlots.{PointerSlots}
use Rattle.check_forms.specs.Rows.{home_slot}
use Rattle.cure_rules.specs.Setting.{is_wide, is_wide_kind, comparison_lines}
use Rattle.cure_scope.specs.declared.scope.Scope.{Scope}
use Rattle.cure_scope.specs.Scopes.{fixed_column, seat, world_of}
use Rattle.cure_scope.specs.Needs.{Guards}
use Rattle.cure_instrs.specs.declared.held.Held.{Held}
use Rattle.cure_instrs.specs.declared.held.Held.TheVariants as held
use Rattle.cure_instrs.specs.declared.held.Width.{Width}

abbrev pub width_view : Width → IntegerType
width_view i = record { bytes = i.bytes; signed = i.signed }

abbrev pub held_view : Held → HeldType
held_view (held.Integer i) = IntegerOf (width_view i)
held_view (held.Pointer n t) = PointerTo n t
held_view (held.Place n t) = PlaceOf n t

abbrev pub held_views : Option Held → Option HeldType
held_views None = None
held_views (Some x) = Some (held_view x)

-- Constants

-- the address of a function
abbrev pub function_row : Kind → ℕ → ℕ → Piece
function_row Safe v n = Line (instr.Const v n ∷ [])
function_row Wild v n = Line (instr.Const v n ∷ instr.Const (v + 1) n ∷ [])
function_row kind v n = Never

-- the line that sets a slot to the address of an object
abbrev pub start_line : Scope → Object → ℕ → Instr
start_line k (object.Variable n) v = instr.Frame v n.0
start_line k (object.Static n) v = instr.Const v (slice_index k.addresses.now n.0)

abbrev pub object_row : Kind → Scope → Object → ℕ → Piece
object_row Safe k o v = Line (start_line k o v ∷ [])
object_row Wild k o v = Line (start_line k o v ∷ instr.Copy (v + 1) v ∷ [])
object_row kind k o v = Never

-- Operators

-- the operator, and its result is narrowed
abbrev pub Reckoned : Instr → IntegerType → ℕ → Piece
Reckoned one i v = Then (Line (one ∷ [])) (Line (narrowing_lines v (narrow_of i)))

abbrev pub Divided : Instr → Instr → IntegerType → ℕ → ℕ → Place → Piece
Divided signed unsigned i p q at = Then (Guards (divide_by seat i p q) Safe at) (Line ((if i.signed then signed else unsigned) ∷ []))

abbrev pub masked : IntegerType → ℕ → List Instr
masked i q = instr.Const (seat Mask) (bits_of i - 1) ∷ instr.And (seat First) q (seat Mask) ∷ []

abbrev pub shifted_right : Bool → ℕ → ℕ → ℕ → Instr
shifted_right signed v a b = (if signed then instr.Sar else instr.Shr) v a b

-- an operator on slots p and q gives slot v
abbrev pub binary_lines : Operator → IntegerType → ℕ → ℕ → ℕ → Place → Piece
binary_lines operator.Add i v p q at = Reckoned (instr.Add v p q) i v
binary_lines operator.Subtract i v p q at = Reckoned (instr.Sub v p q) i v
binary_lines operator.Multiply i v p q at = Reckoned (instr.Mul v p q) i v
binary_lines operator.And i v p q at = Reckoned (instr.And v p q) i v
binary_lines operator.Or i v p q at = Reckoned (instr.Or v p q) i v
binary_lines operator.ExclusiveOr i v p q at = Reckoned (instr.Xor v p q) i v
binary_lines operator.Divide i v p q at = Divided (instr.Divs v p q) (instr.Divu v p q) i p q at
binary_lines operator.Remainder i v p q at = Divided (instr.Rems v p q) (instr.Remu v p q) i p q at
binary_lines operator.ShiftLeft i v p q at = Then (Line (masked i q)) (Reckoned (instr.Shl v p (seat First)) i v)
binary_lines operator.ShiftRight i v p q at = Then (Line (masked i q)) (Line (shifted_right i.signed v p (seat First) ∷ []))
binary_lines (operator.Compare which) i v p q at = Line (comparison_lines which i.signed 381 v p q)

-- the slot that tells whether a value is true, and the lines that set it
abbrev pub tested_slot : Bool → ℕ → ℕ
tested_slot true p = seat First
tested_slot false p = p

abbrev pub tested_lines : Bool → ℕ → List Instr
tested_lines true p = instr.Or (seat First) p (p + 1) ∷ []
tested_lines false p = []

-- what another temporary holds is copied
abbrev pub copied_lines : Whole → Option HeldType → ℕ → ℕ → Piece
copied_lines w None v a = Line []
copied_lines w (Some x) v a = Line (copies (held_words w x) v a)

-- t is the integer type i, and it has a size that integers have
unfoldable pub IsIntegerAt : Whole → TypeId → IntegerType → Type 0
IsIntegerAt w t i = (shape_at w.table t ≡ shape.Integer i.bytes i.signed) × IsIntegerSize i.bytes

unfoldable pub HasInteger : Whole → TypeId → Type 0
HasInteger w t = (i : IntegerType) × IsType w.table t × (shape_at w.table t ≡ shape.Integer i.bytes i.signed) × IsIntegerSize i.bytes

-- Loads

abbrev pub LoadedInteger : World → Kind → TypeId → IntegerType → ℕ → ℕ → Place → Piece
LoadedInteger w kind t i v a at =
    Then (Guards (read_integer w seat kind t (pointer_slots a)) kind at) (Then (Line (instr.Ld i.bytes v a ∷ [])) (Line (narrowing_lines v (narrow_of i))))

-- a pointer of the second kind through one of the first
abbrev pub pointer_loaded : Kind → Kind → World → ℕ → ℕ → Piece
pointer_loaded Wild Wild w v a = TaggedLoaded w v a
pointer_loaded Wild kind w v a = Never
pointer_loaded outer kind w v a = Line (words_loaded kind v a)

abbrev pub LoadedPointer : World → Kind → Kind → TypeId → ℕ → ℕ → Place → Piece
LoadedPointer w outer kind t v a at = Then (Guards (read_pointer w seat outer t (pointer_slots a)) outer at) (pointer_loaded outer kind w v a)

-- what a WILD pointer points to holds WILD ones
abbrev pub AgreeOn : Kind → Kind → Type 0
AgreeOn Wild Wild = Unit {0}
AgreeOn Wild kind = ⊥
AgreeOn outer kind = Unit {0}

-- Stores

abbrev pub StoredInteger : World → Kind → TypeId → IntegerType → PointerSlots → ℕ → Place → Piece
StoredInteger w kind t i s v at = Then (Guards (write_integer w seat kind t s) kind at) (Line (integer_stored kind i.bytes s v))

abbrev pub pointer_stored : Kind → Kind → World → PointerSlots → ℕ → Piece
pointer_stored Wild Wild w s v = TaggedStored w s v
pointer_stored Wild kind w s v = Never
pointer_stored outer kind w s v = Line (words_stored kind s.first v)

abbrev pub StoredPointer : World → Kind → Kind → TypeId → PointerSlots → ℕ → Place → Place → Piece
StoredPointer w outer kind t s v at assignment =
    Then (Guards (write_pointer w seat outer t s (home_slot kind (pointer_slots v)) assignment) outer at) (pointer_stored outer kind w s v)
