-- The lines of pointer arithmetic, comparisons of pointers, addresses of parts, and conversions.
use Rattle.std.specs.Prelude.{ℕ, ◌+◌, Bool, true, false, ◌||◌, List, [], ◌∷◌, ◌++◌, Option, Some, None, nat_eq, if◌then◌else◌}
use Rattle.cc_base.specs.declared.kind.Kind.{Kind}
use Rattle.cc_base.specs.declared.kind.Kind.TheVariants.{Safe, Seq, Rtti, Wild}
use Rattle.cc_base.specs.declared.number.TypeId.{TypeId}
use Rattle.cc_base.specs.declared.number.NodeId.{NodeId}
use Rattle.cc_base.specs.declared.place.Place.{Place}
use Rattle.c_types.specs.declared.flow_class.FlowClass.{FlowClass}
use Rattle.c_types.specs.declared.flow_class.FlowClass.TheVariants.{DownTile, Down, Tile}
use Rattle.c_types.specs.Table.{IsComplete}
use Rattle.c_types.specs.Layouts.{offset_of}
use Rattle.c_types.specs.Flows.{flow_class}
use Rattle.integers.specs.Arithmetic.{IntegerType, int, long}
use Rattle.cil_form.specs.declared.instr.Comparison.{Comparison}
use Rattle.cil_form.specs.declared.instr.Comparison.TheVariants as comparison
use Rattle.cil_form.specs.declared.instr.Point.{Point}
use Rattle.cil_form.specs.declared.instr.Point.TheVariants as point
use Rattle.cil_form.specs.declared.instr.Convert.{Convert as Conversion}
use Rattle.cil_form.specs.declared.instr.Convert.TheVariants as convert
use Rattle.cured_code.specs.declared.instr.Instr.{Instr}
use Rattle.cured_code.specs.declared.instr.Instr.TheVariants as instr
use Rattle.check_forms.specs.Pieces.{Piece, Line, Then}
use Rattle.check_forms.specs.declared.slots.PointerSlots.{PointerSlots}
use Rattle.check_forms.specs.declared.slots.Fixed.{Fixed}
use Rattle.check_forms.specs.declared.op.Conversion as asked
use Rattle.check_forms.specs.declared.op.Conversion.TheVariants.{Free, Down as Lower, Shrink}
use Rattle.check_forms.specs.declared.op.Op.{Op}
use Rattle.check_forms.specs.declared.op.Op.TheVariants as op
use Rattle.check_forms.specs.Rows.{home_slot}
use Rattle.sim_relation.specs.Ground.{word_number}
use Rattle.sim_relation.specs.Points.{Exact, Sure, Knowledge, Number}
use Rattle.cure_rules.specs.Slots.{First, Second, Moved, Size, Offset, Word, slot_of}
use Rattle.cure_rules.specs.Known.{World, kind_of, cured_size, reach_of, column, Takes, Gets, IsPointer, IsPlainInteger, IsExactly, Points, IsAddress, IsPlaced, IsArrayAt, Leaves, an_integer, a_pointer, a_place, pointer_slots, copies, narrow_of, narrowed_lines}
use Rattle.cure_rules.specs.Checks.{Seat, number_at, wild_numbers, move_by, address_of_part, IsGuarded}
use Rattle.cure_rules.specs.Setting.{is_wide_kind, IsTested, comparison_lines}

-- Arithmetic

-- the words of a pointer that has moved: a new address, and the rest as it was
abbrev pub moved_words : Kind → ℕ → ℕ → ℕ → List Instr
moved_words Seq v a to = instr.Copy v to ∷ copies 2 (v + 1) (a + 1)
moved_words Wild v a to = instr.Copy v to ∷ copies 1 (v + 1) (a + 1)
moved_words kind v a to = instr.Copy v to ∷ []

-- the operation of a comparison or of a difference, with the size of an element
abbrev pub order_by : World → Seat → Kind → PointerSlots → Kind → PointerSlots → Option Fixed → Op
order_by w seat k p other q apart = op.Order p q other (wild_numbers w seat) apart

-- a difference in bytes, as one in elements
abbrev pub quotient_lines : ℕ → Fixed → List Instr
quotient_lines v size = if nat_eq size.value 1 then [] else instr.Divs v v size.slot ∷ []

-- Comparisons

-- Slots a and b, with home words in h and g, hold one pointer. Where a home word is always 0 for null alone, the first words say it.
abbrev pub equal_lines : World → Bool → ℕ → PointerSlots → ℕ → PointerSlots → ℕ → List Instr
equal_lines w false v p h q g = instr.Eq v p.first q.first ∷ []
equal_lines w true v p h q g = instr.Eq (slot_of w.slots First) h w.slots.nought ∷ instr.Eq (slot_of w.slots Second) g w.slots.nought
    ∷ instr.Eq (slot_of w.slots First) (slot_of w.slots First) (slot_of w.slots Second)
    ∷ instr.Eq (slot_of w.slots Second) p.first q.first ∷ instr.And v (slot_of w.slots First) (slot_of w.slots Second) ∷ []

abbrev pub sameness_lines : World → Kind → Kind → ℕ → PointerSlots → PointerSlots → List Instr
sameness_lines w k l v p q = equal_lines w (is_wide_kind k || is_wide_kind l) v p (home_slot k p) q (home_slot l q)

-- what is asked of two pointers that are compared
abbrev pub comparing : Comparison → World → Seat → Kind → PointerSlots → Kind → PointerSlots → Op
comparing comparison.Equal w seat k p l q = op.Equate p q l
comparing comparison.Different w seat k p l q = op.Equate p q l
comparing order w seat k p l q = order_by w seat k p l q None

abbrev pub compared_lines : Comparison → World → Kind → Kind → ℕ → PointerSlots → PointerSlots → List Instr
compared_lines comparison.Equal w k l v p q = sameness_lines w k l v p q
compared_lines comparison.Different w k l v p q = sameness_lines w k l v p q ++ instr.Eq v v w.slots.nought ∷ []
compared_lines order w k l v p q = comparison_lines order true w.slots.nought v p.first q.first

-- the truth value is that a pointer is null, or that it is not
abbrev pub null_operation : Bool → ℕ → ℕ → ℕ → Instr
null_operation true = instr.Ne
null_operation false = instr.Eq

-- Addresses of parts

-- The words of the address, of kind k, of so many bytes of type t, which begin where slots a and o together say. A WILD one has the base of
-- the pointer that it comes from, in slot b.
abbrev pub PartWords : Kind → World → Seat → ℕ → TypeId → ℕ → ℕ → ℕ → ℕ → Piece
PartWords Safe w seat size t v a o b = Line (instr.Add v a o ∷ [])
PartWords Rtti w seat size t v a o b = Line (instr.Add v a o ∷ instr.Const (v + 1) (w.whole.node t) ∷ [])
PartWords Seq w seat size t v a o b = Then (Gets w Size (Number size) (seat Size)) (Line (instr.Add v a o ∷ instr.Copy (v + 1) v ∷ instr.Add (v + 2) v (seat Size) ∷ []))
PartWords Wild w seat size t v a o b = Line (instr.Add v a o ∷ instr.Copy (v + 1) b ∷ [])

-- how far a part lies behind the start of an object, for a use of this kind
abbrev pub offset_by : Kind → ℕ → ℕ → ℕ
offset_by Wild source cured = source
offset_by kind source cured = cured

-- so many bytes of an object of type t
abbrev pub cured_offset : World → Kind → TypeId → ℕ → ℕ
cured_offset w k t offset = offset_by k offset (w.whole.offset t offset)

-- An array decays, behind its check or without one. It begins where it stands.
abbrev pub Decays : Bool → World → Seat → Kind → Kind → TypeId → TypeId → ℕ → ℕ → Place → Piece
Decays true w seat outer inner array element v a at = Then (Gets w Offset (Number 0) (seat Offset))
    (Then (IsGuarded w (address_of_part w seat outer array (pointer_slots a)) outer at)
    (PartWords inner w seat (cured_size w.whole array) element v a (seat Offset) (a + 1)))
Decays false w seat outer inner array element v a at = PartWords inner w seat (cured_size w.whole array) element v a w.slots.nought (a + 1)

abbrev pub IsCuringPoint : Point → World → Knowledge → Knowledge → Piece
IsCuringPoint (point.Move into p n way t at) w known after lines = (m : NodeId) × (u : TypeId) × (a : ℕ) × (sure : List Sure) × (i : IntegerType) × (b : ℕ)
    × (seat : Seat) × IsPointer w t m u × IsComplete w.whole.table u × Points known p m u a sure × IsExactly known n i b
    × Takes w into (word_number (kind_of w m))
    × Then (IsGuarded w (move_by w seat (kind_of w m) u (pointer_slots a) way i b) (kind_of w m) at)
    (Line (moved_words (kind_of w m) (column w into) a (slot_of w.slots Moved))) lines
    × Leaves known into (Some (a_pointer (column w into) m u [])) after
IsCuringPoint (point.Difference into a t b s at) w known after lines = (m n : NodeId) × (u v : TypeId) × (p q : ℕ) × (x y : List Sure) × (seat : Seat)
    × IsPointer w t m u × IsPointer w s n v × IsComplete w.whole.table u × Points known a m u p x × Points known b n v q y × Takes w into 1
    × Then (IsGuarded w (order_by w seat (kind_of w m) (pointer_slots p) (kind_of w n) (pointer_slots q)
    (Some (number_at seat Size (reach_of w (kind_of w m) u)))) (kind_of w m) at)
    (Line (instr.Sub (column w into) p q ∷ quotient_lines (column w into) (number_at seat Size (reach_of w (kind_of w m) u)))) lines
    × Leaves known into (Some (an_integer (column w into) Exact long)) after
IsCuringPoint (point.Compare into which a t b s at) w known after lines = (m n : NodeId) × (u v : TypeId) × (p q : ℕ) × (x y : List Sure) × (seat : Seat)
    × IsPointer w t m u × IsPointer w s n v × Points known a m u p x × Points known b n v q y × Takes w into 1
    × Then (IsGuarded w (comparing which w seat (kind_of w m) (pointer_slots p) (kind_of w n) (pointer_slots q)) (kind_of w m) at)
    (Line (compared_lines which w (kind_of w m) (kind_of w n) (column w into) (pointer_slots p) (pointer_slots q))) lines
    × Leaves known into (Some (an_integer (column w into) Exact int)) after
IsCuringPoint (point.IsNull into p t different) w known after lines = (n : NodeId) × (u : TypeId) × (q : ℕ) × (sure : List Sure) × (a : ℕ)
    × Points known p n u q sure × Takes w into 1
    × Then (IsTested w known p a) (Line (null_operation different (column w into) a w.slots.nought ∷ [])) lines
    × Leaves known into (Some (an_integer (column w into) Exact int)) after
IsCuringPoint (point.Member into from outer t i inner u at) w known after lines = (a : ℕ) × (sure : List Sure) × (seat : Seat)
    × IsAddress known from outer t a sure × Takes w into (word_number (kind_of w inner))
    × Then (Gets w Offset (Number (cured_offset w (kind_of w outer) t (offset_of w.whole.table t i))) (seat Offset))
    (Then (IsGuarded w (address_of_part w seat (kind_of w outer) t (pointer_slots a)) (kind_of w outer) at)
    (PartWords (kind_of w inner) w seat (cured_size w.whole u) u (column w into) a (seat Offset) (a + 1))) lines
    × Leaves known into (Some (a_place (column w into) inner u [])) after
IsCuringPoint (point.Decay into from outer array check inner element at) w known after lines = (a : ℕ) × (sure : List Sure) × (seat : Seat)
    × IsArrayAt check known from outer array a sure × Takes w into (word_number (kind_of w inner))
    × Decays check w seat (kind_of w outer) (kind_of w inner) array element (column w into) a at lines
    × Leaves known into (Some (a_pointer (column w into) inner element [])) after
IsCuringPoint (point.Address into from outer inner t) w known after lines = (a : ℕ) × (sure : List Sure) × (seat : Seat)
    × IsPlaced known from outer t a sure × Takes w into (word_number (kind_of w inner))
    × PartWords (kind_of w inner) w seat (cured_size w.whole t) t (column w into) a w.slots.nought (a + 1) lines
    × Leaves known into (Some (a_pointer (column w into) inner t [])) after

-- Conversions

-- to a pointer of one word from a SEQ one: it has to reach what the target points to, or what the source does
abbrev pub shrink_by : Seat → FlowClass → ℕ → ℕ → asked.Conversion
shrink_by seat DownTile from to = Shrink (number_at seat Size to)
shrink_by seat Tile from to = Shrink (number_at seat Size to)
shrink_by seat class from to = Shrink (number_at seat Size from)

abbrev pub lower_by : FlowClass → ℕ → asked.Conversion
lower_by Down node = Lower node
lower_by DownTile node = Lower node
lower_by class node = Free

-- from a pointer to u to one to v
abbrev pub conversion_by : Kind → Kind → World → Seat → FlowClass → TypeId → TypeId → asked.Conversion
conversion_by Seq Safe w seat class u v = Shrink (number_at seat Size (cured_size w.whole v))
conversion_by Seq Rtti w seat class u v = shrink_by seat class (cured_size w.whole u) (cured_size w.whole v)
conversion_by Rtti to w seat class u v = lower_by class (w.whole.node v)
conversion_by from to w seat class u v = Free

-- the type at which an RTTI pointer is made that comes from a SEQ one
abbrev pub made_type : FlowClass → TypeId → TypeId → TypeId
made_type DownTile u v = v
made_type Tile u v = v
made_type class u v = u

-- an address, and its type node, or 0 where it is null
abbrev pub noded_lines : World → ℕ → ℕ → TypeId → List Instr
noded_lines w v a t = instr.Copy v a ∷ instr.Ne (v + 1) v w.slots.nought ∷ instr.Const (slot_of w.slots Word) (w.whole.node t)
    ∷ instr.Mul (v + 1) (v + 1) (slot_of w.slots Word) ∷ []

-- the words of a pointer in slots from a on, converted
abbrev pub ConvertedWords : Kind → Kind → World → FlowClass → TypeId → TypeId → ℕ → ℕ → Piece
ConvertedWords Wild Wild w class u v c a = Line (copies 2 c a)
ConvertedWords Seq Seq w class u v c a = Line (copies 3 c a)
ConvertedWords Seq Safe w class u v c a = Line (copies 1 c a)
ConvertedWords Seq Rtti w class u v c a = Line (noded_lines w c a (made_type class u v))
ConvertedWords Safe Safe w class u v c a = Line (copies 1 c a)
ConvertedWords Safe Rtti w class u v c a = Line (noded_lines w c a u)
ConvertedWords Rtti Safe w class u v c a = Line (copies 1 c a)
ConvertedWords Rtti Rtti w class u v c a = Line (copies 2 c a)
ConvertedWords from to w class u v c a = λ lines. ⊥

-- an integer as a pointer: SEQ or WILD, made for no object
abbrev pub NumberWords : Kind → ℕ → ℕ → Piece
NumberWords Seq v a = Line (instr.Copy v a ∷ instr.Const (v + 1) 0 ∷ instr.Const (v + 2) 0 ∷ [])
NumberWords Wild v a = Line (instr.Copy v a ∷ instr.Const (v + 1) 0 ∷ [])
NumberWords kind v a = λ lines. ⊥

abbrev pub IsCuringConvert : Conversion → World → Knowledge → Knowledge → Piece
IsCuringConvert (convert.Integer into from t) w known after lines = (i j : IntegerType) × (a : ℕ) × IsPlainInteger w t i × IsExactly known from j a × Takes w into 1
    × Line (narrowed_lines (column w into) a (narrow_of i)) lines × Leaves known into (Some (an_integer (column w into) Exact i)) after
IsCuringConvert (convert.ToPointer into from t at) w known after lines = (n : NodeId) × (u : TypeId) × (j : IntegerType) × (a : ℕ)
    × IsPointer w t n u × IsExactly known from j a × Takes w into (word_number (kind_of w n)) × NumberWords (kind_of w n) (column w into) a lines
    × Leaves known into (Some (a_pointer (column w into) n u [])) after
IsCuringConvert (convert.FromPointer into from t s) w known after lines = (n : NodeId) × (u : TypeId) × (i : IntegerType) × (a : ℕ) × (sure : List Sure)
    × IsPointer w t n u × IsPlainInteger w s i × Points known from n u a sure × Takes w into 1
    × Line (narrowed_lines (column w into) a (narrow_of i)) lines × Leaves known into (Some (an_integer (column w into) Exact i)) after
IsCuringConvert (convert.Pointer into from t s at) w known after lines = (m n : NodeId) × (u v : TypeId) × (a : ℕ) × (sure : List Sure) × (seat : Seat)
    × IsPointer w t m u × IsPointer w s n v × Points known from m u a sure × Takes w into (word_number (kind_of w n))
    × Then (IsGuarded w (op.Convert (pointer_slots a)
    (conversion_by (kind_of w m) (kind_of w n) w seat (flow_class w.whole.table u v) u v)) (kind_of w m) at)
    (ConvertedWords (kind_of w m) (kind_of w n) w (flow_class w.whole.table u v) u v (column w into) a) lines
    × Leaves known into (Some (a_pointer (column w into) n v [])) after
