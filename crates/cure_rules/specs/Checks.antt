-- The lines that check what an operation asks, with the numbers that they compare with.
use Rattle.std.specs.Prelude.{ℕ, ◌+◌, ◌*◌, ◌/◌, ◌-◌, ◌^◌, Bool, true, false, List, [], ◌∷◌, ◌++◌, Option, Some, None, nat_eq, nat_le, if◌then◌else◌}
use Rattle.cc_base.specs.declared.kind.Kind.{Kind}
use Rattle.cc_base.specs.declared.kind.Kind.TheVariants.{Safe, Seq, Rtti, Wild}
use Rattle.cc_base.specs.declared.number.TypeId.{TypeId}
use Rattle.cc_base.specs.declared.place.Place.{Place}
use Rattle.integers.specs.Words.{word}
use Rattle.integers.specs.Arithmetic.{IntegerType, least}
use Rattle.cil_form.specs.declared.instr.Direction as code
use Rattle.cil_form.specs.declared.instr.Direction.TheVariants as direction
use Rattle.check_forms.specs.Pieces.{Piece, Line, Then}
use Rattle.check_forms.specs.declared.slots.PointerSlots.{PointerSlots}
use Rattle.check_forms.specs.declared.slots.Fixed.{Fixed}
use Rattle.check_forms.specs.declared.slots.Distance.{Distance}
use Rattle.check_forms.specs.declared.slots.Distance.TheVariants.{Bytes, Elements}
use Rattle.check_forms.specs.declared.slots.Direction.{Direction}
use Rattle.check_forms.specs.declared.slots.Direction.TheVariants.{Forward, Backward}
use Rattle.check_forms.specs.declared.op.WildNumbers.{WildNumbers}
use Rattle.check_forms.specs.declared.op.Reach.{Reach}
use Rattle.check_forms.specs.declared.op.Factor.{Factor}
use Rattle.check_forms.specs.declared.op.Factor.TheVariants.{Any, Signed, Unsigned}
use Rattle.check_forms.specs.declared.op.Conversion.{Conversion}
use Rattle.check_forms.specs.declared.op.Conversion.TheVariants.{Shrink}
use Rattle.check_forms.specs.declared.op.Op.{Op}
use Rattle.check_forms.specs.declared.op.Op.TheVariants.{ReadInteger, ReadPointer, WriteInteger, WritePointer, CopyPlain, CopyPointers, KeepCell, Member, Move, Order, Equate, Call, ReturnPointer, Convert, Allocate, DivideUnsigned, DivideSigned, EnterMain}
use Rattle.check_forms.specs.Rows.{flat_conditions}
use Rattle.check_forms.specs.RowChecks.{AreChecks}
use Rattle.sim_relation.specs.Points.{Number}
use Rattle.cure_rules.specs.Slots.{Role, Size, Least, Span, LeastFactor, SpanFactor, Seven, Eight, Last, Signature, Offset, work_of}
use Rattle.cure_rules.specs.Known.{World, Gets, reach_of, last_function}

-- Where the numbers of each role stand: in a kept slot, or in the working slot of the role.
abbrev pub Seat : Type 0
Seat = Role → ℕ

abbrev pub number_at : Seat → Role → ℕ → Fixed
number_at seat r n = record { slot = seat r; value = n }

-- a number that lines compare with, and its role
pub record Need : Type 0 where
  pub role : Role
  pub number : Fixed

abbrev pub need : Role → Fixed → Need
need r n = record { role = r; number = n }

-- each stands in its slot: it is kept there, or set
abbrev pub AreGot : World → List Need → Piece
AreGot w [] = Line []
AreGot w (x ∷ xs) = Then (Gets w x.role (Number x.number.value) x.number.slot) (AreGot w xs)

-- Which numbers the conditions of an operation read, by the kind of its pointer

-- a test of one byte reads none
abbrev pub size_needed : Fixed → List Need
size_needed size = if nat_eq size.value 1 then [] else need Size size ∷ []

abbrev pub reach_needs : Kind → Fixed → List Need
reach_needs Safe size = []
reach_needs Rtti size = []
reach_needs Seq size = size_needed size
reach_needs Wild size = size_needed size

abbrev pub base_needs : Kind → WildNumbers → List Need
base_needs Wild numbers = need Last numbers.last ∷ []
base_needs kind numbers = []

abbrev pub aligned_needs : Kind → WildNumbers → List Need
aligned_needs Wild numbers = need Seven (record { slot = numbers.seven; value = 7 }) ∷ []
aligned_needs kind numbers = []

abbrev pub tagged_needs : Kind → WildNumbers → List Need
tagged_needs Wild numbers = need Eight (record { slot = numbers.eight; value = 8 }) ∷ []
tagged_needs kind numbers = []

abbrev pub factor_needs : Factor → List Need
factor_needs Any = []
factor_needs (Signed low span) = need LeastFactor low ∷ need SpanFactor span ∷ []
factor_needs (Unsigned bound) = need SpanFactor bound ∷ []

abbrev pub distance_needs : Distance → List Need
distance_needs (Bytes n) = []
distance_needs (Elements n size) = need Size size ∷ []

abbrev pub near_needs : Reach → List Need
near_needs reach = need Least reach.least ∷ need Span reach.span ∷ []

abbrev pub member_needs : Kind → Fixed → WildNumbers → Reach → List Need
member_needs Wild size numbers reach = base_needs Wild numbers ++ near_needs reach
member_needs kind size numbers reach = reach_needs kind size

abbrev pub apart_needs : Option Fixed → List Need
apart_needs None = []
apart_needs (Some size) = size_needed size

abbrev pub call_needs : Kind → Fixed → List Need
call_needs Wild signature = need Signature signature ∷ []
call_needs kind signature = []

abbrev pub convert_needs : Kind → Conversion → List Need
convert_needs Seq (Shrink size) = size_needed size
convert_needs kind conversion = []

abbrev pub allocated_needs : Kind → Fixed → List Need
allocated_needs Safe needed = if nat_eq needed.value 0 then [] else need Size needed ∷ []
allocated_needs Rtti needed = if nat_eq needed.value 0 then [] else need Size needed ∷ []
allocated_needs kind needed = []

abbrev pub numbers_of : Op → Kind → List Need
numbers_of (ReadInteger p size) kind = reach_needs kind size
numbers_of (ReadPointer p size numbers) kind = reach_needs kind size ++ aligned_needs kind numbers ++ tagged_needs kind numbers
numbers_of (WriteInteger p size) kind = reach_needs kind size
numbers_of (WritePointer p size numbers home assignment) kind = reach_needs kind size ++ aligned_needs kind numbers
numbers_of (CopyPlain source target other size target_at) kind = reach_needs kind size ++ reach_needs other size
numbers_of (CopyPointers source target other size numbers target_at assignment) kind =
    reach_needs kind size ++ aligned_needs kind numbers ++ reach_needs other size ++ aligned_needs other numbers
numbers_of (KeepCell home target) kind = []
numbers_of (Member p size numbers offset reach) kind = member_needs kind size numbers reach
numbers_of (Move p way n factor distance numbers reach) kind =
    base_needs kind numbers ++ factor_needs factor ++ distance_needs distance ++ near_needs reach
numbers_of (Order p q other numbers apart) kind = base_needs kind numbers ++ base_needs other numbers ++ apart_needs apart
numbers_of (Equate p q other) kind = []
numbers_of (Call p signature) kind = call_needs kind signature
numbers_of (ReturnPointer home) kind = []
numbers_of (Convert p conversion) kind = convert_needs kind conversion
numbers_of (Allocate made size needed) kind = allocated_needs kind needed
numbers_of (DivideUnsigned a b) kind = []
numbers_of (DivideSigned a b low minus_one) kind = need Least low ∷ need Span minus_one ∷ []
numbers_of (EnterMain address) kind = []

-- The lines of what an operation asks, behind those that set its numbers.
abbrev pub IsGuarded : World → Op → Kind → Place → Piece
IsGuarded w op kind at = Then (AreGot w (numbers_of op kind)) (AreChecks (work_of w.slots) (flat_conditions op kind at))

-- The operations, with the numbers of their types

abbrev pub wild_numbers : World → Seat → WildNumbers
wild_numbers w seat = record { seven = seat Seven; eight = seat Eight; last = number_at seat Last (last_function w) }

-- as many bytes as a use of this kind reaches of the type
abbrev pub size_at : World → Seat → Kind → TypeId → Fixed
size_at w seat k t = number_at seat Size (reach_of w k t)

abbrev pub read_integer : World → Seat → Kind → TypeId → PointerSlots → Op
read_integer w seat k t p = ReadInteger p (size_at w seat k t)

abbrev pub read_pointer : World → Seat → Kind → TypeId → PointerSlots → Op
read_pointer w seat k t p = ReadPointer p (size_at w seat k t) (wild_numbers w seat)

abbrev pub write_integer : World → Seat → Kind → TypeId → PointerSlots → Op
write_integer w seat k t p = WriteInteger p (size_at w seat k t)

abbrev pub write_pointer : World → Seat → Kind → TypeId → PointerSlots → ℕ → Place → Op
write_pointer w seat k t p home assignment = WritePointer p (size_at w seat k t) (wild_numbers w seat) home assignment

-- how far a SEQ pointer to elements of so many bytes, or a WILD one, may be moved from the start of its part
abbrev pub reach_at : Seat → Kind → ℕ → Reach
reach_at seat Wild size = record { least = number_at seat Least (2 ^ 40); span = number_at seat Span (2 ^ 41 + 1) }
reach_at seat kind size = record { least = number_at seat Least (2 ^ 31 * size); span = number_at seat Span (2 ^ 32 * size + size) }

-- The product of an integer of 64 bits with a size doesn't wrap where the integer is small enough; where it isn't, the pointer moves too far.
abbrev pub factor_by : Seat → Bool → Bool → ℕ → Factor
factor_by seat true signed size = Any
factor_by seat false true size = Signed (number_at seat LeastFactor (2 ^ 62 / size)) (number_at seat SpanFactor (2 * (2 ^ 62 / size) + 1))
factor_by seat false false size = Unsigned (number_at seat SpanFactor (2 ^ 62 / size + 1))

abbrev pub factor_at : Seat → IntegerType → ℕ → Factor
factor_at seat i size = factor_by seat (nat_le i.bytes 4) i.signed size

abbrev pub distance_at : Seat → ℕ → ℕ → Distance
distance_at seat n size = if nat_eq size 1 then Bytes n else Elements n (number_at seat Size size)

abbrev pub direction_of : code.Direction → Direction
direction_of direction.Forward = Forward
direction_of direction.Backward = Backward

-- a pointer of kind k to t moves by the integer in slot n
abbrev pub move_by : World → Seat → Kind → TypeId → PointerSlots → code.Direction → IntegerType → ℕ → Op
move_by w seat k t p way i n = Move p (direction_of way) n (factor_at seat i (reach_of w k t)) (distance_at seat n (reach_of w k t))
    (wild_numbers w seat) (reach_at seat k (reach_of w k t))

-- the address of what stands so many bytes into an object of type t
abbrev pub address_of_part : World → Seat → Kind → TypeId → PointerSlots → Op
address_of_part w seat k t p = Member p (size_at w seat k t) (wild_numbers w seat) (seat Offset) (reach_at seat k 1)

abbrev pub divide_by : Seat → IntegerType → ℕ → ℕ → Op
divide_by seat i a b =
    if i.signed then DivideSigned a b (number_at seat Least (word (least i))) (number_at seat Span (2 ^ 64 - 1)) else DivideUnsigned a b

-- one more than the number of the signature of functions of the type
abbrev pub call_of : World → Seat → TypeId → PointerSlots → Op
call_of w seat t p = Call p (number_at seat Signature (w.whole.signature t + 1))
