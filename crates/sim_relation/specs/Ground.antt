-- The words by which the flat machine stands for a pointer of a C program.
--
-- A pointer of a C program names an object, a part of it and a byte; the flat machine has numbers. Which numbers follows from where the
-- areas of the objects are, and from how wide the bytes of each object have become: a byte of an integer stays one byte, and the eight
-- bytes of a pointer become as many words as its kind needs. The words of a pointer depend on its kind and on itself alone, not on the
-- type through which it is used.
use Rattle.std.specs.Prelude.{ℕ, suc, ◌+◌, ℤ, pos, negsuc, ◌+ℤ◌, List, [], ◌∷◌, map, slice_get, Option, Some, None}
use Rattle.cc_base.specs.declared.number.TypeId.{TypeId}
use Rattle.cc_base.specs.declared.number.NodeId.{NodeId}
use Rattle.cc_base.specs.declared.kind.Kind.{Kind}
use Rattle.cc_base.specs.declared.kind.Kind.TheVariants.{Safe, Seq, Rtti, Wild}
use Rattle.flat_mem.specs.Placement.{function_address}
use Rattle.integers.specs.Words.{word}
use Rattle.c_types.specs.Table.{Table}
use Rattle.c_types.specs.Cells.{Cell}
use Rattle.c_types.specs.Widths.{before, cured_distance}
use Rattle.src_mem.specs.Pointers.{Location, Pointer, Null, Number, At, Function, distance}
use Rattle.src_mem.specs.Memory.{Object}
use Rattle.src_mem.specs.State.{Setting}
use Rattle.src_mem.specs.Outlines.{Outline, outline}
use Rattle.cured_code.specs.FlatState.{PlacedArea}

-- What words are made from: the types, the kinds, the number of each type among those that RTTI pointers are told apart by, the outlines
-- of the objects, and the areas in which they lie. No store changes any of it.
pub record Ground : Type 0 where
  pub table : Table
  pub kind : NodeId → Kind
  pub number_of : TypeId → ℕ
  pub outlines : List Outline
  pub areas : List PlacedArea

abbrev pub ground : Setting → (TypeId → ℕ) → List Object → List PlacedArea → Ground
ground w number_of objects areas =
    record { table = w.table; kind = w.kind; number_of = number_of; outlines = map outline objects; areas = areas }

abbrev pub cells_in : Option Outline → List Cell
cells_in None = []
cells_in (Some o) = o.cells

abbrev pub address_in : Option PlacedArea → ℕ
address_in None = 0
address_in (Some a) = a.address

-- the area of an object has the object's number: its address
abbrev pub address : Ground → ℕ → ℕ
address g object = address_in (slice_get g.areas object)

-- what the type of an object says of its bytes
abbrev pub cells : Ground → ℕ → List Cell
cells g object = cells_in (slice_get g.outlines object)

-- the address of a byte of an object without tags: of the area, and then what the bytes before it take
abbrev pub place : Ground → ℕ → ℕ → ℕ
place g object offset = address g object + before g.kind (cells g object) offset

-- The words of a pointer

-- the byte that a pointer which cannot move stands at
abbrev pub natural : ℤ → ℕ
natural (pos n) = n
natural (negsuc n) = 0

-- The address of a defined function. Function 0 of the cured program runs the static initialisers, so the defined ones follow it.
abbrev pub function_word : ℕ → ℕ
function_word f = function_address (suc f)

-- The first word says where the pointer stands: the address of its byte. A SEQ pointer moves by elements of the type at which it was made,
-- from the start of its part, and may stand before it or behind it; a WILD one moves by bytes, from the start of its object. Both are taken
-- modulo 2^64.
abbrev pub first_at : Ground → Kind → Location → ℕ
first_at g Safe l = place g l.object (natural l.offset)
first_at g Rtti l = place g l.object (natural l.offset)
first_at g Seq l = word (pos (place g l.object l.part.low) +ℤ cured_distance g.table g.kind l.made (distance l))
first_at g Wild l = word (pos (address g l.object) +ℤ l.offset)

-- the second: the type at which an RTTI pointer was made, where the part of a SEQ pointer begins, where the object of a WILD one begins
abbrev pub second_at : Ground → Kind → Location → ℕ
second_at g Safe l = 0
second_at g Rtti l = g.number_of l.made
second_at g Seq l = place g l.object l.part.low
second_at g Wild l = address g l.object

abbrev pub second_of_function : Kind → ℕ → ℕ
second_of_function Wild f = function_word f
second_of_function kind f = 0

abbrev pub first_word : Ground → Kind → Pointer → ℕ
first_word g kind Null = 0
first_word g kind (Number n) = n
first_word g kind (At l) = first_at g kind l
first_word g kind (Function f) = function_word f

abbrev pub second_word : Ground → Kind → Pointer → ℕ
second_word g kind Null = 0
second_word g kind (Number n) = 0
second_word g kind (At l) = second_at g kind l
second_word g kind (Function f) = second_of_function kind f

-- the third: where the part of a SEQ pointer ends
abbrev pub third_word : Ground → Pointer → ℕ
third_word g Null = 0
third_word g (Number n) = 0
third_word g (At l) = place g l.object l.part.high
third_word g (Function f) = 0

-- how many of the three a kind keeps
abbrev pub row : Kind → ℕ → ℕ → ℕ → List ℕ
row Safe a b c = a ∷ []
row Rtti a b c = a ∷ b ∷ []
row Seq a b c = a ∷ b ∷ c ∷ []
row Wild a b c = a ∷ b ∷ []

abbrev pub word_number : Kind → ℕ
word_number Safe = 1
word_number Rtti = 2
word_number Seq = 3
word_number Wild = 2

-- The words of a pointer of this kind. They are given for every pointer; which of them a kind can have at all is said by the facts of C's
-- memory (`IsValueOf`), not here: so no SAFE pointer is made from an integer.
abbrev pub pointer_words : Ground → Kind → Pointer → List ℕ
pointer_words g kind p = row kind (first_word g kind p) (second_word g kind p) (third_word g p)
