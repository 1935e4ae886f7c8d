-- A small memory, on which conditions and operations are tried.
use Rattle.std.specs.Prelude.{ℕ, ℤ, pos, Bool, true, [], ◌∷◌, replicate}
use Rattle.cc_base.specs.Kinds.{kind_at}
use Rattle.cc_base.specs.declared.place.Place.{Place}
use Rattle.cc_base.specs.declared.number.TypeId.{TypeId}
use Rattle.cc_base.specs.declared.number.NodeId.{NodeId}
use Rattle.cc_base.specs.declared.kind.Kind.{Kind}
use Rattle.cc_base.specs.declared.kind.Kind.TheVariants.{Safe, Seq, Rtti, Wild}
use Rattle.c_types.specs.declared.shape.TypeShape.{TypeShape}
use Rattle.c_types.specs.declared.shape.TypeShape.TheVariants as shape
use Rattle.c_types.specs.Table.{Entry, Table}
use Rattle.c_types.specs.Cells.{raw}
use Rattle.runs.specs.Input.{Closed}
use Rattle.runs.specs.Outcome.{Outcome, Ended, Done, ◌>>=◌, ◌>>◌}
use Rattle.src_mem.specs.Pointers.{Pointer, At, Value, Integer, Address}
use Rattle.src_mem.specs.Memory.{Object, no_pointers}
use Rattle.src_mem.specs.State.{Ending, State, Act, Setting}
use Rattle.src_mem.specs.Checks.{Used, Condition, holds}
use Rattle.src_mem.specs.Primitives.{allocate, allocate_elements}
use Rattle.src_mem.specs.Uses.{read, write, copy_all}
use Rattle.src_mem.specs.Operations.{allocated_for}
use Rattle.src_mem.specs.Runs.{first_state}

abbrev pub type : ℕ → TypeId
type n = record { 0 = n }

abbrev pub node : ℕ → NodeId
node n = record { 0 = n }

abbrev pub here : Place
here = record { line = 1; col = 1 }

abbrev scalar : TypeShape → Entry
scalar shape = record { shape = shape; members = [] }

-- Types

abbrev pub char : TypeId
char = type 0

abbrev pub int : TypeId
int = type 1

-- int *, by the kind of its node
abbrev pub sequence_to_int : TypeId
sequence_to_int = type 2

abbrev pub wild_to_int : TypeId
wild_to_int = type 3

abbrev pub safe_to_int : TypeId
safe_to_int = type 4

abbrev pub typed_to_int : TypeId
typed_to_int = type 5

-- struct {int a; int b;}, and a pointer to it
abbrev pub pair : TypeId
pair = type 6

abbrev pub typed_to_pair : TypeId
typed_to_pair = type 7

-- struct {int *p;} with a WILD pointer
abbrev pub box : TypeId
box = type 8

-- int (void), and another function type
abbrev pub gives_int : TypeId
gives_int = type 9

abbrev pub gives_char : TypeId
gives_char = type 10

abbrev pub small_table : Table
small_table =
    scalar (shape.Integer 1 true)
    ∷ scalar (shape.Integer 4 true)
    ∷ scalar (shape.Pointer (node 0) int)
    ∷ scalar (shape.Pointer (node 1) int)
    ∷ scalar (shape.Pointer (node 2) int)
    ∷ scalar (shape.Pointer (node 3) int)
    ∷ record { shape = shape.Struct 0; members = int ∷ int ∷ [] }
    ∷ scalar (shape.Pointer (node 4) pair)
    ∷ record { shape = shape.Struct 1; members = wild_to_int ∷ [] }
    ∷ scalar (shape.Function [] int)
    ∷ scalar (shape.Function [] char)
    ∷ []

-- the kinds of the nodes in order; those behind are SAFE
abbrev pub small_kind : NodeId → Kind
small_kind = kind_at (Seq ∷ Wild ∷ Safe ∷ Rtti ∷ Rtti ∷ [])

abbrev pub small : Setting
small = record { table = small_table; kind = small_kind; functions = record { type = gives_int; variables = [] } ∷ [] }

-- Objects

-- int x[3] of `main`, which holds 1, 2 and 3
abbrev pub three : Object
three = record {
  depth = 1;
  node = node 5;
  size = 12;
  cells = replicate 12 raw;
  live = true;
  bytes = 1 ∷ 0 ∷ 0 ∷ 0 ∷ 2 ∷ 0 ∷ 0 ∷ 0 ∷ 3 ∷ 0 ∷ 0 ∷ 0 ∷ [];
  pointers = no_pointers;
}

-- a block of 24 bytes for a WILD pointer, all of them 255
abbrev pub tagged : Object
tagged = record {
  depth = 0;
  node = node 1;
  size = 24;
  cells = replicate 24 raw;
  live = true;
  bytes = replicate 24 255;
  pointers = no_pointers;
}

abbrev pub small_state : State
small_state = first_state (three ∷ tagged ∷ []) (Closed []) 0

-- Pointers

-- into x, whose part is all of it
abbrev pub to_three : ℤ → Pointer
to_three z = At (record { object = 0; part = record { low = 0; high = 12 }; offset = z; made = int })

-- into x, whose part is x[1] alone
abbrev pub to_second : ℤ → Pointer
to_second z = At (record { object = 0; part = record { low = 4; high = 8 }; offset = z; made = int })

-- into the block
abbrev pub to_tagged : ℤ → Pointer
to_tagged z = At (record { object = 1; part = record { low = 0; high = 24 }; offset = z; made = int })

-- made for the two integers at the beginning of x
abbrev pub to_pair : Pointer
to_pair = At (record { object = 0; part = record { low = 0; high = 8 }; offset = pos 0; made = pair })

abbrev pub used : Kind → Pointer → Used
used kind p = record { kind = kind; pointer = p }

-- What is seen

abbrev pub holds_here : Condition → Bool
holds_here = holds small small_state.memory

-- how an act ends in the small memory, or else what it gives
pub data Shown (A : Type 0) : Type 0 where
  Ends : Ending → Shown A
  Answer : A → Shown A

abbrev pub shown : {A : Type 0} → Outcome Ending State A → Shown A
shown (Ended e s) = Ends e
shown (Done a s) = Answer a

abbrev pub tried : {A : Type 0} → Act A → Shown A
tried m = shown (m small_state)

-- a pointer to the beginning of the block is stored in it
abbrev pub point_at_block : ℤ → Act (Unit {0})
point_at_block z = write small here here Wild wild_to_int (to_tagged z) (Address (to_tagged (pos 0)))

-- what is read at a byte of the block, as of this type, once a pointer is stored at byte 8
abbrev pub read_behind_pointer : TypeId → ℤ → Act Value
read_behind_pointer t z = point_at_block (pos 8) >> read small here Wild t (to_tagged z)

-- the same, once the pointer is copied to byte 16
abbrev pub read_behind_copy : TypeId → ℤ → Act Value
read_behind_copy t z =
    point_at_block (pos 8) >> copy_all small box here Wild (to_tagged (pos 8)) here Wild (to_tagged (pos 16)) here >> read small here Wild t
    (to_tagged z)

-- the same, once its second byte is overwritten by 7
abbrev pub read_behind_byte : TypeId → ℤ → Act Value
read_behind_byte t z =
    point_at_block (pos 8) >> write small here here Wild char (to_tagged (pos 9)) (Integer (pos 7)) >> read small here Wild t (to_tagged z)

-- a block of n bytes for a SAFE pointer to int, of which the first int has to be there
abbrev pub block_for_int : ℕ → Act (Unit {0})
block_for_int n = allocate small (node 2) int n >>= allocated_for small here (node 2) int

-- the first int of so many elements of so many bytes
abbrev pub first_of_elements : ℕ → ℕ → Act Value
first_of_elements count bytes = allocate_elements small (node 2) int count bytes >>= read small here Safe int
