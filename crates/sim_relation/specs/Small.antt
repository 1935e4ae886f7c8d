-- Two small states, of which one stands for the other, and changes of them that don't.
use Rattle.std.specs.Prelude.{ℕ, zero, suc, pos, negsuc, true, false, List, [], ◌∷◌, ◌++◌, replicate, Option, Some, None, nat_eq, if◌then◌else◌}
use Rattle.cc_base.specs.declared.number.TypeId.{TypeId}
use Rattle.cc_base.specs.declared.number.NodeId.{NodeId}
use Rattle.cc_base.specs.declared.kind.Kind.{Kind}
use Rattle.cc_base.specs.declared.kind.Kind.TheVariants.{Safe, Seq, Wild}
use Rattle.c_types.specs.Calls.{basic_table}
use Rattle.c_types.specs.Cells.{raw, pointer_cells}
use Rattle.runs.specs.Input.{Closed}
use Rattle.flat_mem.specs.Memory as memory
use Rattle.src_mem.specs.Pointers.{Pointer, At}
use Rattle.src_mem.specs.Memory.{Object}
use Rattle.src_mem.specs.Outlines.{Outline}
use Rattle.src_mem.specs.State as source
use Rattle.src_mem.specs.State.{Access, Setting}
use Rattle.cured_code.specs.FlatState as flat
use Rattle.cured_code.specs.FlatState.{Range, PlacedArea}
use Rattle.sim_relation.specs.Ground.{Ground}
use Rattle.sim_relation.specs.Related.{ground_of}

abbrev pub node : ℕ → NodeId
node n = record { 0 = n }

-- `int` in the table of the basic types
abbrev pub int : TypeId
int = record { 0 = 5 }

-- node 1 is SEQ and node 2 is WILD
abbrev pub small_kind : ℕ → Kind
small_kind zero = Safe
small_kind (suc zero) = Seq
small_kind (suc (suc zero)) = Wild
small_kind (suc (suc (suc n))) = Safe

abbrev pub small_setting : Setting
small_setting = record { table = basic_table; kind = λ n. small_kind n.0; functions = [] }

abbrev pub number_of : TypeId → ℕ
number_of t = t.0

abbrev pub pointer_one_past : Pointer
pointer_one_past = At (record { object = 0; part = record { low = 0; high = 4 }; offset = pos 4; made = int })

abbrev pub first_pointers : ℕ → Option Pointer
first_pointers k = if nat_eq k 8 then Some pointer_one_past else None

-- struct {int x; int *p;}, with x 5 and p = &x + 1, where p is SEQ
abbrev pub first : Object
first = record {
  depth = 0;
  node = node 0;
  size = 16;
  cells = replicate 8 raw ++ pointer_cells (node 1) int;
  live = true;
  bytes = 5 ∷ replicate 15 0;
  pointers = first_pointers;
}

abbrev pub pointer_before : Pointer
pointer_before = At (record { object = 1; part = record { low = 0; high = 12 }; offset = negsuc 2; made = int })

abbrev pub second_pointers : ℕ → Option Pointer
second_pointers k = if nat_eq k 0 then Some pointer_before else None

-- twelve bytes with tags: a WILD pointer to three bytes before them, and then the integer 7
abbrev pub second : Object
second = record {
  depth = 0;
  node = node 2;
  size = 12;
  cells = replicate 12 raw;
  live = true;
  bytes = replicate 8 0 ++ 7 ∷ 0 ∷ 0 ∷ 0 ∷ [];
  pointers = second_pointers;
}

abbrev pub small_source : source.State
small_source = record {
  memory = record { objects = first ∷ second ∷ []; frame_bytes = 0; heap_bytes = 0 };
  input = Closed [];
  read = 0;
  output = [];
  accesses = record { object = 0; offset = 8; size = 8 } ∷ record { object = 1; offset = 8; size = 4 } ∷ [];
  entered = [];
  turns = 9;
}

abbrev pub eight : ℕ → List ℕ
eight n = n ∷ replicate 7 0

-- The bytes of the flat machine. Behind the word of a function: the first area's first word; x; the three words of p, which are where it stands,
-- where x begins and where x ends; the second area's first word, which is its length; its two words, of which the first is 56 - 3; their base
-- words; and their tags, of which the first alone is set.
abbrev pub bytes_with : (x tags : ℕ) → List ℕ
bytes_with x tags =
    eight 0 ++ eight 0 ++ eight x ++ eight 20 ++ eight 16 ++ eight 20 ++ eight 12 ++ eight 53 ++ eight 7 ++ eight 56 ++ eight 0 ++ eight tags

abbrev pub small_bytes : List ℕ
small_bytes = bytes_with 5 1

abbrev pub small_memory : memory.Memory
small_memory = record {
  bytes = small_bytes;
  bounds = record { stack_start = 96; stack_end = 96; stack_limit = 0; heap_end = 96; heap_limit = 0 };
  frames = [];
  heap_top = 96;
  heap_charge = 0;
}

abbrev pub first_area : PlacedArea
first_area = record { area = record { tagged = false; bytes = 32 }; address = 16 }

abbrev pub second_area : PlacedArea
second_area = record { area = record { tagged = true; bytes = 12 }; address = 56 }

abbrev pub small_flat : flat.State
small_flat = record {
  memory = small_memory;
  areas = first_area ∷ second_area ∷ [];
  input = Closed [];
  read = 0;
  output = [];
  accesses = record { at = 24; size = 24 } ∷ record { at = 64; size = 4 } ∷ [];
  entered = [];
  turns = 9;
}

abbrev pub small_ground : Ground
small_ground = ground_of small_setting number_of small_source small_flat

-- Changes

-- all of it in one frame: that of function 0, in which no call's object lies
abbrev pub memory_with_frame : memory.Memory
memory_with_frame = record small_memory { frames = record { start = 8; end = 96; charge = 0; addresses = [] } ∷ [] }

-- the first object, if the call of `main` had made it
abbrev pub outline_of_call : Outline
outline_of_call = record { depth = 1; node = node 0; size = 16; cells = replicate 8 raw ++ pointer_cells (node 1) int }

-- an access to an object that isn't there, and one to p
abbrev pub access_elsewhere : Access
access_elsewhere = record { object = 2; offset = 0; size = 4 }

abbrev pub access_to_pointer : Access
access_to_pointer = record { object = 0; offset = 8; size = 8 }
