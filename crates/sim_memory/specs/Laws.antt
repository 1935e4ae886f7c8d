-- The statements of the laws of memory: what one act of C and one line of the flat machine leave of related states.
use Rattle.std.specs.Prelude.{◌≡◌, ◌≢◌, ℕ, suc, ◌+◌, ◌*◌, ◌%◌, ◌^◌, ◌<◌, ◌≤◌, ℤ, pos, true, false, List, length, slice_get, slice_set, Some, nat_le, IsTrue}
use Rattle.cc_base.specs.declared.kind.Kind.{Kind}
use Rattle.cc_base.specs.declared.kind.Kind.TheVariants.{Wild}
use Rattle.cc_base.specs.declared.number.TypeId.{TypeId}
use Rattle.cc_base.specs.declared.number.NodeId.{NodeId}
use Rattle.kind_sites.specs.declared.site.Site.{Site}
use Rattle.c_types.specs.declared.shape.TypeShape.TheVariants as shape
use Rattle.c_types.specs.Table.{IsComplete, shape_at}
use Rattle.c_types.specs.Layouts.{size_of}
use Rattle.c_types.specs.Cells.{Cell, AreOrdered, holds_pointer}
use Rattle.c_types.specs.Equality.{cells_of}
use Rattle.c_types.specs.Sound.{IsWellFormed}
use Rattle.c_types.specs.Widths.{width_of, cured_size}
use Rattle.integers.specs.Words.{residue}
use Rattle.integers.specs.Arithmetic.{IntegerType, converted, bits_of}
use Rattle.flat_mem.specs.Bytes.{IsAccessSize, written}
use Rattle.flat_mem.specs.declared.Area.{Area}
use Rattle.flat_mem.specs.Memory.{block_fits, block_address}
use Rattle.src_mem.specs.Pointers.{Pointer}
use Rattle.src_mem.specs.Memory.{Object, Planned, zero_object, charge_of, block_cells}
use Rattle.src_mem.specs.State as source
use Rattle.src_mem.specs.State.{Setting}
use Rattle.src_mem.specs.Primitives.{load_integer, load_pointer, store_integer, store_pointer, clear, copy, with_block, with_frame, heap_limit}
use Rattle.src_mem.specs.Outlines.{outline, outlines_of, lives_of}
use Rattle.src_mem.specs.Facts.{IsHeldIn, IsPlaceIn, IsSoundMemory}
use Rattle.cured_code.specs.declared.instr.Instr.TheVariants as instr
use Rattle.cured_code.specs.FlatState as flat
use Rattle.cured_code.specs.FlatState.{slot, slots_at}
use Rattle.cured_code.specs.FlatMachine as machine
use Rattle.cured_code.specs.FlatMachine.{Context, act}
use Rattle.sim_relation.specs.Ground.{address, first_word, pointer_words, word_number}
use Rattle.sim_relation.specs.Objects.{room_of}
use Rattle.sim_relation.specs.Points.{AreWords}
use Rattle.sim_relation.specs.Related.{Related, ground_of}
use Rattle.sim_memory.specs.Found.{IsFound, loading, storing, GoOnAlike}

-- A held pointer that is a place of its type is found, and its first word is the address.
abbrev pub PlacesAreFound : Type 0
PlacesAreFound = (w : Setting) (number_of : TypeId → ℕ) (s : source.State) (c : flat.State) (depth : ℕ) (kind : Kind) (t : TypeId) (p : Pointer)
    → IsWellFormed w.table → kind ≢ Wild → Related w number_of s c → IsHeldIn w s.memory depth kind t p → IsPlaceIn w s.memory depth kind t p
    → IsFound w number_of s c t p (first_word (ground_of w number_of s c) kind p)

-- Loads

-- An integer is loaded: a slot holds its bytes, with zeros above.
pub record IntegerIsLoaded (w : Setting) (number_of : TypeId → ℕ) (kind : Kind) (i : IntegerType) (p : Pointer) (s : source.State) (x : Context) (v a : ℕ)
    (c : flat.Local) : Type 0 where
  pub number : ℕ
  pub below : number < 2 ^ bits_of i
  pub goes_on : GoOnAlike w number_of s c (load_integer kind i p s) (act (instr.Ld i.bytes v a) x c) (converted i (pos number)) (slice_set c.slots v number)
  pub memory : goes_on.next.memory ≡ s.memory

abbrev pub IntegersAreLoaded : Type 0
IntegersAreLoaded = (w : Setting) (number_of : TypeId → ℕ) (kind : Kind) (t : TypeId) (i : IntegerType) (p : Pointer) (s : source.State) (x : Context) (v a : ℕ)
    (c : flat.Local) → kind ≢ Wild → shape_at w.table t ≡ shape.Integer i.bytes i.signed → IsAccessSize i.bytes → Related w number_of s c.state
    → IsFound w number_of s c.state t p (slot c a) → IntegerIsLoaded w number_of kind i p s x v a c

-- A pointer is loaded: slots hold its words.
pub record PointerIsLoaded (w : Setting) (number_of : TypeId → ℕ) (kind : Kind) (n : NodeId) (p : Pointer) (s : source.State) (x : Context) (v a : ℕ)
    (c : flat.Local) : Type 0 where
  pub pointer : Pointer
  pub words : AreWords (pointer_words (ground_of w number_of s c.state) (w.kind n) pointer)
  pub goes_on : GoOnAlike w number_of s c (load_pointer kind p s) (act (loading (w.kind n) v a) x c) pointer
      (written (pointer_words (ground_of w number_of s c.state) (w.kind n) pointer) c.slots v)
  pub memory : goes_on.next.memory ≡ s.memory

abbrev pub PointersAreLoaded : Type 0
PointersAreLoaded = (w : Setting) (sites : List Site) (number_of : TypeId → ℕ) (kind : Kind) (t : TypeId) (n : NodeId) (u : TypeId) (p : Pointer) (s : source.State)
    (x : Context) (v a : ℕ) (c : flat.Local) → IsWellFormed w.table → kind ≢ Wild → shape_at w.table t ≡ shape.Pointer n u → IsSoundMemory w sites s.memory
    → Related w number_of s c.state → IsFound w number_of s c.state t p (slot c a) → PointerIsLoaded w number_of kind n p s x v a c

-- Stores

-- An integer is stored: its low bytes count.
abbrev pub IntegersAreStored : Type 0
IntegersAreStored = (w : Setting) (number_of : TypeId → ℕ) (kind : Kind) (t : TypeId) (i : IntegerType) (p : Pointer) (z : ℤ) (s : source.State) (x : Context)
    (a v : ℕ) (c : flat.Local) → kind ≢ Wild → shape_at w.table t ≡ shape.Integer i.bytes i.signed → IsAccessSize i.bytes → Related w number_of s c.state
    → IsFound w number_of s c.state t p (slot c a) → slot c v % 2 ^ bits_of i ≡ residue z (2 ^ bits_of i)
    → GoOnAlike w number_of s c (store_integer kind i p z s) (act (instr.St i.bytes a v) x c) tt c.slots

abbrev pub PointersAreStored : Type 0
PointersAreStored = (w : Setting) (number_of : TypeId → ℕ) (kind : Kind) (t : TypeId) (n : NodeId) (u : TypeId) (p q : Pointer) (s : source.State) (x : Context)
    (a v : ℕ) (c : flat.Local) → IsWellFormed w.table → kind ≢ Wild → shape_at w.table t ≡ shape.Pointer n u → Related w number_of s c.state
    → IsFound w number_of s c.state t p (slot c a)
    → slots_at (word_number (w.kind n)) v c ≡ pointer_words (ground_of w number_of s c.state) (w.kind n) q
    → AreWords (pointer_words (ground_of w number_of s c.state) (w.kind n) q)
    → GoOnAlike w number_of s c (store_pointer kind p q s) (act (storing (w.kind n) a v) x c) tt c.slots

-- Whole objects

-- An object without tags becomes zero, and so do the bytes of its area.
abbrev pub ObjectsAreCleared : Type 0
ObjectsAreCleared = (w : Setting) (number_of : TypeId → ℕ) (k : ℕ) (o : Object) (s : source.State) (x : Context) (a n : ℕ) (c : flat.Local)
    → slice_get s.memory.objects k ≡ Some o → o.live ≡ true → w.kind o.node ≢ Wild → length o.cells ≡ o.size → Related w number_of s c.state
    → slot c a ≡ address (ground_of w number_of s c.state) k → n ≡ width_of w.kind o.cells
    → GoOnAlike w number_of s c (clear k s) (act (instr.Zero a n) x c) tt c.slots

-- Blocks

-- The areas of blocks, and of what else is made in no call, end where the next block begins, or before. Those of a call's variables do
-- since they lie in its frame.
pub record AreBelowHeap (w : Setting) (number_of : TypeId → ℕ) (s : source.State) (c : flat.State) : Type 0 where
  pub each : (k : ℕ) (o : Object) → slice_get s.memory.objects k ≡ Some o → o.live ≡ true → o.depth ≡ 0
      → address (ground_of w number_of s c) k + room_of w.kind (outline o) ≤ c.memory.heap_top

-- the area of an object without tags that has these cells
abbrev pub plain_area : Setting → List Cell → Area
plain_area w cells = record { tagged = false; bytes = width_of w.kind cells }

-- The heap has room for a block without tags exactly where C has. The region has three bytes for each that blocks may be charged.
abbrev pub BlocksFitAlike : Type 0
BlocksFitAlike = (w : Setting) (number_of : TypeId → ℕ) (s : source.State) (c : flat.State) (size : ℕ) (cells : List Cell) → Related w number_of s c
    → AreOrdered cells → length cells ≡ size → c.memory.bounds.heap_limit ≡ heap_limit
    → c.memory.bounds.heap_end ≡ c.memory.bounds.stack_end + 3 * heap_limit
    → block_fits c.memory (plain_area w cells) (charge_of size) ≡ nat_le (s.memory.heap_bytes + charge_of size) heap_limit

-- a block without tags is made
abbrev pub BlocksAreMade : Type 0
BlocksAreMade = (w : Setting) (sites : List Site) (number_of : TypeId → ℕ) (s : source.State) (c : flat.State) (n : NodeId) (size : ℕ) (cells : List Cell)
    → w.kind n ≢ Wild → IsSoundMemory w sites s.memory → Related w number_of s c → AreBelowHeap w number_of s c → AreOrdered cells → length cells ≡ size
    → IsTrue (block_fits c.memory (plain_area w cells) (charge_of size))
    → Related w number_of (with_block (zero_object 0 n size cells) s) (flat.with_block (plain_area w cells) (charge_of size) c)
    × AreBelowHeap w number_of (with_block (zero_object 0 n size cells) s) (flat.with_block (plain_area w cells) (charge_of size) c)
    × (address (ground_of w number_of (with_block (zero_object 0 n size cells) s) (flat.with_block (plain_area w cells) (charge_of size) c)) (length s.memory.objects)
    ≡ block_address c.memory)

-- Copies

-- The bytes of a struct or union, with all pointers that it holds, are copied between objects without tags; they may be one object.
abbrev pub StructsAreCopied : Type 0
StructsAreCopied = (w : Setting) (number_of : TypeId → ℕ) (from to : Kind) (t : TypeId) (p q : Pointer) (s : source.State) (x : Context) (a b m : ℕ) (c : flat.Local)
    → IsWellFormed w.table → IsComplete w.table t → from ≢ Wild → to ≢ Wild → Related w number_of s c.state
    → IsFound w number_of s c.state t p (slot c b) → IsFound w number_of s c.state t q (slot c a) → m ≡ cured_size w.table w.kind t
    → GoOnAlike w number_of s c (copy (size_of w.table t) from p to q s) (act (instr.Move a b m) x c) tt c.slots

-- that no block lies behind the heap's top stays where neither objects' outlines and lives nor areas change, and as a call begins
abbrev pub HeapIsKept : Type 0
HeapIsKept = (w : Setting) (number_of : TypeId → ℕ) (s r : source.State) (c d : flat.State) → AreBelowHeap w number_of s c
    → outlines_of r.memory ≡ outlines_of s.memory → lives_of r.memory ≡ lives_of s.memory → d.areas ≡ c.areas → d.memory.heap_top ≡ c.memory.heap_top
    → AreBelowHeap w number_of r d

abbrev pub HeapIsKeptByCalls : Type 0
HeapIsKeptByCalls = (w : Setting) (number_of : TypeId → ℕ) (s : source.State) (c : flat.State) (d : ℕ) (variables : List Planned) (areas : List Area) (charge : ℕ)
    → Related w number_of s c → AreBelowHeap w number_of s c
    → AreBelowHeap w number_of (with_frame w (suc d) variables s) (machine.with_frame areas charge c)

-- How many bytes a block for pointers to t takes once cured: as many as it has where t holds no pointer, and else as many elements.
abbrev pub BlocksOfBytes : Type 0
BlocksOfBytes = (w : Setting) (t : TypeId) (n : ℕ) → IsWellFormed w.table → holds_pointer w.table t ≡ false
    → width_of w.kind (block_cells (cells_of w.table t) n) ≡ n

abbrev pub BlocksOfElements : Type 0
BlocksOfElements = (w : Setting) (t : TypeId) (k : ℕ) → IsWellFormed w.table → IsComplete w.table t
    → width_of w.kind (block_cells (cells_of w.table t) (k * size_of w.table t)) ≡ k * cured_size w.table w.kind t
