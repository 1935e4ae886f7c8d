-- A byte list stands for an object of a C program, and where the areas of objects lie.
use Rattle.std.specs.Prelude.{◌≡◌, ◌⊎◌, ℕ, zero, suc, ◌+◌, ◌*◌, ◌%◌, ◌<◌, ◌≤◌, true, false, List, map, length, slice_get, slice_index, Option, Some, None}
use Rattle.cc_base.specs.declared.number.TypeId.{TypeId}
use Rattle.cc_base.specs.declared.number.NodeId.{NodeId}
use Rattle.cc_base.specs.declared.kind.Kind.{Kind}
use Rattle.cc_base.specs.declared.kind.Kind.TheVariants.{Wild}
use Rattle.flat_mem.specs.declared.Area.{Area}
use Rattle.flat_mem.specs.Bytes.{number}
use Rattle.flat_mem.specs.Placement.{data_word, word_count, contents_size}
use Rattle.flat_mem.specs.Memory.{Memory, depth_of}
use Rattle.wild_tags.specs.Words.{length_at, tag_at, base_at}
use Rattle.c_types.specs.Cells.{Cell, raw, pointer, AreOrdered}
use Rattle.c_types.specs.Layouts.{size_of}
use Rattle.c_types.specs.Equality.{cells_of}
use Rattle.c_types.specs.Widths.{before, width_of}
use Rattle.src_mem.specs.Pointers.{Pointer}
use Rattle.src_mem.specs.Memory.{Object, Planned, pointer_or_null}
use Rattle.src_mem.specs.State.{Setting}
use Rattle.src_mem.specs.Outlines.{Outline}
use Rattle.cured_code.specs.FlatState.{words_at}
use Rattle.sim_relation.specs.Ground.{Ground, address, first_word, second_word, pointer_words, word_number}

-- Objects

-- The bytes from the address `at` on hold an object without tags: each byte of an integer, and padding, stands at its place, and where its
-- type has a pointer the words of what is stored there stand, those of a null pointer where nothing is.
pub record HoldsTyped (g : Ground) (bytes : List ℕ) (at : ℕ) (o : Object) : Type 0 where
  pub ordered : AreOrdered o.cells
  pub sized : length o.bytes ≡ length o.cells
  pub integers : (i : ℕ) → slice_get o.cells i ≡ Some raw → slice_index bytes (at + before g.kind o.cells i) ≡ slice_index o.bytes i
  pub pointers : (i : ℕ) (n : NodeId) (t : TypeId) → slice_get o.cells i ≡ Some (pointer n t 0)
      → words_at (word_number (g.kind n)) bytes (at + before g.kind o.cells i) ≡ pointer_words g (g.kind n) (pointer_or_null (o.pointers i))

-- Word k of a tagged object. No pointer begins there: it has no tag, and holds the bytes that the object has, up to the object's end. A
-- pointer is stored there: it has a tag, and holds the pointer's first word; its base word is the second one.
abbrev pub HoldsWord : Ground → List ℕ → ℕ → Object → ℕ → Option Pointer → Type 0
HoldsWord g bytes at o k None = (tag_at bytes at o.size k ≡ false)
    × ((i : ℕ) → i < 8 → 8 * k + i < o.size → slice_index bytes (data_word at k + i) ≡ slice_index o.bytes (8 * k + i))
HoldsWord g bytes at o k (Some p) = (tag_at bytes at o.size k ≡ true)
    × (number 8 bytes (data_word at k) ≡ first_word g Wild p)
    × (base_at bytes at o.size k ≡ second_word g Wild p)

-- The bytes from `at` on hold an object with tags: the word before it is its length, and each of its words is held.
pub record HoldsTagged (g : Ground) (bytes : List ℕ) (at : ℕ) (o : Object) : Type 0 where
  pub size : length_at bytes at ≡ o.size
  pub words : (k : ℕ) → k < word_count o.size → HoldsWord g bytes at o k (o.pointers (8 * k))

-- an object whose home or allocation has this kind
abbrev pub HoldsBy : Kind → Ground → List ℕ → ℕ → Object → Type 0
HoldsBy Wild g bytes at o = HoldsTagged g bytes at o
HoldsBy kind g bytes at o = HoldsTyped g bytes at o

-- object number k, where the areas have it
abbrev pub Holds : Ground → List ℕ → ℕ → Object → Type 0
Holds g bytes k o = HoldsBy (g.kind o.node) g bytes (address g k) o

-- a byte list stands for a list of objects: it holds each that lives
pub record HoldsAll (g : Ground) (bytes : List ℕ) (objects : List Object) : Type 0 where
  pub each : (k : ℕ) (o : Object) → slice_get objects k ≡ Some o → o.live ≡ true → Holds g bytes k o

-- Areas

-- the area that an object needs: with tags as many bytes as it has, without tags as many as they have become
abbrev pub area_by : (NodeId → Kind) → Kind → ℕ → List Cell → Area
area_by kind_of Wild size cells = record { tagged = true; bytes = size }
area_by kind_of kind size cells = record { tagged = false; bytes = width_of kind_of cells }

abbrev pub area_of : (NodeId → Kind) → Outline → Area
area_of kind_of o = area_by kind_of (kind_of o.node) o.size o.cells

-- the room that it takes behind its first word
abbrev pub room_of : (NodeId → Kind) → Outline → ℕ
room_of kind_of o = contents_size (area_of kind_of o)

-- the areas of the variables of a call, in order
abbrev pub variable_area : Setting → Planned → Area
variable_area w v = area_by w.kind (w.kind v.node) (size_of w.table v.type) (cells_of w.table v.type)

abbrev pub frame_areas : Setting → List Planned → List Area
frame_areas w variables = map (variable_area w) variables

-- The number of frames at the making of an object, once cured: function 0 has the first frame, so what is made in d + 1 calls is made in
-- d + 2 frames. What lives as long as the program is in none.
abbrev pub flat_depth : ℕ → ℕ
flat_depth zero = 0
flat_depth (suc d) = suc (suc d)

-- Where the area of a living object lies, which has this address: behind its first word, at a multiple of 8, in the byte list. It lies in the
-- frame of the call that made it, up to and with its end, so that an address tells how deep its object is; or, if the object is none of a
-- call's, below the stack or above it. No store changes any of this.
pub record Lies (kind_of : NodeId → Kind) (m : Memory) (at : ℕ) (o : Outline) : Type 0 where
  pub above : 8 ≤ at
  pub aligned : at % 8 ≡ 0
  pub inside : at + room_of kind_of o ≤ length m.bytes
  pub depth : (i : ℕ) → i ≤ room_of kind_of o → depth_of m (at + i) ≡ flat_depth o.depth
  pub static : o.depth ≡ 0 → (at + room_of kind_of o ≤ m.bounds.stack_start) ⊎ (m.bounds.stack_end + 8 ≤ at)

-- Two areas, at these addresses, lie apart: one ends before the other one's first word.
abbrev pub Apart : (NodeId → Kind) → ℕ → Outline → ℕ → Outline → Type 0
Apart kind_of a o b p = (a + room_of kind_of o + 8 ≤ b) ⊎ (b + room_of kind_of p + 8 ≤ a)
