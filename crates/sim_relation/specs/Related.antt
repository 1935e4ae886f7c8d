-- A state of the flat machine stands for a state of a C program.
use Rattle.std.specs.Prelude.{◌≡◌, ◌≢◌, ℕ, suc, ◌+◌, ◌*◌, ◌<◌, ◌≤◌, ◌^◌, true, List, [], ◌∷◌, length, map, slice_get, Some}
use Rattle.cc_base.specs.declared.number.TypeId.{TypeId}
use Rattle.runs.specs.Input.{left}
use Rattle.flat_mem.specs.Memory.{Frame, IsSound, charges}
use Rattle.src_mem.specs.Memory.{Object}
use Rattle.src_mem.specs.State as source
use Rattle.src_mem.specs.State.{Setting}
use Rattle.src_mem.specs.Outlines.{outline}
use Rattle.cured_code.specs.FlatState as flat
use Rattle.cured_code.specs.FlatState.{PlacedArea}
use Rattle.sim_relation.specs.Ground.{Ground, ground, address}
use Rattle.sim_relation.specs.Objects.{HoldsAll, Lies, Apart, area_of}
use Rattle.sim_relation.specs.Accesses.{AreImages}

-- what the words of two states are made from
abbrev pub ground_of : Setting → (TypeId → ℕ) → source.State → flat.State → Ground
ground_of w number_of s c = ground w number_of s.memory.objects c.areas

-- The areas: each object has one, of the number that it has, with the room that it needs. That of each living object lies where it should, and
-- those of two living objects lie apart.
pub record AreAreas (g : Ground) (objects : List Object) (c : flat.State) : Type 0 where
  pub count : length c.areas ≡ length objects
  pub sizes : (k : ℕ) (o : Object) (a : PlacedArea) → slice_get objects k ≡ Some o → slice_get c.areas k ≡ Some a
      → a.area ≡ area_of g.kind (outline o)
  pub lie : (k : ℕ) (o : Object) → slice_get objects k ≡ Some o → o.live ≡ true → Lies g.kind c.memory (address g k) (outline o)
  pub apart : (j k : ℕ) (o p : Object) → slice_get objects j ≡ Some o → o.live ≡ true → slice_get objects k ≡ Some p → p.live ≡ true
      → j ≢ k → Apart g.kind (address g j) (outline o) (address g k) (outline p)

-- each of these frames has three bytes for each byte that its call was charged
abbrev pub AreRoomy : List Frame → Type 0
AreRoomy [] = Unit {0}
AreRoomy (frame ∷ frames) = (frame.end ≤ frame.start + 3 * frame.charge) × AreRoomy frames

-- Room: the flat memory has three bytes for each byte that the program is charged, so what the program may still make finds room here. It
-- is said of each frame, since a call that ends gives back its own.
pub record HasRoom (s : source.State) (c : flat.State) : Type 0 where
  pub frame_charge : charges c.memory.frames ≡ s.memory.frame_bytes
  pub heap_charge : c.memory.heap_charge ≡ s.memory.heap_bytes
  pub frames : AreRoomy c.memory.frames
  pub heap : c.memory.heap_top ≤ c.memory.bounds.stack_end + 3 * c.memory.heap_charge

-- Outside memory: the same output and the same turns, as many bytes read, and what is left of the input. The functions that were entered
-- are the same, in order; each has the next number in the cured program.
pub record IsAlikeOutside (s : source.State) (c : flat.State) : Type 0 where
  pub output : c.output ≡ s.output
  pub read : c.read ≡ s.read
  pub input : c.input ≡ left s.input s.read
  pub turns : c.turns ≡ s.turns
  pub entered : c.entered ≡ map suc s.entered

-- A state of the flat machine, which runs cured code, stands for one of the C program. `number_of` numbers the types that RTTI pointers
-- carry. That what pointers say is true at all isn't told here: these are the facts of C's memory, which stand beside this relation.
pub record Related (w : Setting) (number_of : TypeId → ℕ) (s : source.State) (c : flat.State) : Type 0 where
  pub areas : AreAreas (ground_of w number_of s c) s.memory.objects c
  pub holds : HoldsAll (ground_of w number_of s c) c.memory.bytes s.memory.objects
  -- all addresses are below 2^32, so sums of a few of them and of distances are exact
  pub sound : IsSound c.memory
  pub small : length c.memory.bytes < 2 ^ 32
  pub room : HasRoom s c
  pub outside : IsAlikeOutside s c
  -- every access so far touched exactly its image
  pub accesses : AreImages (ground_of w number_of s c) s.accesses c.accesses
