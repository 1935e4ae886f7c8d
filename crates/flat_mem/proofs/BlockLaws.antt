-- The law of blocks: where a block that was made stands, and what it holds.
use Rattle.std.specs.Prelude.{◌≡◌, ℕ, ◌+◌, ◌%◌, ◌^◌, ◌<◌, ◌≤◌, ◌⊎◌, slice_index, IsTrue}
use Rattle.std.proofs.Common.{arith}
use Rattle.flat_mem.specs.declared.Area.{Area}
use Rattle.flat_mem.specs.Bytes.{number}
use Rattle.flat_mem.specs.Placement.{contents_size, area_size, first_word}
use Rattle.flat_mem.specs.Memory.{Memory, IsSound, block_fits, block_address, block_made, depth_of}
use Rattle.flat_mem.proofs.AreaLaws.{number-area_made_first, get-area_made_inside, get-area_made_other}
use Rattle.flat_mem.proofs.FrameLaws.{depth_in-past}
use Rattle.flat_mem.proofs.SoundLaws.{room_of-block_fits}

-- what holds of a block in the memory that it was made in
pub record IsNewBlock (m : Memory) (area : Area) (charge : ℕ) : Type 0 where
  -- it lies in the heap's region, behind all blocks before it, at a multiple of 8
  pub above : m.bounds.stack_end + 8 ≤ block_address m
  pub behind : m.heap_top + 8 ≤ block_address m
  pub inside : block_address m + contents_size area ≤ m.bounds.heap_end
  pub aligned : block_address m % 8 ≡ 0
  -- later blocks stand behind it
  pub before : block_address m + contents_size area + 8 ≤ block_address (block_made m area charge)
  -- its contents are zero, and its first word is its area's
  pub contents : (i : ℕ) → i < contents_size area → slice_index (block_made m area charge).bytes (block_address m + i) ≡ 0
  pub first : area.bytes < 2 ^ 64 → number 8 (block_made m area charge).bytes m.heap_top ≡ first_word area
  -- other bytes are as they were
  pub others : (i : ℕ) → (i < m.heap_top) ⊎ (m.heap_top + area_size area ≤ i) → slice_index (block_made m area charge).bytes i ≡ slice_index m.bytes i
  -- no address of it belongs to a frame
  pub depth : (i : ℕ) → i ≤ contents_size area → depth_of (block_made m area charge) (block_address m + i) ≡ 0

pub block-new : (m : Memory) (area : Area) (charge : ℕ) → IsSound m → IsTrue (block_fits m area charge) → IsNewBlock m area charge
block-new m area charge sound fits =
    let room = room_of-block_fits m area charge fits in
    let top = sound.blocks in
    let by_8 = sound.aligned_heap in
    let size = sound.size in
    record {
      above = omega (arith, top);
      behind = omega arith;
      inside = let r = room.1 in omega (arith, r);
      aligned = omega (arith, by_8);
      before = omega arith;
      contents = λ i h. get-area_made_inside area m.bytes m.heap_top (m.heap_top + 8 + i) (omega arith) (omega arith);
      first = λ small. number-area_made_first area m.bytes m.heap_top small (let r = room.1 in omega (arith, r, size));
      others = λ i out. get-area_made_other area m.bytes m.heap_top i out;
      depth = λ i h. depth_in-past m.bounds.stack_start m.frames (m.heap_top + 8 + i) sound.consecutive (let r = sound.room in omega (arith, r, top));
    }
