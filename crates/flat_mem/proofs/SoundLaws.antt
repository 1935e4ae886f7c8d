-- Each change that a flat memory makes keeps it sound.
use Rattle.std.specs.Prelude.{◌≡◌, ℕ, zero, suc, ◌+◌, ◌%◌, ◌<◌, ◌≤◌, ◌&&◌, List, [], ◌∷◌, length, replicate, slice_index, nat_lt, nat_le, IsTrue, refl}
use Rattle.std.proofs.Common.{sym, ◌∙◌, arith}
use Rattle.std.proofs.lemmas.Bool.Decides.{nat_tests}
use Rattle.std.proofs.lemmas.List.{length-replicate}
use Rattle.flat_mem.specs.declared.Area.{Area}
use Rattle.flat_mem.specs.declared.Plan.{Plan}
use Rattle.flat_mem.specs.Bytes.{AreBytes}
use Rattle.flat_mem.specs.Placement.{area_size, areas_size, flat_size, globals_start, first_bytes}
use Rattle.flat_mem.specs.Memory.{Frame, Memory, IsSound, Consecutive, first_memory, with_bytes, fits, pushed, popped, older_frames, frames_end, flat_frame_limit, charges, next_frame, block_fits, block_made}
use Rattle.flat_mem.proofs.FrameLaws.{next_frame-by_8}
use Rattle.flat_mem.proofs.AreaLaws.{area_size-by_8, areas_size-by_8, length-area_made, length-areas_made, area_made-bytes, areas_made-bytes}

-- what `fits` tests
pub record Room (m : Memory) (areas : List Area) (charge : ℕ) : Type 0 where
  pub frames : length m.frames < flat_frame_limit
  pub charges : charges m.frames + charge ≤ m.bounds.stack_limit
  pub region : next_frame m + areas_size areas ≤ m.bounds.stack_end

below_tests : (a b c d e f : ℕ) → IsTrue (nat_lt a b && (nat_le c d && nat_le e f)) → (a < b) × (c ≤ d) × (e ≤ f)
below_tests a b c d e f h = (grind (arith, nat_tests), grind (arith, nat_tests), grind (arith, nat_tests))

pub room_of-fits : (m : Memory) (areas : List Area) (charge : ℕ) → IsTrue (fits m areas charge) → Room m areas charge
room_of-fits m areas charge h =
    let t = below_tests (length m.frames) flat_frame_limit (charges m.frames + charge) m.bounds.stack_limit (next_frame m + areas_size areas) m.bounds.stack_end h in
    record { frames = t.0; charges = t.1; region = t.2 }

two_tests : (c d e f : ℕ) → IsTrue (nat_le c d && nat_le e f) → (c ≤ d) × (e ≤ f)
two_tests c d e f h = (grind (arith, nat_tests), grind (arith, nat_tests))

pub room_of-block_fits : (m : Memory) (area : Area) (charge : ℕ) → IsTrue (block_fits m area charge) → (m.heap_charge + charge ≤ m.bounds.heap_limit) × (m.heap_top + area_size area ≤ m.bounds.heap_end)
room_of-block_fits m area charge h = two_tests (m.heap_charge + charge) m.bounds.heap_limit (m.heap_top + area_size area) m.bounds.heap_end h

zeros-bytes : (n i : ℕ) → slice_index (replicate n 0) i < 256
zeros-bytes zero i = omega arith
zeros-bytes (suc n) zero = omega arith
zeros-bytes (suc n) (suc i) = zeros-bytes n i

pub length-first_bytes : (plan : Plan) → length (first_bytes plan) ≡ flat_size plan
unfolding first_bytes
length-first_bytes plan = length-areas_made plan.globals (replicate (flat_size plan) 0) (globals_start plan) ∙ length-replicate (flat_size plan) 0

pub sound-first : (plan : Plan) → IsSound (first_memory plan)
unfolding first_bytes
sound-first plan = record {
  bytes = areas_made-bytes plan.globals (replicate (flat_size plan) 0) (globals_start plan) (record { below = λ i. zeros-bytes (flat_size plan) i });
  stack = omega arith;
  heap = omega arith;
  blocks = omega arith;
  size = sym (length-first_bytes plan);
  aligned = let h : areas_size plan.globals % 8 ≡ 0 = areas_size-by_8 plan.globals in omega (arith, h);
  aligned_heap = omega arith;
  consecutive = tt;
  room = omega arith;
  frame_count = omega arith;
  charged = omega arith;
  heap_charged = omega arith;
}

pub sound-with_bytes : (m : Memory) (bytes : List ℕ) → AreBytes bytes → length bytes ≡ length m.bytes → IsSound m → IsSound (with_bytes m bytes)
sound-with_bytes m bytes are same sound = record {
  bytes = are;
  stack = sound.stack;
  heap = sound.heap;
  blocks = sound.blocks;
  size = sound.size ∙ sym same;
  aligned = sound.aligned;
  aligned_heap = sound.aligned_heap;
  consecutive = sound.consecutive;
  room = sound.room;
  frame_count = sound.frame_count;
  charged = sound.charged;
  heap_charged = sound.heap_charged;
}

pub sound-pushed : (m : Memory) (areas : List Area) (charge : ℕ) → IsTrue (fits m areas charge) → IsSound m → IsSound (pushed m areas charge)
sound-pushed m areas charge h sound =
    let room : Room m areas charge = room_of-fits m areas charge h in
    record {
      bytes = areas_made-bytes areas m.bytes (next_frame m) sound.bytes;
      stack = sound.stack;
      heap = sound.heap;
      blocks = sound.blocks;
      size = sound.size ∙ sym (length-areas_made areas m.bytes (next_frame m));
      aligned = sound.aligned;
      aligned_heap = sound.aligned_heap;
      consecutive = (refl, omega arith, (let first = next_frame-by_8 m sound in let by_8 = areas_size-by_8 areas in omega (arith, first, by_8)), sound.consecutive);
      room = room.region;
      frame_count = let k = room.frames in omega (arith, k);
      charged = let k = room.charges in omega (arith, k);
      heap_charged = sound.heap_charged;
    }

pub sound-block_made : (m : Memory) (area : Area) (charge : ℕ) → IsTrue (block_fits m area charge) → IsSound m → IsSound (block_made m area charge)
sound-block_made m area charge h sound =
    let room = room_of-block_fits m area charge h in
    let by_8 : area_size area % 8 ≡ 0 = area_size-by_8 area in
    record {
      bytes = area_made-bytes area m.bytes m.heap_top sound.bytes;
      stack = sound.stack;
      heap = sound.heap;
      blocks = let k = sound.blocks in omega (arith, k);
      size = sound.size ∙ sym (length-area_made area m.bytes m.heap_top);
      aligned = sound.aligned;
      aligned_heap = let k = sound.aligned_heap in omega (arith, k, by_8);
      consecutive = sound.consecutive;
      room = sound.room;
      frame_count = sound.frame_count;
      charged = sound.charged;
      heap_charged = room.0;
    }

older-consecutive : (start : ℕ) (frames : List Frame) → Consecutive start frames → Consecutive start (older_frames frames)
older-consecutive start [] lie = tt
older-consecutive start (frame ∷ frames) lie = lie.3

older-end : (start : ℕ) (frames : List Frame) → Consecutive start frames → frames_end start (older_frames frames) ≤ frames_end start frames
older-end start [] lie = omega arith
older-end start (frame ∷ frames) lie = omega (arith, lie.0, lie.1)

older-count : (frames : List Frame) → length (older_frames frames) ≤ length frames
older-count [] = omega arith
older-count (frame ∷ frames) = omega arith

older-charges : (frames : List Frame) → charges (older_frames frames) ≤ charges frames
older-charges [] = omega arith
older-charges (frame ∷ frames) = omega arith

pub sound-popped : (m : Memory) → IsSound m → IsSound (popped m)
sound-popped m sound = record {
  bytes = sound.bytes;
  stack = sound.stack;
  heap = sound.heap;
  blocks = sound.blocks;
  size = sound.size;
  aligned = sound.aligned;
  aligned_heap = sound.aligned_heap;
  consecutive = older-consecutive m.bounds.stack_start m.frames sound.consecutive;
  room = let k = older-end m.bounds.stack_start m.frames sound.consecutive in let r = sound.room in omega (arith, k, r);
  frame_count = let k = older-count m.frames in let r = sound.frame_count in omega (arith, k, r);
  charged = let k = older-charges m.frames in let r = sound.charged in omega (arith, k, r);
  heap_charged = sound.heap_charged;
}
