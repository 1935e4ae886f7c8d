-- What the code keeps of the live frames, the oldest first, and how a memory is seen in it.
use Rattle.std.specs.Prelude.{◌≡◌, ℕ, ◌+◌, ◌*◌, ◌^◌, ◌<◌, ◌≤◌, List, [], ◌∷◌, length, map, reverse, take, drop}
use Rattle.flat_mem.specs.declared.memory.Mark.{Mark}
use Rattle.flat_mem.specs.Memory.{Bounds, Frame, Memory, IsSound, frames_end, charges, flat_frame_limit}

-- the frame of a mark, whose areas' addresses are some of all addresses
abbrev pub frame_seen : List ℕ → Mark → Frame
frame_seen addresses mark =
    record { start = mark.start; end = mark.end; charge = mark.charge; addresses = take mark.count (drop mark.first addresses) }

abbrev pub frames_seen : List ℕ → List Mark → List Frame
frames_seen addresses marks = map (frame_seen addresses) (reverse marks)

abbrev pub memory_seen : List ℕ → Bounds → List Mark → List ℕ → ℕ → ℕ → Memory
memory_seen bytes bounds marks addresses heap_top heap_charge = record {
  bytes = bytes;
  bounds = bounds;
  frames = frames_seen addresses marks;
  heap_top = heap_top;
  heap_charge = heap_charge;
}

-- the addresses of each frame, the newest first, stand after those of the frames before it, and each of its areas
-- has at least its first word
abbrev pub MarksLie : List Mark → ℕ → Type 0
MarksLie [] total = total ≡ 0
MarksLie (mark ∷ marks) total = (mark.first + mark.count ≡ total) × (mark.start + 8 * mark.count ≤ mark.end) × MarksLie marks mark.first

-- what holds of the fields of a flat memory: `top` is where the next frame begins, `charge` what the live frames
-- were charged together, and the vectors have room for every frame that fits and for its areas
pub record IsKept (bytes : List ℕ) (bounds : Bounds) (marks : List Mark) (addresses : List ℕ) (top charge heap_top heap_charge mark_room address_room : ℕ) : Type 0 where
  pub sound : IsSound (memory_seen bytes bounds marks addresses heap_top heap_charge)
  pub lie : MarksLie (reverse marks) (length addresses)
  pub at_top : frames_end bounds.stack_start (frames_seen addresses marks) ≡ top
  pub charged : charges (frames_seen addresses marks) ≡ charge
  pub marks_fit : flat_frame_limit ≤ mark_room
  pub addresses_fit : bounds.stack_end ≤ bounds.stack_start + 8 * address_room
  pub small : length bytes < 2 ^ 32

-- what holds of all fields: there is room besides to keep the tags of as many words as the list can hold
pub record IsWhole (bytes : List ℕ) (bounds : Bounds) (marks : List Mark) (addresses : List ℕ) (top charge heap_top heap_charge mark_room address_room tag_room : ℕ) : Type 0 where
  pub kept : IsKept bytes bounds marks addresses top charge heap_top heap_charge mark_room address_room
  pub tags_fit : bounds.heap_end ≤ 8 * tag_room
