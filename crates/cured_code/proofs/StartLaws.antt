-- The laws of a program's start: the byte list is as long as its plan says, and the areas of function 0's frame lie apart
-- from each other inside the stack's region.
use Rattle.std.proofs.Common.{ℕ, zero, suc, ap, ◌+◌, ◌*◌, ◌<◌, ◌≤◌, ◌≡◌, refl, ◌∙◌, sym, subst, List, [], ◌∷◌, length, true, Some, arith, slice_get, slice_index, replicate}
use Rattle.std.proofs.lemmas.List.{length-map, length-replicate}
use Rattle.std.proofs.lemmas.Option.{slice_get_within}
use Rattle.std.proofs.lemmas.Bool.Decides.{nat_tests}
use Rattle.flat_mem.specs.declared.Area.{Area}
use Rattle.flat_mem.specs.declared.Plan.{Plan}
use Rattle.flat_mem.specs.Bytes.{written}
use Rattle.flat_mem.specs.Placement.{area_size, areas_size, addresses, contents_size, flat_size, first_bytes, globals_start}
use Rattle.flat_mem.specs.Memory.{Memory, fits, next_frame, frame_area}
use Rattle.flat_mem.proofs.ByteLaws.{length-written}
use Rattle.flat_mem.proofs.AreaLaws.{length-areas_made, area-before_end, area-after_start, areas-apart, get-areas_made_inside}
use Rattle.cured_code.specs.declared.parts.GlobalLine.{GlobalLine}
use Rattle.cured_code.specs.declared.parts.Function.{Function}
use Rattle.cured_code.specs.declared.parts.Parts.{Parts}
use Rattle.cured_code.specs.FlatState.{State}
use Rattle.cured_code.specs.FlatMachine.{plan_of, areas_of, area_of, globals_written, loaded_memory, entry, frames_charge_limit, placed}

-- the bytes at the start are as many as the plan has
length-first_bytes : (plan : Plan) → length (first_bytes plan) ≡ flat_size plan
unfolding first_bytes
length-first_bytes plan = length-areas_made plan.globals (replicate (flat_size plan) 0) (globals_start plan) ∙ length-replicate (flat_size plan) 0

-- writing the globals' first bytes makes the list no longer
length-globals_written : (globals : List GlobalLine) (start : ℕ) (bytes : List ℕ) → length (globals_written globals start bytes) ≡ length bytes
length-globals_written [] start bytes = refl
length-globals_written (g ∷ globals) start bytes = length-globals_written globals (start + area_size (area_of g.area)) (written g.first bytes (start + 8)) ∙ length-written g.first bytes (start + 8)

-- the size of the byte list before function 0's frame is pushed
pub length-loaded : (parts : Parts) → length (loaded_memory parts).bytes ≡ flat_size (plan_of parts)
length-loaded parts = length-globals_written parts.globals (globals_start (plan_of parts)) (first_bytes (plan_of parts)) ∙ length-first_bytes (plan_of parts)

-- and once it is pushed
pub length-entry : (f : Function) (s : State) → length (entry f s).state.memory.bytes ≡ length s.memory.bytes
length-entry f s = length-areas_made (areas_of f.locals) s.memory.bytes (next_frame s.memory)

-- a first frame fits where its charge and its areas do
fits-first : (m : Memory) (areas : List Area) (charge : ℕ) → m.frames ≡ [] → m.bounds.stack_end ≡ m.bounds.stack_start + 3 * m.bounds.stack_limit → charge ≤ m.bounds.stack_limit → areas_size areas ≤ 3 * m.bounds.stack_limit → fits m areas charge ≡ true
fits-first m areas charge none end few small = rw none (grind (arith, nat_tests))

-- function 0's frame fits where its charge and its areas do
pub fits-start : (parts : Parts) (areas : List Area) (charge : ℕ) → charge ≤ frames_charge_limit → areas_size areas ≤ 3 * frames_charge_limit → fits (loaded_memory parts) areas charge ≡ true
fits-start parts areas charge few small = fits-first (loaded_memory parts) areas charge refl refl few small

-- the address of area k of a frame that was just pushed is its place in the frame
pub frame_area-entry : (f : Function) (s : State) (k : ℕ) → frame_area (entry f s).state.memory k ≡ slice_index (addresses (areas_of f.locals) (next_frame s.memory)) k
frame_area-entry f s k = refl

-- a frame that fits ends inside the stack's region
pub fits-room : (m : Memory) (areas : List Area) (charge : ℕ) → fits m areas charge ≡ true → next_frame m + areas_size areas ≤ m.bounds.stack_end
fits-room m areas charge h = grind (arith, nat_tests)

-- each area of a frame that fits lies inside the stack's region, after its own first word
pub frame_area-inside : (f : Function) (s : State) (k : ℕ) (area : Area) → fits s.memory (areas_of f.locals) f.charge ≡ true → slice_get (areas_of f.locals) k ≡ Some area
    → (next_frame s.memory + 8 ≤ frame_area (entry f s).state.memory k) × (frame_area (entry f s).state.memory k + contents_size area ≤ s.memory.bounds.stack_end)
frame_area-inside f s k area h there = (
  area-after_start (areas_of f.locals) (next_frame s.memory) k (slice_get_within (areas_of f.locals) k area there),
  (let place : frame_area (entry f s).state.memory k + contents_size area ≤ next_frame s.memory + areas_size (areas_of f.locals) = area-before_end (areas_of f.locals) (next_frame s.memory) k area there
      in let room : next_frame s.memory + areas_size (areas_of f.locals) ≤ s.memory.bounds.stack_end = fits-room s.memory (areas_of f.locals) f.charge h in omega arith),
)

-- two areas of one frame are apart
pub frame_areas-apart : (f : Function) (s : State) (j k : ℕ) (area : Area) → slice_get (areas_of f.locals) j ≡ Some area → j < k → k < length f.locals
    → frame_area (entry f s).state.memory j + contents_size area + 8 ≤ frame_area (entry f s).state.memory k
frame_areas-apart f s j k area there before within = areas-apart (areas_of f.locals) (next_frame s.memory) j k area there before (subst (λ n. k < n) (sym (length-map f.locals area_of)) within)

-- the bytes of a frame's areas are zero as it is entered
pub frame_area-zero : (f : Function) (s : State) (k i : ℕ) (area : Area) → fits s.memory (areas_of f.locals) f.charge ≡ true → slice_get (areas_of f.locals) k ≡ Some area → i < contents_size area
    → slice_index (entry f s).state.memory.bytes (frame_area (entry f s).state.memory k + i) ≡ 0
frame_area-zero f s k i area h there within = get-areas_made_inside (areas_of f.locals) s.memory.bytes (next_frame s.memory) k area i there within

-- the k-th area of a frame has the k-th address as its place
pub get-placed : (areas : List Area) (start k : ℕ) (area : Area) → slice_get areas k ≡ Some area → slice_get (placed areas start) k ≡ Some (record { area = area; address = slice_index (addresses areas start) k })
unfolding addresses
get-placed [] start k area there = absurd (cc (there))
get-placed (a ∷ areas) start zero area there = let same : a ≡ area = cc (there) in ap (λ x. Some (record { area = x; address = start + 8 })) same
get-placed (a ∷ areas) start (suc k) area there = get-placed areas (start + area_size a) k area there
