-- What a new flat memory's fields hold is the memory at the start.
use Rattle.std.specs.Prelude.{◌≡◌, ℕ, ◌+◌, ◌*◌, ◌^◌, ◌<◌, ◌≤◌, List, [], ◌∷◌, length, replicate, reverse, sum_by}
use Rattle.std.specs.Int.{div_ceil, next_multiple_of}
use Rattle.std.proofs.Common.{sym, ◌∙◌, ap, subst, arith}
use Rattle.std.proofs.lemmas.List.Sums.{sum_by-cons}
use Rattle.flat_mem.specs.declared.Area.{Area}
use Rattle.flat_mem.specs.declared.Plan.{Plan}
use Rattle.flat_mem.specs.declared.memory.Mark.{Mark}
use Rattle.flat_mem.specs.Placement.{area_size, areas_size, areas_made, round_up, flat_size, first_bytes, globals_start, IsWithinLimits}
use Rattle.flat_mem.specs.Memory.{Bounds, IsSound, first_memory, frames_end, charges}
use Rattle.flat_mem.specs.Marks.{memory_seen, frames_seen, MarksLie, IsKept}
use Rattle.flat_mem.proofs.AreaLaws.{area_size-most}
use Rattle.flat_mem.proofs.SoundLaws.{length-first_bytes, sound-first}

areas_size-most : (areas : List Area) → areas_size areas ≤ 3 * sum_by (λ area. area.bytes) areas + 40 * length areas
unfolding areas_size
areas_size-most [] = omega arith
areas_size-most (area ∷ areas) =
    let rest : areas_size areas ≤ 3 * sum_by (λ area. area.bytes) areas + 40 * length areas = areas_size-most areas in
    let one : area_size area ≤ 3 * area.bytes + 40 = area_size-most area in
    let sum : sum_by (λ area. area.bytes) (area ∷ areas) ≡ area.bytes + sum_by (λ area. area.bytes) areas = sum_by-cons (λ area. area.bytes) area areas in
    omega (arith, rest, one, sum)

pub globals-small : (plan : Plan) → IsWithinLimits plan → areas_size plan.globals ≤ 79691776
globals-small plan limits =
    let most : areas_size plan.globals ≤ 3 * sum_by (λ area. area.bytes) plan.globals + 40 * length plan.globals = areas_size-most plan.globals in
    let bytes : sum_by (λ area. area.bytes) plan.globals ≤ 12582912 = limits.global_bytes in
    let count : length plan.globals ≤ 1048576 = limits.globals in
    omega (arith, most, bytes, count)

pub regions-small : (plan : Plan) (areas : List Area) (f z : ℕ) → IsWithinLimits plan → areas ≡ plan.globals → f ≡ plan.functions → z ≡ areas_size areas → 8 * f + z + 3 * plan.stack + 3 * plan.heap < 2 ^ 32
regions-small plan areas f z limits list functions globals =
    let few : areas_size plan.globals ≤ 79691776 = globals-small plan limits in
    let same : areas_size areas ≡ areas_size plan.globals = ap areas_size list in
    let fs : plan.functions ≤ 65536 = limits.functions in
    let ss : plan.stack ≤ 1048576 = limits.stack in
    let hs : plan.heap ≤ 16777216 = limits.heap in
    omega (arith, few, same, fs, ss, hs, functions, globals)

pub globals-word : (plan : Plan) (areas : List Area) → IsWithinLimits plan → areas ≡ plan.globals → areas_size areas < 2 ^ 32
globals-word plan areas limits list = let few : areas_size plan.globals ≤ 79691776 = globals-small plan limits in let same : areas_size areas ≡ areas_size plan.globals = ap areas_size list in omega (arith, few, same)

-- the regions that the code adds up, from the number of functions and the size of the globals
abbrev pub bounds_by : ℕ → ℕ → ℕ → ℕ → Bounds
bounds_by functions globals stack heap = record {
  stack_start = 8 * functions + globals;
  stack_end = 8 * functions + globals + 3 * stack;
  stack_limit = stack;
  heap_end = 8 * functions + globals + 3 * stack + 3 * heap;
  heap_limit = heap;
}

pub first-seen : (plan : Plan) (bytes : List ℕ) (f z : ℕ) (marks : List Mark) (xs : List ℕ) (h : ℕ) → f ≡ plan.functions → z ≡ areas_size plan.globals → bytes ≡ first_bytes plan → marks ≡ [] → xs ≡ [] → h ≡ next_multiple_of (8 * f + z + 3 * plan.stack) 8 → memory_seen bytes (bounds_by f z plan.stack plan.heap) marks xs h 0 ≡ first_memory plan
first-seen plan bytes f z marks xs h functions globals made none_marks none_xs top =
    let place : h ≡ round_up (8 * f + z + 3 * plan.stack) = omega (arith, top) in
    ap (λ l. memory_seen l (bounds_by f z plan.stack plan.heap) marks xs h 0) made
    ∙ (ap (λ l. memory_seen (first_bytes plan) (bounds_by f z plan.stack plan.heap) l xs h 0) none_marks
    ∙ (ap (λ l. memory_seen (first_bytes plan) (bounds_by f z plan.stack plan.heap) [] l h 0) none_xs
    ∙ (ap (λ n. memory_seen (first_bytes plan) (bounds_by f z plan.stack plan.heap) [] [] n 0) place
    ∙ (ap (λ n. memory_seen (first_bytes plan) (bounds_by n z plan.stack plan.heap) [] [] (round_up (8 * n + z + 3 * plan.stack)) 0) functions
    ∙ ap (λ n. memory_seen (first_bytes plan) (bounds_by plan.functions n plan.stack plan.heap) [] [] (round_up (8 * plan.functions + n + 3 * plan.stack)) 0) globals))))

pub kept-first : (plan : Plan) (bytes : List ℕ) (f z : ℕ) (marks : List Mark) (xs : List ℕ) (h r s : ℕ) → IsWithinLimits plan → f ≡ plan.functions → z ≡ areas_size plan.globals → bytes ≡ first_bytes plan → marks ≡ [] → xs ≡ [] → h ≡ next_multiple_of (8 * f + z + 3 * plan.stack) 8 → r ≡ 1024 → s ≡ div_ceil (3 * plan.stack) 8 → IsKept bytes (bounds_by f z plan.stack plan.heap) marks xs (8 * f + z) 0 h 0 r s
kept-first plan bytes f z marks xs h r s limits functions globals made none_marks none_xs top marks_room addresses_room =
    let few : areas_size plan.globals ≤ 79691776 = globals-small plan limits in
    let fs : plan.functions ≤ 65536 = limits.functions in
    let ss : plan.stack ≤ 1048576 = limits.stack in
    let hs : plan.heap ≤ 16777216 = limits.heap in
    let size : length bytes ≡ flat_size plan = ap length made ∙ length-first_bytes plan in
    record {
      sound = subst IsSound (sym (first-seen plan bytes f z marks xs h functions globals made none_marks none_xs top)) (sound-first plan);
      lie = subst (λ l. MarksLie (reverse l) (length xs)) (sym none_marks) (ap length none_xs);
      at_top = ap (λ l. frames_end (8 * f + z) (frames_seen xs l)) none_marks;
      charged = ap (λ l. charges (frames_seen xs l)) none_marks;
      marks_fit = omega (arith, marks_room);
      addresses_fit = omega (arith, addresses_room);
      small = omega (arith, size, few, fs, ss, hs);
    }

-- the bytes that the code makes
pub first_bytes-made : (plan : Plan) (bytes zeros : List ℕ) (areas : List Area) (f z n : ℕ) → f ≡ plan.functions → z ≡ areas_size plan.globals → areas ≡ plan.globals → zeros ≡ replicate n 0 → n ≡ 8 * f + z + 3 * plan.stack + 3 * plan.heap → bytes ≡ areas_made areas zeros (8 * f) → bytes ≡ first_bytes plan
unfolding first_bytes
first_bytes-made plan bytes zeros areas f z n functions globals list zero_bytes size made =
    let whole : n ≡ flat_size plan = omega (arith, functions, globals, size) in
    let start : 8 * f ≡ globals_start plan = omega (arith, functions) in
    made
    ∙ (ap (λ l. areas_made l zeros (8 * f)) list
    ∙ (ap (λ l. areas_made plan.globals l (8 * f)) (zero_bytes ∙ ap (λ k. replicate k 0) whole)
    ∙ ap (areas_made plan.globals (replicate (flat_size plan) 0)) start))
