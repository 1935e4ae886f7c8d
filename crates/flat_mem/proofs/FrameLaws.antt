-- Laws on live frames and on the depth of an address.
use Rattle.std.specs.Prelude.{◌≡◌, ℕ, suc, ◌+◌, ◌%◌, ◌<◌, ◌≤◌, ◌⊎◌, Bool, true, false, ◌&&◌, List, [], ◌∷◌, length, take, slice_get, slice_index, Some, nat_lt, nat_le, if◌then◌else◌, refl}
use Rattle.std.proofs.Common.{◌∙◌, ap, inl, inr, arith}
use Rattle.std.proofs.lemmas.Bool.Decides.{nat_tests}
use Rattle.std.proofs.lemmas.Option.{slice_get_within}
use Rattle.flat_mem.specs.declared.Area.{Area}
use Rattle.flat_mem.specs.Placement.{contents_size, areas_size, addresses}
use Rattle.flat_mem.specs.Memory.{Frame, Memory, IsSound, frames_end, Consecutive, depth_in, frame_of, next_frame}
use Rattle.flat_mem.proofs.AreaLaws.{areas_size-by_8, get-addresses, area-after_start, area-before_end}

outside : (start end a : ℕ) → (a ≤ start) ⊎ (end < a) → (nat_lt start a && nat_le a end) ≡ false
outside start end a out = grind (arith, nat_tests)

inside : (start end a : ℕ) → start < a → a ≤ end → (nat_lt start a && nat_le a end) ≡ true
inside start end a low high = grind (arith, nat_tests)

by_test : (t : Bool) (x y z : ℕ) → x ≤ z → y ≤ z → (if t then x else y) ≤ z
by_test true x y z p q = p
by_test false x y z p q = q

-- the frames end where they begin or later
pub frames_end-least : (start : ℕ) (frames : List Frame) → Consecutive start frames → start ≤ frames_end start frames
frames_end-least start [] lie = omega arith
frames_end-least start (frame ∷ frames) lie =
    let rest : start ≤ frames_end start frames = frames_end-least start frames lie.3 in omega (arith, rest, lie.0, lie.1)

-- they end at a multiple of 8
pub frames_end-by_8 : (start : ℕ) (frames : List Frame) → start % 8 ≡ 0 → Consecutive start frames → frames_end start frames % 8 ≡ 0
frames_end-by_8 start [] aligned lie = aligned
frames_end-by_8 start (frame ∷ frames) aligned lie = lie.2

-- so the next frame of a sound memory begins at one
pub next_frame-by_8 : (m : Memory) → IsSound m → next_frame m % 8 ≡ 0
next_frame-by_8 m sound = frames_end-by_8 m.bounds.stack_start m.frames sound.aligned sound.consecutive

-- and each of its areas has a multiple of 8 as its address
pub address-by_8 : (areas : List Area) (start k : ℕ) → start % 8 ≡ 0 → k < length areas → slice_index (addresses areas start) k % 8 ≡ 0
address-by_8 areas start k aligned h =
    let at = get-addresses areas start k h in
    let before = areas_size-by_8 (take k areas) in omega (arith, at, before, aligned)

-- an address of the newest frame has the number of live frames as its depth
pub depth_in-newest : (frame : Frame) (frames : List Frame) (a : ℕ) → frame.start < a → a ≤ frame.end → depth_in (frame ∷ frames) a ≡ suc (length frames)
depth_in-newest frame frames a low high = ap (λ t. if t then suc (length frames) else depth_in frames a) (inside frame.start frame.end a low high)

-- another address has the depth that it had without the newest frame
pub depth_in-older : (frame : Frame) (frames : List Frame) (a : ℕ) → (a ≤ frame.start) ⊎ (frame.end < a) → depth_in (frame ∷ frames) a ≡ depth_in frames a
depth_in-older frame frames a out = ap (λ t. if t then suc (length frames) else depth_in frames a) (outside frame.start frame.end a out)

-- an address below the frames, or past them, has the depth 0
pub depth_in-below : (start : ℕ) (frames : List Frame) (a : ℕ) → Consecutive start frames → a ≤ start → depth_in frames a ≡ 0
depth_in-below start [] a lie low = refl
depth_in-below start (frame ∷ frames) a lie low =
    let least : start ≤ frames_end start frames = frames_end-least start frames lie.3 in
    depth_in-older frame frames a (inl (omega (arith, least, lie.0))) ∙ depth_in-below start frames a lie.3 low

pub depth_in-past : (start : ℕ) (frames : List Frame) (a : ℕ) → Consecutive start frames → frames_end start frames < a → depth_in frames a ≡ 0
depth_in-past start [] a lie past = refl
depth_in-past start (frame ∷ frames) a lie past =
    depth_in-older frame frames a (inr past) ∙ depth_in-past start frames a lie.3 (omega (arith, lie.0, lie.1))

-- no depth is above the number of live frames
pub depth_in-most : (frames : List Frame) (a : ℕ) → depth_in frames a ≤ length frames
depth_in-most [] a = omega arith
depth_in-most (frame ∷ frames) a =
    let rest : depth_in frames a ≤ length frames = depth_in-most frames a in
    by_test (nat_lt frame.start a && nat_le a frame.end) (suc (length frames)) (depth_in frames a) (suc (length frames)) (omega arith) (omega (arith, rest))

-- an address of area k of a new frame has the depth of that frame, the address after the area's last byte too
pub depth-of_new_area : (m : Memory) (areas : List Area) (charge k i : ℕ) (area : Area) → slice_get areas k ≡ Some area → i ≤ contents_size area → depth_in (frame_of areas charge (next_frame m) ∷ m.frames) (slice_index (addresses areas (next_frame m)) k + i) ≡ suc (length m.frames)
depth-of_new_area m areas charge k i area is h =
    let start : ℕ = next_frame m in
    let low : start + 8 ≤ slice_index (addresses areas start) k = area-after_start areas start k (slice_get_within areas k area is) in
    let high : slice_index (addresses areas start) k + contents_size area ≤ start + areas_size areas = area-before_end areas start k area is in
    depth_in-newest (frame_of areas charge start) m.frames (slice_index (addresses areas start) k + i) (omega (arith, low)) (omega (arith, high, h))
