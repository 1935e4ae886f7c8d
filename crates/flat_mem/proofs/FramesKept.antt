-- Pushing and popping a frame, and making a block, do to the memory that is seen what the definitions say, and keep
-- what holds of the fields. The letters are those of Keeps.
use Rattle.std.specs.Prelude.{◌≡◌, ℕ, ◌+◌, ◌-◌, ◌*◌, ◌^◌, ◌<◌, ◌≤◌, ◌&&◌, nat_le, Some, None, if◌then◌else◌, IsTrue, List, [], ◌∷◌, ◌++◌, length, reverse, take, drop}
use Rattle.std.proofs.Common.{sym, ◌∙◌, ap, subst, arith}
use Rattle.std.proofs.lemmas.List.{reverse-append, length-append}
use Rattle.std.proofs.lemmas.Bool.Decides.{nat_tests}
use Rattle.flat_mem.specs.declared.Area.{Area}
use Rattle.flat_mem.specs.declared.memory.Mark.{Mark}
use Rattle.flat_mem.specs.Placement.{area_size, areas_size, addresses, area_made, areas_made}
use Rattle.flat_mem.specs.Memory.{Bounds, Memory, IsSound, Consecutive, fits, pushed, popped, older_frames, frame_of, frames_end, charges, next_frame, block_fits, block_made}
use Rattle.flat_mem.specs.Marks.{frame_seen, frames_seen, memory_seen, MarksLie, IsKept}
use Rattle.flat_mem.proofs.AreaLaws.{area_size-least, length-addresses, length-areas_made, length-area_made}
use Rattle.flat_mem.proofs.Keeps.{written-back}
use Rattle.flat_mem.proofs.AreaCode.{within, le_of}
use Rattle.flat_mem.proofs.SoundLaws.{Room, room_of-fits, sound-pushed, sound-popped, sound-block_made}
use Rattle.flat_mem.proofs.FramesSeen.{seen-pushed, seen-popped, lie-popped, addresses-most, areas_size-words, length-frames_seen}

pub areas-back : (old lent new : List ℕ) (len : ℕ) (areas : List Area) (start : ℕ) → lent ≡ old → length lent ≡ len → new ≡ areas_made areas lent start → take len (new ++ drop (length new) old) ≡ areas_made areas old start
areas-back old lent new len areas start is size made =
    written-back old lent new len is size (ap length made ∙ length-areas_made areas lent start) ∙ (made ∙ ap (λ l. areas_made areas l start) is)

pub area-back : (old lent new : List ℕ) (len : ℕ) (area : Area) (start : ℕ) → lent ≡ old → length lent ≡ len → new ≡ area_made area lent start → take len (new ++ drop (length new) old) ≡ area_made area old start
area-back old lent new len area start is size made =
    written-back old lent new len is size (ap length made ∙ length-area_made area lent start) ∙ (made ∙ ap (λ l. area_made area l start) is)

-- What room there is for a frame that fits

pub record KeptRoom (old : List ℕ) (marks : List Mark) (xs : List ℕ) (t c r s limit : ℕ) (areas : List Area) (charge : ℕ) : Type 0 where
  pub for_bytes : t + areas_size areas ≤ length old
  pub small : t + areas_size areas < 2 ^ 32
  pub for_mark : length marks < r
  pub for_addresses : length xs + length areas ≤ s
  pub for_charge : c + charge ≤ limit

pub kept-room : (m : Memory) (old : List ℕ) (b : Bounds) (marks : List Mark) (xs : List ℕ) (t c h k r s : ℕ) (areas : List Area) (charge : ℕ) → memory_seen old b marks xs h k ≡ m → IsTrue (fits m areas charge) → IsKept old b marks xs t c h k r s → KeptRoom old marks xs t c r s b.stack_limit areas charge
kept-room m old b marks xs t c h k r s areas charge seen fit kept =
    let room : Room (memory_seen old b marks xs h k) areas charge = room_of-fits (memory_seen old b marks xs h k) areas charge (subst (λ m. IsTrue (fits m areas charge)) (sym seen) fit) in
    let top : next_frame (memory_seen old b marks xs h k) ≡ t = kept.at_top in
    let region : next_frame (memory_seen old b marks xs h k) + areas_size areas ≤ b.stack_end = room.region in
    let heap : b.stack_end ≤ b.heap_end = kept.sound.heap in
    let size : b.heap_end ≡ length old = kept.sound.size in
    let small : length old < 2 ^ 32 = kept.small in
    let most : b.stack_start + 8 * length xs ≤ next_frame (memory_seen old b marks xs h k) = addresses-most b.stack_start xs (reverse marks) (length xs) kept.sound.consecutive kept.lie in
    let words : 8 * length areas ≤ areas_size areas = areas_size-words areas in
    let fit_in : b.stack_end ≤ b.stack_start + 8 * s = kept.addresses_fit in
    let count : length (frames_seen xs marks) ≡ length marks = length-frames_seen xs marks in
    let fewer : length (frames_seen xs marks) < 1024 = room.frames in
    let enough : 1024 ≤ r = kept.marks_fit in
    let sum : charges (frames_seen xs marks) + charge ≤ b.stack_limit = room.charges in
    let charged : charges (frames_seen xs marks) ≡ c = kept.charged in
    record {
      for_bytes = omega (arith, top, region, heap, size);
      small = omega (arith, top, region, heap, size, small);
      for_mark = omega (arith, count, fewer, enough);
      for_addresses = omega (arith, region, most, words, fit_in);
      for_charge = omega (arith, sum, charged);
    }

-- Pushing

abbrev pub new_mark : ℕ → ℕ → ℕ → ℕ → List Area → Mark
new_mark start end charge first areas = record { start = start; end = end; charge = charge; first = first; count = length areas }

seen-frames : (marks after : List Mark) (xs more : List ℕ) (t end charge first : ℕ) (areas : List Area) → MarksLie (reverse marks) (length xs) → first ≡ length xs → end ≡ t + areas_size areas → after ≡ marks ++ new_mark t end charge first areas ∷ [] → more ≡ xs ++ addresses areas t → frames_seen more after ≡ frame_of areas charge t ∷ frames_seen xs marks
seen-frames marks after xs more t end charge first areas lie place ends pushing listed =
    ap (frames_seen more) pushing
    ∙ (ap (λ l. frames_seen l (marks ++ new_mark t end charge first areas ∷ [])) listed
    ∙ (seen-pushed xs (addresses areas t) marks (new_mark t end charge first areas) lie place (sym (length-addresses areas t))
    ∙ ap (λ e. record { start = t; end = e; charge = charge; addresses = addresses areas t } ∷ frames_seen xs marks) ends))

pub pushed-seen : (m : Memory) (old new : List ℕ) (b : Bounds) (marks after : List Mark) (xs more : List ℕ) (t c h k r s end charge first : ℕ) (areas : List Area) → memory_seen old b marks xs h k ≡ m → new ≡ areas_made areas old t → first ≡ length xs → end ≡ t + areas_size areas → after ≡ marks ++ new_mark t end charge first areas ∷ [] → more ≡ xs ++ addresses areas t → IsKept old b marks xs t c h k r s → memory_seen new b after more h k ≡ pushed m areas charge
pushed-seen m old new b marks after xs more t c h k r s end charge first areas seen made place ends pushing listed kept =
    let top : t ≡ next_frame (memory_seen old b marks xs h k) = sym kept.at_top in
    let frames : frames_seen more after ≡ frame_of areas charge t ∷ frames_seen xs marks = seen-frames marks after xs more t end charge first areas kept.lie place ends pushing listed in
    ap (λ l. record { bytes = l; bounds = b; frames = frames_seen more after; heap_top = h; heap_charge = k }) made
    ∙ (ap (λ f. record { bytes = areas_made areas old t; bounds = b; frames = f; heap_top = h; heap_charge = k }) frames
    ∙ (ap (λ n. record { bytes = areas_made areas old n; bounds = b; frames = frame_of areas charge n ∷ frames_seen xs marks; heap_top = h; heap_charge = k }) top
    ∙ ap (λ n. pushed n areas charge) seen))

pub kept-pushed : (m : Memory) (old new : List ℕ) (b : Bounds) (marks after : List Mark) (xs more : List ℕ) (t c h k r s q p end charge first : ℕ) (areas : List Area) → memory_seen old b marks xs h k ≡ m → new ≡ areas_made areas old t → first ≡ length xs → end ≡ t + areas_size areas → after ≡ marks ++ new_mark t end charge first areas ∷ [] → more ≡ xs ++ addresses areas t → q ≡ r → p ≡ s → IsTrue (fits m areas charge) → IsKept old b marks xs t c h k r s → IsKept new b after more end (c + charge) h k q p
kept-pushed m old new b marks after xs more t c h k r s q p end charge first areas seen made place ends pushing listed same_r same_s fit kept =
    let frames : frames_seen more after ≡ frame_of areas charge t ∷ frames_seen xs marks = seen-frames marks after xs more t end charge first areas kept.lie place ends pushing listed in
    let now : IsSound m = subst IsSound seen kept.sound in
    let count : length more ≡ length xs + length areas = ap length listed ∙ (length-append xs (addresses areas t) ∙ ap (λ n. length xs + n) (length-addresses areas t)) in
    let words : 8 * length areas ≤ areas_size areas = areas_size-words areas in
    let newest : reverse after ≡ new_mark t end charge first areas ∷ reverse marks = ap reverse pushing ∙ reverse-append marks (new_mark t end charge first areas ∷ []) in
    let size : length new ≡ length old = ap length made ∙ length-areas_made areas old t in
    let small : length old < 2 ^ 32 = kept.small in
    record {
      sound = subst IsSound (sym (pushed-seen m old new b marks after xs more t c h k r s end charge first areas seen made place ends pushing listed kept)) (sound-pushed m areas charge fit now);
      lie = subst (λ l. MarksLie l (length more)) (sym newest) (omega (arith, place, count), omega (arith, ends, words), subst (MarksLie (reverse marks)) (sym place) kept.lie);
      at_top = ap (frames_end b.stack_start) frames ∙ sym ends;
      charged = ap charges frames ∙ (let was : charges (frames_seen xs marks) ≡ c = kept.charged in omega (arith, was));
      marks_fit = let was = kept.marks_fit in omega (arith, same_r, was);
      addresses_fit = let was = kept.addresses_fit in omega (arith, same_s, was);
      small = omega (arith, size, small);
    }

-- Popping

pub popped-seen : (m : Memory) (bytes : List ℕ) (b : Bounds) (marks rest : List Mark) (xs fewer : List ℕ) (t c h k r s : ℕ) (mark : Mark) → memory_seen bytes b marks xs h k ≡ m → marks ≡ rest ++ mark ∷ [] → fewer ≡ take mark.first xs → IsKept bytes b marks xs t c h k r s → memory_seen bytes b rest fewer h k ≡ popped m
popped-seen m bytes b marks rest xs fewer t c h k r s mark seen is cut kept =
    ap (λ l. memory_seen bytes b rest l h k) cut
    ∙ (sym (ap (λ f. record { bytes = bytes; bounds = b; frames = older_frames f; heap_top = h; heap_charge = k }) (seen-popped marks rest mark xs is kept.lie))
    ∙ ap popped seen)

pub kept-popped : (m : Memory) (bytes : List ℕ) (b : Bounds) (marks rest : List Mark) (xs fewer : List ℕ) (t c h k r s q p : ℕ) (mark : Mark) → memory_seen bytes b marks xs h k ≡ m → marks ≡ rest ++ mark ∷ [] → fewer ≡ take mark.first xs → q ≡ r → p ≡ s → IsKept bytes b marks xs t c h k r s → IsKept bytes b rest fewer mark.start (c - mark.charge) h k q p
kept-popped m bytes b marks rest xs fewer t c h k r s q p mark seen is cut same_r same_s kept =
    let frames : frames_seen xs marks ≡ frame_seen xs mark ∷ frames_seen (take mark.first xs) rest = seen-popped marks rest mark xs is kept.lie in
    let after : frames_seen fewer rest ≡ frames_seen (take mark.first xs) rest = ap (λ l. frames_seen l rest) cut in
    let lie = subst (Consecutive b.stack_start) frames kept.sound.consecutive in
    let begins : mark.start ≡ frames_end b.stack_start (frames_seen (take mark.first xs) rest) = lie.0 in
    let sum : charges (frames_seen xs marks) ≡ mark.charge + charges (frames_seen (take mark.first xs) rest) = ap charges frames in
    let was : charges (frames_seen xs marks) ≡ c = kept.charged in
    record {
      sound = subst IsSound (sym (popped-seen m bytes b marks rest xs fewer t c h k r s mark seen is cut kept)) (sound-popped m (subst IsSound seen kept.sound));
      lie = subst (λ l. MarksLie (reverse rest) (length l)) (sym cut) (lie-popped marks rest mark xs is kept.lie);
      at_top = ap (frames_end b.stack_start) after ∙ sym begins;
      charged = ap charges after ∙ omega (arith, sum, was);
      marks_fit = let had = kept.marks_fit in omega (arith, same_r, had);
      addresses_fit = let had = kept.addresses_fit in omega (arith, same_s, had);
      small = kept.small;
    }

-- Making a block

pub kept-block : (m : Memory) (old new : List ℕ) (b : Bounds) (marks : List Mark) (xs : List ℕ) (t c h k r s size charge : ℕ) (area : Area) → memory_seen old b marks xs h k ≡ m → new ≡ area_made area old h → size ≡ area_size area → IsTrue (block_fits m area charge) → IsKept old b marks xs t c h k r s → IsKept new b marks xs t c (h + size) (k + charge) r s
kept-block m old new b marks xs t c h k r s size charge area seen made is fit kept =
    let now : IsSound m = subst IsSound seen kept.sound in
    let same : memory_seen new b marks xs (h + size) (k + charge) ≡ block_made m area charge =
    ap (λ l. memory_seen l b marks xs (h + size) (k + charge)) made
    ∙ (ap (λ n. memory_seen (area_made area old h) b marks xs (h + n) (k + charge)) is ∙ ap (λ n. block_made n area charge) seen) in
    let len : length new ≡ length old = ap length made ∙ length-area_made area old h in
    let small : length old < 2 ^ 32 = kept.small in
    record {
      sound = subst IsSound (sym same) (sound-block_made m area charge fit now);
      lie = kept.lie;
      at_top = kept.at_top;
      charged = kept.charged;
      marks_fit = kept.marks_fit;
      addresses_fit = kept.addresses_fit;
      small = omega (arith, len, small);
    }

-- what is left of the stack's region is far below what a word holds
pub region-small : (bytes : List ℕ) (b : Bounds) (marks : List Mark) (xs : List ℕ) (t c h k r s : ℕ) → IsKept bytes b marks xs t c h k r s → b.stack_end - t < 2 ^ 32
region-small bytes b marks xs t c h k r s kept =
    let heap : b.stack_end ≤ b.heap_end = kept.sound.heap in
    let size : b.heap_end ≡ length bytes = kept.sound.size in
    let small : length bytes < 2 ^ 32 = kept.small in
    omega (arith, heap, size, small)

both : (c d e f : ℕ) → c ≤ d → e ≤ f → IsTrue (nat_le c d && nat_le e f)
both c d e f h k = grind (arith, nat_tests)

-- the code's tests of a block are those of the definition
pub block-fits : (m : Memory) (bytes : List ℕ) (b : Bounds) (marks : List Mark) (xs : List ℕ) (t c h k r s room size charge : ℕ) (area : Area) → memory_seen bytes b marks xs h k ≡ m → Some size ≡ (if nat_le (area_size area) room then Some (area_size area) else None) → room ≡ b.heap_end - h → charge ≤ b.heap_limit - k → IsKept bytes b marks xs t c h k r s → (size ≡ area_size area) × IsTrue (block_fits m area charge)
block-fits m bytes b marks xs t c h k r s room size charge area seen tested left few kept =
    let found = within (nat_le (area_size area) room) (area_size area) size tested in
    let enough : area_size area ≤ room = le_of (area_size area) room found.1 in
    let least : 8 + area.bytes ≤ area_size area = area_size-least area in
    let was : k ≤ b.heap_limit = kept.sound.heap_charged in
    (found.0, subst (λ n. IsTrue (block_fits n area charge)) seen (both (k + charge) b.heap_limit (h + area_size area) b.heap_end (omega (arith, few, was)) (omega (arith, enough, left, least))))
