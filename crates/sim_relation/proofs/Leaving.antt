-- A call is left: its frame goes, and its objects end.
use Rattle.std.proofs.Common.{◌≡◌, ◌≢◌, ℕ, zero, suc, ◌+◌, ◌-◌, Bool, true, false, ◌&&◌, List, [], ◌∷◌, map, length, slice_get, Some, refl, ap, sym, subst, ◌∙◌, arith, nat_le, nat_lt, if◌then◌else◌}
use Rattle.std.specs.Prelude.{◌==◌}
use Rattle.std.proofs.lemmas.Bool.Decides.{nat_tests}
use Rattle.std.proofs.lemmas.List.{length-map}
use Rattle.cc_base.specs.declared.number.TypeId.{TypeId}
use Rattle.flat_mem.specs.Memory.{Frame, depth_in, popped, charges, older_frames}
use Rattle.flat_mem.proofs.SoundLaws.{sound-popped}
use Rattle.src_mem.specs.Memory.{Object, Planned, frame_charge}
use Rattle.src_mem.specs.State as source
use Rattle.src_mem.specs.State.{Setting}
use Rattle.src_mem.specs.Primitives.{ended}
use Rattle.src_mem.specs.Outlines.{Outline, outline}
use Rattle.src_mem.proofs.Outlines.{mapped-from}
use Rattle.cured_code.specs.FlatState as flat
use Rattle.cured_code.specs.FlatState.{PlacedArea}
use Rattle.cured_code.specs.FlatMachine.{without_frame}
use Rattle.sim_relation.specs.Ground.{Ground, ground, address}
use Rattle.sim_relation.specs.Objects.{Holds, Lies, area_of, flat_depth}
use Rattle.sim_relation.specs.Accesses.{AreImages}
use Rattle.sim_relation.specs.Related.{Related, AreRoomy}

outline-ended : (d : ℕ) (o : Object) → outline (ended d o) ≡ outline o
outline-ended d o = by (o.depth == d)
  where
    by : (b : Bool) → outline (if b then record o { live = false } else o) ≡ outline o
    by true = refl
    by false = refl

outlines-ended : (d : ℕ) (l : List Object) → map outline (map (ended d) l) ≡ map outline l
outlines-ended d [] = refl
outlines-ended d (o ∷ l) = ap (λ (x : Outline). x ∷ map outline (map (ended d) l)) (outline-ended d o) ∙ ap (λ (xs : List Outline). outline o ∷ xs) (outlines-ended d l)

-- who lives on
pub record Lived (d : ℕ) (l : List Object) (k : ℕ) (z : Object) : Type 0 where
  pub found : slice_get l k ≡ Some z
  pub live : z.live ≡ true
  pub other : z.depth ≢ d

lived-one : (d : ℕ) (o z : Object) → ended d o ≡ z → z.live ≡ true → (o ≡ z) × (z.depth ≢ d)
lived-one d o z e l = by (o.depth == d) refl e
  where
    by : (b : Bool) → (o.depth == d) ≡ b → (if b then record o { live = false } else o) ≡ z → (o ≡ z) × (z.depth ≢ d)
    by true t e = absurd (let f : false ≡ z.live = ap (λ (x : Object). x.live) e in cc (f, l))
    by false t e = (e, λ h. let g : o.depth ≡ d = ap (λ (x : Object). x.depth) e ∙ h in let u : (o.depth == d) ≡ true = grind (arith, nat_tests) in absurd (cc (t, u)))

pub lived : (d : ℕ) (l : List Object) (k : ℕ) (z : Object) → slice_get (map (ended d) l) k ≡ Some z → z.live ≡ true → Lived d l k z
lived d [] k z e h = absurd (cc (e))
lived d (o ∷ l) zero z e h = let f : ended d o ≡ z = cc (e) in let x = lived-one d o z f h in record { found = ap Some x.0; live = h; other = x.1 }
lived d (o ∷ l) (suc k) z e h = let x = lived d l k z e h in record { found = x.found; live = x.live; other = x.other }

-- an address of another depth than the newest frame's has it without that frame too
depth-left : (frame : Frame) (frames : List Frame) (a n : ℕ) → depth_in (frame ∷ frames) a ≡ n → n ≢ suc (length frames) → depth_in frames a ≡ n
depth-left frame frames a n e d = by (nat_lt frame.start a && nat_le a frame.end) e
  where
    by : (b : Bool) → (if b then suc (length frames) else depth_in frames a) ≡ n → depth_in frames a ≡ n
    by true e = absurd (d (sym e))
    by false e = e

flat_depth-other : (m d : ℕ) → m ≢ suc d → flat_depth m ≢ suc (suc d)
flat_depth-other zero d h e = absurd (omega arith)
flat_depth-other (suc m) d h e = h (omega arith)

roomy-older : (frames : List Frame) → AreRoomy frames → AreRoomy (older_frames frames)
roomy-older [] h = h
roomy-older (frame ∷ frames) h = h.1

pub related-leave : (w : Setting) (number_of : TypeId → ℕ) (s : source.State) (c : flat.State) (d : ℕ) (variables : List Planned) (frame : Frame) (frames : List Frame) → Related w number_of s c
    → c.memory.frames ≡ frame ∷ frames → length frames ≡ suc d → frame.charge ≡ frame_charge w.table variables
    → Related w number_of (record s { memory = record s.memory { objects = map (ended (suc d)) s.memory.objects; frame_bytes = s.memory.frame_bytes - frame_charge w.table variables } }) (without_frame c)
related-leave w number_of s c d variables frame frames r newest deep charge = record {
  areas = record {
    count = r.areas.count ∙ sym (length-map s.memory.objects (ended (suc d)));
    sizes = λ k z a e f. areas_after k z a e f;
    lie = λ k z e l. lie_after k z (lived (suc d) s.memory.objects k z e l);
    apart = λ i j p q e l f m x.
        let a = lived (suc d) s.memory.objects i p e l in let b = lived (suc d) s.memory.objects j q f m in r.areas.apart i j p q a.found a.live b.found b.live x;
  };
  holds = record {
    each = λ k z e l. let x = lived (suc d) s.memory.objects k z e l in
        subst (λ (g : Ground). Holds g c.memory.bytes k z) (sym grounds) (r.holds.each k z x.found x.live);
  };
  sound = sound-popped c.memory r.sound;
  small = r.small;
  room = record {
    frame_charge = (let e = r.room.frame_charge in let f = charges_are in omega (arith, e, f, charge));
    heap_charge = r.room.heap_charge;
    frames = roomy-older c.memory.frames r.room.frames;
    heap = r.room.heap;
  };
  outside = record { output = r.outside.output; read = r.outside.read; input = r.outside.input; turns = r.outside.turns; entered = r.outside.entered };
  accesses = subst (λ (g : Ground). AreImages g s.accesses c.accesses) (sym grounds) r.accesses;
}
  where
    grounds : ground w number_of (map (ended (suc d)) s.memory.objects) c.areas ≡ ground w number_of s.memory.objects c.areas
    grounds = ap (λ (xs : List Outline). record { table = w.table; kind = w.kind; number_of = number_of; outlines = xs; areas = c.areas }) (outlines-ended (suc d) s.memory.objects)

    charges_are : frame.charge + charges (popped c.memory).frames ≡ charges c.memory.frames
    charges_are = ap (λ (fs : List Frame). frame.charge + charges (older_frames fs)) newest ∙ ap charges (sym newest)

    areas_after : (k : ℕ) (z : Object) (a : PlacedArea) → slice_get (map (ended (suc d)) s.memory.objects) k ≡ Some z → slice_get c.areas k ≡ Some a → a.area ≡ area_of w.kind (outline z)
    areas_after k z a e f = of (mapped-from (ended (suc d)) s.memory.objects k z e)
      where
        of : (o : Object) × (slice_get s.memory.objects k ≡ Some o) × (ended (suc d) o ≡ z) → a.area ≡ area_of w.kind (outline z)
        of x = r.areas.sizes k x.0 a x.1 f ∙ ap (area_of w.kind) (sym (outline-ended (suc d) x.0) ∙ ap outline x.2)

    lies_after : (at : ℕ) (q : Outline) → q.depth ≢ suc d → Lies w.kind c.memory at q → Lies w.kind (popped c.memory) at q
    lies_after at q other l = record {
      above = l.above;
      aligned = l.aligned;
      inside = l.inside;
      depth = λ i h. ap (λ (fs : List Frame). depth_in (older_frames fs) (at + i)) newest
          ∙ depth-left frame frames (at + i) (flat_depth q.depth) (ap (λ (fs : List Frame). depth_in fs (at + i)) (sym newest) ∙ l.depth i h) (λ e. flat_depth-other q.depth d other (e ∙ ap suc deep));
      static = l.static;
    }

    lie_after : (k : ℕ) (z : Object) → Lived (suc d) s.memory.objects k z
        → Lies w.kind (popped c.memory) (address (ground w number_of (map (ended (suc d)) s.memory.objects) c.areas) k) (outline z)
    lie_after k z x = lies_after (address (ground w number_of s.memory.objects c.areas) k) (outline z) x.other (r.areas.lie k z x.found x.live)
