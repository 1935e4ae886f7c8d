-- One law for every store: an object has changed, with the bytes in its area, and nothing else.
use Rattle.std.proofs.Common.{◌≡◌, ◌≢◌, ℕ, zero, suc, ◌+◌, ◌<◌, ◌≤◌, ◌⊎◌, inl, inr, true, List, [], ◌∷◌, ◌++◌, map, length, slice_get, slice_set, slice_index, Some, refl, ap, sym, subst, ◌∙◌, ⊎_elim, arith, length-set}
use Rattle.cc_base.specs.declared.number.TypeId.{TypeId}
use Rattle.flat_mem.specs.Bytes.{AreBytes}
use Rattle.flat_mem.specs.Memory.{with_bytes}
use Rattle.flat_mem.proofs.SoundLaws.{sound-with_bytes}
use Rattle.src_mem.specs.Memory.{Object}
use Rattle.src_mem.specs.State as source
use Rattle.src_mem.specs.State.{Setting, Access}
use Rattle.src_mem.specs.Primitives.{with_object}
use Rattle.src_mem.specs.Outlines.{Outline, outline}
use Rattle.cured_code.specs.FlatState as flat
use Rattle.cured_code.specs.FlatState.{PlacedArea, Range}
use Rattle.sim_relation.specs.Ground.{Ground, ground, address}
use Rattle.sim_relation.specs.Objects.{HoldsBy, Holds, Lies, Apart, area_of, room_of}
use Rattle.sim_relation.specs.Accesses.{IsImage, AreImages}
use Rattle.sim_relation.specs.Related.{Related}
use Rattle.sim_relation.proofs.Kept.{holds-agree}
use Rattle.sim_relation.proofs.Places.{images-append}

set-cases : {A : Type 0} (l : List A) (k j : ℕ) (x y z : A) → slice_get l k ≡ Some x → slice_get (slice_set l k y) j ≡ Some z → ((j ≡ k) × (z ≡ y)) ⊎ ((j ≢ k) × (slice_get l j ≡ Some z))
set-cases [] k j x y z e f = absurd (cc (e))
set-cases (a ∷ l) zero zero x y z e f = inl (refl, cc (f))
set-cases (a ∷ l) zero (suc j) x y z e f = inr ((λ h. absurd (omega arith)), f)
set-cases (a ∷ l) (suc k) zero x y z e f = inr ((λ h. absurd (omega arith)), f)
set-cases (a ∷ l) (suc k) (suc j) x y z e f = ⊎_elim (λ h. inl (ap suc h.0, h.1)) (λ h. inr ((λ i. h.0 (omega arith)), h.1)) (set-cases l k j x y z e f)

outlines-set : (l : List Object) (k : ℕ) (o new : Object) → slice_get l k ≡ Some o → outline new ≡ outline o → map outline (slice_set l k new) ≡ map outline l
outlines-set [] k o new e f = refl
outlines-set (a ∷ l) zero o new e f = let d : a ≡ o = cc (e) in ap (λ (x : Outline). x ∷ map outline l) (f ∙ ap outline (sym d))
outlines-set (a ∷ l) (suc k) o new e f = ap (λ (xs : List Outline). outline a ∷ xs) (outlines-set l k o new e f)

pub related-change : (w : Setting) (number_of : TypeId → ℕ) (s : source.State) (c : flat.State) (k : ℕ) (o new : Object) (bytes : List ℕ) (x : Access) (y : Range)
    → Related w number_of s c → slice_get s.memory.objects k ≡ Some o → o.live ≡ true → outline new ≡ outline o → length bytes ≡ length c.memory.bytes → AreBytes bytes
    → ((i : ℕ) → (i < address (ground w number_of s.memory.objects c.areas) k) ⊎ (address (ground w number_of s.memory.objects c.areas) k + room_of w.kind (outline o) ≤ i)
    → slice_index bytes i ≡ slice_index c.memory.bytes i)
    → HoldsBy (w.kind new.node) (ground w number_of s.memory.objects c.areas) bytes (address (ground w number_of s.memory.objects c.areas) k) new
    → IsImage (ground w number_of s.memory.objects c.areas) x y
    → Related w number_of (with_object k new (source.touched x.object x.offset x.size s)) (flat.touched y.at y.size (record c { memory = with_bytes c.memory bytes }))
related-change w number_of s c k o new bytes x y r found live same long are outside holds image = record {
  areas = record {
    count = r.areas.count ∙ sym (length-set s.memory.objects k new);
    sizes = λ j z a e f. ⊎_elim
        (λ h. r.areas.sizes j o a (subst (λ (i : ℕ). slice_get s.memory.objects i ≡ Some o) (sym h.0) found) f ∙ ap (area_of w.kind) (sym same ∙ ap outline (sym h.1)))
        (λ h. r.areas.sizes j z a h.1 f)
        (set-cases s.memory.objects k j o new z found e);
    lie = λ j z e l. lies_after j z (before_set j z e l);
    apart = λ i j p q e l f m d. apart_after i j p q d (before_set i p e l) (before_set j q f m);
  };
  holds = record {
    each = λ j z e l. subst (λ (G : Ground). Holds G bytes j z) (sym grounds) (⊎_elim
        (λ h. subst (λ (i : ℕ). Holds g bytes i z) (sym h.0) (subst (λ (q : Object). Holds g bytes k q) (sym h.1) holds))
        (λ h. theirs j z h.0 h.1 l)
        (set-cases s.memory.objects k j o new z found e));
  };
  sound = sound-with_bytes c.memory bytes are long r.sound;
  small = (let h = r.small in omega (arith, long, h));
  room = record { frame_charge = r.room.frame_charge; heap_charge = r.room.heap_charge; frames = r.room.frames; heap = r.room.heap };
  outside = record { output = r.outside.output; read = r.outside.read; input = r.outside.input; turns = r.outside.turns; entered = r.outside.entered };
  accesses = subst (λ (G : Ground). AreImages G (s.accesses ++ x ∷ []) (c.accesses ++ y ∷ [])) (sym grounds) (images-append g s.accesses c.accesses x y r.accesses image);
}
  where
    g : Ground
    g = ground w number_of s.memory.objects c.areas

    grounds : ground w number_of (slice_set s.memory.objects k new) c.areas ≡ ground w number_of s.memory.objects c.areas
    grounds = ap (λ (xs : List Outline). record { table = w.table; kind = w.kind; number_of = number_of; outlines = xs; areas = c.areas }) (outlines-set s.memory.objects k o new found same)

    theirs : (j : ℕ) (z : Object) → j ≢ k → slice_get s.memory.objects j ≡ Some z → z.live ≡ true → Holds (ground w number_of s.memory.objects c.areas) bytes j z
    theirs j z d e l =
        let lies = r.areas.lie j z e l in
        let a = r.areas.apart j k z o e l found live d in
        holds-agree (w.kind z.node) g c.memory.bytes bytes (address (ground w number_of s.memory.objects c.areas) j) z lies.above
        (record { each = λ i m n. outside i (⊎_elim (λ q. inl (let u = lies.above in omega (arith, m, n, q, u))) (λ q. inr (let u = lies.above in omega (arith, m, n, q, u))) a) }) (r.holds.each j z e l)

    before_set : (j : ℕ) (z : Object) → slice_get (slice_set s.memory.objects k new) j ≡ Some z → z.live ≡ true
        → (a : Object) × (slice_get s.memory.objects j ≡ Some a) × (a.live ≡ true) × (outline a ≡ outline z)
    before_set j z e l = ⊎_elim
        (λ h. (o, subst (λ (i : ℕ). slice_get s.memory.objects i ≡ Some o) (sym h.0) found, live, sym same ∙ ap outline (sym h.1)))
        (λ h. (z, h.1, l, refl))
        (set-cases s.memory.objects k j o new z found e)

    moved : (at : ℕ) (q : Outline) → Lies w.kind c.memory at q → Lies w.kind (with_bytes c.memory bytes) at q
    moved at q h = record { above = h.above; aligned = h.aligned; inside = (let i = h.inside in omega (arith, i, long)); depth = h.depth; static = h.static }

    lies_after : (j : ℕ) (z : Object) → ((a : Object) × (slice_get s.memory.objects j ≡ Some a) × (a.live ≡ true) × (outline a ≡ outline z))
        → Lies w.kind (with_bytes c.memory bytes) (address (ground w number_of (slice_set s.memory.objects k new) c.areas) j) (outline z)
    lies_after j z a = subst (Lies w.kind (with_bytes c.memory bytes) (address (ground w number_of s.memory.objects c.areas) j)) a.3
        (moved (address (ground w number_of s.memory.objects c.areas) j) (outline a.0) (r.areas.lie j a.0 a.1 a.2))

    apart_after : (i j : ℕ) (p q : Object) → i ≢ j → ((a : Object) × (slice_get s.memory.objects i ≡ Some a) × (a.live ≡ true) × (outline a ≡ outline p))
        → ((b : Object) × (slice_get s.memory.objects j ≡ Some b) × (b.live ≡ true) × (outline b ≡ outline q))
        → Apart w.kind (address (ground w number_of (slice_set s.memory.objects k new) c.areas) i) (outline p) (address (ground w number_of (slice_set s.memory.objects k new) c.areas) j) (outline q)
    apart_after i j p q d a b =
        subst (λ (u : Outline). Apart w.kind (address (ground w number_of s.memory.objects c.areas) i) u (address (ground w number_of s.memory.objects c.areas) j) (outline q)) a.3
        (subst (λ (u : Outline). Apart w.kind (address (ground w number_of s.memory.objects c.areas) i) (outline a.0) (address (ground w number_of s.memory.objects c.areas) j) u) b.3 (r.areas.apart i j a.0 b.0 a.1 a.2 b.1 b.2 d))
