-- Bytes of a living object without tags that an access falls on, where they are in the byte list, and the image of the access.
use Rattle.std.proofs.Common.{◌≡◌, ◌≢◌, ℕ, ◌+◌, ◌≤◌, ◌||◌, true, List, [], ◌∷◌, ◌++◌, length, slice_index, nat_eq, nat_le, ◌<◌, refl, ap, ◌∙◌, arith}
use Rattle.std.proofs.lemmas.Bool.Decides.{nat_tests}
use Rattle.cc_base.specs.declared.number.TypeId.{TypeId}
use Rattle.cc_base.specs.declared.kind.Kind.{Kind}
use Rattle.cc_base.specs.declared.kind.Kind.TheVariants.{Safe, Seq, Rtti, Wild}
use Rattle.c_types.specs.Widths.{before}
use Rattle.type_laws.proofs.Widths.{AreRaw, before-raw}
use Rattle.flat_mem.specs.Bytes.{number}
use Rattle.flat_mem.proofs.ByteLaws.{number-same}
use Rattle.src_mem.specs.Pointers.{Location}
use Rattle.src_mem.specs.Memory.{Object}
use Rattle.src_mem.specs.State as source
use Rattle.src_mem.specs.State.{Setting, Access}
use Rattle.src_mem.specs.Outlines.{Outline, outline}
use Rattle.src_mem.proofs.Outlines.{get-mapped}
use Rattle.src_mem.proofs.Spots.{IsRight}
use Rattle.cured_code.specs.FlatState as flat
use Rattle.cured_code.specs.FlatState.{PlacedArea, Range, is_in_list}
use Rattle.sim_relation.specs.Ground.{Ground, ground, address}
use Rattle.sim_relation.specs.Objects.{HoldsTyped}
use Rattle.sim_relation.specs.Accesses.{covered, image_by, IsImage, AreImages}
use Rattle.sim_relation.specs.Related.{Related}
use Rattle.sim_relation.proofs.Kept.{typed-holds, typed-contents}

-- Images

pub images-append : (g : Ground) (accesses : List Access) (ranges : List Range) (a : Access) (r : Range) → AreImages g accesses ranges → IsImage g a r
    → AreImages g (accesses ++ a ∷ []) (ranges ++ r ∷ [])
images-append g [] [] a r h i = (i, tt)
images-append g [] (x ∷ ranges) a r h i = absurd h
images-append g (x ∷ accesses) [] a r h i = absurd h
images-append g (x ∷ accesses) (y ∷ ranges) a r h i = (h.0, images-append g accesses ranges a r h.1 i)

pub image-typed : (k : Kind) → k ≢ Wild → (g : Ground) (o : Outline) (a : Access) (r : Range) → r.at ≡ address g a.object + before g.kind o.cells a.offset
    → r.at + r.size ≡ address g a.object + before g.kind o.cells (a.offset + a.size) → covered r ≡ image_by k g o a
image-typed k n g o a r e f = ap (λ (x : ℕ). record { start = x; end = r.at + r.size }) e ∙ ends k n
  where
    ends : (k : Kind) → k ≢ Wild → record { start = address g a.object + before g.kind o.cells a.offset; end = r.at + r.size } ≡ image_by k g o a
    ends Safe m = ap (λ (x : ℕ). record { start = address g a.object + before g.kind o.cells a.offset; end = x }) f
    ends Seq m = ap (λ (x : ℕ). record { start = address g a.object + before g.kind o.cells a.offset; end = x }) f
    ends Rtti m = ap (λ (x : ℕ). record { start = address g a.object + before g.kind o.cells a.offset; end = x }) f
    ends Wild m = absurd (m refl)

-- so many bytes from an address on are in a list
pub in_list : (a m n : ℕ) → a + m ≤ n → (nat_eq m 0 || nat_le (a + m) n) ≡ true
in_list a m n i = grind (arith, nat_tests)

-- Found: m raw bytes of a living object without tags, at this address

pub record FoundRaw (w : Setting) (number_of : TypeId → ℕ) (objects : List Object) (areas : List PlacedArea) (kind : Kind) (l : Location) (m a : ℕ) : Type 0 where
  pub object : Object
  pub at : ℕ
  pub right : IsRight kind objects l m object at
  pub untagged : w.kind object.node ≢ Wild
  pub are_raw : AreRaw object.cells at m
  pub here : a ≡ address (ground w number_of objects areas) l.object + before w.kind object.cells at

-- the byte list has them
pub found-inside : (w : Setting) (number_of : TypeId → ℕ) (s : source.State) (c : flat.State) (kind : Kind) (l : Location) (m : ℕ) (o : Object) (at : ℕ) → Related w number_of s c
    → IsRight kind s.memory.objects l m o at → w.kind o.node ≢ Wild → (i : ℕ)
    → address (ground w number_of s.memory.objects c.areas) l.object + before w.kind o.cells i ≤ length c.memory.bytes
found-inside w number_of s c kind l m o at r right untagged i =
    let lies = r.areas.lie l.object o right.found right.live in
    let h = typed-contents w.kind (w.kind o.node) untagged (outline o) i in
    let k = lies.inside in omega (arith, h, k)

pub found-in_list : (w : Setting) (number_of : TypeId → ℕ) (s : source.State) (c : flat.State) (kind : Kind) (l : Location) (m a : ℕ) → Related w number_of s c
    → (f : FoundRaw w number_of s.memory.objects c.areas kind l m a) → is_in_list c a m ≡ true
found-in_list w number_of s c kind l m a r f =
    let h = found-inside w number_of s c kind l m f.object f.at r f.right f.untagged (f.at + m) in
    let b = before-raw w.kind f.object.cells f.at m f.are_raw in
    let e = f.here in
    let i : a + m ≤ length c.memory.bytes = omega (arith, h, b, e) in in_list a m (length c.memory.bytes) i

-- they are the image of the access
pub found-image : (w : Setting) (number_of : TypeId → ℕ) (objects : List Object) (areas : List PlacedArea) (kind : Kind) (l : Location) (m a : ℕ) (f : FoundRaw w number_of objects areas kind l m a)
    → IsImage (ground w number_of objects areas) (record { object = l.object; offset = f.at; size = m }) (record { at = a; size = m })
found-image w number_of objects areas kind l m a f = record {
  object = outline f.object;
  found = get-mapped outline objects l.object f.object f.right.found;
  is = image-typed (w.kind f.object.node) f.untagged (ground w number_of objects areas) (outline f.object) (record { object = l.object; offset = f.at; size = m }) (record { at = a; size = m }) f.here
      (ap (λ (k : ℕ). k + m) f.here ∙ (let b = before-raw w.kind f.object.cells f.at m f.are_raw in omega (arith, b)));
}

-- and both machines read the same number there
pub found-number : (w : Setting) (number_of : TypeId → ℕ) (s : source.State) (c : flat.State) (kind : Kind) (l : Location) (m a : ℕ) → Related w number_of s c
    → (f : FoundRaw w number_of s.memory.objects c.areas kind l m a) → number m c.memory.bytes a ≡ number m f.object.bytes f.at
found-number w number_of s c kind l m a r f = number-same m c.memory.bytes f.object.bytes a f.at (λ i h. each i h)
  where
    h : HoldsTyped (ground w number_of s.memory.objects c.areas) c.memory.bytes (address (ground w number_of s.memory.objects c.areas) l.object) f.object
    h = typed-holds (w.kind f.object.node) f.untagged _ _ _ _ (r.holds.each l.object f.object f.right.found f.right.live)

    each : (i : ℕ) → i < m → slice_index c.memory.bytes (a + i) ≡ slice_index f.object.bytes (f.at + i)
    each i l0 =
        let b : before w.kind f.object.cells (f.at + i) ≡ before w.kind f.object.cells f.at + i = before-raw w.kind f.object.cells f.at i (record { each = λ j k. f.are_raw.each j (omega arith) }) in
        let e = f.here in
        ap (slice_index c.memory.bytes) (omega (arith, e, b)) ∙ h.integers (f.at + i) (f.are_raw.each i l0)

-- a read leaves the states related
pub related-read : (w : Setting) (number_of : TypeId → ℕ) (s : source.State) (c : flat.State) (kind : Kind) (l : Location) (m a : ℕ) → Related w number_of s c
    → (f : FoundRaw w number_of s.memory.objects c.areas kind l m a) → Related w number_of (source.touched l.object f.at m s) (flat.touched a m c)
related-read w number_of s c kind l m a r f = record {
  areas = record { count = r.areas.count; sizes = r.areas.sizes; lie = r.areas.lie; apart = r.areas.apart };
  holds = r.holds;
  sound = r.sound;
  small = r.small;
  room = record { frame_charge = r.room.frame_charge; heap_charge = r.room.heap_charge; frames = r.room.frames; heap = r.room.heap };
  outside = record { output = r.outside.output; read = r.outside.read; input = r.outside.input; turns = r.outside.turns; entered = r.outside.entered };
  accesses = images-append (ground w number_of s.memory.objects c.areas) s.accesses c.accesses _ _ r.accesses (found-image w number_of s.memory.objects c.areas kind l m a f);
}
