-- A block is made.
use Rattle.std.proofs.Common.{◌≡◌, ◌≢◌, ◌∙◌, ◌⊎◌, ⊎_elim, inl, inr, ℕ, zero, suc, ◌+◌, ◌-◌, ◌*◌, ◌/◌, ◌%◌, ◌<◌, ◌≤◌, ◌^◌, Bool, true, false, ◌&&◌, List, [], ◌∷◌, ◌++◌, map, length, replicate, slice_get, slice_index, Some, None, refl, ap, sym, subst, arith, nat_eq, nat_le}
use Rattle.std.specs.Prelude.{IsTrue}
use Rattle.std.specs.Int.{bit_at}
use Rattle.std.proofs.lemmas.Bool.Decides.{nat_tests}
use Rattle.std.proofs.lemmas.List.{length-append, length-replicate}
use Rattle.cc_base.specs.declared.kind.Kind.{Kind}
use Rattle.cc_base.specs.declared.kind.Kind.TheVariants.{Safe, Seq, Rtti, Wild}
use Rattle.cc_base.specs.declared.number.TypeId.{TypeId}
use Rattle.cc_base.specs.declared.number.NodeId.{NodeId}
use Rattle.kind_sites.specs.declared.site.Site.{Site}
use Rattle.c_types.specs.Cells.{Cell, AreOrdered}
use Rattle.c_types.proofs.OrderedPointers.{get_back, Which, old, new, which}
use Rattle.flat_mem.specs.declared.Area.{Area}
use Rattle.flat_mem.specs.Bytes.{number}
use Rattle.flat_mem.specs.Placement.{contents_size, area_size, first_word, word_count, data_word, tag_byte, tagged_size}
use Rattle.flat_mem.specs.Memory.{block_fits, block_address, block_made, next_frame}
use Rattle.flat_mem.proofs.AreaLaws.{length-area_made, area_size-least}
use Rattle.flat_mem.proofs.BlockLaws.{IsNewBlock, block-new}
use Rattle.flat_mem.proofs.FrameLaws.{depth_in-past}
use Rattle.flat_mem.proofs.SoundLaws.{sound-block_made}
use Rattle.src_mem.specs.Memory.{Object, Planned, zero_object, new_variable, charge_of}
use Rattle.src_mem.specs.State as source
use Rattle.src_mem.specs.State.{Setting}
use Rattle.src_mem.specs.Primitives as primitive
use Rattle.src_mem.specs.Primitives.{with_block, heap_limit}
use Rattle.src_mem.specs.Facts.{IsSoundMemory}
use Rattle.src_mem.specs.Outlines.{Outline, Life, outline, life, outlines_of, lives_of}
use Rattle.src_mem.proofs.Outlines.{mapped-from, get-mapped}
use Rattle.cured_code.specs.FlatState as flat
use Rattle.cured_code.specs.FlatState.{PlacedArea}
use Rattle.cured_code.specs.FlatMachine as machine
use Rattle.sim_relation.specs.Ground.{Ground, ground, address, address_in}
use Rattle.sim_relation.specs.Objects.{Holds, HoldsBy, HoldsWord, Lies, Apart, area_of, area_by, room_of, flat_depth}
use Rattle.sim_relation.specs.Related.{Related, ground_of}
use Rattle.sim_relation.proofs.Growth.{holds-grow, address-grow, area-grow, images-grow}
use Rattle.sim_relation.proofs.Kept.{holds-agree, untagged-holds}
use Rattle.sim_relation.proofs.Room.{area-room, all-there}
use Rattle.sim_memory.specs.Laws.{AreBelowHeap, plain_area}
use Rattle.sim_memory.specs.Wild.{tagged_area}
use Rattle.sim_memory.proofs.Zeros.{zeros-hold}

-- an area without tags
area-is : (w : Setting) (k : Kind) → k ≢ Wild → (size : ℕ) (cells : List Cell) → area_by w.kind k size cells ≡ plain_area w cells
area-is w Safe n size cells = refl
area-is w Rtti n size cells = refl
area-is w Seq n size cells = refl
area-is w Wild n size cells = absurd (n refl)

fit-alike : (w : Setting) (number_of : TypeId → ℕ) (s : source.State) (c : flat.State) (size : ℕ) (area : Area) → Related w number_of s c
    → area_size area ≤ 3 * charge_of size → c.memory.bounds.heap_limit ≡ heap_limit → c.memory.bounds.heap_end ≡ c.memory.bounds.stack_end + 3 * heap_limit
    → block_fits c.memory area (charge_of size) ≡ nat_le (s.memory.heap_bytes + charge_of size) heap_limit
fit-alike w number_of s c size area r room limit end =
    ap (λ n. nat_le (n + charge_of size) c.memory.bounds.heap_limit && nat_le (c.memory.heap_top + area_size area) c.memory.bounds.heap_end) r.room.heap_charge
    ∙ ap (λ n. nat_le (s.memory.heap_bytes + charge_of size) n && nat_le (c.memory.heap_top + area_size area) c.memory.bounds.heap_end) limit
    ∙ of (s.memory.heap_bytes + charge_of size) (c.memory.heap_top + area_size area) c.memory.bounds.heap_end
    (λ h. let b = r.room.heap in let d = r.room.heap_charge in omega (arith, h, room, b, d, end))
  where
    of : (a b n : ℕ) → (a ≤ 4194304 → b ≤ n) → (nat_le a 4194304 && nat_le b n) ≡ nat_le a 4194304
    of a b n h = by (nat_le a 4194304) refl
      where
        less : (a n : ℕ) → nat_le a n ≡ true → a ≤ n
        less a n h = grind (arith, nat_tests, h)

        more : (a n : ℕ) → a ≤ n → nat_le a n ≡ true
        more a n h = grind (arith, nat_tests, h)

        by : (q : Bool) → nat_le a 4194304 ≡ q → (q && nat_le b n) ≡ q
        by true e = more b n (h (less a 4194304 e))
        by false e = refl

pub blocks-fit-alike : (w : Setting) (number_of : TypeId → ℕ) (s : source.State) (c : flat.State) (size : ℕ) (cells : List Cell) → Related w number_of s c
    → AreOrdered cells → length cells ≡ size → c.memory.bounds.heap_limit ≡ heap_limit
    → c.memory.bounds.heap_end ≡ c.memory.bounds.stack_end + 3 * heap_limit
    → block_fits c.memory (plain_area w cells) (charge_of size) ≡ nat_le (s.memory.heap_bytes + charge_of size) heap_limit
blocks-fit-alike w number_of s c size cells r ordered sized limit end =
    fit-alike w number_of s c size (plain_area w cells) r (area-room w.kind Safe size cells ordered sized) limit end

pub tagged-blocks-fit-alike : (w : Setting) (number_of : TypeId → ℕ) (s : source.State) (c : flat.State) (size : ℕ) (cells : List Cell) → Related w number_of s c
    → AreOrdered cells → length cells ≡ size → c.memory.bounds.heap_limit ≡ heap_limit
    → c.memory.bounds.heap_end ≡ c.memory.bounds.stack_end + 3 * heap_limit
    → block_fits c.memory (tagged_area size) (charge_of size) ≡ nat_le (s.memory.heap_bytes + charge_of size) heap_limit
tagged-blocks-fit-alike w number_of s c size cells r ordered sized limit end =
    fit-alike w number_of s c size (tagged_area size) r (area-room w.kind Wild size cells ordered sized) limit end

pub index-zero : (n i : ℕ) → slice_index (replicate n 0) i ≡ 0
index-zero zero i = refl
index-zero (suc n) zero = refl
index-zero (suc n) (suc i) = index-zero n i

-- the last of a list with one more
get-one : {A : Type 0} (x z : A) (j : ℕ) → slice_get (x ∷ []) j ≡ Some z → (j ≡ 0) × (x ≡ z)
get-one x z zero e = (refl, cc (e))
get-one x z (suc j) e = absurd (cc (e))

module _ (w : Setting) (sites : List Site) (number_of : TypeId → ℕ) (s : source.State) (c : flat.State) (n : NodeId) (size : ℕ) (cells : List Cell)
    (area : Area) (area_is : area_of w.kind (outline (zero_object 0 n size cells)) ≡ area)
    (zeroes : (objects : List Object) (areas : List PlacedArea) (bytes : List ℕ) (at : ℕ) → ((i : ℕ) → i < contents_size area → slice_index bytes (at + i) ≡ 0)
    → number 8 bytes (at - 8) ≡ first_word area → HoldsBy (w.kind n) (ground w number_of objects areas) bytes at (zero_object 0 n size cells))
    (memory : IsSoundMemory w sites s.memory) (r : Related w number_of s c) (below : AreBelowHeap w number_of s c)
    (ordered : AreOrdered cells) (sized : length cells ≡ size) (fits : IsTrue (block_fits c.memory area (charge_of size))) where
  abbrev objects : List Object
  objects = s.memory.objects

  abbrev o : Object
  o = zero_object 0 n size cells

  abbrev plus : List PlacedArea
  plus = record { area = area; address = block_address c.memory } ∷ []

  abbrev after : flat.State
  after = flat.with_block area (charge_of size) c

  abbrev g : Ground
  g = ground w number_of s.memory.objects c.areas

  abbrev g' : Ground
  g' = ground w number_of (s.memory.objects ++ zero_object 0 n size cells ∷ []) (c.areas ++ record { area = area; address = block_address c.memory } ∷ [])

  -- all areas end where the block begins, or before
  below-top : (k : ℕ) (z : Object) → slice_get s.memory.objects k ≡ Some z → z.live ≡ true → address g k + room_of w.kind (outline z) ≤ c.memory.heap_top
  below-top k z e l = by z.depth refl
    where
      lies : Lies w.kind c.memory (address g k) (outline z)
      lies = r.areas.lie k z e l

      case : (x y : ℕ) → (x ≤ y) ⊎ (y < x)
      case x y = grind arith

      by : (d : ℕ) → z.depth ≡ d → address g k + room_of w.kind (outline z) ≤ c.memory.heap_top
      by zero f = below.each k z e l f
      by (suc d) f = ⊎_elim (λ h. let a = r.sound.room in let b = r.sound.blocks in omega (arith, h, a, b))
          (λ h. absurd (let a = lies.depth (room_of w.kind (outline z)) (omega arith) in
          let b = depth_in-past c.memory.bounds.stack_start c.memory.frames (address g k + room_of w.kind (outline z)) r.sound.consecutive h in
          let m : flat_depth z.depth ≡ suc (suc d) = ap flat_depth f in omega (arith, a, b, m)))
          (case (address g k + room_of w.kind (outline z)) (next_frame c.memory))

  made : IsNewBlock c.memory area (charge_of size)
  made = block-new c.memory area (charge_of size) r.sound fits

  few : area.bytes < 2 ^ 64
  few = let a = area_size-least area in let b = made.inside in let d = r.sound.size in let h = r.small in omega (arith, a, b, d, h)

  long : length (block_made c.memory area (charge_of size)).bytes ≡ length c.memory.bytes
  long = length-area_made area c.memory.bytes c.memory.heap_top

  placed_there : slice_get (c.areas ++ plus) (length s.memory.objects) ≡ Some (record { area = area; address = block_address c.memory })
  placed_there =
      let e : length s.memory.objects ≡ length c.areas + 0 = (let h = r.areas.count in omega (arith, h)) in
      ap (slice_get (c.areas ++ plus)) e ∙ get_back c.areas plus 0

  pub new_address : address g' (length s.memory.objects) ≡ block_address c.memory
  new_address = ap address_in placed_there

  new-at : (k j : ℕ) → k ≡ length s.memory.objects + j → j ≡ 0 → k ≡ length s.memory.objects
  new-at k j e f = omega (arith, e, f)

  sizes : (k : ℕ) (z : Object) (a : PlacedArea) → Which s.memory.objects (o ∷ []) k z → slice_get (c.areas ++ plus) k ≡ Some a → a.area ≡ area_of w.kind (outline z)
  sizes k z a (old e h) f = r.areas.sizes k z a e (sym (area-grow w number_of objects (o ∷ []) c.areas plus r.areas.count k h) ∙ f)
  sizes k z a (new j q e) f =
      let x = get-one o z j e in
      let p = placed_there in
      let h : slice_get (c.areas ++ plus) (length s.memory.objects) ≡ Some a = subst (λ i. slice_get (c.areas ++ plus) i ≡ Some a) (new-at k j q x.0) f in
      let b : record { area = area; address = block_address c.memory } ≡ a = cc (p, h) in
      ap (λ (y : PlacedArea). y.area) (sym b) ∙ sym area_is ∙ ap (λ (y : Object). area_of w.kind (outline y)) x.1

  -- what was there
  lies-old : (a : ℕ) (q : Outline) → Lies w.kind c.memory a q → Lies w.kind after.memory a q
  lies-old a q l = record { above = l.above; aligned = l.aligned; inside = (let h = l.inside in let e = long in omega (arith, h, e)); depth = l.depth; static = l.static }

  lies-new : Lies w.kind after.memory (block_address c.memory) (outline (zero_object 0 n size cells))
  lies-new = record {
    above = (let h = made.above in omega (arith, h));
    aligned = made.aligned;
    inside = (let h = made.inside in let e = long in let f = r.sound.size in let k = ap contents_size area_is in omega (arith, h, e, f, k));
    depth = λ i h. made.depth i (let k = ap contents_size area_is in omega (arith, h, k));
    static = λ e. inr made.above;
  }

  lie : (k : ℕ) (z : Object) → z.live ≡ true → Which s.memory.objects (o ∷ []) k z → Lies w.kind after.memory (address g' k) (outline z)
  lie k z l (old e h) =
      subst (λ a. Lies w.kind after.memory a (outline z)) (sym (address-grow w number_of objects (o ∷ []) c.areas plus r.areas.count k h))
      (lies-old (address g k) (outline z) (r.areas.lie k z e l))
  lie k z l (new j q e) =
      let x = get-one o z j e in
      subst (λ i. Lies w.kind after.memory (address g' i) (outline z)) (sym (new-at k j q x.0))
      (subst (λ (y : Object). Lies w.kind after.memory (address g' (length s.memory.objects)) (outline y)) x.1
      (subst (λ a. Lies w.kind after.memory a (outline (zero_object 0 n size cells))) (sym new_address) lies-new))

  apart-new : (a : ℕ) (q : Outline) → a + room_of w.kind q ≤ c.memory.heap_top → Apart w.kind a q (block_address c.memory) (outline (zero_object 0 n size cells))
  apart-new a q h = inl (omega (arith, h))

  turned : {A B : Type 0} → A ⊎ B → B ⊎ A
  turned h = ⊎_elim inr inl h

  apart : (i j : ℕ) (p q : Object) → p.live ≡ true → q.live ≡ true → i ≢ j → Which s.memory.objects (o ∷ []) i p → Which s.memory.objects (o ∷ []) j q
      → Apart w.kind (address g' i) (outline p) (address g' j) (outline q)
  apart i j p q l m x (old e h) (old f k) =
      subst (λ a. Apart w.kind a (outline p) (address g' j) (outline q)) (sym (address-grow w number_of objects (o ∷ []) c.areas plus r.areas.count i h))
      (subst (λ b. Apart w.kind (address g i) (outline p) b (outline q)) (sym (address-grow w number_of objects (o ∷ []) c.areas plus r.areas.count j k))
      (r.areas.apart i j p q e l f m x))
  apart i j p q l m x (old e h) (new b y f) =
      let z = get-one o q b f in
      subst (λ a. Apart w.kind a (outline p) (address g' j) (outline q)) (sym (address-grow w number_of objects (o ∷ []) c.areas plus r.areas.count i h))
      (subst (λ k. Apart w.kind (address g i) (outline p) (address g' k) (outline q)) (sym (new-at j b y z.0))
      (subst (λ (u : Object). Apart w.kind (address g i) (outline p) (address g' (length s.memory.objects)) (outline u)) z.1
      (subst (λ a. Apart w.kind (address g i) (outline p) a (outline (zero_object 0 n size cells))) (sym new_address)
      (apart-new (address g i) (outline p) (below-top i p e l)))))
  apart i j p q l m x (new a y e) (old f k) =
      let z = get-one o p a e in
      subst (λ b. Apart w.kind (address g' i) (outline p) b (outline q)) (sym (address-grow w number_of objects (o ∷ []) c.areas plus r.areas.count j k))
      (subst (λ h. Apart w.kind (address g' h) (outline p) (address g j) (outline q)) (sym (new-at i a y z.0))
      (subst (λ (u : Object). Apart w.kind (address g' (length s.memory.objects)) (outline u) (address g j) (outline q)) z.1
      (subst (λ b. Apart w.kind b (outline (zero_object 0 n size cells)) (address g j) (outline q)) (sym new_address)
      (turned (apart-new (address g j) (outline q) (below-top j q f m))))))
  apart i j p q l m x (new a y e) (new b z f) =
      let u = get-one o p a e in let v = get-one o q b f in absurd (x (let h = u.0 in let k = v.0 in omega (arith, y, z, h, k)))

  held-new : Holds g' after.memory.bytes (length s.memory.objects) (zero_object 0 n size cells)
  held-new = subst (λ a. HoldsBy (w.kind n) g' after.memory.bytes a (zero_object 0 n size cells)) (sym new_address)
      (zeroes (objects ++ o ∷ []) (c.areas ++ plus) after.memory.bytes (block_address c.memory) made.contents
      (ap (number 8 after.memory.bytes) (back c.memory.heap_top) ∙ made.first few))
    where
      back : (a : ℕ) → a + 8 - 8 ≡ a
      back a = omega arith

  holds : (k : ℕ) (z : Object) → z.live ≡ true → Which s.memory.objects (o ∷ []) k z → Holds g' after.memory.bytes k z
  holds k z l (old e h) =
      let lies = r.areas.lie k z e l in
      subst (λ a. HoldsBy (w.kind z.node) g' after.memory.bytes a z) (sym (address-grow w number_of objects (o ∷ []) c.areas plus r.areas.count k h))
      (holds-grow w number_of objects (o ∷ []) c.areas plus r.areas.count (w.kind z.node) after.memory.bytes (address g k) z (all-there w sites objects memory k z e l)
      (holds-agree (w.kind z.node) g c.memory.bytes after.memory.bytes (address g k) z lies.above
      (record { each = λ i a b. made.others i (inl (let t = below-top k z e l in let u = lies.above in omega (arith, a, b, t, u))) }) (r.holds.each k z e l)))
  holds k z l (new j q e) =
      let x = get-one o z j e in
      subst (λ i. Holds g' after.memory.bytes i z) (sym (new-at k j q x.0)) (subst (λ (y : Object). Holds g' after.memory.bytes (length s.memory.objects) y) x.1 held-new)

  pub related-block : Related w number_of (with_block (zero_object 0 n size cells) s) (flat.with_block area (charge_of size) c)
  related-block = record {
    areas = record {
      count = length-append c.areas plus ∙ ap (λ m. m + 1) r.areas.count ∙ sym (length-append objects (o ∷ []));
      sizes = λ k z a e f. sizes k z a (which objects (o ∷ []) k z e) f;
      lie = λ k z e l. lie k z l (which objects (o ∷ []) k z e);
      apart = λ i j p q e l f m x. apart i j p q l m x (which objects (o ∷ []) i p e) (which objects (o ∷ []) j q f);
    };
    holds = record { each = λ k z e l. holds k z l (which objects (o ∷ []) k z e) };
    sound = sound-block_made c.memory area (charge_of size) fits r.sound;
    small = (let e = long in let h = r.small in omega (arith, e, h));
    room = record {
      frame_charge = r.room.frame_charge;
      heap_charge = ap (λ m. m + charge_of size) r.room.heap_charge;
      frames = r.room.frames;
      heap = (let h = r.room.heap in let a : area_size (area_of w.kind (outline o)) ≤ 3 * charge_of size = area-room w.kind (w.kind n) size cells ordered sized in
          let b = ap area_size area_is in omega (arith, h, a, b));
    };
    outside = record { output = r.outside.output; read = r.outside.read; input = r.outside.input; turns = r.outside.turns; entered = r.outside.entered };
    accesses = images-grow w number_of objects (o ∷ []) c.areas plus r.areas.count s.accesses c.accesses r.accesses;
  }

  pub below-block : AreBelowHeap w number_of (with_block (zero_object 0 n size cells) s) (flat.with_block area (charge_of size) c)
  below-block = record { each = λ k z e l f. of k z l (which objects (o ∷ []) k z e) }
    where
      of : (k : ℕ) (z : Object) → z.live ≡ true → Which s.memory.objects (o ∷ []) k z → address g' k + room_of w.kind (outline z) ≤ c.memory.heap_top + area_size area
      of k z l (old e h) =
          let a = below-top k z e l in let b = address-grow w number_of objects (o ∷ []) c.areas plus r.areas.count k h in omega (arith, a, b)
      of k z l (new j q e) =
          let x = get-one o z j e in
          let a : address g' k ≡ block_address c.memory = ap (address g') (new-at k j q x.0) ∙ new_address in
          let b : room_of w.kind (outline z) ≡ contents_size area = ap (λ (y : Object). room_of w.kind (outline y)) (sym x.1) ∙ ap contents_size area_is in
          omega (arith, a, b)

-- an object without tags holds zeros
typed-zeroes : (w : Setting) (number_of : TypeId → ℕ) (n : NodeId) (size : ℕ) (cells : List Cell) → w.kind n ≢ Wild → AreOrdered cells → length cells ≡ size
    → (objects : List Object) (areas : List PlacedArea) (bytes : List ℕ) (at : ℕ) → ((i : ℕ) → i < contents_size (plain_area w cells) → slice_index bytes (at + i) ≡ 0)
    → number 8 bytes (at - 8) ≡ first_word (plain_area w cells) → HoldsBy (w.kind n) (ground w number_of objects areas) bytes at (zero_object 0 n size cells)
typed-zeroes w number_of n size cells plain ordered sized objects areas bytes at zeros first =
    untagged-holds (w.kind n) plain (ground w number_of objects areas) bytes at (zero_object 0 n size cells)
    (zeros-hold (ground w number_of objects areas) bytes at (zero_object 0 n size cells) ordered (length-replicate size 0 ∙ sym sized)
    (λ i h. zeros i (omega (arith, h))) (λ i h. index-zero size i) (λ i. refl))

-- so does one with tags
word-zero : (g : Ground) (bytes : List ℕ) (at : ℕ) (n : NodeId) (size : ℕ) (cells : List Cell) (k : ℕ) → k < word_count size
    → ((i : ℕ) → i < tagged_size size → slice_index bytes (at + i) ≡ 0) → HoldsWord g bytes at (zero_object 0 n size cells) k None
unfolding tagged_size
word-zero g bytes at n size cells k h zeros = (
  (let e : tag_byte at size k ≡ at + (16 * word_count size + k / 8) = omega arith in
      let z : slice_index bytes (tag_byte at size k) ≡ 0 = ap (slice_index bytes) e ∙ zeros (16 * word_count size + k / 8) (omega (arith, h)) in
      ap (λ x. nat_eq (bit_at x (k % 8)) 1) z ∙ ap (λ x. nat_eq x 1) (bit-zero (k % 8) (omega arith))),
  λ i l m. (let e : data_word at k + i ≡ at + (8 * k + i) = omega arith in
      ap (slice_index bytes) e ∙ zeros (8 * k + i) (omega (arith, h, l)) ∙ sym (index-zero size (8 * k + i))),
)
  where
    bit-zero : (k : ℕ) → k < 8 → bit_at 0 k ≡ 0
    bit-zero k h = omega (arith, h)

tagged-zeroes : (w : Setting) (number_of : TypeId → ℕ) (n : NodeId) (size : ℕ) (cells : List Cell) → w.kind n ≡ Wild
    → (objects : List Object) (areas : List PlacedArea) (bytes : List ℕ) (at : ℕ) → ((i : ℕ) → i < contents_size (tagged_area size) → slice_index bytes (at + i) ≡ 0)
    → number 8 bytes (at - 8) ≡ first_word (tagged_area size) → HoldsBy (w.kind n) (ground w number_of objects areas) bytes at (zero_object 0 n size cells)
tagged-zeroes w number_of n size cells tagged objects areas bytes at zeros first =
    subst (λ (k : Kind). HoldsBy k (ground w number_of objects areas) bytes at (zero_object 0 n size cells)) (sym tagged)
    (record { size = first; words = λ k h. word-zero (ground w number_of objects areas) bytes at n size cells k h zeros })

-- Blocks of both forms

pub blocks-made : (w : Setting) (sites : List Site) (number_of : TypeId → ℕ) (s : source.State) (c : flat.State) (n : NodeId) (size : ℕ) (cells : List Cell)
    → w.kind n ≢ Wild → IsSoundMemory w sites s.memory → Related w number_of s c → AreBelowHeap w number_of s c → AreOrdered cells → length cells ≡ size
    → IsTrue (block_fits c.memory (plain_area w cells) (charge_of size))
    → Related w number_of (with_block (zero_object 0 n size cells) s) (flat.with_block (plain_area w cells) (charge_of size) c)
    × AreBelowHeap w number_of (with_block (zero_object 0 n size cells) s) (flat.with_block (plain_area w cells) (charge_of size) c)
    × (address (ground_of w number_of (with_block (zero_object 0 n size cells) s) (flat.with_block (plain_area w cells) (charge_of size) c)) (length s.memory.objects)
    ≡ block_address c.memory)
blocks-made w sites number_of s c n size cells plain memory r below ordered sized fits =
    let is = area-is w (w.kind n) plain size cells in
    let zero = typed-zeroes w number_of n size cells plain ordered sized in (
      related-block w sites number_of s c n size cells (plain_area w cells) is zero memory r below ordered sized fits,
      below-block w sites number_of s c n size cells (plain_area w cells) is zero memory r below ordered sized fits,
      new_address w sites number_of s c n size cells (plain_area w cells) is zero memory r below ordered sized fits,
    )

pub tagged-blocks-made : (w : Setting) (sites : List Site) (number_of : TypeId → ℕ) (s : source.State) (c : flat.State) (n : NodeId) (size : ℕ) (cells : List Cell)
    → w.kind n ≡ Wild → IsSoundMemory w sites s.memory → Related w number_of s c → AreBelowHeap w number_of s c → AreOrdered cells → length cells ≡ size
    → IsTrue (block_fits c.memory (tagged_area size) (charge_of size))
    → Related w number_of (with_block (zero_object 0 n size cells) s) (flat.with_block (tagged_area size) (charge_of size) c)
    × AreBelowHeap w number_of (with_block (zero_object 0 n size cells) s) (flat.with_block (tagged_area size) (charge_of size) c)
    × (address (ground_of w number_of (with_block (zero_object 0 n size cells) s) (flat.with_block (tagged_area size) (charge_of size) c)) (length s.memory.objects)
    ≡ block_address c.memory)
tagged-blocks-made w sites number_of s c n size cells tagged memory r below ordered sized fits =
    let is : area_of w.kind (outline (zero_object 0 n size cells)) ≡ tagged_area size = ap (λ (k : Kind). area_by w.kind k size cells) tagged in
    let zero = tagged-zeroes w number_of n size cells tagged in (
      related-block w sites number_of s c n size cells (tagged_area size) is zero memory r below ordered sized fits,
      below-block w sites number_of s c n size cells (tagged_area size) is zero memory r below ordered sized fits,
      new_address w sites number_of s c n size cells (tagged_area size) is zero memory r below ordered sized fits,
    )

-- The heap's top

pub heap-kept : (w : Setting) (number_of : TypeId → ℕ) (s r : source.State) (c d : flat.State) → AreBelowHeap w number_of s c
    → outlines_of r.memory ≡ outlines_of s.memory → lives_of r.memory ≡ lives_of s.memory → d.areas ≡ c.areas → d.memory.heap_top ≡ c.memory.heap_top
    → AreBelowHeap w number_of r d
heap-kept w number_of s r c d h outlined lived areas top = record {
  each = λ k o e l f. of k o e l f (mapped-from outline s.memory.objects k (outline o)
      (sym (ap (λ xs. slice_get xs k) outlined) ∙ get-mapped outline r.memory.objects k o e)) (mapped-from life s.memory.objects k (life o)
      (sym (ap (λ xs. slice_get xs k) lived) ∙ get-mapped life r.memory.objects k o e));
}
  where
    of : (k : ℕ) (o : Object) → slice_get r.memory.objects k ≡ Some o → o.live ≡ true → o.depth ≡ 0
        → (x : Object) × (slice_get s.memory.objects k ≡ Some x) × (outline x ≡ outline o)
        → (x : Object) × (slice_get s.memory.objects k ≡ Some x) × (life x ≡ life o)
        → address (ground_of w number_of r d) k + room_of w.kind (outline o) ≤ d.memory.heap_top
    of k o e l f (x, a, b) (y, i, j) =
        let same : x ≡ y = cc (a, i) in
        let live : x.live ≡ true = ap (λ (z : Object). z.live) same ∙ ap (λ (z : Life). z.live) j ∙ l in
        let depth : x.depth ≡ 0 = ap (λ (z : Outline). z.depth) b ∙ f in
        let m = h.each k x a live depth in
        let n : room_of w.kind (outline x) ≡ room_of w.kind (outline o) = ap (room_of w.kind) b in
        let p : address (ground_of w number_of r d) k ≡ address (ground_of w number_of s c) k = ap (λ (zs : List PlacedArea). address_in (slice_get zs k)) areas in
        omega (arith, m, n, p, top)

pub heap-kept_by_call : (w : Setting) (number_of : TypeId → ℕ) (s : source.State) (c : flat.State) (d : ℕ) (variables : List Planned) (areas : List Area) (charge : ℕ)
    → Related w number_of s c → AreBelowHeap w number_of s c
    → AreBelowHeap w number_of (primitive.with_frame w (suc d) variables s) (machine.with_frame areas charge c)
heap-kept_by_call w number_of s c d variables areas charge r h = record { each = λ k z e l f. of k z l f (which s.memory.objects (map (new_variable w.table (suc d)) variables) k z e) }
  where
    of : (k : ℕ) (z : Object) → z.live ≡ true → z.depth ≡ 0 → Which s.memory.objects (map (new_variable w.table (suc d)) variables) k z
        → address (ground w number_of (s.memory.objects ++ map (new_variable w.table (suc d)) variables) (c.areas ++ machine.placed areas (next_frame c.memory))) k + room_of w.kind (outline z)
        ≤ c.memory.heap_top
    of k z l f (old e q) =
        let a = h.each k z e l f in
        let b = address-grow w number_of s.memory.objects (map (new_variable w.table (suc d)) variables) c.areas (machine.placed areas (next_frame c.memory)) r.areas.count k q in omega (arith, a, b)
    of k z l f (new j q e) = deep (mapped-from (new_variable w.table (suc d)) variables j z e)
      where
        deep : (v : Planned) × (slice_get variables j ≡ Some v) × (new_variable w.table (suc d) v ≡ z)
            → address (ground w number_of (s.memory.objects ++ map (new_variable w.table (suc d)) variables) (c.areas ++ machine.placed areas (next_frame c.memory))) k + room_of w.kind (outline z)
            ≤ c.memory.heap_top
        deep (v, a, b) = absurd (let m : suc d ≡ z.depth = ap (λ (x : Object). x.depth) b in omega (arith, m, f))
