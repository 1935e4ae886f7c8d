-- A frame is pushed for a call, with all its variables.
use Rattle.std.proofs.Common.{◌≡◌, ◌≢◌, ℕ, zero, suc, ◌+◌, ◌-◌, ◌*◌, ◌/◌, ◌%◌, ◌^◌, ◌<◌, ◌≤◌, ◌⊎◌, inl, inr, true, List, [], ◌∷◌, ◌++◌, map, length, replicate, slice_get, slice_index, Some, None, refl, ap, sym, subst, ◌∙◌, ⊎_elim, arith, nat_eq}
use Rattle.std.specs.Prelude.{IsTrue}
use Rattle.std.specs.Int.{bit_at}
use Rattle.std.proofs.lemmas.Option.{slice_get_within}
use Rattle.std.proofs.lemmas.List.{length-replicate, length-append, length-map}
use Rattle.cc_base.specs.declared.number.TypeId.{TypeId}
use Rattle.cc_base.specs.declared.number.NodeId.{NodeId}
use Rattle.cc_base.specs.declared.kind.Kind.{Kind}
use Rattle.cc_base.specs.declared.kind.Kind.TheVariants.{Safe, Seq, Rtti, Wild}
use Rattle.c_types.specs.Cells.{Cell, AreOrdered}
use Rattle.c_types.specs.Layouts.{size_of}
use Rattle.c_types.specs.Equality.{cells_of}
use Rattle.c_types.specs.Widths.{before}
use Rattle.c_types.proofs.OrderedPointers.{get_back, Which, old, new, which}
use Rattle.flat_mem.specs.declared.Area.{Area}
use Rattle.flat_mem.specs.Bytes.{number}
use Rattle.flat_mem.specs.Placement.{word_count, tag_byte, tagged_size, contents_size, areas_size, area_size, addresses, first_word}
use Rattle.flat_mem.specs.Memory as memory
use Rattle.flat_mem.specs.Memory.{Frame, fits, pushed, next_frame, frame_of, depth_in, depth_of, charges}
use Rattle.flat_mem.proofs.AreaLaws.{area-before_end, area-after_start, areas-apart, length-areas_made, get-areas_made_other, number-areas_made_first, get-areas_made_inside}
use Rattle.flat_mem.proofs.FrameLaws.{next_frame-by_8, address-by_8, depth_in-older, depth_in-past, depth-of_new_area, frames_end-least}
use Rattle.flat_mem.proofs.SoundLaws.{sound-pushed, room_of-fits}
use Rattle.src_mem.specs.Memory.{Object, Planned, new_variable, zero_object, frame_charge}
use Rattle.src_mem.specs.State as source
use Rattle.src_mem.specs.State.{Setting}
use Rattle.src_mem.specs.Primitives as primitive
use Rattle.src_mem.specs.Outlines.{Outline, outline}
use Rattle.src_mem.proofs.Outlines.{mapped-from, get-mapped}
use Rattle.cured_code.specs.FlatState as flat
use Rattle.cured_code.specs.FlatState.{PlacedArea, words_at}
use Rattle.cured_code.specs.FlatMachine as machine
use Rattle.cured_code.specs.FlatMachine.{placed}
use Rattle.cured_code.proofs.SlotLaws.{words-zero}
use Rattle.sim_relation.specs.Ground.{Ground, ground, address, address_in, word_number, row}
use Rattle.sim_relation.specs.Objects.{HoldsTyped, HoldsBy, HoldsWord, Holds, Lies, Apart, area_of, area_by, flat_depth, variable_area, frame_areas}
use Rattle.sim_relation.specs.Related.{Related}
use Rattle.sim_relation.proofs.Kept.{holds-agree, words-width, raw-inside, pointer-inside}
use Rattle.sim_relation.proofs.Growth.{AllThere, holds-grow, address-grow, area-grow, images-grow}

-- Zero bytes hold what a new object holds

row-zero : (k : Kind) → replicate (word_number k) 0 ≡ row k 0 0 0
row-zero Safe = refl
row-zero Seq = refl
row-zero Rtti = refl
row-zero Wild = refl

index-zero : (n i : ℕ) → slice_index (replicate n 0) i ≡ 0
index-zero zero i = refl
index-zero (suc n) zero = refl
index-zero (suc n) (suc i) = index-zero n i

typed-zero : (g : Ground) (bytes : List ℕ) (at depth : ℕ) (n : NodeId) (size : ℕ) (cs : List Cell) → AreOrdered cs → length cs ≡ size → ((i : ℕ) → i < before g.kind cs (length cs) → slice_index bytes (at + i) ≡ 0)
    → HoldsTyped g bytes at (zero_object depth n size cs)
typed-zero g bytes at depth n size cs ordered sized zeros = record {
  ordered = ordered;
  sized = length-replicate size 0 ∙ sym sized;
  integers = λ i e. zeros (before g.kind cs i) (let k = raw-inside g.kind cs i e in omega arith) ∙ sym (index-zero size i);
  pointers = λ i m t e.
      words-zero (word_number (g.kind m)) bytes (at + before g.kind cs i) (λ j l.
      let f : at + before g.kind cs i + j ≡ at + (before g.kind cs i + j) = omega arith in
      ap (slice_index bytes) f ∙ zeros (before g.kind cs i + j) (let k = pointer-inside g.kind cs i m t ordered e in let w = words-width (g.kind m) in omega (arith, k, w, l))) ∙ row-zero (g.kind m);
}

bit-zero : (k : ℕ) → k < 8 → bit_at 0 k ≡ 0
bit-zero k h = omega arith

word-zero : (g : Ground) (bytes : List ℕ) (at depth : ℕ) (n : NodeId) (size : ℕ) (cs : List Cell) (k : ℕ) → k < word_count size → ((i : ℕ) → i < tagged_size size → slice_index bytes (at + i) ≡ 0)
    → HoldsWord g bytes at (zero_object depth n size cs) k None
unfolding tagged_size
word-zero g bytes at depth n size cs k h zeros = (
  (let e : tag_byte at size k ≡ at + (16 * word_count size + k / 8) = omega arith in
      let z : slice_index bytes (tag_byte at size k) ≡ 0 = ap (slice_index bytes) e ∙ zeros (16 * word_count size + k / 8) (omega arith) in
      ap (λ x. nat_eq (bit_at x (k % 8)) 1) z ∙ ap (λ x. nat_eq x 1) (bit-zero (k % 8) (omega arith))),
  λ i l m. (let e : at + 8 * k + i ≡ at + (8 * k + i) = omega arith in ap (slice_index bytes) e ∙ zeros (8 * k + i) (omega arith) ∙ sym (index-zero size (8 * k + i))),
)

holds-zero : (kind : Kind) (g : Ground) (bytes : List ℕ) (at depth : ℕ) (n : NodeId) (size : ℕ) (cs : List Cell) → AreOrdered cs → length cs ≡ size
    → ((i : ℕ) → i < contents_size (area_by g.kind kind size cs) → slice_index bytes (at + i) ≡ 0)
    → number 8 bytes (at - 8) ≡ first_word (area_by g.kind kind size cs)
    → HoldsBy kind g bytes at (zero_object depth n size cs)
holds-zero Safe g bytes at depth n size cs o s z f = typed-zero g bytes at depth n size cs o s (λ i h. z i (omega arith))
holds-zero Seq g bytes at depth n size cs o s z f = typed-zero g bytes at depth n size cs o s (λ i h. z i (omega arith))
holds-zero Rtti g bytes at depth n size cs o s z f = typed-zero g bytes at depth n size cs o s (λ i h. z i (omega arith))
holds-zero Wild g bytes at depth n size cs o s z f = record { size = f; words = λ k h. word-zero g bytes at depth n size cs k h z }

-- Areas of a frame

pub get-placed : (areas : List Area) (start k : ℕ) (a : Area) → slice_get areas k ≡ Some a → slice_get (placed areas start) k ≡ Some (record { area = a; address = slice_index (addresses areas start) k })
unfolding addresses
get-placed [] start k a e = absurd (cc (e))
get-placed (x ∷ areas) start zero a e = let f : x ≡ a = cc (e) in ap (λ (y : Area). Some (record { area = y; address = start + 8 })) f
get-placed (x ∷ areas) start (suc k) a e = get-placed areas (start + area_size x) k a e

pub length-placed : (areas : List Area) (start : ℕ) → length (placed areas start) ≡ length areas
unfolding addresses
length-placed [] start = refl
length-placed (x ∷ areas) start = ap suc (length-placed areas (start + area_size x))

-- what is asked of the types of variables: laws of types and limits
pub record AreWholeTypes (w : Setting) (variables : List Planned) : Type 0 where
  pub each : (j : ℕ) (v : Planned) → slice_get variables j ≡ Some v
      → AreOrdered (cells_of w.table v.type) × (length (cells_of w.table v.type) ≡ size_of w.table v.type) × ((variable_area w v).bytes < 2 ^ 64)

-- an object is held, and its area lies where it should
record Stands (g : Ground) (m : memory.Memory) (k : ℕ) (o : Object) : Type 0 where
  pub holds : Holds g m.bytes k o
  pub lies : Lies g.kind m (address g k) (outline o)

pub related-frame : (w : Setting) (number_of : TypeId → ℕ) (s : source.State) (c : flat.State) (d : ℕ) (variables : List Planned) → Related w number_of s c
    → length c.memory.frames ≡ suc d → IsTrue (fits c.memory (frame_areas w variables) (frame_charge w.table variables))
    → ((k : ℕ) (o : Object) → slice_get s.memory.objects k ≡ Some o → o.live ≡ true → AllThere (length s.memory.objects) o)
    → AreWholeTypes w variables
    → areas_size (frame_areas w variables) ≤ 3 * frame_charge w.table variables
    → Related w number_of (primitive.with_frame w (suc d) variables s) (machine.with_frame (frame_areas w variables) (frame_charge w.table variables) c)
related-frame w number_of s c d variables r deep room there whole small = record {
  areas = record {
    count = length-append c.areas plus ∙ ap (λ (n : ℕ). n + length plus) r.areas.count ∙ ap (λ (n : ℕ). length objects + n) (length-placed fa start ∙ length-map variables (variable_area w) ∙ sym (length-map variables nv)) ∙ sym (length-append objects more);
    sizes = λ k z a e f. areas_after k z a (which objects more k z e) f;
    lie = λ k z e l. (stands_after k z l (which objects more k z e)).lies;
    apart = λ i j p q e l f m x. apart_after i j p q l m x (which objects more i p e) (which objects more j q f);
  };
  holds = record { each = λ k z e l. (stands_after k z l (which objects more k z e)).holds };
  sound = sound-pushed c.memory fa charge room r.sound;
  small = (let e = length-areas_made fa c.memory.bytes start in let h = r.small in omega (arith, e, h));
  room = record {
    frame_charge = (let e = r.room.frame_charge in omega (arith, e));
    heap_charge = r.room.heap_charge;
    frames = (omega (arith, small), r.room.frames);
    heap = r.room.heap;
  };
  outside = record { output = r.outside.output; read = r.outside.read; input = r.outside.input; turns = r.outside.turns; entered = r.outside.entered };
  accesses = images-grow w number_of objects more c.areas plus r.areas.count s.accesses c.accesses r.accesses;
}
  where
    objects : List Object
    objects = s.memory.objects

    nv : Planned → Object
    nv v = new_variable w.table (suc d) v

    more : List Object
    more = map (new_variable w.table (suc d)) variables

    fa : List Area
    fa = frame_areas w variables

    charge : ℕ
    charge = frame_charge w.table variables

    start : ℕ
    start = next_frame c.memory

    plus : List PlacedArea
    plus = placed fa start

    after : flat.State
    after = machine.with_frame fa charge c

    region : start + areas_size fa ≤ c.memory.bounds.stack_end
    region = (room_of-fits c.memory fa charge room).region

    area_there : (j : ℕ) (v : Planned) → slice_get variables j ≡ Some v → slice_get fa j ≡ Some (variable_area w v)
    area_there j v e = get-mapped (variable_area w) variables j v e

    placed_there : (j : ℕ) (v : Planned) → slice_get variables j ≡ Some v
        → slice_get (c.areas ++ plus) (length objects + j) ≡ Some (record { area = variable_area w v; address = slice_index (addresses fa start) j })
    placed_there j v e =
        ap (λ (n : ℕ). slice_get (c.areas ++ plus) (n + j)) (sym r.areas.count) ∙ get_back c.areas plus j ∙ get-placed fa start j (variable_area w v) (area_there j v e)

    new_address : (j : ℕ) (v : Planned) → slice_get variables j ≡ Some v → address (ground w number_of (objects ++ more) (c.areas ++ plus)) (length objects + j) ≡ slice_index (addresses fa start) j
    new_address j v e = ap address_in (placed_there j v e)

    areas_after : (k : ℕ) (z : Object) (a : PlacedArea) → Which objects more k z → slice_get (c.areas ++ plus) k ≡ Some a → a.area ≡ area_of w.kind (outline z)
    areas_after k z a (old e h) f = r.areas.sizes k z a e (sym (area-grow w number_of objects more c.areas plus r.areas.count k h) ∙ f)
    areas_after k z a (new j q e) f = of (mapped-from nv variables j z e)
      where
        of : (v : Planned) × (slice_get variables j ≡ Some v) × (nv v ≡ z) → a.area ≡ area_of w.kind (outline z)
        of x =
            let p = placed_there j x.0 x.1 in
            let g : slice_get (c.areas ++ plus) (length objects + j) ≡ Some a = subst (λ (i : ℕ). slice_get (c.areas ++ plus) i ≡ Some a) q f in
            let b : record { area = variable_area w x.0; address = slice_index (addresses fa start) j } ≡ a = cc (p, g) in
            ap (λ (y : PlacedArea). y.area) (sym b) ∙ ap (λ (y : Object). area_of w.kind (outline y)) x.2

    -- where an old live object lies
    beside : (a : ℕ) (q : Outline) → Lies w.kind c.memory a q → (a + contents_size (area_of w.kind q) ≤ start) ⊎ (c.memory.bounds.stack_end + 8 ≤ a)
    beside a q l = by q.depth refl
      where
        by : (e : ℕ) → q.depth ≡ e → (a + contents_size (area_of w.kind q) ≤ start) ⊎ (c.memory.bounds.stack_end + 8 ≤ a)
        by zero e = ⊎_elim (λ h. inl (let f = frames_end-least c.memory.bounds.stack_start c.memory.frames r.sound.consecutive in omega (arith, h, f))) inr (l.static e)
        by (suc m) e = ⊎_elim inl (λ h. absurd (clash (l.depth (contents_size (area_of w.kind q)) (omega arith)) (depth_in-past c.memory.bounds.stack_start c.memory.frames (a + contents_size (area_of w.kind q)) r.sound.consecutive h))) (case (a + contents_size (area_of w.kind q)) start)
          where
            case : (x y : ℕ) → (x ≤ y) ⊎ (y < x)
            case x y = grind arith

            clash : depth_of c.memory (a + contents_size (area_of w.kind q)) ≡ flat_depth q.depth → depth_of c.memory (a + contents_size (area_of w.kind q)) ≡ 0 → ⊥
            clash x y = let f : flat_depth q.depth ≡ suc (suc m) = ap flat_depth e in omega (arith, x, y, f)

    lies_after : (a : ℕ) (q : Outline) → Lies w.kind c.memory a q → Lies w.kind after.memory a q
    lies_after a q l = record {
      above = l.above;
      aligned = l.aligned;
      inside = (let e = length-areas_made fa c.memory.bytes start in let h = l.inside in omega (arith, e, h));
      depth = λ i h. depth_in-older (frame_of fa charge start) c.memory.frames (a + i)
          (⊎_elim (λ x. inl (omega (arith, x, h))) (λ x. inr (let y = region in omega (arith, x, y))) (beside a q l)) ∙ l.depth i h;
      static = l.static;
    }

    start_by_8 : start % 8 ≡ 0
    start_by_8 = next_frame-by_8 c.memory r.sound

    new_lies : (j : ℕ) (v : Planned) → slice_get variables j ≡ Some v → Lies w.kind after.memory (slice_index (addresses fa start) j) (outline (nv v))
    new_lies j v e =
        let t = area_there j v e in
        let low = area-after_start fa start j (slice_get_within fa j (variable_area w v) t) in
        let high = area-before_end fa start j (variable_area w v) t in
        record {
          above = omega (arith, low);
          aligned = address-by_8 fa start j start_by_8 (slice_get_within fa j (variable_area w v) t);
          inside = (let f = length-areas_made fa c.memory.bytes start in let g = region in let x = r.sound.heap in let y = r.sound.size in omega (arith, high, f, g, x, y));
          depth = λ i h. depth-of_new_area c.memory fa charge j i (variable_area w v) t h ∙ ap suc deep;
          static = λ z. absurd (omega arith);
        }

    made : (j : ℕ) (v : Planned) → slice_get variables j ≡ Some v → Stands (ground w number_of (objects ++ more) (c.areas ++ plus)) after.memory (length objects + j) (nv v)
    made j v e = record {
      holds = subst (λ (a : ℕ). HoldsBy (w.kind v.node) (ground w number_of (objects ++ more) (c.areas ++ plus)) after.memory.bytes a (nv v)) (sym (new_address j v e))
          (holds-zero (w.kind v.node) (ground w number_of (objects ++ more) (c.areas ++ plus)) after.memory.bytes (slice_index (addresses fa start) j) (suc d) v.node (size_of w.table v.type) (cells_of w.table v.type)
          (whole.each j v e).0 (whole.each j v e).1 (λ i h. get-areas_made_inside fa c.memory.bytes start j (variable_area w v) i (area_there j v e) h)
          (number-areas_made_first fa c.memory.bytes start j (slice_index (addresses fa start) j - 8) (variable_area w v) (area_there j v e)
          (let low = area-after_start fa start j (slice_get_within fa j (variable_area w v) (area_there j v e)) in omega (arith, low)) (whole.each j v e).2
          (let g = region in let x = r.sound.heap in let y = r.sound.size in omega (arith, g, x, y))));
      lies = subst (λ (a : ℕ). Lies w.kind after.memory a (outline (nv v))) (sym (new_address j v e)) (new_lies j v e);
    }

    stands_after : (k : ℕ) (z : Object) → z.live ≡ true → Which objects more k z → Stands (ground w number_of (objects ++ more) (c.areas ++ plus)) after.memory k z
    stands_after k z l (old e h) = to (record { holds = r.holds.each k z e l; lies = r.areas.lie k z e l })
      where
        same : address (ground w number_of (objects ++ more) (c.areas ++ plus)) k ≡ address (ground w number_of objects c.areas) k
        same = address-grow w number_of objects more c.areas plus r.areas.count k h

        to : Stands (ground w number_of objects c.areas) c.memory k z → Stands (ground w number_of (objects ++ more) (c.areas ++ plus)) after.memory k z
        to x = record {
          holds = subst (λ (a : ℕ). HoldsBy (w.kind z.node) (ground w number_of (objects ++ more) (c.areas ++ plus)) after.memory.bytes a z) (sym same)
              (holds-grow w number_of objects more c.areas plus r.areas.count (w.kind z.node) after.memory.bytes (address (ground w number_of objects c.areas) k) z (there k z e l)
              (holds-agree (w.kind z.node) (ground w number_of objects c.areas) c.memory.bytes after.memory.bytes (address (ground w number_of objects c.areas) k) z x.lies.above
              (record {
                each = λ i m n. get-areas_made_other fa c.memory.bytes start i
                    (⊎_elim (λ y. inl (let u = x.lies.above in omega (arith, y, m, n, u))) (λ y. inr (let u = x.lies.above in let t = region in omega (arith, y, m, n, u, t))) (beside (address (ground w number_of objects c.areas) k) (outline z) x.lies));
              }) x.holds));
          lies = subst (λ (a : ℕ). Lies w.kind after.memory a (outline z)) (sym same) (lies_after (address (ground w number_of objects c.areas) k) (outline z) x.lies);
        }
    stands_after k z l (new j q e) = of (mapped-from nv variables j z e)
      where
        of : (v : Planned) × (slice_get variables j ≡ Some v) × (nv v ≡ z) → Stands (ground w number_of (objects ++ more) (c.areas ++ plus)) after.memory k z
        of x = subst (λ (i : ℕ). Stands (ground w number_of (objects ++ more) (c.areas ++ plus)) after.memory i z) (sym q)
            (subst (λ (y : Object). Stands (ground w number_of (objects ++ more) (c.areas ++ plus)) after.memory (length objects + j) y) x.2 (made j x.0 x.1))

    at_new : (P : ℕ → Outline → Type 0) → ((b : ℕ) (v : Planned) → slice_get variables b ≡ Some v → P (slice_index (addresses fa start) b) (outline (nv v)))
        → (j : ℕ) (q : Object) (b : ℕ) → j ≡ length objects + b → slice_get more b ≡ Some q → P (address (ground w number_of (objects ++ more) (c.areas ++ plus)) j) (outline q)
    at_new P each j q b g f = of (mapped-from nv variables b q f)
      where
        of : (v : Planned) × (slice_get variables b ≡ Some v) × (nv v ≡ q) → P (address (ground w number_of (objects ++ more) (c.areas ++ plus)) j) (outline q)
        of y = subst (λ (i : ℕ). P (address (ground w number_of (objects ++ more) (c.areas ++ plus)) i) (outline q)) (sym g)
            (subst (λ (z : Object). P (address (ground w number_of (objects ++ more) (c.areas ++ plus)) (length objects + b)) (outline z)) y.2
            (subst (λ (a : ℕ). P a (outline (nv y.0))) (sym (new_address b y.0 y.1)) (each b y.0 y.1)))

    old_new : (a : ℕ) (o : Outline) → Lies w.kind c.memory a o → (j : ℕ) (v : Planned) → slice_get variables j ≡ Some v → Apart w.kind a o (slice_index (addresses fa start) j) (outline (nv v))
    old_new a o l j v e =
        let t = area_there j v e in
        let low = area-after_start fa start j (slice_get_within fa j (variable_area w v) t) in
        let high = area-before_end fa start j (variable_area w v) t in
        ⊎_elim (λ h. inl (omega (arith, h, low))) (λ h. inr (let g = region in omega (arith, h, high, g))) (beside a o l)

    turned : {A B : Type 0} → A ⊎ B → B ⊎ A
    turned h = ⊎_elim inr inl h

    new_new : (i j : ℕ) (v u : Planned) → slice_get variables i ≡ Some v → slice_get variables j ≡ Some u → i ≢ j
        → Apart w.kind (slice_index (addresses fa start) i) (outline (nv v)) (slice_index (addresses fa start) j) (outline (nv u))
    new_new i j v u e f x = ⊎_elim
        (λ h. inl (areas-apart fa start i j (variable_area w v) (area_there i v e) h (slice_get_within fa j (variable_area w u) (area_there j u f))))
        (λ h. inr (areas-apart fa start j i (variable_area w u) (area_there j u f) (omega (arith, h, x)) (slice_get_within fa i (variable_area w v) (area_there i v e)))) (case i j)
      where
        case : (x y : ℕ) → (x < y) ⊎ (y ≤ x)
        case x y = grind arith

    at_new_2 : (i : ℕ) (p : Object) (a : ℕ) → i ≡ length objects + a → slice_get more a ≡ Some p → (j : ℕ) (q : Object) (b : ℕ) → j ≡ length objects + b → slice_get more b ≡ Some q → a ≢ b
        → Apart w.kind (address (ground w number_of (objects ++ more) (c.areas ++ plus)) i) (outline p) (address (ground w number_of (objects ++ more) (c.areas ++ plus)) j) (outline q)
    at_new_2 i p a g e j q b u f x = of (mapped-from nv variables a p e) (mapped-from nv variables b q f)
      where
        of : (v : Planned) × (slice_get variables a ≡ Some v) × (nv v ≡ p) → (v : Planned) × (slice_get variables b ≡ Some v) × (nv v ≡ q)
            → Apart w.kind (address (ground w number_of (objects ++ more) (c.areas ++ plus)) i) (outline p) (address (ground w number_of (objects ++ more) (c.areas ++ plus)) j) (outline q)
        of y z =
            subst (λ (k : ℕ). Apart w.kind (address (ground w number_of (objects ++ more) (c.areas ++ plus)) k) (outline p) (address (ground w number_of (objects ++ more) (c.areas ++ plus)) j) (outline q)) (sym g)
            (subst (λ (k : ℕ). Apart w.kind (address (ground w number_of (objects ++ more) (c.areas ++ plus)) (length objects + a)) (outline p) (address (ground w number_of (objects ++ more) (c.areas ++ plus)) k) (outline q)) (sym u)
            (subst (λ (o : Object). Apart w.kind (address (ground w number_of (objects ++ more) (c.areas ++ plus)) (length objects + a)) (outline o) (address (ground w number_of (objects ++ more) (c.areas ++ plus)) (length objects + b)) (outline q)) y.2
            (subst (λ (o : Object). Apart w.kind (address (ground w number_of (objects ++ more) (c.areas ++ plus)) (length objects + a)) (outline (nv y.0)) (address (ground w number_of (objects ++ more) (c.areas ++ plus)) (length objects + b)) (outline o)) z.2
            (subst (λ (k : ℕ). Apart w.kind k (outline (nv y.0)) (address (ground w number_of (objects ++ more) (c.areas ++ plus)) (length objects + b)) (outline (nv z.0))) (sym (new_address a y.0 y.1))
            (subst (λ (k : ℕ). Apart w.kind (slice_index (addresses fa start) a) (outline (nv y.0)) k (outline (nv z.0))) (sym (new_address b z.0 z.1)) (new_new a b y.0 z.0 y.1 z.1 x))))))

    apart_after : (i j : ℕ) (p q : Object) → p.live ≡ true → q.live ≡ true → i ≢ j → Which objects more i p → Which objects more j q
        → Apart w.kind (address (ground w number_of (objects ++ more) (c.areas ++ plus)) i) (outline p) (address (ground w number_of (objects ++ more) (c.areas ++ plus)) j) (outline q)
    apart_after i j p q l m x (old e h) (old f k) = subst (λ (a : ℕ). Apart w.kind a (outline p) (address (ground w number_of (objects ++ more) (c.areas ++ plus)) j) (outline q)) (sym (address-grow w number_of objects more c.areas plus r.areas.count i h))
        (subst (λ (b : ℕ). Apart w.kind (address (ground w number_of objects c.areas) i) (outline p) b (outline q)) (sym (address-grow w number_of objects more c.areas plus r.areas.count j k)) (r.areas.apart i j p q e l f m x))
    apart_after i j p q l m x (old e h) (new b g f) =
        at_new (λ (y : ℕ) (o : Outline). Apart w.kind (address (ground w number_of (objects ++ more) (c.areas ++ plus)) i) (outline p) y o) (λ k v t.
        subst (λ (z : ℕ). Apart w.kind z (outline p) (slice_index (addresses fa start) k) (outline (nv v))) (sym (address-grow w number_of objects more c.areas plus r.areas.count i h))
        (old_new (address (ground w number_of objects c.areas) i) (outline p) (r.areas.lie i p e l) k v t)) j q b g f
    apart_after i j p q l m x (new a g e) (old f k) =
        at_new (λ (y : ℕ) (o : Outline). Apart w.kind y o (address (ground w number_of (objects ++ more) (c.areas ++ plus)) j) (outline q)) (λ b v t.
        subst (λ (z : ℕ). Apart w.kind (slice_index (addresses fa start) b) (outline (nv v)) z (outline q)) (sym (address-grow w number_of objects more c.areas plus r.areas.count j k))
        (turned (old_new (address (ground w number_of objects c.areas) j) (outline q) (r.areas.lie j q f m) b v t))) i p a g e
    apart_after i j p q l m x (new a g e) (new b u f) =
        at_new_2 i p a g e j q b u f (λ h. x (omega (arith, g, u, h)))
