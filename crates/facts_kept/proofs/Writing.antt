-- A write through a held pointer isn't wrong, and leaves the memory sound; a store asks for a place alone.
use Rattle.std.proofs.Common.{◌≡◌, ◌≢◌, ℕ, ◌<◌, ◌≤◌, ◌%◌, ℤ, pos, true, List, [], ◌∷◌, map, length, replicate, nat_le, slice_get, Some, refl, ap, sym, subst, ◌∙◌, arith}
use Rattle.std.proofs.lemmas.Bool.Decides.{nat_tests}
use Rattle.std.proofs.lemmas.Int.{ints}
use Rattle.std.specs.Int.{int_rem_euclid}
use Rattle.std.specs.Ordering.{int_eq}
use Rattle.std.proofs.lemmas.List.{length-replicate}
use Rattle.cc_base.specs.declared.place.Place.{Place}
use Rattle.cc_base.specs.declared.number.TypeId.{TypeId}
use Rattle.cc_base.specs.declared.number.NodeId.{NodeId}
use Rattle.cc_base.specs.declared.kind.Kind.{Kind}
use Rattle.cc_base.specs.declared.kind.Kind.TheVariants.{Safe, Seq, Rtti, Wild}
use Rattle.kind_sites.specs.declared.site.Site.{Site}
use Rattle.c_types.specs.declared.shape.TypeShape.TheVariants as shape
use Rattle.c_types.specs.Table.{shape_at, members_at, is_complete_entry, IsComplete}
use Rattle.c_types.specs.Layouts.{size_of}
use Rattle.c_types.specs.Cells.{raw, cells_of_shape}
use Rattle.c_types.specs.Equality.{physically_equal, cells_of}
use Rattle.kind_sites.specs.Solutions.{SpreadsWild}
use Rattle.c_types.specs.Sound.{IsWellFormed}
use Rattle.c_types.proofs.Cells.{cells_are}
use Rattle.type_laws.proofs.Pointers.{class_turned}
use Rattle.integers.specs.Words.{word}
use Rattle.integers.specs.Arithmetic.{IntegerType}
use Rattle.runs.specs.Outcome.{leaves, ◌>>◌}
use Rattle.src_mem.specs.Pointers.{Location, Pointer, Null, Number, At, Function, Integer, Address}
use Rattle.src_mem.specs.Memory.{Object, with_integer, with_pointer, depth_of, depth_of_object}
use Rattle.src_mem.specs.State.{State, Setting, touched}
use Rattle.src_mem.specs.Checks.{InObject, IsAligned, Outlives, WriteInteger, WritePointer, conditions_of, holds, all_placed, place_of_write}
use Rattle.src_mem.specs.Primitives.{with_object, store_integer, store_pointer}
use Rattle.src_mem.specs.Uses.{store_shape, conditions_of_write, write}
use Rattle.src_mem.specs.Outlines.{Life, outline, life, outlines_of, lives_of, AreOutlines}
use Rattle.src_mem.specs.Facts.{IsValueOf, IsMade, Reaches, IsHeldIn, IsPlaceIn, IsSoundObject, IsSoundMemory}
use Rattle.src_mem.specs.Laws.{Gives}
use Rattle.src_mem.proofs.Outlines.{mapped-from}
use Rattle.src_mem.proofs.Spots.{IsRight}
use Rattle.src_mem.proofs.Right.{no_function, pointer_size, pointer_cells_are, safe≢wild, seq≢wild, rtti≢wild}
use Rattle.facts_kept.specs.Kept.{IsKept, AllHold, asked_of}
use Rattle.facts_kept.proofs.Lists.{outlines-set, lives-set}
use Rattle.facts_kept.proofs.Complete.{complete-some, complete-data}
use Rattle.facts_kept.proofs.Places.{held-place, value-class, wild-any, spread, stands-pointer}
use Rattle.facts_kept.proofs.Stores.{sound-change, sound-pointer, sound-tagged, sound-integer, raw-apart}
use Rattle.facts_kept.proofs.Giving.{gives-checked, gives-access}
use Rattle.facts_kept.proofs.PlaceSpots.{TypedSpot, TaggedSpot, typed-spot, tagged-spot}

-- what outlives the target's object, which is as old as d, may be stored there
pub outlives : (objects : List Object) (depth d : ℕ) (q : Pointer) → Reaches (map life objects) depth q → depth_of objects q ≤ d
    → Reaches (map life objects) d q
outlives objects depth d Null r h = tt
outlives objects depth d (Number n) r h = tt
outlives objects depth d (At l) r h =
    let x = mapped-from life objects l.object r.life r.found in
    let e : depth_of_object (slice_get objects l.object) ≡ r.life.depth = ap depth_of_object x.1 ∙ ap (λ (z : Life). z.depth) x.2 in
    record { life = r.life; found = r.found; live = r.live; older = omega (arith, e, h) }
outlives objects depth d (Function f) r h = tt

pub le-of : (a b : ℕ) → nat_le a b ≡ true → a ≤ b
le-of a b h = grind (arith, nat_tests)

module _ (w : Setting) (sound : IsWellFormed w.table) (sites : List Site) where
  -- a store that leaves its object sound
  changed : (s : State) (l : Location) (o new : Object) (at m : ℕ) → IsSoundMemory w sites s.memory → slice_get s.memory.objects l.object ≡ Some o
      → outline new ≡ outline o → life new ≡ life o
      → IsSoundObject w sites (outlines_of s.memory) (lives_of s.memory) new
      → IsKept w sites s.memory (with_object l.object new (touched l.object at m s)).memory
  changed s l o new at m memory found same alike is = record {
    sound = sound-change w sites s.memory.objects l.object o new memory found same alike is;
    outlines = outlines-set s.memory.objects l.object o new found same;
    lives = lives-set s.memory.objects l.object o new found alike;
  }

  stored-there : (k : Kind) (l : Location) (s : State) (o : Object) (at : ℕ) (q : Pointer) → IsRight k s.memory.objects l 8 o at
      → IsSoundMemory w sites s.memory
      → IsSoundObject w sites (outlines_of s.memory) (lives_of s.memory) (with_pointer at q o)
      → Gives (store_pointer k (At l) q s) (λ x r. IsKept w sites s.memory r.memory)
  stored-there k l s o at q right memory is =
      gives-access k l 8 (λ at. leaves (with_object at.number (with_pointer at.at q at.object))) s o at
      (λ x r. IsKept w sites s.memory r.memory) right
      (changed s l o (with_pointer at q o) at 8 memory right.found refl refl is)

  integer-there : (k : Kind) (l : Location) (i : IntegerType) (s : State) (o : Object) (at : ℕ) (z : ℤ) → IsRight k s.memory.objects l i.bytes o at
      → IsSoundMemory w sites s.memory
      → IsSoundObject w sites (outlines_of s.memory) (lives_of s.memory) (with_integer i.bytes at (word z) o)
      → Gives (store_integer k i (At l) z s) (λ x r. IsKept w sites s.memory r.memory)
  integer-there k l i s o at z right memory is =
      gives-access k l i.bytes (λ at. leaves (with_object at.number (with_integer i.bytes at.at (word z) at.object))) s o at
      (λ x r. IsKept w sites s.memory r.memory) right
      (changed s l o (with_integer i.bytes at (word z) o) at i.bytes memory right.found refl refl is)

  -- Pointers

  module _ (t u : TypeId) (m : NodeId) (e : shape_at w.table t ≡ shape.Pointer m u) (s : State) (depth : ℕ) (memory : IsSoundMemory w sites s.memory)
      (q : Pointer) (value : IsHeldIn w s.memory depth (w.kind m) u q) (made : IsMade sites q) where
    eight : length (cells_of w.table t) ≡ 8
    eight = ap length (pointer_cells_are w.table t m u e)

    -- ESCAPE, once it is known where the target stands
    older : (l : Location) (o : Object) → slice_get s.memory.objects l.object ≡ Some o → holds w s.memory (Outlives (At l) q) ≡ true
        → Reaches (lives_of s.memory) o.depth q
    older l o found c = outlives s.memory.objects depth o.depth q value.reaches
        (le-of (depth_of s.memory.objects q) o.depth (sym (ap (λ x. nat_le (depth_of s.memory.objects q) (depth_of_object x)) found) ∙ c))

    pub gives-stored : (k : Kind) → k ≢ Wild → (p : Pointer) → IsPlaceIn w s.memory depth k t p → holds w s.memory (Outlives p q) ≡ true
        → Gives (store_pointer k p q s) (λ x r. IsKept w sites s.memory r.memory)
    gives-stored k plain p h c = of (typed-spot w s.memory depth k t 8 p plain (let n = eight in omega (arith, n)) h)
      where
        of : TypedSpot w s.memory depth k t 8 p → Gives (store_pointer k p q s) (λ x r. IsKept w sites s.memory r.memory)
        of x =
            let is = memory.each x.location.object x.object x.right.found x.right.live in
            let st = stands-pointer w sound (outlines_of s.memory) t u m x.object.cells x.at x.location.part.high e x.holds in
            subst (λ y. Gives (store_pointer k y q s) (λ x r. IsKept w sites s.memory r.memory)) (sym x.is)
            (stored-there k x.location s x.object x.at q x.right memory
            (sound-pointer w sites (outlines_of s.memory) (lives_of s.memory) x.object x.at st.node st.to q is x.untagged st.found
            (subst (λ y. IsValueOf w (outlines_of s.memory) y st.to q) (sym st.kind)
            (value-class w sound (outlines_of s.memory) (w.kind m) u st.to q (class_turned w.table w.kind st.to u st.class) value.value))
            (older x.location x.object x.right.found (subst (λ y. holds w s.memory (Outlives y q) ≡ true) x.is c)) made))

    pub gives-stored_tagged : (n : NodeId) → SpreadsWild w.table w.kind n t → w.kind n ≡ Wild → (p : Pointer) → IsPlaceIn w s.memory depth Wild t p
        → AllHold w s.memory (InObject 8 p ∷ IsAligned p ∷ Outlives p q ∷ [])
        → Gives (store_pointer Wild p q s) (λ x r. IsKept w sites s.memory r.memory)
    gives-stored_tagged n spreads k p h c = of (tagged-spot w s.memory depth t 8 p h c.0)
      where
        multiple : (k : ℕ) → int_eq (int_rem_euclid (pos k) (pos 8)) (pos 0) ≡ true → k % 8 ≡ 0
        multiple k h = grind (arith, ints)

        of : TaggedSpot w s.memory depth 8 p → Gives (store_pointer Wild p q s) (λ x r. IsKept w sites s.memory r.memory)
        of x =
            let is = memory.each x.location.object x.object x.right.found x.right.live in
            let stands : holds w s.memory (IsAligned (At x.location)) ≡ true = subst (λ y. holds w s.memory (IsAligned y) ≡ true) x.is c.1.0 in
            let aligned : x.at % 8 ≡ 0 = multiple x.at (sym (ap (λ z. int_eq (int_rem_euclid z (pos 8)) (pos 0)) x.right.offset) ∙ stands) in
            let wild = spread w sound (outlines_of s.memory) n m t u e (no_function w.table t (shape.Pointer m u) e refl) spreads k in
            subst (λ y. Gives (store_pointer Wild y q s) (λ x r. IsKept w sites s.memory r.memory)) (sym x.is)
            (stored-there Wild x.location s x.object x.at q x.right memory
            (sound-tagged w sites (outlines_of s.memory) (lives_of s.memory) x.object x.at u q is x.tagged aligned x.inside
            (λ v. wild-any w sound (outlines_of s.memory) u v q (subst (λ y. IsValueOf w (outlines_of s.memory) y u q) wild value.value))
            (older x.location x.object x.right.found (subst (λ y. holds w s.memory (Outlives y q) ≡ true) x.is c.1.1.0)) made))

    -- a pointer is written, with its conditions, which lead to a place
    written_pointer : (own assignment : Place) (n : NodeId) (p : Pointer) → SpreadsWild w.table w.kind n t
        → ((k : Kind) → w.kind n ≡ k → AllHold w s.memory (asked_of 8 k p) → IsPlaceIn w s.memory depth k t p)
        → Gives (write w own assignment (w.kind n) t p (Address q) s) (λ x r. IsKept w sites s.memory r.memory)
    written_pointer own assignment n p spreads placed = by (w.kind n) refl
      where
        stores : (k : Kind)
            → (AllHold w s.memory (conditions_of (WritePointer q) k p) → Gives (store_pointer k p q s) (λ x r. IsKept w sites s.memory r.memory))
            → Gives ((all_placed w (place_of_write own assignment) (conditions_of (WritePointer q) k p) >> store_pointer k p q) s)
            (λ x r. IsKept w sites s.memory r.memory)
        stores k h =
            gives-checked w (place_of_write own assignment) (conditions_of (WritePointer q) k p) (store_pointer k p q) s
            (λ x r. IsKept w sites s.memory r.memory) h

        go : (k : Kind) → w.kind n ≡ k
            → Gives ((all_placed w (place_of_write own assignment) (conditions_of (WritePointer q) k p) >> store_pointer k p q) s)
            (λ x r. IsKept w sites s.memory r.memory)
        go Safe g = stores Safe (λ c. gives-stored Safe safe≢wild p (placed Safe g (c.0, tt)) c.1.0)
        go Rtti g = stores Rtti (λ c. gives-stored Rtti rtti≢wild p (placed Rtti g (c.0, tt)) c.1.0)
        go Seq g = stores Seq (λ c. gives-stored Seq seq≢wild p (placed Seq g (c.0, tt)) c.1.0)
        go Wild g = stores Wild (λ c. gives-stored_tagged n spreads g p (placed Wild g (c.0, tt)) c)

        by : (k : Kind) → w.kind n ≡ k → Gives (write w own assignment (w.kind n) t p (Address q) s) (λ x r. IsKept w sites s.memory r.memory)
        by k g = subst (λ c. Gives (write w own assignment c t p (Address q) s) (λ x r. IsKept w sites s.memory r.memory)) (sym g)
            (subst
            (λ sh. Gives
            ((all_placed w (place_of_write own assignment) (conditions_of_write k sh p (Address q)) >> store_shape k sh p (Address q)) s)
            (λ x r. IsKept w sites s.memory r.memory))
            (sym e) (go k g))

    -- through a pointer that may be held
    pub gives-written_pointer : (own assignment : Place) (n : NodeId) (p : Pointer) → SpreadsWild w.table w.kind n t
        → IsHeldIn w s.memory depth (w.kind n) t p
        → Gives (write w own assignment (w.kind n) t p (Address q) s) (λ x r. IsKept w sites s.memory r.memory)
    gives-written_pointer own assignment n p spreads held =
        written_pointer own assignment n p spreads
        (λ k g c. held-place w sound (outlines_of s.memory) (lives_of s.memory) depth s.memory k t p (no_function w.table t (shape.Pointer m u) e refl)
        (subst (λ c. IsHeldIn w s.memory depth c t p) g held)
        (subst (λ z. AllHold w s.memory (asked_of z k p)) (sym (pointer_size w.table t m u e)) c))

    -- at a place
    pub gives-written_pointer_place : (own assignment : Place) (n : NodeId) (p : Pointer) → SpreadsWild w.table w.kind n t
        → IsPlaceIn w s.memory depth (w.kind n) t p
        → Gives (write w own assignment (w.kind n) t p (Address q) s) (λ x r. IsKept w sites s.memory r.memory)
    gives-written_pointer_place own assignment n p spreads place =
        written_pointer own assignment n p spreads (λ k g c. subst (λ c. IsPlaceIn w s.memory depth c t p) g place)

  -- Integers

  module _ (t : TypeId) (i : IntegerType) (e : shape_at w.table t ≡ shape.Integer i.bytes i.signed) (s : State) (depth : ℕ)
      (memory : IsSoundMemory w sites s.memory) (z : ℤ) where
    cells : cells_of w.table t ≡ replicate i.bytes raw
    cells =
        cells_are w.table sound.order.0 sound.order.1 (physically_equal w.table) t ∙ ap
        (λ s. cells_of_shape w.table (physically_equal w.table) (cells_of w.table) t s (members_at w.table t)) e

    complete : IsComplete w.table t
    complete = ap (λ s. is_complete_entry s (members_at w.table t)) e

    size : size_of w.table t ≡ i.bytes
    size = sym (complete-some w.table sound t complete).1 ∙ ap length cells ∙ length-replicate i.bytes raw

    some : 0 < i.bytes
    some =
        let a = (complete-some w.table sound t complete).0 in let b = (complete-some w.table sound t complete).1 in let c = size in omega
        (arith, a, b, c)

    room : i.bytes ≤ length (cells_of w.table t)
    room =
        let n = length-replicate i.bytes raw in let m : length (cells_of w.table t) ≡ length (replicate i.bytes raw) = ap length cells in omega
        (arith, n, m)

    pub gives-stored_integer : (k : Kind) → k ≢ Wild → (p : Pointer) → AreOutlines w (outlines_of s.memory) → IsPlaceIn w s.memory depth k t p
        → Gives (store_integer k i p z s) (λ x r. IsKept w sites s.memory r.memory)
    gives-stored_integer k plain p ordered h = of (typed-spot w s.memory depth k t i.bytes p plain room h)
      where
        of : TypedSpot w s.memory depth k t i.bytes p → Gives (store_integer k i p z s) (λ x r. IsKept w sites s.memory r.memory)
        of x =
            let is = memory.each x.location.object x.object x.right.found x.right.live in
            subst (λ y. Gives (store_integer k i y z s) (λ x r. IsKept w sites s.memory r.memory)) (sym x.is)
            (integer-there k x.location i s x.object x.at z x.right memory
            (sound-integer w sites (outlines_of s.memory) (lives_of s.memory) x.object i.bytes x.at (word z) is
            (λ u. raw-apart w sound sites (outlines_of s.memory) (lives_of s.memory) t x.object.cells x.at x.location.part.high i.bytes some
            (ordered.ordered x.location.object (outline x.object) x.outlined x.untagged) x.holds cells)))

    pub gives-stored_integer_tagged : (p : Pointer) → IsPlaceIn w s.memory depth Wild t p → holds w s.memory (InObject i.bytes p) ≡ true
        → Gives (store_integer Wild i p z s) (λ x r. IsKept w sites s.memory r.memory)
    gives-stored_integer_tagged p h c = of (tagged-spot w s.memory depth t i.bytes p h c)
      where
        of : TaggedSpot w s.memory depth i.bytes p → Gives (store_integer Wild i p z s) (λ x r. IsKept w sites s.memory r.memory)
        of x =
            let is = memory.each x.location.object x.object x.right.found x.right.live in
            subst (λ y. Gives (store_integer Wild i y z s) (λ x r. IsKept w sites s.memory r.memory)) (sym x.is)
            (integer-there Wild x.location i s x.object x.at z x.right memory
            (sound-integer w sites (outlines_of s.memory) (lives_of s.memory) x.object i.bytes x.at (word z) is (λ u. absurd (u x.tagged))))

    -- an integer is written, with its conditions, which lead to a place
    written_integer : (own assignment : Place) (k : Kind) (p : Pointer) → AreOutlines w (outlines_of s.memory)
        → (AllHold w s.memory (asked_of i.bytes k p) → IsPlaceIn w s.memory depth k t p)
        → Gives (write w own assignment k t p (Integer z) s) (λ x r. IsKept w sites s.memory r.memory)
    written_integer own assignment k p ordered placed =
        subst
        (λ sh. Gives ((all_placed w (place_of_write own assignment) (conditions_of_write k sh p (Integer z)) >> store_shape k sh p (Integer z)) s)
        (λ x r. IsKept w sites s.memory r.memory))
        (sym e) (go k placed)
      where
        stores : (k : Kind)
            → (AllHold w s.memory (conditions_of (WriteInteger i.bytes) k p) → Gives (store_integer k i p z s) (λ x r. IsKept w sites s.memory r.memory))
            → Gives ((all_placed w (place_of_write own assignment) (conditions_of (WriteInteger i.bytes) k p) >> store_integer k i p z) s)
            (λ x r. IsKept w sites s.memory r.memory)
        stores k h =
            gives-checked w (place_of_write own assignment) (conditions_of (WriteInteger i.bytes) k p) (store_integer k i p z) s
            (λ x r. IsKept w sites s.memory r.memory) h

        go : (k : Kind) → (AllHold w s.memory (asked_of i.bytes k p) → IsPlaceIn w s.memory depth k t p)
            → Gives ((all_placed w (place_of_write own assignment) (conditions_of (WriteInteger i.bytes) k p) >> store_integer k i p z) s)
            (λ x r. IsKept w sites s.memory r.memory)
        go Safe h = stores Safe (λ c. gives-stored_integer Safe safe≢wild p ordered (h c))
        go Rtti h = stores Rtti (λ c. gives-stored_integer Rtti rtti≢wild p ordered (h c))
        go Seq h = stores Seq (λ c. gives-stored_integer Seq seq≢wild p ordered (h c))
        go Wild h = stores Wild (λ c. gives-stored_integer_tagged p (h (c.0, tt)) c.0)

    -- through a pointer that may be held
    pub gives-written_integer : (own assignment : Place) (k : Kind) (p : Pointer) → AreOutlines w (outlines_of s.memory)
        → IsHeldIn w s.memory depth k t p
        → Gives (write w own assignment k t p (Integer z) s) (λ x r. IsKept w sites s.memory r.memory)
    gives-written_integer own assignment k p ordered held =
        written_integer own assignment k p ordered
        (λ c. held-place w sound (outlines_of s.memory) (lives_of s.memory) depth s.memory k t p (complete-data w.table sound t complete) held
        (subst (λ m. AllHold w s.memory (asked_of m k p)) (sym size) c))

    -- at a place
    pub gives-written_integer_place : (own assignment : Place) (k : Kind) (p : Pointer) → AreOutlines w (outlines_of s.memory)
        → IsPlaceIn w s.memory depth k t p
        → Gives (write w own assignment k t p (Integer z) s) (λ x r. IsKept w sites s.memory r.memory)
    gives-written_integer_place own assignment k p ordered place = written_integer own assignment k p ordered (λ c. place)
