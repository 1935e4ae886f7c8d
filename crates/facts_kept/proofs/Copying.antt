-- A struct or union that is copied, with its conditions: they stop it, or the memory stays sound.
use Rattle.std.proofs.Common.{◌≡◌, ◌≢◌, ℕ, zero, suc, ◌+◌, ◌<◌, ◌≤◌, ◌%◌, ℤ, pos, Bool, true, false, not, ◌&&◌, ◌||◌, cond, List, [], ◌∷◌, map, length, nat_le, slice_get, Option, Some, None, refl, ap, sym, subst, ◌∙◌, arith}
use Rattle.std.specs.Prelude.{is_some, is_none, slice_index_or}
use Rattle.std.specs.List.{filter, filter_map, cons_option, list_all, range_with_len}
use Rattle.std.specs.Int.{int_rem_euclid}
use Rattle.std.specs.Ordering.{int_eq}
use Rattle.std.proofs.lemmas.Bool.Decides.{nat_tests}
use Rattle.std.proofs.lemmas.Int.{ints}
use Rattle.std.proofs.lemmas.List.FromFn.{get_or-range_with_len, length-range_with_len}
use Rattle.std.proofs.lemmas.Option.{slice_get-get_or, slice_get_within}
use Rattle.cc_base.specs.declared.place.Place.{Place}
use Rattle.cc_base.specs.declared.number.TypeId.{TypeId}
use Rattle.cc_base.specs.declared.number.NodeId.{NodeId}
use Rattle.cc_base.specs.declared.kind.Kind.{Kind}
use Rattle.cc_base.specs.declared.kind.Kind.TheVariants.{Safe, Seq, Rtti, Wild}
use Rattle.kind_sites.specs.declared.site.Site.{Site}
use Rattle.c_types.specs.Table.{IsComplete, is_function, shape_at}
use Rattle.c_types.specs.Layouts.{size_of}
use Rattle.c_types.specs.Cells.{Cell, raw, pointer, mixed, incomplete, holds_pointer}
use Rattle.c_types.specs.Equality.{cells_of}
use Rattle.c_types.specs.Flows.{CellsAgree, pointer_at, pointer_in_cell, and_then}
use Rattle.c_types.specs.Sound.{IsWellFormed}
use Rattle.c_types.proofs.OrderedPointers.{cells_ordered, pointer_bytes}
use Rattle.runs.specs.Outcome.{done, leaves, allowed, either, from, ◌>>◌}
use Rattle.src_mem.specs.Pointers.{Location, Pointer, At}
use Rattle.src_mem.specs.Memory.{Object, Memory, with_copy, pointers_in, touches, depth_of, depth_of_object, holds_none, pointer_or_null, holds_pointer_at}
use Rattle.src_mem.specs.State.{State, Act, Setting, Wrong, touched}
use Rattle.src_mem.specs.Checks.{Condition, HoldsNone, IsAligned, InObject, Outlives, CopyFrom, CopyTo, Keep, conditions_of, checked, all_checked, holds, object_at}
use Rattle.src_mem.specs.Primitives.{access, with_object, load_pointer, copy}
use Rattle.src_mem.specs.Uses.{forward, load_pointers, keep_pointers, pointers_behind, held_from, pointer_offsets, copy_all}
use Rattle.src_mem.specs.Outlines.{outline, outlines_of, lives_of, AreOutlines}
use Rattle.src_mem.specs.Facts.{Reaches, IsHeldIn, IsPlaceIn, IsSoundObject, IsSoundMemory}
use Rattle.src_mem.specs.Laws.{Gives}
use Rattle.src_mem.proofs.Spots.{IsRight}
use Rattle.src_mem.proofs.PointersCopied.{moved_by, right_moved}
use Rattle.facts_kept.specs.Kept.{AllHold, asked_of, IsKept}
use Rattle.facts_kept.proofs.Lists.{outlines-set, lives-set}
use Rattle.type_laws.proofs.OneClass.{data-pointer}
use Rattle.facts_kept.proofs.Agree.{agree-turned, pointer-there}
use Rattle.facts_kept.proofs.Complete.{complete-some, complete-data}
use Rattle.facts_kept.proofs.NonePointers.{no-pointers}
use Rattle.facts_kept.proofs.Places.{held-place, reaches-more}
use Rattle.facts_kept.proofs.Stores.{sound-change, sound-copy, sound-tagged-copy}
use Rattle.facts_kept.proofs.Reading.{zero-holds}
use Rattle.facts_kept.proofs.Writing.{outlives, le-of}
use Rattle.facts_kept.proofs.Giving.{gives-from, gives-more, goes_on, gives-checked, gives-tried, gives-access}
use Rattle.facts_kept.proofs.PlaceSpots.{TypedSpot, TaggedSpot, typed-spot, tagged-spot}

-- Lists

range-at : (a n i : ℕ) → i < n → slice_get (range_with_len a n) i ≡ Some (a + i)
range-at a n i h =
    slice_get-get_or (range_with_len a n) i 0 (let l = length-range_with_len a n in omega (arith, l, h)) ∙ ap Some (get_or-range_with_len a n i 0 h)

all-at : {A : Type 0} (f : A → Bool) (xs : List A) (i : ℕ) (x : A) → list_all f xs ≡ true → slice_get xs i ≡ Some x → f x ≡ true
all-at f [] i x h e = absurd (cc (e))
all-at f (y ∷ xs) zero x h e = let g : y ≡ x = cc (e) in subst (λ z. f z ≡ true) g (left (f y) (list_all f xs) h)
  where
    left : (a b : Bool) → (a && b) ≡ true → a ≡ true
    left true b h = refl
    left false b h = h
all-at f (y ∷ xs) (suc i) x h e = all-at f xs i x (right (f y) (list_all f xs) h) e
  where
    right : (a b : Bool) → (a && b) ≡ true → b ≡ true
    right true b h = h
    right false b h = absurd (cc (h))

-- a condition on each thing that a list gives
mapped-at : {A : Type 0} (w : Setting) (memory : Memory) (f : A → Condition) (g : ℕ → Option A) (xs : List ℕ) (i x : ℕ) (a : A)
    → AllHold w memory (map f (filter_map g xs)) → slice_get xs i ≡ Some x → g x ≡ Some a → holds w memory (f a) ≡ true
mapped-at w memory f g [] i x a h e k = absurd (cc (e))
mapped-at {A} w memory f g (y ∷ xs) zero x a h e k = let z : y ≡ x = cc (e) in of (g y) (ap g z ∙ k) h
  where
    of : (r : Option A) → r ≡ Some a → AllHold w memory (map f (cons_option r (filter_map g xs))) → holds w memory (f a) ≡ true
    of None e h = absurd (cc (e))
    of (Some b) e h = let z : b ≡ a = cc (e) in subst (λ c. holds w memory (f c) ≡ true) z h.0
mapped-at {A} w memory f g (y ∷ xs) (suc i) x a h e k = mapped-at w memory f g xs i x a (of (g y) h) e k
  where
    of : (r : Option A) → AllHold w memory (map f (cons_option r (filter_map g xs))) → AllHold w memory (map f (filter_map g xs))
    of None h = h
    of (Some b) h = h.1

module _ (w : Setting) (sound : IsWellFormed w.table) (sites : List Site) (depth : ℕ) (t : TypeId) (complete : IsComplete w.table t) where
  long : length (cells_of w.table t) ≡ size_of w.table t
  long = (complete-some w.table sound t complete).1

  plain : is_function w.table t ≡ false
  plain = complete-data w.table sound t complete

  -- The copy itself

  copied-there : (k l : Kind) (ls lt : Location) (u : State) (o p : Object) (from at : ℕ) → IsRight k u.memory.objects ls (size_of w.table t) o from
      → IsRight l u.memory.objects lt (size_of w.table t) p at
      → IsSoundMemory w sites u.memory → IsSoundObject w sites (outlines_of u.memory) (lives_of u.memory) (with_copy (size_of w.table t) o from at p)
      → Gives (copy (size_of w.table t) k (At ls) l (At lt) u) (λ x r. IsKept w sites u.memory r.memory)
  copied-there k l ls lt u o p from at read right memory is =
      gives-access k ls (size_of w.table t)
      (λ x. access l (At lt) (size_of w.table t)
      (λ y. leaves (with_object y.number (with_copy (size_of w.table t) x.object x.at y.at y.object)))) u o from
      (λ x r. IsKept w sites u.memory r.memory) read
      (gives-access l lt (size_of w.table t) (λ y. leaves (with_object y.number (with_copy (size_of w.table t) o from y.at y.object)))
      (touched ls.object from (size_of w.table t) u) p at
      (λ x r. IsKept w sites u.memory r.memory) right
      (record {
        sound = sound-change w sites u.memory.objects lt.object p (with_copy (size_of w.table t) o from at p) memory right.found refl refl is;
        outlines = outlines-set u.memory.objects lt.object p (with_copy (size_of w.table t) o from at p) right.found refl;
        lives = lives-set u.memory.objects lt.object p (with_copy (size_of w.table t) o from at p) right.found refl;
      }))

  -- a pointer that passed ESCAPE outlives the target
  kept-older : (memory : Memory) (target : Pointer) (l : Location) (p : Object) (d : ℕ) (q : Pointer) → target ≡ At l
      → slice_get memory.objects l.object ≡ Some p → Reaches (lives_of memory) d q
      → holds w memory (Outlives target q) ≡ true → Reaches (lives_of memory) p.depth q
  kept-older memory target l p d q is found r c = outlives memory.objects d p.depth q r
      (le-of (depth_of memory.objects q) p.depth
      (sym
      (ap (λ y. nat_le (depth_of memory.objects q) (depth_of memory.objects y)) is ∙ ap
      (λ y. nat_le (depth_of memory.objects q) (depth_of_object y)) found)
      ∙ c))

  -- Between objects without tags

  module _ (k l : Kind) (kp : k ≢ Wild) (lp : l ≢ Wild) (source target : Pointer) where
    abbrev Keeps : (m : Memory) → TypedSpot w m depth k t (size_of w.table t) source → TypedSpot w m depth l t (size_of w.table t) target → Type 0
    Keeps m x y = (j : ℕ) (q : Pointer) → j + 8 ≤ size_of w.table t → x.object.pointers (x.at + j) ≡ Some q → Reaches (lives_of m) y.object.depth q

    typed-copy : (u : State) → IsSoundMemory w sites u.memory → AreOutlines w (outlines_of u.memory)
        → (x : TypedSpot w u.memory depth k t (size_of w.table t) source)
        → (y : TypedSpot w u.memory depth l t (size_of w.table t) target) → Keeps u.memory x y
        → Gives (copy (size_of w.table t) k source l target u) (λ a r. IsKept w sites u.memory r.memory)
    typed-copy u memory ordered x y keeps =
        subst (λ p. Gives (copy (size_of w.table t) k p l target u) (λ a r. IsKept w sites u.memory r.memory)) (sym x.is)
        (subst (λ p. Gives (copy (size_of w.table t) k (At x.location) l p u) (λ a r. IsKept w sites u.memory r.memory)) (sym y.is)
        (copied-there k l x.location y.location u x.object y.object x.at y.at x.right y.right memory
        (sound-copy w sound sites (outlines_of u.memory) (lives_of u.memory) t
        (size_of w.table t) x.object y.object x.at x.location.part.high y.at y.location.part.high long
        (memory.each x.location.object x.object x.right.found x.right.live)
        (memory.each y.location.object y.object y.right.found y.right.live) x.untagged y.untagged
        (ordered.ordered x.location.object (outline x.object) x.outlined x.untagged)
        (ordered.ordered y.location.object (outline y.object) y.outlined y.untagged)
        x.holds y.holds y.inside keeps)))

    -- The pointers of the source

    abbrev Begins : ℕ → Type 0
    Begins i = (node : NodeId) × (to : TypeId) × (slice_get (cells_of w.table t) i ≡ Some (pointer node to 0))

    begins-at : (i : ℕ) → is_some (pointer_at w.table t i) ≡ true → Begins i
    begins-at i h = of (slice_get (cells_of w.table t) i) refl (sym (ap is_some (data-pointer w.table t (shape_at w.table t) i plain)) ∙ h)
      where
        of : (r : Option Cell) → slice_get (cells_of w.table t) i ≡ r → is_some (and_then r pointer_in_cell) ≡ true
            → (node : NodeId) × (to : TypeId) × (slice_get (cells_of w.table t) i ≡ Some (pointer node to 0))
        of None e h = absurd (cc (h))
        of (Some raw) e h = absurd (cc (h))
        of (Some (mixed v j)) e h = absurd (cc (h))
        of (Some (incomplete v)) e h = absurd (cc (h))
        of (Some (pointer node to zero)) e h = (node, to, e)
        of (Some (pointer node to (suc j))) e h = absurd (cc (h))

    -- a cell that agrees with a pointer's first one is a pointer's first one
    first-agrees : (m : NodeId) (v : TypeId) (c : Cell) → CellsAgree w.table w.kind c (pointer m v 0)
        → (node : NodeId) × (to : TypeId) × (c ≡ pointer node to 0)
    first-agrees m v raw a = absurd a
    first-agrees m v (pointer node to j) a = (node, to, ap (pointer node to) a.0)
    first-agrees m v (mixed x j) a = absurd a
    first-agrees m v (incomplete x) a = absurd a

    one-loads : (u : State) → IsSoundMemory w sites u.memory → (x : TypedSpot w u.memory depth k t (size_of w.table t) source) → (i : ℕ)
        → is_some (pointer_at w.table t i) ≡ true
        → Gives (load_pointer k (forward i source) u) (λ q r. (r.memory ≡ u.memory) × (q ≡ pointer_or_null (x.object.pointers (x.at + i))))
    one-loads u memory x i h =
        let b = begins-at i h in
        let whole = slice_get_within (cells_of w.table t) (i + 7) (pointer b.0 b.1 7)
        (pointer_bytes (cells_of w.table t) i b.0 b.1 (cells_ordered w.table sound t) b.2 7 (omega arith)) in
        let a = x.holds.agree i (pointer b.0 b.1 0) b.2 in
        let f = first-agrees b.0 b.1 a.0 a.2 in
        let found : slice_get x.object.cells (x.at + i) ≡ Some (pointer f.0 f.1 0) = a.1 ∙ ap Some f.2 in
        let is = memory.each x.location.object x.object x.right.found x.right.live in
        let there = zero-holds w sound sites x.object (x.at + i) (is.zeros x.untagged (x.at + i) f.0 f.1 found) in
        let right = right_moved k u.memory.objects x.location (size_of w.table t) i x.object x.at x.right (let l = long in omega (arith, whole, l)) in
        subst (λ p. Gives (load_pointer k (forward i p) u) (λ q r. (r.memory ≡ u.memory) × (q ≡ pointer_or_null (x.object.pointers (x.at + i)))))
        (sym x.is)
        (gives-access k (moved_by i x.location) 8
        (λ at. allowed (holds_pointer_at at.at at.object) Wrong (done (pointer_or_null (at.object.pointers at.at)))) u x.object (x.at + i)
        (λ q r. (r.memory ≡ u.memory) × (q ≡ pointer_or_null (x.object.pointers (x.at + i)))) right
        (subst
        (λ b. Gives (allowed b Wrong (done (pointer_or_null (x.object.pointers (x.at + i)))) (touched x.location.object (x.at + i) 8 u))
        (λ q r. (r.memory ≡ u.memory) × (q ≡ pointer_or_null (x.object.pointers (x.at + i)))))
        (sym there)
        (refl, refl)))

    -- all of them are loaded, and each passes ESCAPE
    abbrev Passed : Memory → Object → ℕ → List ℕ → Type 0
    Passed m o at is =
        (j i : ℕ) → slice_get is j ≡ Some i → is_some (pointer_at w.table t i) ≡ true → holds w m
        (Outlives target (pointer_or_null (o.pointers (at + i)))) ≡ true

    abbrev PassedIn : Memory → Object → ℕ → List ℕ → State → Type 0
    PassedIn m o at is r = (r.memory ≡ m) × Passed m o at is

    loads-pass : (place : Place) (is : List ℕ) (u : State) → IsSoundMemory w sites u.memory
        → (x : TypedSpot w u.memory depth k t (size_of w.table t) source)
        → Gives (load_pointers w place k source target (filter (λ i. is_some (pointer_at w.table t i)) is) u)
        (λ a r. PassedIn u.memory x.object x.at is r)
    loads-pass place [] u memory x = (refl, λ j i e h. absurd (cc (e)))
    loads-pass place (i ∷ is) u memory x = by (loads-pass place is) (is_some (pointer_at w.table t i)) refl
      where
        rest : ((v : State) → IsSoundMemory w sites v.memory → (z : TypedSpot w v.memory depth k t (size_of w.table t) source)
            → Gives (load_pointers w place k source target (filter (λ i. is_some (pointer_at w.table t i)) is) v)
            (λ a r. PassedIn v.memory z.object z.at is r))
            → (r : State) → r.memory ≡ u.memory
            → Gives (load_pointers w place k source target (filter (λ i. is_some (pointer_at w.table t i)) is) r)
            (λ a v. PassedIn u.memory x.object x.at is v)
        rest go r e =
            let y = subst
            (λ m. IsSoundMemory w sites m × ((z : TypedSpot w m depth k t (size_of w.table t) source) × (z.object ≡ x.object) × (z.at ≡ x.at)))
            (sym e) (memory, (x, refl, refl)) in
            gives-more (λ a v. (v.memory ≡ r.memory) × Passed r.memory y.1.0.object y.1.0.at is) (λ a v. PassedIn u.memory x.object x.at is v)
            (load_pointers w place k source target (filter (λ i. is_some (pointer_at w.table t i)) is) r)
            (go r y.0 y.1.0)
            (λ a v p. (
              p.0 ∙ e,
              λ j i g h. subst (λ m. holds w m (Outlives target (pointer_or_null (x.object.pointers (x.at + i)))) ≡ true) e
                  (subst (λ (o : Object). holds w r.memory (Outlives target (pointer_or_null (o.pointers (x.at + i)))) ≡ true) y.1.1
                  (subst (λ at. holds w r.memory (Outlives target (pointer_or_null (y.1.0.object.pointers (at + i)))) ≡ true) y.1.2 (p.1 j i g h))),
            ))

        by : ((v : State) → IsSoundMemory w sites v.memory → (z : TypedSpot w v.memory depth k t (size_of w.table t) source)
            → Gives (load_pointers w place k source target (filter (λ i. is_some (pointer_at w.table t i)) is) v)
            (λ a r. PassedIn v.memory z.object z.at is r))
            → (b : Bool) → is_some (pointer_at w.table t i) ≡ b
            → Gives
            (load_pointers w place k source target
            (cond b (i ∷ filter (λ i. is_some (pointer_at w.table t i)) is) (filter (λ i. is_some (pointer_at w.table t i)) is)) u)
            (λ a r. PassedIn u.memory x.object x.at (i ∷ is) r)
        by go false e =
            gives-more (λ a v. PassedIn u.memory x.object x.at is v) (λ a v. PassedIn u.memory x.object x.at (i ∷ is) v)
            (load_pointers w place k source target (filter (λ i. is_some (pointer_at w.table t i)) is) u) (rest go u refl)
            (λ a v p. (p.0, λ j l g h. later v p j l g h))
          where
            later : (v : State) → PassedIn u.memory x.object x.at is v → (j l : ℕ) → slice_get (i ∷ is) j ≡ Some l
                → is_some (pointer_at w.table t l) ≡ true → holds w u.memory (Outlives target (pointer_or_null (x.object.pointers (x.at + l)))) ≡ true
            later v p zero l g h =
                absurd
                (let z : i ≡ l = cc (g) in let y : is_some (pointer_at w.table t l) ≡ false = ap (λ m. is_some (pointer_at w.table t m)) (sym z)
                ∙ e in cc (y, h))
            later v p (suc j) l g h = p.1 j l g h
        by go true e =
            gives-from (λ q r. (r.memory ≡ u.memory) × (q ≡ pointer_or_null (x.object.pointers (x.at + i))))
            (λ a r. PassedIn u.memory x.object x.at (i ∷ is) r) (load_pointer k (forward i source) u)
            (λ q. checked w place (Outlives target q) >> load_pointers w place k source target (filter (λ i. is_some (pointer_at w.table t i)) is))
            (one-loads u memory x i e)
            (λ q r p. gives-tried w place (Outlives target q)
            (load_pointers w place k source target (filter (λ i. is_some (pointer_at w.table t i)) is)) r
            (λ a v. PassedIn u.memory x.object x.at (i ∷ is) v)
            (λ c. gives-more (λ a v. PassedIn u.memory x.object x.at is v) (λ a v. PassedIn u.memory x.object x.at (i ∷ is) v)
            (load_pointers w place k source target (filter (λ i. is_some (pointer_at w.table t i)) is) r) (rest go r p.0)
            (λ a v z. (
              z.0,
              λ j l g h. later v z
                  (subst (λ m. holds w m (Outlives target (pointer_or_null (x.object.pointers (x.at + i)))) ≡ true) p.0
                  (subst (λ y. holds w r.memory (Outlives target y) ≡ true) p.1 c)) j l g h,
            ))))
          where
            later : (v : State) → PassedIn u.memory x.object x.at is v
                → holds w u.memory (Outlives target (pointer_or_null (x.object.pointers (x.at + i)))) ≡ true → (j l : ℕ)
                → slice_get (i ∷ is) j ≡ Some l → is_some (pointer_at w.table t l) ≡ true
                → holds w u.memory (Outlives target (pointer_or_null (x.object.pointers (x.at + l)))) ≡ true
            later v p here zero l g h =
                let z : i ≡ l = cc (g) in subst
                (λ m. holds w u.memory (Outlives target (pointer_or_null (x.object.pointers (x.at + m)))) ≡ true) z here
            later v p here (suc j) l g h = p.1 j l g h

    -- where a pointer is stored the type has one
    stored-begins : (u : State) → IsSoundMemory w sites u.memory → (x : TypedSpot w u.memory depth k t (size_of w.table t) source)
        → (j : ℕ) (q : Pointer) → j + 8 ≤ size_of w.table t
        → x.object.pointers (x.at + j) ≡ Some q → (node : NodeId) × (to : TypeId) × (slice_get (cells_of w.table t) j ≡ Some (pointer node to 0))
    stored-begins u memory x j q room e =
        let is = memory.each x.location.object x.object x.right.found x.right.live in
        let st = is.typed x.untagged (x.at + j) q e in
        let d = slice_index_or (cells_of w.table t) j raw in
        let f : slice_get (cells_of w.table t) j ≡ Some d = slice_get-get_or (cells_of w.table t) j raw (let m = long in omega (arith, room, m)) in
        let a = x.holds.agree j d f in
        let same : a.0 ≡ pointer st.node st.to 0 = (let g = a.1 in let h = st.begins in cc (g, h)) in
        let b = first-agrees st.node st.to d
        (agree-turned w sound (pointer st.node st.to 0) d (subst (λ c. CellsAgree w.table w.kind c d) same a.2)) in
        (b.0, b.1, f ∙ ap Some b.2)

    -- so each pointer that comes along outlives the target
    keeps-passed : (u : State) → IsSoundMemory w sites u.memory → (x : TypedSpot w u.memory depth k t (size_of w.table t) source)
        → (y : TypedSpot w u.memory depth l t (size_of w.table t) target)
        →
        ((j : ℕ) (q : Pointer) → j + 8 ≤ size_of w.table t → x.object.pointers (x.at + j) ≡ Some q → is_some (pointer_at w.table t j) ≡ true
        → holds w u.memory (Outlives target q) ≡ true)
        → Keeps u.memory x y
    keeps-passed u memory x y passed j q room e =
        let is = memory.each x.location.object x.object x.right.found x.right.live in
        let b = stored-begins u memory x j q room e in
        kept-older u.memory target y.location y.object depth q y.is y.right.found
        (reaches-more w sound (outlines_of u.memory) (lives_of u.memory) x.object.depth depth q x.older (is.reaches (x.at + j) q e))
        (passed j q room e (ap is_some (pointer-there w.table t plain j b.0 b.1 b.2)))

    abbrev Ready : (s : State) (x : TypedSpot w s.memory depth k t (size_of w.table t) source)
        (y : TypedSpot w s.memory depth l t (size_of w.table t) target)
        → State → Type 0
    Ready s x y u = (u.memory ≡ s.memory) × Keeps s.memory x y

    loads-ready : (place : Place) (s : State) → IsSoundMemory w sites s.memory
        → (x : TypedSpot w s.memory depth k t (size_of w.table t) source) (y : TypedSpot w s.memory depth l t (size_of w.table t) target)
        → Gives (load_pointers w place k source target (pointer_offsets w.table t) s) (λ a u. Ready s x y u)
    loads-ready place s memory x y =
        gives-more (λ a r. PassedIn s.memory x.object x.at (range_with_len 0 (length (cells_of w.table t))) r) (λ a u. Ready s x y u)
        (load_pointers w place k source target (pointer_offsets w.table t) s)
        (loads-pass place (range_with_len 0 (length (cells_of w.table t))) s memory x)
        (λ a u p. (
          p.0,
          keeps-passed s memory x y (λ j q room e h. subst (λ r. holds w s.memory (Outlives target (pointer_or_null r)) ≡ true) e
              (p.1 j j
              (range-at 0 (length (cells_of w.table t)) j (let m = long in omega (arith, room, m)) ∙
              (let z : 0 + j ≡ j = omega arith in ap Some z)) h)),
        ))

    between : (place : Place) (b : Bool) → holds_pointer w.table t ≡ b → (s : State) → IsSoundMemory w sites s.memory
        → (x : TypedSpot w s.memory depth k t (size_of w.table t) source)
        (y : TypedSpot w s.memory depth l t (size_of w.table t) target)
        → Gives (either b (keep_pointers w place k source target t) (done tt) s) (λ a u. Ready s x y u)
    between place false e s memory x y =
        (refl, keeps-passed s memory x y (λ j q room f h. absurd (let b = begins-at j h in no-pointers w.table sound t e j b.0 b.1 0 b.2)))
    between place true e s memory x y = by k kp (loads-ready place s memory x y)
      where
        by : (c : Kind) → c ≢ Wild → Gives (load_pointers w place c source target (pointer_offsets w.table t) s) (λ a u. Ready s x y u)
            → Gives (keep_pointers w place c source target t s) (λ a u. Ready s x y u)
        by Safe n h = h
        by Seq n h = h
        by Rtti n h = h
        by Wild n h = absurd (n refl)

    -- what a copy's side is once its conditions held
    abbrev BecomesPlace : State → Kind → Pointer → Type 0
    BecomesPlace s c p = AllHold w s.memory (asked_of (size_of w.table t) c p) → IsPlaceIn w s.memory depth c t p

    copied-between : (source_place target_place place : Place) (s : State) → IsSoundMemory w sites s.memory → AreOutlines w (outlines_of s.memory)
        → BecomesPlace s k source → BecomesPlace s l target
        → Gives (copy_all w t source_place k source target_place l target place s) (λ a r. IsKept w sites s.memory r.memory)
    copied-between source_place target_place place s memory ordered a b =
        gives-checked w (λ c. source_place) (conditions_of (CopyFrom (holds_pointer w.table t) (size_of w.table t)) k source)
        (all_checked w target_place (conditions_of (CopyTo (holds_pointer w.table t) (size_of w.table t)) l target) >> rest) s
        (λ a r. IsKept w sites s.memory r.memory)
        (λ h. gives-checked w (λ c. target_place) (conditions_of (CopyTo (holds_pointer w.table t) (size_of w.table t)) l target) rest s
        (λ a r. IsKept w sites s.memory r.memory)
        (λ g. go (spot k kp source a (from-asked k kp source (holds_pointer w.table t) h))
        (spot l lp target b (to-asked l lp target (holds_pointer w.table t) g))))
      where
        rest : Act (Unit {0})
        rest = either (holds_pointer w.table t) (keep_pointers w place k source target t) (done tt) >> copy (size_of w.table t) k source l target

        from-asked : (c : Kind) → c ≢ Wild → (p : Pointer) (b : Bool) → AllHold w s.memory (conditions_of (CopyFrom b (size_of w.table t)) c p)
            → AllHold w s.memory (asked_of (size_of w.table t) c p)
        from-asked Safe n p true h = h
        from-asked Safe n p false h = h
        from-asked Rtti n p true h = h
        from-asked Rtti n p false h = h
        from-asked Seq n p true h = h
        from-asked Seq n p false h = h
        from-asked Wild n p b h = absurd (n refl)

        to-asked : (c : Kind) → c ≢ Wild → (p : Pointer) (b : Bool) → AllHold w s.memory (conditions_of (CopyTo b (size_of w.table t)) c p)
            → AllHold w s.memory (asked_of (size_of w.table t) c p)
        to-asked Safe n p true h = h
        to-asked Safe n p false h = h
        to-asked Rtti n p true h = h
        to-asked Rtti n p false h = h
        to-asked Seq n p true h = h
        to-asked Seq n p false h = h
        to-asked Wild n p b h = absurd (n refl)

        spot : (c : Kind) → c ≢ Wild → (p : Pointer) → BecomesPlace s c p → AllHold w s.memory (asked_of (size_of w.table t) c p)
            → TypedSpot w s.memory depth c t (size_of w.table t) p
        spot c n p place h = typed-spot w s.memory depth c t (size_of w.table t) p n (let m = long in omega (arith, m)) (place h)

        final : (x : TypedSpot w s.memory depth k t (size_of w.table t) source) (y : TypedSpot w s.memory depth l t (size_of w.table t) target)
            (u : State)
            → Ready s x y u
            → Gives (copy (size_of w.table t) k source l target u) (λ a r. IsKept w sites s.memory r.memory)
        final x y u ready =
            let all = subst
            (λ m. IsSoundMemory w sites m × AreOutlines w (outlines_of m) ×
            ((v : TypedSpot w m depth k t (size_of w.table t) source) × (z : TypedSpot w m depth l t (size_of w.table t) target)
            × Keeps m v z))
            (sym ready.0) (memory, ordered, (x, y, ready.1)) in
            gives-more (λ a r. IsKept w sites u.memory r.memory) (λ a r. IsKept w sites s.memory r.memory)
            (copy (size_of w.table t) k source l target u)
            (typed-copy u all.0 all.1 all.2.0 all.2.1 all.2.2) (λ a r kept. subst (λ m. IsKept w sites m r.memory) ready.0 kept)

        go : TypedSpot w s.memory depth k t (size_of w.table t) source → TypedSpot w s.memory depth l t (size_of w.table t) target
            → Gives (rest s) (λ a r. IsKept w sites s.memory r.memory)
        go x y =
            gives-from (λ a u. Ready s x y u) (λ a r. IsKept w sites s.memory r.memory)
            (either (holds_pointer w.table t) (keep_pointers w place k source target t) (done tt) s)
            (λ a. copy (size_of w.table t) k source l target) (between place (holds_pointer w.table t) refl s memory x y)
            (λ a u ready. final x y u ready)

    held-becomes : (s : State) (c : Kind) (p : Pointer) → IsHeldIn w s.memory depth c t p → BecomesPlace s c p
    held-becomes s c p held h = held-place w sound (outlines_of s.memory) (lives_of s.memory) depth s.memory c t p plain held h

    pub gives-copied : (source_place target_place place : Place) (s : State) → IsSoundMemory w sites s.memory → AreOutlines w (outlines_of s.memory)
        → IsHeldIn w s.memory depth k t source → IsHeldIn w s.memory depth l t target
        → Gives (copy_all w t source_place k source target_place l target place s) (λ a r. IsKept w sites s.memory r.memory)
    gives-copied source_place target_place place s memory ordered a b =
        copied-between source_place target_place place s memory ordered (held-becomes s k source a) (held-becomes s l target b)

    -- to a place
    pub gives-copied_to : (source_place target_place place : Place) (s : State) → IsSoundMemory w sites s.memory → AreOutlines w (outlines_of s.memory)
        → IsHeldIn w s.memory depth k t source → IsPlaceIn w s.memory depth l t target
        → Gives (copy_all w t source_place k source target_place l target place s) (λ a r. IsKept w sites s.memory r.memory)
    gives-copied_to source_place target_place place s memory ordered a b =
        copied-between source_place target_place place s memory ordered (held-becomes s k source a) (λ h. b)

  -- Between objects with tags

  module _ (source target : Pointer) where
    abbrev TaggedKeeps : (m : Memory) → TaggedSpot w m depth (size_of w.table t) source → TaggedSpot w m depth (size_of w.table t) target → Type 0
    TaggedKeeps m x y =
        (j : ℕ) (q : Pointer) → j + 8 ≤ size_of w.table t → x.object.pointers (x.at + j) ≡ Some q
        → ((y.at + j) % 8 ≡ 0) × Reaches (lives_of m) y.object.depth q

    tagged-copy : (s : State) → IsSoundMemory w sites s.memory → (x : TaggedSpot w s.memory depth (size_of w.table t) source)
        → (y : TaggedSpot w s.memory depth (size_of w.table t) target)
        → TaggedKeeps s.memory x y → Gives (copy (size_of w.table t) Wild source Wild target s) (λ a r. IsKept w sites s.memory r.memory)
    tagged-copy s memory x y keeps =
        subst (λ p. Gives (copy (size_of w.table t) Wild p Wild target s) (λ a r. IsKept w sites s.memory r.memory)) (sym x.is)
        (subst (λ p. Gives (copy (size_of w.table t) Wild (At x.location) Wild p s) (λ a r. IsKept w sites s.memory r.memory)) (sym y.is)
        (copied-there Wild Wild x.location y.location s x.object y.object x.at y.at x.right y.right memory
        (sound-tagged-copy w sound sites (outlines_of s.memory) (lives_of s.memory) (size_of w.table t) x.object y.object x.at y.at
        (memory.each x.location.object x.object x.right.found x.right.live)
        (memory.each y.location.object y.object y.right.found y.right.live) x.tagged y.tagged y.inside
        (λ j q room e. (keeps j q room e).0) (λ j q room e. (keeps j q room e).1))))

    multiple : (z : ℤ) (a : ℕ) → z ≡ pos a → int_eq (int_rem_euclid z (pos 8)) (pos 0) ≡ true → a % 8 ≡ 0
    multiple z a e h = of a (ap (λ y. int_eq (int_rem_euclid y (pos 8)) (pos 0)) (sym e) ∙ h)
      where
        of : (k : ℕ) → int_eq (int_rem_euclid (pos k) (pos 8)) (pos 0) ≡ true → k % 8 ≡ 0
        of k h = grind (arith, ints)

    -- where TAG held, no pointer comes along
    none-keeps : (s : State) (x : TaggedSpot w s.memory depth (size_of w.table t) source) (y : TaggedSpot w s.memory depth (size_of w.table t) target)
        → holds w s.memory (HoldsNone (size_of w.table t) source) ≡ true → TaggedKeeps s.memory x y
    none-keeps s x y h j q room e =
        absurd
        (none x.at (x.at + j) (size_of w.table t) (omega arith) (omega (arith, room)) e
        (all-at (λ k. not (touches (size_of w.table t) x.at k) || is_none (x.object.pointers k))
        (range_with_len 0 (x.at + size_of w.table t)) (x.at + j) (x.at + j) there
        (range-at 0 (x.at + size_of w.table t) (x.at + j) (omega (arith, room)) ∙
        (let z : 0 + (x.at + j) ≡ x.at + j = omega arith in ap Some z))))
      where
        there : holds_none (size_of w.table t) x.at x.object ≡ true
        there =
            let c : holds w s.memory (HoldsNone (size_of w.table t) (At x.location)) ≡ true = subst
            (λ p. holds w s.memory (HoldsNone (size_of w.table t) p) ≡ true) x.is h in
            sym
            (ap (λ r. object_at r x.location.offset (holds_none (size_of w.table t))) x.right.found ∙ ap
            (λ z. object_at (Some x.object) z (holds_none (size_of w.table t))) x.right.offset)
            ∙ c

        touched-there : (a k m : ℕ) → a ≤ k → k + 8 ≤ a + m → touches m a k ≡ true
        touched-there a k m l r = grind (arith, nat_tests)

        none : (a k m : ℕ) → a ≤ k → k + 8 ≤ a + m → x.object.pointers k ≡ Some q → (not (touches m a k) || is_none (x.object.pointers k)) ≡ true
            → Prim.⊥
        none a k m l r e c =
            let z : (not true || is_none (Some q)) ≡ true = sym
            (ap (λ b. not b || is_none (x.object.pointers k)) (touched-there a k m l r) ∙ ap (λ p. not true || is_none p) e) ∙ c in cc (z)

    -- where ESCAPE held for each pointer of the source, and ALIGN for both sides
    all-keeps : (s : State) → IsSoundMemory w sites s.memory
        → (x : TaggedSpot w s.memory depth (size_of w.table t) source) (y : TaggedSpot w s.memory depth (size_of w.table t) target)
        → holds w s.memory (IsAligned source) ≡ true → holds w s.memory (IsAligned target) ≡ true
        → AllHold w s.memory (conditions_of (Keep (pointers_behind s.memory.objects source (size_of w.table t))) Wild target)
        → TaggedKeeps s.memory x y
    all-keeps s memory x y from-aligned to-aligned kept j q room e =
        let is = memory.each x.location.object x.object x.right.found x.right.live in
        let a = multiple x.location.offset x.at x.right.offset (subst (λ p. holds w s.memory (IsAligned p) ≡ true) x.is from-aligned) in
        let b = multiple y.location.offset y.at y.right.offset (subst (λ p. holds w s.memory (IsAligned p) ≡ true) y.is to-aligned) in
        let c = (is.tagged x.tagged (x.at + j) q e).aligned in
        let same : pointers_behind s.memory.objects source (size_of w.table t) ≡ pointers_in (size_of w.table t) x.at x.object =
        ap (λ p. pointers_behind s.memory.objects p (size_of w.table t)) x.is ∙ ap
        (λ r. held_from r x.location.offset (size_of w.table t)) x.right.found ∙ ap
        (λ z. held_from (Some x.object) z (size_of w.table t)) x.right.offset in
        let d = mapped-at w s.memory (Outlives target) x.object.pointers (range_with_len x.at (size_of w.table t)) j (x.at + j) q
        (subst (λ qs. AllHold w s.memory (map (Outlives target) qs)) same kept)
        (range-at x.at (size_of w.table t) j (omega (arith, room))) e in (
          omega (arith, a, b, c),
          kept-older s.memory target y.location y.object depth q y.is y.right.found
              (reaches-more w sound (outlines_of s.memory) (lives_of s.memory) x.object.depth depth q x.older (is.reaches (x.at + j) q e)) d,
        )

    -- what a copy's side is once its WBOUNDS held
    abbrev BecomesWild : State → Pointer → Type 0
    BecomesWild s p = holds w s.memory (InObject (size_of w.table t) p) ≡ true → IsPlaceIn w s.memory depth Wild t p

    copied-tagged : (source_place target_place place : Place) (s : State) → IsSoundMemory w sites s.memory → BecomesWild s source → BecomesWild s target
        → Gives (copy_all w t source_place Wild source target_place Wild target place s) (λ a r. IsKept w sites s.memory r.memory)
    copied-tagged source_place target_place place s memory a b = by (holds_pointer w.table t)
      where
        spot : (p : Pointer) → BecomesWild s p → holds w s.memory (InObject (size_of w.table t) p) ≡ true
            → TaggedSpot w s.memory depth (size_of w.table t) p
        spot p place h = tagged-spot w s.memory depth t (size_of w.table t) p (place h) h

        by : (b : Bool)
            → Gives
            ((all_checked w source_place (conditions_of (CopyFrom b (size_of w.table t)) Wild source) >>
            (all_checked w target_place (conditions_of (CopyTo b (size_of w.table t)) Wild target)
            >>
            (either b (keep_pointers w place Wild source target t) (done tt) >> copy
            (size_of w.table t) Wild source Wild target))) s) (λ a r. IsKept w sites s.memory r.memory)
        by false = gives-checked w (λ c. source_place) (conditions_of (CopyFrom false (size_of w.table t)) Wild source)
            (all_checked w target_place (conditions_of (CopyTo false (size_of w.table t)) Wild target) >>
            (goes_on >> copy (size_of w.table t) Wild source Wild target)) s (λ a r. IsKept w sites s.memory r.memory)
            (λ h. gives-checked w (λ c. target_place) (conditions_of (CopyTo false (size_of w.table t)) Wild target)
            (goes_on >> copy (size_of w.table t) Wild source Wild target) s (λ a r. IsKept w sites s.memory r.memory)
            (λ g. let x = spot source a h.0 in let y = spot target b g.0 in tagged-copy s memory x y (none-keeps s x y h.1.0)))
        by true = gives-checked w (λ c. source_place) (conditions_of (CopyFrom true (size_of w.table t)) Wild source)
            (all_checked w target_place (conditions_of (CopyTo true (size_of w.table t)) Wild target) >>
            (keep_pointers w place Wild source target t >> copy
            (size_of w.table t) Wild source Wild target)) s (λ a r. IsKept w sites s.memory r.memory)
            (λ h. gives-checked w (λ c. target_place) (conditions_of (CopyTo true (size_of w.table t)) Wild target)
            (keep_pointers w place Wild source target t >> copy (size_of w.table t) Wild source Wild target) s
            (λ a r. IsKept w sites s.memory r.memory)
            (λ g. gives-checked w (λ c. place) (conditions_of (Keep (pointers_behind s.memory.objects source (size_of w.table t))) Wild target)
            (copy (size_of w.table t) Wild source Wild target) s (λ a r. IsKept w sites s.memory r.memory)
            (λ kept. let x = spot source a h.0 in let y = spot target b g.0 in tagged-copy s memory x y (all-keeps s memory x y h.1.0 g.1.0 kept))))

    held-wild : (s : State) (p : Pointer) → IsHeldIn w s.memory depth Wild t p → BecomesWild s p
    held-wild s p held h = held-place w sound (outlines_of s.memory) (lives_of s.memory) depth s.memory Wild t p plain held (h, tt)

    pub gives-copied_tagged : (source_place target_place place : Place) (s : State) → IsSoundMemory w sites s.memory
        → IsHeldIn w s.memory depth Wild t source → IsHeldIn w s.memory depth Wild t target
        → Gives (copy_all w t source_place Wild source target_place Wild target place s) (λ a r. IsKept w sites s.memory r.memory)
    gives-copied_tagged source_place target_place place s memory a b =
        copied-tagged source_place target_place place s memory (held-wild s source a) (held-wild s target b)

    pub gives-copied_tagged_to : (source_place target_place place : Place) (s : State) → IsSoundMemory w sites s.memory
        → IsHeldIn w s.memory depth Wild t source → IsPlaceIn w s.memory depth Wild t target
        → Gives (copy_all w t source_place Wild source target_place Wild target place s) (λ a r. IsKept w sites s.memory r.memory)
    gives-copied_tagged_to source_place target_place place s memory a b =
        copied-tagged source_place target_place place s memory (held-wild s source a) (λ h. b)
