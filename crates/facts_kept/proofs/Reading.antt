-- A read through a held pointer isn't wrong, and gives a value of its type; a load asks for a place alone.
use Rattle.std.proofs.Common.{◌≡◌, ◌≢◌, ℕ, pos, Bool, true, false, ◌||◌, List, [], ◌∷◌, length, Some, refl, ap, sym, subst, ◌∙◌, arith}
use Rattle.std.specs.Prelude.{is_some, ◌==◌}
use Rattle.cc_base.specs.declared.place.Place.{Place}
use Rattle.cc_base.specs.declared.number.TypeId.{TypeId}
use Rattle.cc_base.specs.declared.number.NodeId.{NodeId}
use Rattle.cc_base.specs.declared.kind.Kind.{Kind}
use Rattle.cc_base.specs.declared.kind.Kind.TheVariants.{Safe, Seq, Rtti, Wild}
use Rattle.kind_sites.specs.declared.site.Site.{Site}
use Rattle.c_types.specs.declared.shape.TypeShape.TheVariants as shape
use Rattle.c_types.specs.Table.{shape_at}
use Rattle.c_types.specs.Equality.{cells_of}
use Rattle.kind_sites.specs.Solutions.{SpreadsWild}
use Rattle.c_types.specs.Sound.{IsWellFormed}
use Rattle.flat_mem.specs.Bytes.{number}
use Rattle.integers.specs.Arithmetic.{IntegerType, converted}
use Rattle.runs.specs.Outcome.{done, allowed, from, ◌>>=◌}
use Rattle.src_mem.specs.Pointers.{Location, Pointer, At, Integer, Address}
use Rattle.src_mem.specs.Memory.{Object, holds_pointer_at, pointer_or_null}
use Rattle.src_mem.specs.State.{Wrong, State, Setting, touched}
use Rattle.src_mem.specs.Checks.{InObject, HoldsPointer, IsAligned, ReadInteger, ReadPointer, conditions_of, holds, object_at}
use Rattle.src_mem.specs.Primitives.{load_integer, load_pointer}
use Rattle.src_mem.specs.Uses.{read_shape, read}
use Rattle.src_mem.specs.Outlines.{outlines_of, lives_of}
use Rattle.src_mem.specs.Facts.{IsMade, IsHeldIn, IsPlaceIn, IsSoundMemory}
use Rattle.src_mem.specs.Laws.{Gives}
use Rattle.src_mem.proofs.Spots.{IsRight}
use Rattle.src_mem.proofs.Right.{no_function, pointer_size, pointer_cells_are, integer_cells, safe≢wild, seq≢wild, rtti≢wild}
use Rattle.src_mem.proofs.CallsRight.{integer_size}
use Rattle.facts_kept.specs.Kept.{GivesPointer, GivesAddress, GivesInteger, GivesIntegerValue, AllHold, asked_of}
use Rattle.facts_kept.proofs.Places.{held-place, loaded-typed, loaded-tagged, spread, stands-pointer}
use Rattle.facts_kept.proofs.Giving.{gives-from, gives-checked, gives-access}
use Rattle.facts_kept.proofs.PlaceSpots.{TypedSpot, TaggedSpot, typed-spot, tagged-spot}

module _ (w : Setting) (sound : IsWellFormed w.table) (sites : List Site) where
  -- Pointers

  -- a word that is zero where nothing is stored holds a pointer
  pub zero-holds : (o : Object) (at : ℕ) → number 8 o.bytes at ≡ 0 → holds_pointer_at at o ≡ true
  zero-holds o at e = ap (λ n. is_some (o.pointers at) || (n == 0)) e ∙ any (is_some (o.pointers at))
    where
      any : (b : Bool) → (b || (0 == 0)) ≡ true
      any true = refl
      any false = refl

  loaded-there : (k : Kind) (l : Location) (s : State) (o : Object) (at depth : ℕ) (c : Kind) (u : TypeId) → IsRight k s.memory.objects l 8 o at
      → holds_pointer_at at o ≡ true
      → IsHeldIn w s.memory depth c u (pointer_or_null (o.pointers at)) × IsMade sites (pointer_or_null (o.pointers at))
      → Gives (load_pointer k (At l) s) (GivesPointer w sites depth c u s)
  loaded-there k l s o at depth c u right there held =
      gives-access k l 8 (λ at. allowed (holds_pointer_at at.at at.object) Wrong (done (pointer_or_null (at.object.pointers at.at)))) s o at
      (GivesPointer w sites depth c u s) right
      (subst (λ b. Gives (allowed b Wrong (done (pointer_or_null (o.pointers at))) (touched l.object at 8 s)) (GivesPointer w sites depth c u s))
      (sym there)
      (record { memory = refl; held = held.0; made = held.1 }))

  module _ (t u : TypeId) (m : NodeId) (e : shape_at w.table t ≡ shape.Pointer m u) (s : State) (depth : ℕ)
      (memory : IsSoundMemory w sites s.memory) where
    eight : length (cells_of w.table t) ≡ 8
    eight = ap length (pointer_cells_are w.table t m u e)

    pub gives-loaded : (k : Kind) → k ≢ Wild → (p : Pointer) → IsPlaceIn w s.memory depth k t p
        → Gives (load_pointer k p s) (GivesPointer w sites depth (w.kind m) u s)
    gives-loaded k plain p h = of (typed-spot w s.memory depth k t 8 p plain (let n = eight in omega (arith, n)) h)
      where
        of : TypedSpot w s.memory depth k t 8 p → Gives (load_pointer k p s) (GivesPointer w sites depth (w.kind m) u s)
        of x =
            let is = memory.each x.location.object x.object x.right.found x.right.live in
            let st = stands-pointer w sound (outlines_of s.memory) t u m x.object.cells x.at x.location.part.high e x.holds in
            subst (λ q. Gives (load_pointer k q s) (GivesPointer w sites depth (w.kind m) u s)) (sym x.is)
            (loaded-there k x.location s x.object x.at depth (w.kind m) u x.right
            (zero-holds x.object x.at (is.zeros x.untagged x.at st.node st.to st.found))
            (loaded-typed w sound (outlines_of s.memory) sites
            (lives_of s.memory) depth t u m x.object x.at x.location.part.high e is x.untagged x.older x.holds))

    pub gives-loaded_tagged : (n : NodeId) → SpreadsWild w.table w.kind n t → w.kind n ≡ Wild → (p : Pointer) → IsPlaceIn w s.memory depth Wild t p
        → AllHold w s.memory (InObject 8 p ∷ IsAligned p ∷ HoldsPointer p ∷ [])
        → Gives (load_pointer Wild p s) (GivesPointer w sites depth (w.kind m) u s)
    gives-loaded_tagged n spreads k p h c = of (tagged-spot w s.memory depth t 8 p h c.0)
      where
        of : TaggedSpot w s.memory depth 8 p → Gives (load_pointer Wild p s) (GivesPointer w sites depth (w.kind m) u s)
        of x =
            let is = memory.each x.location.object x.object x.right.found x.right.live in
            let l = x.location in
            let at-object : holds w s.memory (HoldsPointer (At l)) ≡ true = subst (λ q. holds w s.memory (HoldsPointer q) ≡ true) x.is c.1.1.0 in
            let there : holds_pointer_at x.at x.object ≡ true =
            sym
            (ap (λ y. object_at y l.offset holds_pointer_at) x.right.found ∙ ap
            (λ z. object_at (Some x.object) z holds_pointer_at) x.right.offset)
            ∙ at-object in
            subst (λ q. Gives (load_pointer Wild q s) (GivesPointer w sites depth (w.kind m) u s)) (sym x.is)
            (loaded-there Wild l s x.object x.at depth (w.kind m) u x.right there
            (loaded-tagged w sound (outlines_of s.memory) sites (lives_of s.memory) depth u (w.kind m) x.object x.at
            (spread w sound (outlines_of s.memory) n m t u e (no_function w.table t (shape.Pointer m u) e refl) spreads k) is x.tagged x.older))

    as-address : (k : Kind) (p : Pointer) → Gives (load_pointer k p s) (GivesPointer w sites depth (w.kind m) u s)
        → Gives (from (load_pointer k p s) (λ q. done (Address q))) (GivesAddress w sites depth (w.kind m) u s)
    as-address k p h =
        gives-from (GivesPointer w sites depth (w.kind m) u s) (GivesAddress w sites depth (w.kind m) u s) (load_pointer k p s)
        (λ q. done (Address q)) h
        (λ q r x. record { pointer = q; is = refl; gives = record { memory = x.memory; held = x.held; made = x.made } })

    -- a pointer is read, with its conditions
    pub gives-read_pointer : (place : Place) (n : NodeId) (p : Pointer) → SpreadsWild w.table w.kind n t → IsHeldIn w s.memory depth (w.kind n) t p
        → Gives (read w place (w.kind n) t p s) (GivesAddress w sites depth (w.kind m) u s)
    gives-read_pointer place n p spreads held = by (w.kind n) refl
      where
        placed : (k : Kind) → IsHeldIn w s.memory depth k t p → AllHold w s.memory (asked_of 8 k p) → IsPlaceIn w s.memory depth k t p
        placed k h c =
            held-place w sound (outlines_of s.memory) (lives_of s.memory) depth s.memory k t p (no_function w.table t (shape.Pointer m u) e refl) h
            (subst (λ z. AllHold w s.memory (asked_of z k p)) (sym (pointer_size w.table t m u e)) c)

        loads : (k : Kind)
            → (AllHold w s.memory (conditions_of ReadPointer k p) → Gives (load_pointer k p s) (GivesPointer w sites depth (w.kind m) u s))
            → Gives (read_shape w place k (shape.Pointer m u) p s) (GivesAddress w sites depth (w.kind m) u s)
        loads k h =
            gives-checked w (λ c. place) (conditions_of ReadPointer k p) (load_pointer k p >>= (λ q. done (Address q))) s
            (GivesAddress w sites depth (w.kind m) u s) (λ c. as-address k p (h c))

        go : (k : Kind) → w.kind n ≡ k → IsHeldIn w s.memory depth k t p
            → Gives (read_shape w place k (shape.Pointer m u) p s) (GivesAddress w sites depth (w.kind m) u s)
        go Safe g h = loads Safe (λ c. gives-loaded Safe safe≢wild p (placed Safe h c))
        go Rtti g h = loads Rtti (λ c. gives-loaded Rtti rtti≢wild p (placed Rtti h c))
        go Seq g h = loads Seq (λ c. gives-loaded Seq seq≢wild p (placed Seq h c))
        go Wild g h = loads Wild (λ c. gives-loaded_tagged n spreads g p (placed Wild h (c.0, tt)) c)

        by : (k : Kind) → w.kind n ≡ k → Gives (read w place (w.kind n) t p s) (GivesAddress w sites depth (w.kind m) u s)
        by k g = subst (λ c. Gives (read_shape w place c (shape_at w.table t) p s) (GivesAddress w sites depth (w.kind m) u s)) (sym g)
            (subst (λ sh. Gives (read_shape w place k sh p s) (GivesAddress w sites depth (w.kind m) u s)) (sym e)
            (go k g (subst (λ c. IsHeldIn w s.memory depth c t p) g held)))

  -- Integers

  module _ (t : TypeId) (i : IntegerType) (e : shape_at w.table t ≡ shape.Integer i.bytes i.signed) (s : State) (depth : ℕ) where
    integer-there : (k : Kind) (l : Location) (o : Object) (at : ℕ) → IsRight k s.memory.objects l i.bytes o at
        → Gives (load_integer k i (At l) s) (GivesInteger i s)
    integer-there k l o at right =
        gives-access k l i.bytes (λ at. done (converted i (pos (number i.bytes at.object.bytes at.at)))) s o at (GivesInteger i s) right
        (record { word = pos (number i.bytes o.bytes at); is = refl; memory = refl })

    pub gives-loaded_integer : (k : Kind) → k ≢ Wild → (p : Pointer) → IsPlaceIn w s.memory depth k t p
        → Gives (load_integer k i p s) (GivesInteger i s)
    gives-loaded_integer k plain p h =
        of (typed-spot w s.memory depth k t i.bytes p plain (let n = integer_cells w.table t i.bytes i.signed e in omega (arith, n)) h)
      where
        of : TypedSpot w s.memory depth k t i.bytes p → Gives (load_integer k i p s) (GivesInteger i s)
        of x = subst (λ q. Gives (load_integer k i q s) (GivesInteger i s)) (sym x.is) (integer-there k x.location x.object x.at x.right)

    pub gives-loaded_integer_tagged : (p : Pointer) → IsPlaceIn w s.memory depth Wild t p → holds w s.memory (InObject i.bytes p) ≡ true
        → Gives (load_integer Wild i p s) (GivesInteger i s)
    gives-loaded_integer_tagged p h c = of (tagged-spot w s.memory depth t i.bytes p h c)
      where
        of : TaggedSpot w s.memory depth i.bytes p → Gives (load_integer Wild i p s) (GivesInteger i s)
        of x = subst (λ q. Gives (load_integer Wild i q s) (GivesInteger i s)) (sym x.is) (integer-there Wild x.location x.object x.at x.right)

    -- an integer is read, with its conditions
    pub gives-read_integer : (place : Place) (k : Kind) (p : Pointer) → IsHeldIn w s.memory depth k t p
        → Gives (read w place k t p s) (GivesIntegerValue i s)
    gives-read_integer place k p held = subst (λ sh. Gives (read_shape w place k sh p s) (GivesIntegerValue i s)) (sym e) (go k held)
      where
        placed : (k : Kind) → IsHeldIn w s.memory depth k t p → AllHold w s.memory (asked_of i.bytes k p) → IsPlaceIn w s.memory depth k t p
        placed k h c =
            held-place w sound (outlines_of s.memory) (lives_of s.memory) depth s.memory k t p
            (no_function w.table t (shape.Integer i.bytes i.signed) e refl) h
            (subst (λ z. AllHold w s.memory (asked_of z k p)) (sym (integer_size w.table t i.bytes i.signed e)) c)

        loads : (k : Kind) → (AllHold w s.memory (conditions_of (ReadInteger i.bytes) k p) → Gives (load_integer k i p s) (GivesInteger i s))
            → Gives (read_shape w place k (shape.Integer i.bytes i.signed) p s) (GivesIntegerValue i s)
        loads k h =
            gives-checked w (λ c. place) (conditions_of (ReadInteger i.bytes) k p) (load_integer k i p >>= (λ z. done (Integer z))) s
            (GivesIntegerValue i s)
            (λ c. gives-from (GivesInteger i s) (GivesIntegerValue i s) (load_integer k i p s) (λ z. done (Integer z)) (h c)
            (λ z r x. record { integer = z; is = refl; gives = record { word = x.word; is = x.is; memory = x.memory } }))

        go : (k : Kind) → IsHeldIn w s.memory depth k t p → Gives (read_shape w place k (shape.Integer i.bytes i.signed) p s) (GivesIntegerValue i s)
        go Safe h = loads Safe (λ c. gives-loaded_integer Safe safe≢wild p (placed Safe h c))
        go Rtti h = loads Rtti (λ c. gives-loaded_integer Rtti rtti≢wild p (placed Rtti h c))
        go Seq h = loads Seq (λ c. gives-loaded_integer Seq seq≢wild p (placed Seq h c))
        go Wild h = loads Wild (λ c. gives-loaded_integer_tagged p (placed Wild h (c.0, tt)) c.0)
