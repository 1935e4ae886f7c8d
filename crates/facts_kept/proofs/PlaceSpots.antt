-- Where an access at a place falls: in an object that holds the place's type there, or in one with tags.
use Rattle.std.proofs.Common.{◌≡◌, ◌≢◌, ℕ, ◌+◌, ◌≤◌, true, length, slice_get, Some, refl, ap, sym, subst, ◌∙◌, arith}
use Rattle.cc_base.specs.declared.number.TypeId.{TypeId}
use Rattle.cc_base.specs.declared.kind.Kind.{Kind}
use Rattle.cc_base.specs.declared.kind.Kind.TheVariants.{Safe, Seq, Rtti, Wild}
use Rattle.c_types.specs.Equality.{cells_of}
use Rattle.src_mem.specs.Pointers.{Location, Pointer, At}
use Rattle.src_mem.specs.Memory.{Object, Memory, size_of_object}
use Rattle.src_mem.specs.State.{Setting}
use Rattle.src_mem.specs.Checks.{InObject, holds, fits_between}
use Rattle.src_mem.specs.Outlines.{Outline, outline, outlines_of}
use Rattle.src_mem.specs.Facts.{HoldType, IsTypedPlace, IsPlaceAt, IsPlaceIn, IsWildAt}
use Rattle.src_mem.proofs.Outlines.{has-outline}
use Rattle.src_mem.proofs.Spots.{IsRight}
use Rattle.src_mem.proofs.Right.{in_part}
use Rattle.facts_kept.proofs.Holds.{in-bounds}

module _ (w : Setting) where
  pub record TypedSpot (memory : Memory) (depth : ℕ) (k : Kind) (t : TypeId) (m : ℕ) (p : Pointer) : Type 0 where
    pub location : Location
    pub is : p ≡ At location
    pub object : Object
    pub at : ℕ
    pub right : IsRight k memory.objects location m object at
    pub outlined : slice_get (outlines_of memory) location.object ≡ Some (outline object)
    pub untagged : w.kind object.node ≢ Wild
    pub holds : HoldType w object.cells at location.part.high t
    pub inside : at + m ≤ object.size
    pub older : object.depth ≤ depth

  pub record TaggedSpot (memory : Memory) (depth m : ℕ) (p : Pointer) : Type 0 where
    pub location : Location
    pub is : p ≡ At location
    pub object : Object
    pub at : ℕ
    pub right : IsRight Wild memory.objects location m object at
    pub tagged : w.kind object.node ≡ Wild
    pub inside : at + m ≤ object.size
    pub older : object.depth ≤ depth

  pub typed-spot : (memory : Memory) (depth : ℕ) (k : Kind) (t : TypeId) (m : ℕ) (p : Pointer) → k ≢ Wild → m ≤ length (cells_of w.table t)
      → IsPlaceIn w memory depth k t p → TypedSpot memory depth k t m p
  typed-spot memory depth k t m p plain room h = of (typed k plain h.location h.place)
    where
      typed : (k : Kind) → k ≢ Wild → (l : Location) → IsPlaceAt w (outlines_of memory) k t l → IsTypedPlace w (outlines_of memory) t l
      typed Safe n l x = x
      typed Rtti n l x = x
      typed Seq n l x = x
      typed Wild n l x = absurd (n refl)

      of : IsTypedPlace w (outlines_of memory) t h.location → TypedSpot memory depth k t m p
      of x =
          let l = h.location in
          let f = has-outline memory depth l.object x.object x.located.found h.reaches in
          let cells : f.object.cells ≡ x.object.cells = ap (λ (y : Outline). y.cells) f.is in
          let size : f.object.size ≡ x.object.size = ap (λ (y : Outline). y.size) f.is in record {
            location = l;
            is = h.is;
            object = f.object;
            at = x.at;
            right = in_part k plain memory.objects l m f.object x.at f.found f.live x.stands.offset x.stands.low
                (let a = x.holds.room in omega (arith, a, room)) (let a = x.located.inside in omega (arith, a, size));
            outlined = x.located.found ∙ ap Some (sym f.is);
            untagged = subst (λ (y : Outline). w.kind y.node ≢ Wild) (sym f.is) x.typed.untagged;
            holds = subst (λ cs. HoldType w cs x.at l.part.high t) (sym cells) x.holds;
            inside = let a = x.holds.room in let b = x.located.inside in omega (arith, a, b, size, room);
            older = f.older;
          }

  pub tagged-spot : (memory : Memory) (depth : ℕ) (t : TypeId) (m : ℕ) (p : Pointer) → IsPlaceIn w memory depth Wild t p
      → holds w memory (InObject m p) ≡ true → TaggedSpot memory depth m p
  tagged-spot memory depth t m p h c = of h.place (subst (λ q. holds w memory (InObject m q) ≡ true) h.is c)
    where
      of : IsWildAt w (outlines_of memory) h.location → holds w memory (InObject m (At h.location)) ≡ true → TaggedSpot memory depth m p
      of x c =
          let l = h.location in
          let f = has-outline memory depth l.object x.object x.found h.reaches in
          let b = in-bounds 0 f.object.size l.offset m (sym (ap (λ y. fits_between 0 (size_of_object y) l.offset m) f.found) ∙ c) in record {
            location = l;
            is = h.is;
            object = f.object;
            at = b.0;
            right = record { found = f.found; live = f.live; offset = b.1; low = b.2; high = b.3 };
            tagged = ap (λ (y : Outline). w.kind y.node) f.is ∙ x.tagged;
            inside = b.3;
            older = f.older;
          }
