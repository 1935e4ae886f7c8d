-- The address of a part of a place isn't wrong, and may be held: of a member, of an array that decays. It asks for a place alone.
use Rattle.std.proofs.Common.{◌≡◌, ◌≢◌, ℕ, ◌+◌, ◌^◌, ◌<◌, ℤ, pos, neg_ℤ, ◌+ℤ◌, ◌≤ℤ◌, true, List, [], ◌∷◌, length, refl, ap, sym, subst, ◌∙◌}
use Rattle.std.specs.Prelude.{◌↔◌}
use Rattle.std.specs.List.{Contains}
use Rattle.std.proofs.lemmas.Int.{ints}
use Rattle.std.proofs.Common.{arith}
use Rattle.cc_base.specs.declared.place.Place.{Place}
use Rattle.cc_base.specs.declared.number.TypeId.{TypeId}
use Rattle.cc_base.specs.declared.number.NodeId.{NodeId}
use Rattle.cc_base.specs.declared.kind.Kind.{Kind}
use Rattle.cc_base.specs.declared.kind.Kind.TheVariants.{Safe, Seq, Rtti, Wild}
use Rattle.kind_sites.specs.declared.site.Site.{Site}
use Rattle.kind_sites.specs.declared.site.Site.TheVariants as site
use Rattle.c_types.specs.declared.shape.TypeShape.TheVariants.{Array, Union}
use Rattle.c_types.specs.Table.{IsComplete, shape_at, members_at, IsAggregate}
use Rattle.c_types.specs.Layouts.{member_at}
use Rattle.c_types.specs.Layouts.{size_of, offset_of}
use Rattle.c_types.specs.Cells.{AreOrdered}
use Rattle.c_types.specs.Equality.{cells_of}
use Rattle.kind_sites.specs.Solutions.{IsUnionAllowed, IsWildWhereMixed}
use Rattle.c_types.specs.Sound.{IsWellFormed}
use Rattle.runs.specs.Outcome.{done, ◌>>◌}
use Rattle.src_mem.specs.Pointers.{Location, Pointer, Null, Number, At, Function}
use Rattle.src_mem.specs.State.{State, Setting, given}
use Rattle.src_mem.specs.Checks.{HasBase, InReach, AddressMember, conditions_of, all_checked, between}
use Rattle.src_mem.specs.Primitives.{address, part_at, whole_part}
use Rattle.src_mem.specs.Operations.{decayed, member}
use Rattle.src_mem.specs.Outlines.{Outline, LivesAt, outline, outlines_of, lives_of, AreOutlines}
use Rattle.src_mem.specs.Facts.{IsHeldIn, IsPlaceIn, IsPlaceAt, IsTypedPlace, IsWildAt, IsValueOf, wild_least, wild_most}
use Rattle.src_mem.specs.Laws.{Gives}
use Rattle.src_mem.proofs.Outlines.{mapped-from}
use Rattle.src_mem.proofs.Right.{safe≢wild, seq≢wild, rtti≢wild}
use Rattle.facts_kept.specs.Kept.{AllHold, asked_of, GivesPointer, IsSub}
use Rattle.facts_kept.proofs.Complete.{complete-some, complete-data}
use Rattle.facts_kept.proofs.Places.{held-place}
use Rattle.facts_kept.proofs.Members.{Fills, fills-own, fills-array, sub-own, address-safe, address-typed, address-seq}
use Rattle.facts_kept.proofs.Parts.{sub-member}
use Rattle.facts_kept.proofs.Giving.{gives-checked}

module _ (w : Setting) (sound : IsWellFormed w.table) (sites : List Site) (s : State) (depth : ℕ) where
  -- of the m bytes at an offset of a place of type t, in which v stands there, which is filled by x
  module _ (node : NodeId) (t v x : TypeId) (offset m : ℕ) (sub : IsSub w t offset v) (fills : Fills w v x) (size : length (cells_of w.table v) ≡ m)
      (complete : IsComplete w.table x)
      (told : Contains sites (site.Pointee node x)) where
    pub gives-address : (k : Kind) → k ≢ Wild → (l : Location) (p : IsTypedPlace w (outlines_of s.memory) t l)
        → LivesAt (lives_of s.memory) depth l.object → AreOrdered p.object.cells
        → Gives (address k offset m x (At l) s) (GivesPointer w sites depth k x s)
    gives-address k plain l p lives ordered = by k plain
      where
        gives : (k : Kind)
            → IsValueOf w (outlines_of s.memory) k x
            (At
            (record {
              object = l.object;
              part = record { low = p.at + offset; high = p.at + offset + m };
              offset = pos p.at +ℤ pos offset;
              made = x;
            }))
            → Gives
            (given (part_at (l.offset +ℤ pos offset) m)
            (λ part. done (At (record { object = l.object; part = part; offset = l.offset +ℤ pos offset; made = x }))) s)
            (GivesPointer w sites depth k x s)
        gives k value =
            subst
            (λ z. Gives
            (given (part_at (z +ℤ pos offset) m)
            (λ part. done (At (record { object = l.object; part = part; offset = z +ℤ pos offset; made = x }))) s)
            (GivesPointer w sites depth k x s))
            (sym p.stands.offset) (record {
              memory = refl;
              held = record { value = value; reaches = record { life = lives.life; found = lives.found; live = lives.live; older = lives.older } };
              made = (node, told);
            })

        by : (k : Kind) → k ≢ Wild → Gives (address k offset m x (At l) s) (GivesPointer w sites depth k x s)
        by Safe n = gives Safe (address-safe w sound (outlines_of s.memory) t v x l p offset m sub fills size complete ordered)
        by Rtti n = gives Rtti (address-typed w sound (outlines_of s.memory) t v x l p offset m sub fills size complete ordered)
        by Seq n = gives Seq (address-seq w sound (outlines_of s.memory) t v x l p offset m sub fills size complete ordered)
        by Wild n = absurd (n refl)

  -- a WILD address: the whole object is its part
  pub gives-wild_address : (node : NodeId) (x : TypeId) (n m : ℕ) (l : Location) → Contains sites (site.Pointee node x)
      → IsWildAt w (outlines_of s.memory) l → LivesAt (lives_of s.memory) depth l.object
      → between (neg_ℤ (pos (2 ^ 40))) (l.offset +ℤ pos n) (pos (2 ^ 40)) ≡ true
      → Gives (address Wild n m x (At l) s) (GivesPointer w sites depth Wild x s)
  gives-wild_address node x n m l told p lives h =
      let o = mapped-from outline s.memory.objects l.object p.object p.found in
      subst
      (λ y. Gives (given (whole_part y) (λ part. done (At (record { object = l.object; part = part; offset = l.offset +ℤ pos n; made = x }))) s)
      (GivesPointer w sites depth Wild x s))
      (sym o.1)
      (record {
        memory = refl;
        held = record {
          value = record {
            object = p.object;
            found = p.found;
            tagged = p.tagged;
            low = refl;
            high = ap (λ (z : Outline). z.size) o.2;
            least = low (l.offset +ℤ pos n) h;
            most = high (l.offset +ℤ pos n) h;
          };
          reaches = record { life = lives.life; found = lives.found; live = lives.live; older = lives.older };
        };
        made = (node, told);
      })
    where
      low : (z : ℤ) → between (neg_ℤ (pos (2 ^ 40))) z (pos (2 ^ 40)) ≡ true → wild_least ≤ℤ z
      low z h = grind (arith, ints)

      high : (z : ℤ) → between (neg_ℤ (pos (2 ^ 40))) z (pos (2 ^ 40)) ≡ true → z ≤ℤ wild_most
      high z h = grind (arith, ints)

  -- with the conditions of a member's address, through a held pointer
  pub gives-part : (at : Place) (k : Kind) (node : NodeId) (t v x : TypeId) (offset : ℕ) (p : Pointer) → (k ≡ Wild) ↔ (w.kind node ≡ Wild)
      → IsComplete w.table t → IsComplete w.table v → IsComplete w.table x
      → (k ≢ Wild → IsSub w t offset v) → Fills w v x → Contains sites (site.Pointee node x) → AreOutlines w (outlines_of s.memory)
      → IsHeldIn w s.memory depth k t p
      → Gives
      ((all_checked w at (conditions_of (AddressMember offset (size_of w.table t)) k p) >> address (w.kind node) offset
      (size_of w.table v) x p) s)
      (GivesPointer w sites depth (w.kind node) x s)
  gives-part at k node t v x offset p linked ct cv cx sub fills told ordered h = go k refl h
    where
      Part : Pointer → Type 0
      Part q = Gives (address (w.kind node) offset (size_of w.table v) x q s) (GivesPointer w sites depth (w.kind node) x s)

      typed : (c : Kind) → k ≡ c → c ≢ Wild → ((l : Location) → IsPlaceAt w (outlines_of s.memory) c t l → IsTypedPlace w (outlines_of s.memory) t l)
          → IsHeldIn w s.memory depth c t p
          → AllHold w s.memory (asked_of (size_of w.table t) c p) → Part p
      typed c e plain to h a =
          of (held-place w sound (outlines_of s.memory) (lives_of s.memory) depth s.memory c t p (complete-data w.table sound t ct) h a)
        where
          of : IsPlaceIn w s.memory depth c t p → Part p
          of y =
              let z = to y.location y.place in
              subst Part (sym y.is)
              (gives-address node t v x offset (size_of w.table v) (sub (λ f. plain (sym e ∙ f))) fills (complete-some w.table sound v cv).1 cx told
              (w.kind node) (λ f. plain (sym e ∙ linked.1 f))
              y.location z y.reaches (ordered.ordered y.location.object z.object z.located.found z.typed.untagged))

      wild : (q : Pointer) → w.kind node ≡ Wild → IsHeldIn w s.memory depth Wild t q → AllHold w s.memory (HasBase q ∷ InReach (pos offset) q ∷ [])
          → Part q
      wild Null e h a = absurd (let b = a.0 in cc (b))
      wild (Number n) e h a = absurd (let b = a.0 in cc (b))
      wild (Function f) e h a = absurd (let b = a.0 in cc (b))
      wild (At l) e h a = subst (λ c. Gives (address c offset (size_of w.table v) x (At l) s) (GivesPointer w sites depth c x s)) (sym e)
          (gives-wild_address node x offset (size_of w.table v) l told h.value h.reaches a.1.0)

      tried : (c : Kind) → (AllHold w s.memory (conditions_of (AddressMember offset (size_of w.table t)) c p) → Part p)
          → Gives
          ((all_checked w at (conditions_of (AddressMember offset (size_of w.table t)) c p) >> address (w.kind node) offset
          (size_of w.table v) x p) s)
          (GivesPointer w sites depth (w.kind node) x s)
      tried c h =
          gives-checked w (λ c. at) (conditions_of (AddressMember offset (size_of w.table t)) c p)
          (address (w.kind node) offset (size_of w.table v) x p) s (GivesPointer w sites depth (w.kind node) x s) h

      go : (c : Kind) → k ≡ c → IsHeldIn w s.memory depth k t p
          → Gives
          ((all_checked w at (conditions_of (AddressMember offset (size_of w.table t)) k p) >> address (w.kind node) offset
          (size_of w.table v) x p) s)
          (GivesPointer w sites depth (w.kind node) x s)
      go c e h =
          subst
          (λ y. Gives
          ((all_checked w at (conditions_of (AddressMember offset (size_of w.table t)) y p) >> address (w.kind node) offset
          (size_of w.table v) x p) s)
          (GivesPointer w sites depth (w.kind node) x s))
          (sym e)
          (by c e (subst (λ y. IsHeldIn w s.memory depth y t p) e h))
        where
          by : (c : Kind) → k ≡ c → IsHeldIn w s.memory depth c t p
              → Gives
              ((all_checked w at (conditions_of (AddressMember offset (size_of w.table t)) c p) >> address (w.kind node) offset
              (size_of w.table v) x p) s)
              (GivesPointer w sites depth (w.kind node) x s)
          by Safe e h = tried Safe (λ a. typed Safe e safe≢wild (λ l y. y) h a)
          by Rtti e h = tried Rtti (λ a. typed Rtti e rtti≢wild (λ l y. y) h a)
          by Seq e h = tried Seq (λ a. typed Seq e seq≢wild (λ l y. y) h a)
          by Wild e h = tried Wild (λ a. wild p (linked.0 e) h a)

  -- an array that decays
  pub gives-decayed : (at : Place) (k : Kind) (node : NodeId) (array element : TypeId) (n : ℕ) (p : Pointer) → (k ≡ Wild) ↔ (w.kind node ≡ Wild)
      → shape_at w.table array ≡ Array element n
      → IsComplete w.table array → IsComplete w.table element → Contains sites (site.Pointee node element) → AreOutlines w (outlines_of s.memory)
      → IsHeldIn w s.memory depth k array p
      → Gives (decayed w at k array true node element p s) (GivesPointer w sites depth (w.kind node) element s)
  gives-decayed at k node array element n p linked e ca ce told ordered h =
      gives-part at k node array array element 0 p linked ca ca ce (λ f. sub-own w sound array) (fills-array w sound array element n e) told ordered h

  -- a member
  pub gives-member : (allowed : (t : TypeId) (tag : ℕ) → shape_at w.table t ≡ Union tag → IsUnionAllowed w.table w.kind t) (at : Place)
      (outer node : NodeId) (t : TypeId) (i : ℕ) (p : Pointer)
      → (w.kind outer ≡ Wild) ↔ (w.kind node ≡ Wild) → IsWildWhereMixed w.table w.kind outer t → IsComplete w.table t → IsAggregate w.table t
      → i < length (members_at w.table t)
      → IsComplete w.table (member_at w.table t i) → Contains sites (site.Pointee node (member_at w.table t i)) → AreOutlines w (outlines_of s.memory)
      → IsHeldIn w s.memory depth (w.kind outer) t p
      → Gives (member w at (w.kind outer) t i node (member_at w.table t i) p s) (GivesPointer w sites depth (w.kind node) (member_at w.table t i) s)
  gives-member allowed at outer node t i p linked mixed ct aggregate l cu told ordered h =
      gives-part at (w.kind outer) node t (member_at w.table t i) (member_at w.table t i) (offset_of w.table t i) p linked ct cu cu
      (λ f. sub-member w sound allowed t i aggregate l (λ v m. f (mixed v m))) (fills-own w sound (member_at w.table t i) cu) told ordered h
