-- `&` of a place, and an array at a place that decays without a check, aren't wrong, and give what may be held.
use Rattle.std.proofs.Common.{◌≡◌, ◌≢◌, ℕ, ◌^◌, ℤ, pos, neg_ℤ, ◌+ℤ◌, ◌≤ℤ◌, true, false, List, refl, sym, subst, ◌∙◌, arith}
use Rattle.std.specs.Prelude.{◌↔◌}
use Rattle.std.specs.List.{Contains}
use Rattle.std.proofs.lemmas.Int.{ints}
use Rattle.cc_base.specs.declared.place.Place.{Place}
use Rattle.cc_base.specs.declared.number.TypeId.{TypeId}
use Rattle.cc_base.specs.declared.number.NodeId.{NodeId}
use Rattle.cc_base.specs.declared.kind.Kind.{Kind}
use Rattle.cc_base.specs.declared.kind.Kind.TheVariants.{Safe, Seq, Rtti, Wild}
use Rattle.kind_sites.specs.declared.site.Site.{Site}
use Rattle.kind_sites.specs.declared.site.Site.TheVariants as site
use Rattle.c_types.specs.declared.shape.TypeShape.TheVariants.{Array}
use Rattle.c_types.specs.Table.{IsComplete, shape_at}
use Rattle.c_types.specs.Layouts.{size_of}
use Rattle.c_types.specs.Sound.{IsWellFormed}
use Rattle.runs.specs.Outcome.{done}
use Rattle.src_mem.specs.Pointers.{Location, Pointer, At, Address}
use Rattle.src_mem.specs.State.{State, Setting}
use Rattle.src_mem.specs.Checks.{between}
use Rattle.src_mem.specs.Primitives.{address}
use Rattle.src_mem.specs.Operations.{decayed}
use Rattle.src_mem.specs.Values.{addressed}
use Rattle.src_mem.specs.Outlines.{outlines_of, lives_of, LivesAt, AreOutlines}
use Rattle.src_mem.specs.Facts.{IsPlaceIn, IsPlaceAt, IsTypedPlace, IsWildAt, wild_least, wild_most}
use Rattle.src_mem.specs.Laws.{Gives}
use Rattle.src_mem.proofs.Right.{safe≢wild, seq≢wild, rtti≢wild}
use Rattle.facts_kept.specs.Kept.{GivesPointer, GivesAddress}
use Rattle.facts_kept.proofs.Complete.{complete-some}
use Rattle.facts_kept.proofs.Members.{Fills, fills-own, fills-array, sub-own}
use Rattle.facts_kept.proofs.Giving.{gives-from}
use Rattle.facts_kept.proofs.Addresses.{gives-address, gives-wild_address}

module _ (w : Setting) (sound : IsWellFormed w.table) (sites : List Site) (s : State) (depth : ℕ) where
  -- the address of what fills a place
  gives-filled : (k : Kind) (node : NodeId) (t x : TypeId) (p : Pointer) → (k ≡ Wild) ↔ (w.kind node ≡ Wild) → IsComplete w.table t
      → IsComplete w.table x → Fills w t x → Contains sites (site.Pointee node x)
      → AreOutlines w (outlines_of s.memory) → IsPlaceIn w s.memory depth k t p
      → Gives (address (w.kind node) 0 (size_of w.table t) x p s) (GivesPointer w sites depth (w.kind node) x s)
  gives-filled k node t x p linked ct cx fills told ordered h =
      subst (λ q. Gives (address (w.kind node) 0 (size_of w.table t) x q s) (GivesPointer w sites depth (w.kind node) x s)) (sym h.is)
      (go k refl h.location h.reaches h.place)
    where
      typed : (c : Kind) → k ≡ c → c ≢ Wild → (l : Location) → LivesAt (lives_of s.memory) depth l.object → IsTypedPlace w (outlines_of s.memory) t l
          → Gives (address (w.kind node) 0 (size_of w.table t) x (At l) s) (GivesPointer w sites depth (w.kind node) x s)
      typed c e plain l lives z =
          gives-address w sound sites s depth node t t x 0 (size_of w.table t) (sub-own w sound t) fills (complete-some w.table sound t ct).1 cx told
          (w.kind node) (λ f. plain (sym e ∙ linked.1 f)) l z lives (ordered.ordered l.object z.object z.located.found z.typed.untagged)

      within : (z : ℤ) → wild_least ≤ℤ z → z ≤ℤ wild_most → between (neg_ℤ (pos (2 ^ 40))) (z +ℤ pos 0) (pos (2 ^ 40)) ≡ true
      within z a b = grind (arith, ints)

      wild : k ≡ Wild → (l : Location) → LivesAt (lives_of s.memory) depth l.object → IsWildAt w (outlines_of s.memory) l
          → Gives (address (w.kind node) 0 (size_of w.table t) x (At l) s) (GivesPointer w sites depth (w.kind node) x s)
      wild e l lives z = subst (λ c. Gives (address c 0 (size_of w.table t) x (At l) s) (GivesPointer w sites depth c x s)) (sym (linked.0 e))
          (gives-wild_address w sound sites s depth node x 0 (size_of w.table t) l told z lives (within l.offset z.least z.most))

      go : (c : Kind) → k ≡ c → (l : Location) → LivesAt (lives_of s.memory) depth l.object → IsPlaceAt w (outlines_of s.memory) k t l
          → Gives (address (w.kind node) 0 (size_of w.table t) x (At l) s) (GivesPointer w sites depth (w.kind node) x s)
      go c e l lives z = by c e (subst (λ y. IsPlaceAt w (outlines_of s.memory) y t l) e z)
        where
          by : (c : Kind) → k ≡ c → IsPlaceAt w (outlines_of s.memory) c t l
              → Gives (address (w.kind node) 0 (size_of w.table t) x (At l) s) (GivesPointer w sites depth (w.kind node) x s)
          by Safe e z = typed Safe e safe≢wild l lives z
          by Rtti e z = typed Rtti e rtti≢wild l lives z
          by Seq e z = typed Seq e seq≢wild l lives z
          by Wild e z = wild e l lives z

  pub gives-addressed : (k : Kind) (node : NodeId) (t : TypeId) (p : Pointer) → (k ≡ Wild) ↔ (w.kind node ≡ Wild) → IsComplete w.table t
      → Contains sites (site.Pointee node t)
      → AreOutlines w (outlines_of s.memory) → IsPlaceIn w s.memory depth k t p
      → Gives (addressed w node t (Address p) s) (GivesAddress w sites depth (w.kind node) t s)
  gives-addressed k node t p linked complete told ordered h =
      gives-from (GivesPointer w sites depth (w.kind node) t s) (GivesAddress w sites depth (w.kind node) t s)
      (address (w.kind node) 0 (size_of w.table t) t p s) (λ q. done (Address q))
      (gives-filled k node t t p linked complete complete (fills-own w sound t complete) told ordered h)
      (λ q r x. record { pointer = q; is = refl; gives = record { memory = x.memory; held = x.held; made = x.made } })

  pub gives-decayed_place : (at : Place) (k : Kind) (node : NodeId) (array element : TypeId) (n : ℕ) (p : Pointer) → (k ≡ Wild) ↔ (w.kind node ≡ Wild)
      → shape_at w.table array ≡ Array element n
      → IsComplete w.table array → IsComplete w.table element → Contains sites (site.Pointee node element) → AreOutlines w (outlines_of s.memory)
      → IsPlaceIn w s.memory depth k array p
      → Gives (decayed w at k array false node element p s) (GivesPointer w sites depth (w.kind node) element s)
  gives-decayed_place at k node array element n p linked e ca ce told ordered h =
      gives-filled k node array element p linked ca ce (fills-array w sound array element n e) told ordered h
